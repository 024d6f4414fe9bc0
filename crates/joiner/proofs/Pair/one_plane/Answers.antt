-- `joiner::Pair::one_plane`: the levels from the coarsest down to 1.
use borrow.Author.Rules.{rules}
use Rattle.std.proofs.lemmas.Result.{err_from_is_err_and}
use Rattle.joiner.proofs.Laws.{few_levels, level_last, step_on, step_clash}
use Rattle.joiner.proofs.Pair.one_plane.Goals as goal

pub overflow_step-level : goal.overflow_step-level
overflow_step-level c = search (rules, few_levels)

pub returns-in_err-now : goal.returns-in_err-now
returns-in_err-now c =
    let p = err_from_is_err_and c.from_residual.result c.from_residual.ensures.1 in
    rw (p.1, p.2) (step_clash _ _ _ _ _ _ _ c.loop-level.invariant _ _ _ c.turn.ensures _ c.in_err-now.was _)

pub loop-level-preserved : goal.loop-level-preserved
loop-level-preserved c = search (rules, step_on)

pub returns : goal.returns
returns c = search (rules, level_last)
