-- `decoder::walk_all`: turn by turn, to the end or the first fault.
use Rattle.std.proofs.lemmas.Result.{err_from_is_err_and}
use Rattle.decoder.proofs.LawsWalk.{walking_standing, turn_on, turn_falls, turn_ends, turn_refused}
use borrow.Author.Rules.{rules}
use Rattle.decoder.proofs.walk_all.Goals as goal

pub walk_on-requires : goal.walk_on-requires
walk_on-requires c = search (rules, walking_standing)

pub returns-in_err-next : goal.returns-in_err-next
returns-in_err-next c =
    let p = err_from_is_err_and c.from_residual.result c.from_residual.ensures.1 in
    rw (p.1, p.2) (turn_refused _ _ _ _ c.loop-next.invariant c.in_err-next.ensures)

pub loop-next-smaller : goal.loop-next-smaller
loop-next-smaller c = search (rules, turn_falls)

pub loop-next-preserved : goal.loop-next-preserved
loop-next-preserved c = search (rules, turn_on)

pub returns : goal.returns
returns c = search (rules, turn_ends)
