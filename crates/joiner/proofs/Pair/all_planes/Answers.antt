-- `joiner::Pair::all_planes`: the planes from the highest down to 0.
use borrow.Author.Rules.{rules}
use Rattle.std.proofs.lemmas.Result.{err_from_is_err_and}
use Rattle.joiner.proofs.Laws.{plane_before, plane_last, step_on, step_clash}
use Rattle.joiner.proofs.Pair.all_planes.Goals as goal

pub one_plane-requires : goal.one_plane-requires
one_plane-requires c = search (rules, plane_before)

pub returns-in_err-now : goal.returns-in_err-now
returns-in_err-now c =
    let p = err_from_is_err_and c.from_residual.result c.from_residual.ensures.1 in
    rw (p.1, p.2) (step_clash _ _ _ _ _ _ _ c.loop-plane.invariant _ _ _ c.one_plane.ensures _ c.in_err-now.was _)

pub loop-plane-preserved : goal.loop-plane-preserved
loop-plane-preserved c = search (rules, step_on)

pub returns : goal.returns
returns c = search (rules, plane_last)
