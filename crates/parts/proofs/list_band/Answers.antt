use native.Mathlib.Omega.{arith}
use mathlib.Core.Path.{refl, ◌∙◌}
use Rattle.rules.proofs.Laws.Family.Sizes.{legal}
use Rattle.parts.proofs.Begin.{left_band, left_first, left_rest, left_none, rows_next, rows_none}
use Rattle.parts.proofs.list_band.Goals as goal

pub overflow_shr-row-end : goal.overflow_shr-row-end
overflow_shr-row-end c = omega (arith, (legal _ c.requires.legal).few)

pub loop-row-init : goal.loop-row-init
loop-row-init c = (left_band c.requires, refl)

pub list_row-f-requires : goal.list_row-f-requires
list_row-f-requires c = let more = c.loop-row-test.true in
    (left_first _ (rows_next _ _ _ more) c.loop-row.invariant.0, more)

pub loop-row-preserved : goal.loop-row-preserved
loop-row-preserved c = let listed = c.list_row-f.ensures in
    let before = c.loop-row.invariant in
    (left_rest (rows_next _ _ _ c.loop-row-test.true) before.0 listed, listed.beside.long ∙ before.1)

pub returns : goal.returns
returns c = left_none (rows_none _ _ _ (omega arith)) c.loop-row.invariant.0
