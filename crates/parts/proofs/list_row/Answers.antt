use native.Mathlib.Omega.{arith}
use mathlib.Core.Path.{◌∙◌}
use Rattle.rules.proofs.Laws.Family.Sizes.{legal}
use Rattle.parts.proofs.Begin.{left_first, left_rest, left_none, from_next, from_none}
use Rattle.parts.proofs.list_row.Goals as goal

pub overflow_shr-column-end : goal.overflow_shr-column-end
overflow_shr-column-end c = omega (arith, (legal _ c.requires.0.legal).few)

pub list_one-f-requires : goal.list_one-f-requires
list_one-f-requires c = let more = c.loop-column-test.true in
    (left_first _ (from_next _ _ _ more) c.loop-column.invariant.0, (c.requires.1, more))

pub loop-column-preserved : goal.loop-column-preserved
loop-column-preserved c = let listed = c.list_one-f.ensures in
    let before = c.loop-column.invariant in
    (left_rest (from_next _ _ _ c.loop-column-test.true) before.0 listed, listed.beside.long ∙ before.1)

pub returns : goal.returns
returns c = left_none (from_none _ _ _ (omega arith)) c.loop-column.invariant.0
