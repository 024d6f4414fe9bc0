use native.Mathlib.Omega.{arith}
use Rattle.rules.proofs.Laws.Family.Sizes.{legal}
use Rattle.placing.proofs.Band.{few}
use Rattle.placing.proofs.Calls.{band_row_copied, band_rows_copied}
use Rattle.placing.proofs.Loops.{copied_end, copied_all, given_copied}
use Rattle.placing.proofs.copy_in.Goals as goal

pub overflow_shr-row-end : goal.overflow_shr-row-end
overflow_shr-row-end c = omega (arith, few)

pub loop-row-preserved : goal.loop-row-preserved
loop-row-preserved c = let G = given_copied c.requires c.place_blocks.ensures c.loop-k.invariant in
    band_row_copied G c.loop-row.invariant c.loop-row-test.true c.copy_row.ensures

pub returns : goal.returns
returns c = let P = c.place_blocks.ensures in
    let C = c.loop-k.invariant in
    copied_all (legal _ c.requires.roomy.legal) P (copied_end C c.loop-k-test.false)
    (band_rows_copied (given_copied c.requires P C) c.loop-row.invariant (omega arith))
