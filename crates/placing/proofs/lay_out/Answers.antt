use native.Mathlib.Omega.{arith}
use Rattle.rules.proofs.Laws.Family.Sizes.{legal}
use Rattle.placing.proofs.Band.{few}
use Rattle.placing.proofs.Calls.{band_row_laid, band_rows_laid}
use Rattle.placing.proofs.Loops.{laid_end, laid_all, roomy_same}
use Rattle.placing.proofs.lay_out.Goals as goal

pub overflow_shr-row-end : goal.overflow_shr-row-end
overflow_shr-row-end c = omega (arith, few)

pub loop-row-preserved : goal.loop-row-preserved
loop-row-preserved c =
    band_row_laid (roomy_same c.requires.0 c.place_blocks.ensures.same, omega (arith, c.loop-k.invariant.same)) c.loop-row.invariant
    c.loop-row-test.true c.lay_row.ensures

pub returns : goal.returns
returns c = let P = c.place_blocks.ensures in
    let L = c.loop-k.invariant in
    laid_all (legal _ c.requires.0.legal) P (laid_end L c.loop-k-test.false)
    (band_rows_laid (roomy_same c.requires.0 P.same, omega (arith, L.same)) c.loop-row.invariant (omega arith))
