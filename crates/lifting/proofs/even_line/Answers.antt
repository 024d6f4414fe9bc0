-- `lifting::even_line`: one more even number each turn; the high before is carried along.
use native.Mathlib.Omega.{arith}
use Rattle.lifting.proofs.Filling.{filled_end}
use Rattle.lifting.proofs.JoinLines.{even_asks, even_next, even_more}
use Rattle.lifting.proofs.even_line.Goals as goal

pub tone_even-requires : goal.tone_even-requires
tone_even-requires c =
    let I = c.loop-j.invariant in
    even_asks c.requires I.0 (omega arith) _ I.1

pub loop-j-preserved : goal.loop-j-preserved
loop-j-preserved c =
    let F = c.requires in
    let I = c.loop-j.invariant in
    (even_more F I.0 (omega arith) _ I.1 _ c.tone_even.ensures, even_next F I.0 (omega arith) _ I.1)

pub returns : goal.returns
returns c = filled_end c.loop-j.invariant.0 (omega arith)
