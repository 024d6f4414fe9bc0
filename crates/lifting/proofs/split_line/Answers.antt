-- `lifting::split_line`: one more low and one more high each turn; the high before is carried along.
use native.Mathlib.Omega.{arith}
use Rattle.lifting.proofs.Filling.{both_end}
use Rattle.lifting.proofs.SplitLines.{split_ask_high, split_ask_low, split_next, split_more}
use Rattle.lifting.proofs.split_line.Goals as goal

pub tone_high-high-requires : goal.tone_high-high-requires
tone_high-high-requires c =
    split_ask_high c.requires c.loop-j.invariant.0 (omega arith)

pub tone_low-requires : goal.tone_low-requires
tone_low-requires c =
    let I = c.loop-j.invariant in
    split_ask_low c.requires I.0 (omega arith) _ c.tone_high-high.result I.1 c.tone_high-high.ensures

pub loop-j-preserved : goal.loop-j-preserved
loop-j-preserved c =
    let F = c.requires in
    let I = c.loop-j.invariant in
    let v = c.tone_high-high.ensures in (
      split_more F I.0 (omega arith) _ _ I.1 v _ c.tone_low.ensures,
      split_next F I.0 (omega arith) _ _ I.1 v,
    )

pub returns : goal.returns
returns c = both_end c.loop-j.invariant.0 (omega arith)
