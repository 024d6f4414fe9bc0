-- `lifting::lift_rows`: one more low and one more high each turn; the highs before are read where the new ones are stored.
use native.Mathlib.Omega.{arith}
use borrow.Author.Rules.{rules}
use Rattle.lifting.proofs.Filling.{both_end}
use Rattle.lifting.proofs.SplitLines.{rows_more}
use Rattle.lifting.proofs.lift_rows.Goals as goal

pub loop-j-preserved : goal.loop-j-preserved
loop-j-preserved c = search (rules, rows_more)

pub returns : goal.returns
returns c = both_end c.loop-j.invariant (omega arith)
