-- `lifting::high_line`: one more high each turn; the three rows stand as they stood.
use native.Mathlib.Omega.{arith}
use borrow.Author.Rules.{rules}
use Rattle.lifting.proofs.Filling.{filled_end}
use Rattle.lifting.proofs.SplitLines.{highs_more}
use Rattle.lifting.proofs.high_line.Goals as goal

pub loop-j-preserved : goal.loop-j-preserved
loop-j-preserved c = search (rules, highs_more)

pub returns : goal.returns
returns c = filled_end c.loop-j.invariant (omega arith)
