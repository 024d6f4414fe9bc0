-- `lifting::even_rows`: one more even number each turn.
use native.Mathlib.Omega.{arith}
use borrow.Author.Rules.{rules}
use Rattle.lifting.proofs.Filling.{filled_end}
use Rattle.lifting.proofs.JoinRows.{even_row_more}
use Rattle.lifting.proofs.even_rows.Goals as goal

pub loop-j-preserved : goal.loop-j-preserved
loop-j-preserved c = search (rules, even_row_more)

pub returns : goal.returns
returns c = filled_end c.loop-j.invariant (omega arith)
