-- `lifting::odd_rows`: one more odd number each turn, and the highs before moved.
use native.Mathlib.Omega.{arith}
use borrow.Author.Rules.{rules}
use Rattle.lifting.proofs.Filling.{both_end}
use Rattle.lifting.proofs.JoinRows.{odd_row_asks, odd_row_more}
use Rattle.lifting.proofs.odd_rows.Goals as goal

pub tone_odd-requires : goal.tone_odd-requires
tone_odd-requires c = odd_row_asks c.requires c.loop-j.invariant (omega arith)

pub loop-j-preserved : goal.loop-j-preserved
loop-j-preserved c = search (rules, odd_row_more)

pub returns : goal.returns
returns c = both_end c.loop-j.invariant (omega arith)
