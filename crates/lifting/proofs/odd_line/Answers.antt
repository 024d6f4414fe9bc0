-- `lifting::odd_line`: one more odd number each turn.
use native.Mathlib.Omega.{arith}
use borrow.Author.Rules.{rules}
use Rattle.lifting.proofs.Filling.{filled_end}
use Rattle.lifting.proofs.JoinLines.{odd_asks, odd_more}
use Rattle.lifting.proofs.odd_line.Goals as goal

pub tone_odd-requires : goal.tone_odd-requires
tone_odd-requires c = odd_asks c.requires c.loop-j.invariant (omega arith)

pub loop-j-preserved : goal.loop-j-preserved
loop-j-preserved c = search (rules, odd_more)

pub returns : goal.returns
returns c = filled_end c.loop-j.invariant (omega arith)
