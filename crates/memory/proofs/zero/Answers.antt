use native.Mathlib.Omega.{arith}
use Rattle.memory.proofs.Laws.{filled_none, filled_more, filled_all}
use Rattle.memory.proofs.zero.Goals as goal

pub loop-i-init : goal.loop-i-init
loop-i-init g c = filled_none

pub loop-i-preserved : goal.loop-i-preserved
loop-i-preserved g c = rw c.ZERO.ensures (filled_more c.loop-i.invariant (omega arith))

pub returns : goal.returns
returns g c = filled_all c.loop-i.invariant (omega arith)
