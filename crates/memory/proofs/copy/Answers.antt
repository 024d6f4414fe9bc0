use Rattle.std.proofs.Common.{arith}
use Rattle.memory.proofs.Laws.{copied_none, copied_more, copied_all}
use Rattle.memory.proofs.copy.Goals as goal

pub loop-i-init : goal.loop-i-init
loop-i-init c = copied_none

pub loop-i-preserved : goal.loop-i-preserved
loop-i-preserved c = copied_more c.loop-i.invariant (omega arith) (omega arith)

pub returns : goal.returns
returns c = rw (← c.stretch-bytes.ensures) (copied_all c.loop-i.invariant c.args.at (omega arith) (omega arith))
