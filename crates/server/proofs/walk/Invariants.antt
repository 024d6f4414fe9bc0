use Prim.Native.Nat.{◌-◌}
use lib.ListN.{length}
use Rattle.server.proofs.Laws.{Walking}
use Rattle.server.proofs.walk.Given as goal

abbrev pub invariant-loop-p : goal.invariant-loop-p
invariant-loop-p l = Walking l.bytes l.h l.level l.plane (length l.initial.out) l.out l.cursor l.length

abbrev pub decreases-loop-p : goal.decreases-loop-p
decreases-loop-p l = length l.bytes - l.cursor.place
