use lib.ListN.{length}
use Rattle.netpbm.proofs.Laws.{Counting}
use Rattle.netpbm.proofs.read_digits.Given as goal

abbrev pub invariant-loop-rest : goal.invariant-loop-rest
invariant-loop-rest l = Counting l.fn.bytes l.value l.rest

abbrev pub decreases-loop-rest : goal.decreases-loop-rest
decreases-loop-rest l = length l.rest
