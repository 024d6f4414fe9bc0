use Rattle.placing.proofs.Loops.{ClearedOver}
use Rattle.placing.proofs.clear.Given as goal

abbrev pub invariant-loop-k : goal.invariant-loop-k
invariant-loop-k l = ClearedOver l.z l.k l.initial.work l.work
