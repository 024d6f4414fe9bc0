use Rattle.memory.proofs.Laws.{Copied}
use Rattle.memory.proofs.copy.Given as goal

abbrev pub invariant-loop-i : goal.invariant-loop-i
invariant-loop-i l = Copied l.bytes l.initial.to l.first l.i l.to
