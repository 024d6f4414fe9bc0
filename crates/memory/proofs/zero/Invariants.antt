use Rattle.memory.proofs.Laws.{Filled}
use Rattle.memory.proofs.zero.Given as goal

abbrev pub invariant-loop-i : goal.invariant-loop-i
invariant-loop-i g l = Filled g.T.Word.ZERO l.initial.s l.i l.s
