use Rattle.lists.proofs.Laws.{LinedBy}
use Rattle.lists.proofs.line_up.Given as goal

abbrev pub invariant-loop-i : goal.invariant-loop-i
invariant-loop-i l = LinedBy l.i l.first l.stretch l.initial.s l.fn.f l.s l.r
