use Rattle.lifting.specs.Fills.{along, Filled}
use Rattle.lifting.specs.Lines.{row_high}
use Rattle.lifting.proofs.high_line.Given as goal

abbrev pub invariant-loop-j : goal.invariant-loop-j
invariant-loop-j l = Filled 0 l.initial.work (along l.to) (row_high l.initial.work l.a l.b l.c) l.j l.work
