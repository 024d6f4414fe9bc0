use Rattle.lifting.specs.Fills.{along, Both}
use Rattle.lifting.specs.Lines.{row_high, row_low}
use Rattle.lifting.proofs.lift_rows.Given as goal

abbrev pub invariant-loop-j : goal.invariant-loop-j
invariant-loop-j l =
    Both l.initial.work (along l.e) (row_low l.initial.work l.a l.b l.c l.d) (along l.d)
    (row_high l.initial.work l.a l.b l.c) l.j l.work
