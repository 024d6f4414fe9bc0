use Rattle.lifting.specs.Fills.{along, Filled}
use Rattle.lifting.specs.Joins.{row_even}
use Rattle.lifting.proofs.even_rows.Given as goal

abbrev pub invariant-loop-j : goal.invariant-loop-j
invariant-loop-j l = Filled 0 l.initial.work (along l.to) (row_even l.initial.work l.e l.p l.d) l.j l.work
