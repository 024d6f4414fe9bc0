use Prim.Native.Nat.{◌+◌}
use Rattle.lifting.specs.Fills.{along, Both}
use Rattle.lifting.specs.Lines.{line}
use Rattle.lifting.specs.Joins.{row_odd}
use Rattle.lifting.proofs.odd_rows.Given as goal

abbrev pub invariant-loop-j : goal.invariant-loop-j
invariant-loop-j l =
    Both l.initial.work (along (l.to + l.width)) (row_odd l.initial.work l.d l.to l.next) (along l.d)
    (line l.initial.work l.p) l.j l.work
