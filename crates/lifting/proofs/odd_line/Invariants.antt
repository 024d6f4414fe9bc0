use Prim.Native.Nat.{◌+◌, ◌*◌}
use Rattle.lifting.specs.Fills.{Filled}
use Rattle.lifting.specs.Joins.{between}
use Rattle.lifting.proofs.odd_line.Given as goal

abbrev pub invariant-loop-j : goal.invariant-loop-j
invariant-loop-j l = Filled 0 l.initial.work (λ c. l.to + (2 * c + 1)) (between l.initial.work l.highs l.to) l.j l.work
