use mathlib.Core.Path.{◌≡◌}
use Prim.Native.Nat.{◌-◌, ◌+◌, ◌*◌}
use Rattle.lifting.specs.Fills.{Filled}
use Rattle.lifting.specs.Lines.{line}
use Rattle.lifting.specs.Joins.{even_t}
use Rattle.lifting.proofs.even_line.Given as goal

abbrev pub invariant-loop-j : goal.invariant-loop-j
invariant-loop-j l =
    Filled 0 l.initial.work (λ c. l.to + 2 * c) (even_t (line l.initial.work l.lows) (line l.initial.work l.highs)) l.j l.work
    × (l.before ≡ line l.initial.work l.highs (l.j - 1))
