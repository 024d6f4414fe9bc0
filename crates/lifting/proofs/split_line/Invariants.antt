use mathlib.Core.Path.{◌≡◌}
use Prim.Native.Nat.{◌-◌}
use Rattle.lifting.specs.Fills.{along, Both}
use Rattle.lifting.specs.Lines.{line, high_of, low_of}
use Rattle.lifting.proofs.split_line.Given as goal

abbrev pub invariant-loop-j : goal.invariant-loop-j
invariant-loop-j l =
    Both l.initial.work (along l.lows) (low_of (line l.initial.work l.x)) (along l.highs) (high_of (line l.initial.work l.x)) l.j l.work
    × (l.before ≡ high_of (line l.initial.work l.x) (l.j - 1))
