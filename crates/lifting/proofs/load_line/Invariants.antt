use mathlib.Core.Path.{◌≡◌}
use Prim.Native.Nat.{ℕ, ◌<◌}
use lib.ListN.{get_or}
use lib.IntN.{pos}
use Rattle.lifting.specs.Joins.{tone_of}
use Rattle.lifting.proofs.load_line.Given as goal

abbrev pub invariant-loop-j : goal.invariant-loop-j
invariant-loop-j l = (c : ℕ) → c < l.j → get_or l.line c 0 ≡ tone_of (get_or l.row c (pos 0))
