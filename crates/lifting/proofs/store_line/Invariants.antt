use mathlib.Core.Path.{◌≡◌}
use Prim.Native.Nat.{ℕ, ◌<◌}
use lib.ListN.{get_or}
use lib.IntN.{pos}
use Rattle.pictures.specs.Laws.Tones.{toned}
use Rattle.lifting.proofs.store_line.Given as goal

abbrev pub invariant-loop-j : goal.invariant-loop-j
invariant-loop-j l = (c : ℕ) → c < l.j → get_or l.out c (pos 0) ≡ toned (get_or l.line c 0)
