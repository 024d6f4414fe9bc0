use mathlib.Core.Path.{◌≡◌}
use Prim.Native.Nat.{ℕ, ◌+◌, ◌<◌}
use lib.ListN.{get_or}
use Rattle.pictures.specs.Laws.Tones.{bias}
use Rattle.grey.proofs.load_pixels.Given as goal

abbrev pub invariant-loop-q : goal.invariant-loop-q
invariant-loop-q l = (k : ℕ) → k < l.q → get_or l.work k 0 ≡ bias + get_or l.pixels k 0
