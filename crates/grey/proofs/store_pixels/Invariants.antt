use mathlib.Core.Path.{◌≡◌}
use Prim.Native.Nat.{ℕ, ◌<◌}
use lib.ListN.{get_or}
use Rattle.pictures.specs.Document.Calls.{clip, clipped_in}
use Rattle.pictures.specs.Laws.Tones.{toned}
use Rattle.grey.proofs.Laws.{numbers_in}
use Rattle.grey.proofs.store_pixels.Given as goal

abbrev pub invariant-loop-q : goal.invariant-loop-q
invariant-loop-q l =
    ((k : ℕ) → k < l.q → get_or l.pixels k 0 ≡ clip (toned (get_or l.tones k 0))) × (l.clipped ≡ clipped_in (numbers_in l.q l.tones))
