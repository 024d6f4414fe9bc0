-- A pass of which only the first bits are there. What is told before more bits are asked for is a front of all that comes out; and no place of
-- the pyramid is written twice in a pass, so after that front each place holds what it held before, or what it holds in the end.
use Rattle.std.specs.Prelude.{◌≡◌, ℤ}
use mathlib.Core.List.{List, [], ◌∷◌}
use Prim.Native.Nat.{ℕ}
use Rattle.rules.specs.Document.Notation.{flat}
use Rattle.rules.specs.Document.Passes.{Event, to_lip, to_lsp, stays, moves, refined}
use Rattle.rules.specs.Laws.Counting.Sums.{sum, is}

-- The places that events write.
unfoldable pub places_of : Event → List ℕ
places_of (to_lip p) = []
places_of (to_lsp p b) = p ∷ []
places_of (stays e) = []
places_of (moves e) = []
places_of (refined p b) = p ∷ []

abbrev pub writes : ℕ → List Event → ℕ
writes q es = sum (is q) (flat places_of es)

-- What stands at a place of two pyramids, the second drawn further: as before in the first and so or as in the end in the second; or as in the
-- end in both.
pub data Between (before a b end : ℤ) : Type 0 where
  untouched : a ≡ before → b ≡ before → Between before a b end
  only_further : a ≡ before → b ≡ end → Between before a b end
  both_drawn : a ≡ end → b ≡ end → Between before a b end
