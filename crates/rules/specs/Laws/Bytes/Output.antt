-- An output that is written from its start, past its end nothing: what it holds while the length goes on counting.
use Rattle.std.specs.Prelude.{List, [], ◌∷◌, ℕ, zero, suc}

-- the first bytes, as many as there is room for, then zeros
unfoldable pub clipped : ℕ → List ℕ → List ℕ
clipped zero bytes = []
clipped (suc room) [] = 0 ∷ clipped room []
clipped (suc room) (b ∷ bytes) = b ∷ clipped room bytes
