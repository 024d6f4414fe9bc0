-- The lists that a record starts with are sound: one level holds all, a band of its coefficients and the sets below them.
use Rattle.std.specs.Prelude.{◌≡◌, ◌≢◌}
use mathlib.Core.List.{List, [], ◌∷◌}
use Prim.Native.Nat.{ℕ}
use Rattle.rules.specs.Document.Notation.{flat, if_any}
use Rattle.rules.specs.Document.Pyramid.{Family}
use Rattle.rules.specs.Document.Passes.{Entry, typeA, State}

-- the sets of type A of those that have offspring
unfoldable pub roots_of : Family → List ℕ → List Entry
roots_of F band = flat (λ p. if_any (F.offspring p) (typeA p ∷ [])) band

-- nothing in any list but those of the level top: in its LIP the band, in its LIS the roots
pub record Begins (F : Family) (top : ℕ) (band : List ℕ) (s : State) : Type 0 where
  pub first : s top ≡ record { lip = band; lis = roots_of F band; lsp = [] }
  pub others : (k : ℕ) → k ≢ top → s k ≡ record { lip = []; lis = []; lsp = [] }
