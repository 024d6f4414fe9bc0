-- Selection: a level's lists depend on its own and coarser parts only; so coder and decoder agree on every level still usable.
use Rattle.std.specs.Prelude.{◌≡◌, Bool, cond, ℕ}
use mathlib.Core.List.{List, [], ◌∷◌}
use Rattle.rules.specs.Document.Pyramid.{Family}
use Rattle.rules.specs.Document.Passes.{State, after, PartName, coded}

module _ (F : Family) (mag : ℕ → ℕ) (neg : ℕ → Bool) where
  -- the lists after one part, and after those of several parts that are used
  abbrev pub lists_with : PartName → State → State
  lists_with p s = after p.level (coded F mag neg p s) s

  unfoldable pub lists_after : (PartName → Bool) → List PartName → State → State
  lists_after used [] s = s
  lists_after used (p ∷ ps) s = lists_after used ps (cond (used p) (lists_with p s) s)

-- The same lists at each level of which P holds.
abbrev pub Alike : (ℕ → Type 0) → State → State → Type 0
Alike P s t = (k : ℕ) → P k → s k ≡ t k
