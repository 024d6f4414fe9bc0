-- Two pyramids that are near each other, and what a turn back makes of them.
use Rattle.std.specs.Prelude.{cond, ltb}
use Prim.Native.Nat.{ℕ, ◌+◌, ◌*◌, ◌/◌, ◌<◌}
use Rattle.pictures.specs.Document.Lifting.{Grid}
use Rattle.pictures.specs.Laws.Turns.{Bands}
use Rattle.pictures.specs.Laws.Distance.{Nearby}

-- Two pyramids whose lows of a turn are at most a apart, in its first quarter, and all of whose highs of it at most c.
pub record Blocks (h w s b a c : ℕ) (g g' : Grid) : Type 0 where
  pub bands : Bands h w s b g
  pub bands' : Bands h w s b g'
  pub lows_near : (i j : ℕ) → i < h / 2 → j < w / 2 → Nearby a (g i j) (g' i j)
  pub highs_near : (i j : ℕ) → i < h → j < w → (i < h / 2 → j < w / 2 → ⊥) → Nearby c (g i j) (g' i j)

unfoldable pub joined_far : ℕ → ℕ → ℕ
joined_far a c = cond (ltb 0 c) (a + 3 * c + 3) a
