-- How far a printed pixel may be from the recorded one: the theorems of Distance.
use Rattle.std.specs.Prelude.{List, get_or, ℤ, pos}
use Prim.Native.Nat.{ℕ, ◌-◌, ◌^◌, ◌≤◌, ◌<◌}
use Rattle.rules.specs.declared.Size.{Size}
use Rattle.rules.specs.Document.Pyramid.{area, magnitude, level_of}
use Rattle.pictures.specs.Laws.Room.{most_back}
use Rattle.pictures.specs.Laws.Distance.{Nearby}

-- Pyramids and pictures as lists: the same, by index.
pub record NearPyramids (z : Size) (plane : ℕ → ℕ) (p p' : List ℤ) : Type 0 where
  pub few : (q : ℕ) → q < area z → magnitude p q ≤ most_back
  pub few' : (q : ℕ) → q < area z → magnitude p' q ≤ most_back
  pub near : (q : ℕ) → q < area z → Nearby (2 ^ plane (level_of z q) - 1) (get_or p q (pos 0)) (get_or p' q (pos 0))
