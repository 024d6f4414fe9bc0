-- A picture written out and read back is the picture: list_of and grid_of, and what of a picture a turn looks at.
use Rattle.std.specs.Prelude.{◌≡◌}
use Prim.Native.Nat.{ℕ, ◌<◌}
use Rattle.pictures.specs.Document.Lifting.{Grid}

-- Two pictures of h rows and w columns that are the same in them.
abbrev pub Same : ℕ → ℕ → Grid → Grid → Type 0
Same h w g g' = (i j : ℕ) → i < h → j < w → g i j ≡ g' i j
