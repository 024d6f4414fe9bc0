-- The coder's and the decoder's parts: each leaves the lists of all levels sound, and takes at most four bits for each coefficient there is.
use Rattle.std.specs.Prelude.{ℕ, ◌≤◌}
use Rattle.rules.specs.Document.Passes.{PartName}

-- a part of one of the levels 1 to top
pub record OfLevel (top : ℕ) (p : PartName) : Type 0 where
  pub from1 : 1 ≤ p.level
  pub up_to : p.level ≤ top
