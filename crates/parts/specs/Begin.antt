-- How the lists begin, in tree numbers: the contracts of the functions inside `start`.
use Rattle.std.specs.Prelude.{◌≡◌, List, ◌++◌, map, true, ℕ, ◌+◌, ◌*◌, ◌/◌, ◌≤◌, ◌<◌, ◌^◌, length}
use Rattle.rules.specs.declared.Size.{Size}
use Rattle.rules.specs.Document.Notation.{flat}
use Rattle.rules.specs.Document.Pyramid.{legal_size, levels, level_of, index}
use Rattle.rules.specs.Document.Passes.{from}
use Rattle.rules.specs.Laws.Counting.Sums.{All}
use Rattle.rules.specs.Laws.Family.Sizes.{level_start, level_size}
use Rattle.trees.specs.Run.{number_of, tree_root}
use Rattle.lists.specs.declared.Stretch.{Stretch}
use Rattle.lists.specs.declared.Fill.{Fill}
use Rattle.stretches.specs.Cut.{set_room}
use Rattle.lists.specs.Lists.{held, Fits, Beside}

-- nothing is listed
abbrev pub empty : Fill
empty = record { lip = 0; lsp = 0; kept = 0; visited = 0; left = 0; moved = 0 }

-- the same but for the lengths of LIP and of LIS
abbrev pub lengths : Fill → ℕ → ℕ → Fill
lengths f lip left = record { lip = lip; lsp = f.lsp; kept = f.kept; visited = f.visited; left = left; moved = f.moved }

-- row i of the LL band, and the coefficient at a row and a column of it
abbrev pub row_of : Size → ℕ → List ℕ
row_of z i = from (i * z.w) (z.w / 2 ^ z.n)

abbrev pub band_at : Size → ℕ → ℕ → ℕ
band_at z row column = index z row column

abbrev pub InBand : Size → ℕ → ℕ → Type 0
InBand z row column = (row < z.h / 2 ^ z.n) × (column < z.w / 2 ^ z.n)

-- Coefficients of the LL band are to be listed. There is room for them in LIP, and in LIS for those with offspring.
pub record Listing (z : Size) (ps : List ℕ) (t : Stretch) (s : List ℕ) (f : Fill) : Type 0 where
  pub legal : legal_size z ≡ true
  pub band : All (λ p. level_of z p ≡ levels z) ps
  pub fits : Fits t s f
  pub size : t.n < 2 ^ 32
  pub first : t.first ≡ level_start z (levels z)
  pub count : t.n ≡ level_size z (levels z)
  pub coefficients : f.lip + length ps ≤ t.n
  pub sets : f.visited + f.left + length (flat (tree_root z) (map (number_of z) ps)) ≤ set_room t.n

-- Their tree numbers were put at the end of LIP in their order, and of those with offspring, as type A, at the end of LIS.
pub record Listed (z : Size) (ps : List ℕ) (t : Stretch) (s : List ℕ) (f : Fill) (s' : List ℕ) (r : Fill) : Type 0 where
  pub fill : r ≡ lengths f (f.lip + length ps) (f.left + length (flat (tree_root z) (map (number_of z) ps)))
  pub lip : (held t s' r).lip ≡ (held t s f).lip ++ map (number_of z) ps
  pub todo : (held t s' r).todo ≡ (held t s f).todo ++ flat (tree_root z) (map (number_of z) ps)
  pub fits : Fits t s' r
  pub beside : Beside t f.moved s s'
