-- Coefficients in tree order. Level k, 1 to N, is an array of its n_k coefficients: the offspring of node t of level k + 1 are the nodes
-- 4 t, 4 t + 1, 4 t + 2, 4 t + 3 of level k, in the order in a block. The LL band's 2 x 2 group g, groups row by row, has the roots 3 g
-- (right), 3 g + 1 (below) and 3 g + 2 (diagonal), and these have the nodes 4 u to 4 u + 3 of level N. Level N + 1 is the band, row by row.
--
--   four_of g t           what g names the four under t
--   tree_row z d t        row of node t, d levels under the roots; a root stands where the nodes of its block stand, by halves
--   tree_column z d t     and its column
--   tree_at z d i j       and back
--   root_at z u           the coefficient of the LL band that is root u
--   root_of_band z p       and back
--   depth_of z k          how many levels level k is under the roots
--   band_width z          columns of the LL band
--   raster_of z k t       the coefficient that is node t of level k
--   tree_of z q           and back
use Rattle.std.specs.Prelude.{cond, leb}
use mathlib.Core.List.{List, [], ◌∷◌}
use Prim.Native.Nat.{ℕ, zero, suc, ◌+◌, ◌-◌, ◌*◌, ◌/◌, ◌%◌, ◌^◌}
use Rattle.rules.specs.declared.Size.{Size}
use Rattle.rules.specs.Document.Pyramid.{index, row, column, levels, level_of}
use Rattle.rules.specs.Laws.Offspring.Block.{apart, together}
use Rattle.rules.specs.Laws.Offspring.Block.{half_rows, half_columns}

abbrev pub four_of : (ℕ → ℕ) → ℕ → List ℕ
four_of g t = g (4 * t) ∷ g (4 * t + 1) ∷ g (4 * t + 2) ∷ g (4 * t + 3) ∷ []

module _ (z : Size) where
  unfoldable pub tree_row : ℕ → ℕ → ℕ
  tree_row zero u = (u % 3 + 1) / 2 * half_rows z + u / 3 / half_columns z
  tree_row (suc d) t = 2 * tree_row d (t / 4) + t % 4 / 2

  unfoldable pub tree_column : ℕ → ℕ → ℕ
  tree_column zero u = (u % 3 + 1) % 2 * half_columns z + u / 3 % half_columns z
  tree_column (suc d) t = 2 * tree_column d (t / 4) + t % 4 % 2

  unfoldable pub tree_at : ℕ → ℕ → ℕ → ℕ
  tree_at zero i j =
      3 * (i % half_rows z * half_columns z + j % half_columns z) + (2 * (i / half_rows z) + j / half_columns z - 1)
  tree_at (suc d) i j = 4 * tree_at d (i / 2) (j / 2) + (2 * (i % 2) + j % 2)

  unfoldable pub root_at : ℕ → ℕ
  root_at u = index z (together (half_rows z) (tree_row 0 u)) (together (half_columns z) (tree_column 0 u))

  unfoldable pub root_of_band : ℕ → ℕ
  root_of_band p = tree_at 0 (apart (half_rows z) (row z p)) (apart (half_columns z) (column z p))

  abbrev pub depth_of : ℕ → ℕ
  depth_of k = levels z - k

  abbrev pub band_width : ℕ
  band_width = z.w / 2 ^ z.n

  unfoldable pub raster_of : ℕ → ℕ → ℕ
  raster_of k t =
      cond (leb k z.n) (index z (tree_row (depth_of k) t) (tree_column (depth_of k) t)) (index z (t / band_width) (t % band_width))

  unfoldable pub tree_of : ℕ → ℕ
  tree_of q =
      cond (leb (level_of z q) z.n) (tree_at (depth_of (level_of z q)) (row z q) (column z q)) (row z q * band_width + column z q)
