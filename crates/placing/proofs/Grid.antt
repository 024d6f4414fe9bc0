-- Where blocks stand: the four of a block by its first, a block by that over it, and those of the roots by their group.
use mathlib.Core.Path.{◌≡◌, sym, ap, ap₂, ◌∙◌}
use Prim.Native.Nat.{ℕ, suc, ◌+◌, ◌-◌, ◌*◌, ◌/◌, ◌%◌, ◌≤◌, ◌<◌}
use native.Mathlib.Omega.{arith}
use Rattle.rules.specs.declared.Size.{Size}
use Rattle.rules.specs.Document.Pyramid.{index}
use Rattle.rules.specs.Laws.Offspring.Block.{half_rows, half_columns}
use Rattle.trees.specs.Places.{tree_row, tree_column, raster_of}
use Rattle.trees.proofs.Places.{tree_four, raster_fine}
use Rattle.placing.specs.Stores.{corner_of, rank_of}

module _ (z : Size) where
  raster_four : (k t f : ℕ) → k ≤ z.n → f < 4
      → raster_of z k (4 * t + f) ≡ index z (2 * tree_row z (z.n - k) t + f / 2) (2 * tree_column z (z.n - k) t + f % 2)
  raster_four k t f h l =
      let four = tree_four z (z.n - k) t f l in
      raster_fine z k (suc (z.n - k)) (4 * t + f) h (omega arith) ∙ ap₂ (index z) four.0 four.1

  raster_first : (k t : ℕ) → k ≤ z.n → raster_of z k (4 * t) ≡ index z (2 * tree_row z (z.n - k) t) (2 * tree_column z (z.n - k) t)
  raster_first k t h =
      ap (raster_of z k) (omega arith) ∙ raster_four k t 0 h (omega arith)
      ∙ ap₂ (index z) (omega arith) (omega arith)

  corner : (r c f w : ℕ) → (2 * r + f / 2) * w + (2 * c + f % 2) ≡ 2 * r * w + 2 * c + f % 2 + f / 2 * w
  corner r c f w = omega arith

  -- the four of a block
  pub raster_corner : (k t f : ℕ) → k ≤ z.n → f < 4 → raster_of z k (4 * t + f) ≡ corner_of z.w (raster_of z k (4 * t)) f
  unfolding corner_of
  raster_corner k t f h l =
      raster_four k t f h l
      ∙ corner (tree_row z (z.n - k) t) (tree_column z (z.n - k) t) f z.w
      ∙ ap (λ (p : ℕ). p + f % 2 + f / 2 * z.w) (sym (raster_first k t h))

  twice : (r c w : ℕ) → 2 * r * w + 2 * c ≡ 2 * (r * w + c)
  twice r c w = omega arith

  -- the block under a coefficient
  pub raster_under : (k t : ℕ) → k < z.n → raster_of z k (4 * t) ≡ 2 * raster_of z (suc k) t
  raster_under k t h =
      raster_first k t (omega arith)
      ∙ twice (tree_row z (z.n - k) t) (tree_column z (z.n - k) t) z.w
      ∙ ap (λ (p : ℕ). 2 * p) (sym (raster_fine z (suc k) (z.n - k) t h (omega arith)))

  ranked : (m i j a e w : ℕ) → 2 * ((m + 1) / 2 * e + i) * w + 2 * ((m + 1) % 2 * a + j)
      ≡ 2 * i * w + 2 * j + (m + 1) % 2 * (2 * a) + (m + 1) / 2 * (2 * e * w)
  ranked m i j a e w = omega arith

  -- the blocks under a group's roots
  pub raster_root : (u : ℕ) → raster_of z z.n (4 * u)
      ≡ rank_of (2 * half_columns z) (2 * half_rows z * z.w) (2 * (u / 3 / half_columns z) * z.w + 2 * (u / 3 % half_columns z)) (u % 3)
  unfolding tree_row tree_column rank_of
  raster_root u =
      let e : z.n - z.n ≡ 0 = omega arith in
      raster_first z.n u (omega arith)
      ∙ ap (λ (d : ℕ). index z (2 * tree_row z d u) (2 * tree_column z d u)) e
      ∙ ranked (u % 3) (u / 3 / half_columns z) (u / 3 % half_columns z) (half_columns z) (half_rows z) z.w
