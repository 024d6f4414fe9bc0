-- Coefficients in tree order. Level k, 1 to N, is an array of its n_k coefficients: the offspring of node t of level k + 1 are the nodes
-- 4 t, 4 t + 1, 4 t + 2, 4 t + 3 of level k, in the order in a block. The LL band's 2 x 2 group g, groups row by row, has the roots 3 g
-- (right), 3 g + 1 (below) and 3 g + 2 (diagonal), and these have the nodes 4 u to 4 u + 3 of level N. Level N + 1 is the band, row by row.
--
--   four_of g t           what g names the four under t
--   tree_row z d t        row of node t, d levels under the roots; a root stands where the nodes of its block stand, by halves
--   tree_column z d t     and its column
--   tree_at z d i j       and back
--   root_at z u           the coefficient of the LL band that is root u
--   root_of_band z p       and back
--   depth_of z k          how many levels level k is under the roots
--   band_width z          columns of the LL band
--   raster_of z k t       the coefficient that is node t of level k
--   tree_of z q           and back
use Rattle.std.specs.Prelude.{◌≡◌, true, cond}
use Rattle.std.proofs.Math.Path.{refl, ap, ap₂}
use Rattle.std.proofs.Common.{sym, ◌∙◌, div-lt_iff_lt-mul, mul-le-mul}
use mathlib.Core.List.{[], ◌∷◌}
use Rattle.std.proofs.Math.Bool.{◌||◌, or-true, true≢false}
use Prim.Native.Nat.{ℕ, zero, suc, ◌+◌, ◌-◌, ◌*◌, ◌/◌, ◌%◌, ◌^◌, ◌≤◌, ◌<◌}
use native.Mathlib.Omega.{arith}
use Rattle.std.proofs.Math.Nat.{div-add-mod', mod-lt}
use Rattle.std.proofs.Math.Decide.{dec_lt}
use Rattle.std.proofs.Math.Arith.{digits_div, digits_mod}
use Rattle.std.proofs.lemmas.Nat.{shr_le}
use borrow.Author.Tests.{le-leb, lt-leb}
use Rattle.rules.specs.declared.Size.{Size}
use Rattle.rules.specs.Document.Pyramid.{area, odd, index, row, column, levels, level_of, block, offspring_of}
use Rattle.rules.specs.Promises.Vocabulary.{Legal}
use Rattle.rules.specs.Laws.Family.Sizes.{span, level_size}
use Rattle.rules.proofs.Laws.Family.Sizes.{span_quarter, level_size_fine, level_size_top, side_some}
use Rattle.rules.specs.Laws.Offspring.Level.{Within}
use Rattle.rules.proofs.Laws.Offspring.Level.{level_most, over_within, within_over, outside_level, level_least}
use Rattle.rules.specs.Laws.Offspring.Block.{apart, together}
use Rattle.rules.proofs.Laws.Offspring.Block.{together_lt, together_odd, apart_together, apart_lt, apart_low, together_apart, row_index}
use Rattle.rules.specs.Laws.Offspring.Block.{half_rows, half_columns, block_ll}
use Rattle.rules.proofs.Laws.Offspring.Block.{column_index, index_place, offspring_band, offspring_inner}
use Rattle.rules.proofs.Laws.Offspring.Kin.{rows_2, columns_2, band_row, band_column}
use Rattle.trees.specs.Places.{four_of, tree_row, tree_column, tree_at, root_at, root_of_band, depth_of, band_width, raster_of, tree_of}

-- A node's row and column, by those of the node over it.
module _ (z : Size) where
  pub tree_four : (d t f : ℕ) → f < 4
      → (tree_row z (suc d) (4 * t + f) ≡ 2 * tree_row z d t + f / 2) × (tree_column z (suc d) (4 * t + f) ≡ 2 * tree_column z d t + f % 2)
  unfolding tree_row tree_column
  tree_four d t f h =
      let e : (4 * t + f) / 4 ≡ t = omega arith in
      let g : (4 * t + f) % 4 ≡ f = omega arith in
      (rw (e, g), rw (e, g))

  -- node t of level k, d levels under the roots
  pub raster_fine : (k d t : ℕ) → k ≤ z.n → depth_of z k ≡ d → raster_of z k t ≡ index z (tree_row z d t) (tree_column z d t)
  unfolding raster_of
  raster_fine k d t h e = rw (le-leb k z.n h, e)

  -- what stands in the LL band's rows and columns is of its level
  pub in_band_lem : (q : ℕ) → row z q < z.h / 2 ^ z.n → column z q < band_width z → level_of z q ≡ levels z
  in_band_lem q r c = omega (arith, level_most z q, within_over z z.n q (omega arith) (r, c))

module _ (z : Size) (Z : Legal z) where
  half_rows_some : 1 ≤ half_rows z
  half_rows_some = side_some z.n z.h Z.height (suc z.n) (omega arith)

  half_columns_some : 1 ≤ half_columns z
  half_columns_some = side_some z.n z.w Z.width (suc z.n) (omega arith)

  -- Groups, row by row.
  pub group_row_lt : (g : ℕ) → g < span z (levels z) → g / half_columns z < half_rows z
  unfolding span
  group_row_lt g h = (div-lt_iff_lt-mul {x = g} {y = half_rows z} half_columns_some).1 h

  pub group_column_lt : (g : ℕ) → g % half_columns z < half_columns z
  group_column_lt g = mod-lt g half_columns_some

  -- Where a root stands: in the first 2 x half_rows rows and 2 x half_columns columns, and not in the first quarter of them.
  abbrev Stands : ℕ → ℕ → ℕ → Type 0
  Stands j x y =
      (x < z.h / 2 ^ j) × (y < z.w / 2 ^ j) × (x < z.h / 2 ^ suc j → y < z.w / 2 ^ suc j → ⊥)

  rank_row : (m a b : ℕ) → m < 3 → a < b → ((m + 1) / 2 * b + a < 2 * b) × ((m + 1) / 2 * b + a < b → m ≡ 0)
  rank_row zero a b h l = (omega arith, λ e. refl)
  rank_row (suc zero) a b h l = (omega arith, λ e. absurd (omega arith))
  rank_row (suc (suc zero)) a b h l = (omega arith, λ e. absurd (omega arith))
  rank_row (suc (suc (suc m))) a b h l = absurd (omega arith)

  rank_column : (m a b : ℕ) → m < 3 → a < b → ((m + 1) % 2 * b + a < 2 * b) × ((m + 1) % 2 * b + a < b → m ≡ 1)
  rank_column zero a b h l = (omega arith, λ e. absurd (omega arith))
  rank_column (suc zero) a b h l = (omega arith, λ e. refl)
  rank_column (suc (suc zero)) a b h l = (omega arith, λ e. absurd (omega arith))
  rank_column (suc (suc (suc m))) a b h l = absurd (omega arith)

  node_stands : (d j t : ℕ) → j + d ≡ z.n → t < 3 * span z (suc j) → Stands j (tree_row z d t) (tree_column z d t)
  unfolding tree_row tree_column span
  node_stands zero j t e h =
      let n : j ≡ z.n = omega arith in
      let a : t / 3 / half_columns z < half_rows z = group_row_lt (t / 3) (omega (arith, ap (λ (x : ℕ). span z (suc x)) n)) in
      let r : _ = rank_row (t % 3) (t / 3 / half_columns z) (half_rows z) (omega arith) a in
      let c : _ = rank_column (t % 3) (t / 3 % half_columns z) (half_columns z) (omega arith) (group_column_lt (t / 3)) in
      rw n (omega (arith, r.0, rows_2 z Z), omega (arith, c.0, columns_2 z Z), λ x y. omega (arith, r.1 x, c.1 y))
  node_stands (suc d) j t e h =
      let s : Stands (suc j) (tree_row z d (t / 4)) (tree_column z d (t / 4)) =
      node_stands d (suc j) (t / 4) (omega arith) (omega (arith, span_quarter z Z (suc j) (omega arith))) in
      let r : z.h / 2 ^ j ≡ 2 * (z.h / 2 ^ suc j) = Z.height.half j (omega arith) in
      let c : z.w / 2 ^ j ≡ 2 * (z.w / 2 ^ suc j) = Z.width.half j (omega arith) in
      let rr : z.h / 2 ^ suc j ≡ 2 * (z.h / 2 ^ suc (suc j)) = Z.height.half (suc j) (omega arith) in
      let cc2 : z.w / 2 ^ suc j ≡ 2 * (z.w / 2 ^ suc (suc j)) = Z.width.half (suc j) (omega arith) in
      (omega (arith, s.0), omega (arith, s.1), λ x y. s.2 (omega arith) (omega arith))

  -- A node's row and column are those of its index.
  module _ (d j t : ℕ) (e : j + d ≡ z.n) (h : t < 3 * span z (suc j)) where
    column_in : tree_column z d t < z.w
    column_in = omega (arith, (node_stands d j t e h).1, shr_le z.w j)

    at_row : row z (index z (tree_row z d t) (tree_column z d t)) ≡ tree_row z d t
    at_row = row_index z (tree_row z d t) (tree_column z d t) column_in

    at_column : column z (index z (tree_row z d t) (tree_column z d t)) ≡ tree_column z d t
    at_column = column_index z (tree_row z d t) (tree_column z d t) column_in

    at_level : 1 ≤ d → level_of z (index z (tree_row z d t) (tree_column z d t)) ≡ suc j
    at_level l =
        let q : ℕ = index z (tree_row z d t) (tree_column z d t) in
        let s : Stands j (tree_row z d t) (tree_column z d t) = node_stands d j t e h in
        omega (
          arith,
          within_over z j q (omega arith) (rw at_row s.0, rw at_column s.1),
          outside_level z (suc j) q (λ w. s.2 (rw at_row at w.0) (rw at_column at w.1)),
        )

  fine_depth : (d j t : ℕ) → j + suc d ≡ z.n → raster_of z (suc j) t ≡ index z (tree_row z (suc d) t) (tree_column z (suc d) t)
  fine_depth d j t e = raster_fine z (suc j) (suc d) t (omega arith) (omega arith)

  -- The block of a node, or of a root, is four nodes of the level under it.
  module _ (d j t : ℕ) (e : j + suc d ≡ z.n) where
    nodes_block : block z (2 * tree_row z d t) (2 * tree_column z d t) ≡ four_of (raster_of z (suc j)) t
    unfolding block
    nodes_block =
        λ i.
        node 0 (4 * t) r c (omega arith) (omega arith) (omega arith) (omega arith) i
        ∷ node 1 (4 * t + 1) r (c + 1) (omega arith) refl (omega arith) (omega arith) i
        ∷ node 2 (4 * t + 2) (r + 1) c (omega arith) refl (omega arith) (omega arith) i
        ∷ node 3 (4 * t + 3) (r + 1) (c + 1) (omega arith) refl (omega arith) (omega arith) i
        ∷ []
      where
        r : ℕ
        r = 2 * tree_row z d t

        c : ℕ
        c = 2 * tree_column z d t

        node : (f u x y : ℕ) → f < 4 → u ≡ 4 * t + f → x ≡ 2 * tree_row z d t + f / 2 → y ≡ 2 * tree_column z d t + f % 2
            → index z x y ≡ raster_of z (suc j) u
        node f u x y l g a b =
            ap₂ (index z) (a ∙ sym (tree_four z d t f l).0) (b ∙ sym (tree_four z d t f l).1)
            ∙ sym (fine_depth d j (4 * t + f) e)
            ∙ ap (raster_of z (suc j)) (sym g)

  -- Nodes of level k: how many, which level they are of, and their offspring.
  fine_count : (d j t : ℕ) → j + suc d ≡ z.n → t < level_size z (suc j) → t < 3 * span z (suc j)
  fine_count d j t e h = omega (arith, level_size_fine z Z (suc j) (omega arith) (omega arith))

  pub raster_level : (k t : ℕ) → 1 ≤ k → k ≤ z.n → t < level_size z k → level_of z (raster_of z k t) ≡ k
  raster_level zero t l m h = absurd (omega arith)
  raster_level (suc j) t l m h =
      let e : j + suc (z.n - suc j) ≡ z.n = omega arith in
      ap (level_of z) (fine_depth (z.n - suc j) j t e) ∙ at_level (suc (z.n - suc j)) j t e (fine_count (z.n - suc j) j t e h) (omega arith)

  pub offspring_tree : (k t : ℕ) → 1 ≤ k → k < z.n → t < level_size z (suc k)
      → offspring_of z (raster_of z (suc k) t) ≡ four_of (raster_of z k) t
  offspring_tree zero t l m h = absurd (omega arith)
  offspring_tree (suc j) t l m h =
      let d : ℕ = z.n - suc (suc j) in
      let e : suc j + suc d ≡ z.n = omega arith in
      let c : t < 3 * span z (suc (suc j)) = fine_count d (suc j) t e h in
      let v : level_of z (raster_of z (suc (suc j)) t) ≡ suc (suc j) = raster_level (suc (suc j)) t (omega arith) m h in
      let p : raster_of z (suc (suc j)) t ≡ index z (tree_row z (suc d) t) (tree_column z (suc d) t) = fine_depth d (suc j) t e in
      offspring_inner z Z (raster_of z (suc (suc j)) t) (omega arith) (omega arith)
      ∙ ap₂ (λ (x y : ℕ). block z (2 * x) (2 * y)) (ap (row z) p ∙ at_row (suc d) (suc j) t e c) (ap (column z) p ∙ at_column (suc d) (suc j) t e c)
      ∙ nodes_block (suc d) j t (omega arith)

  -- Roots of the band.
  module _ (u : ℕ) (h : u < 3 * span z (suc z.n)) where
    root_stands : Stands z.n (tree_row z 0 u) (tree_column z 0 u)
    root_stands = node_stands 0 z.n u (omega arith) h

    root_row_lt : together (half_rows z) (tree_row z 0 u) < 2 * half_rows z
    root_row_lt = together_lt (half_rows z) (tree_row z 0 u) (omega (arith, root_stands.0, rows_2 z Z))

    root_column_lt : together (half_columns z) (tree_column z 0 u) < 2 * half_columns z
    root_column_lt = together_lt (half_columns z) (tree_column z 0 u) (omega (arith, root_stands.1, columns_2 z Z))

    root_in : together (half_columns z) (tree_column z 0 u) < z.w
    root_in = omega (arith, root_column_lt, columns_2 z Z, shr_le z.w z.n)

    root_row : row z (root_at z u) ≡ together (half_rows z) (tree_row z 0 u)
    unfolding root_at
    root_row = row_index z _ _ root_in

    root_column : column z (root_at z u) ≡ together (half_columns z) (tree_column z 0 u)
    unfolding root_at
    root_column = column_index z _ _ root_in

    pub root_level : level_of z (root_at z u) ≡ levels z
    root_level =
        in_band_lem z (root_at z u) (omega (arith, root_row, root_row_lt, rows_2 z Z)) (omega (arith, root_column, root_column_lt, columns_2 z Z))

    one_odd : odd (together (half_rows z) (tree_row z 0 u)) || odd (together (half_columns z) (tree_column z 0 u)) ≡ true
    one_odd = go (dec_lt (tree_row z 0 u) (half_rows z)) (dec_lt (tree_column z 0 u) (half_columns z))
      where
        go : Dec (tree_row z 0 u < half_rows z) → Dec (tree_column z 0 u < half_columns z)
            → odd (together (half_rows z) (tree_row z 0 u)) || odd (together (half_columns z) (tree_column z 0 u)) ≡ true
        go (no x) y = rw (together_odd (half_rows z) (tree_row z 0 u) (omega arith))
        go (yes x) (no y) = rw (together_odd (half_columns z) (tree_column z 0 u) (omega arith)) (or-true (odd (together (half_rows z) (tree_row z 0 u))))
        go (yes x) (yes y) = absurd (root_stands.2 x y)

    pub root_odd : odd (row z (root_at z u)) || odd (column z (root_at z u)) ≡ true
    root_odd = ap₂ ◌||◌ (ap odd root_row) (ap odd root_column) ∙ one_odd

    pub offspring_root : offspring_of z (root_at z u) ≡ four_of (raster_of z z.n) u
    offspring_root =
        let k : suc (z.n - 1) ≡ z.n = omega (arith, Z.some) in
        offspring_band z Z (root_at z u) (omega (arith, root_level))
        ∙ ap (λ b. cond b (block_ll z (row z (root_at z u)) (column z (root_at z u))) []) root_odd
        ∙ ap₂ (λ (x y : ℕ). block z (2 * x) (2 * y))
        (ap (apart (half_rows z)) root_row ∙ apart_together (half_rows z) (tree_row z 0 u))
        (ap (apart (half_columns z)) root_column ∙ apart_together (half_columns z) (tree_column z 0 u))
        ∙ nodes_block 0 (z.n - 1) u (omega (arith, Z.some))
        ∙ ap (λ (x : ℕ). four_of (raster_of z x) u) k

  -- Level N + 1 is the band, row by row.
  band_width_some : 1 ≤ band_width z
  band_width_some = side_some z.n z.w Z.width z.n (omega arith)

  module _ (t : ℕ) where
    top : raster_of z (levels z) t ≡ index z (t / band_width z) (t % band_width z)
    unfolding raster_of
    top = rw (lt-leb (levels z) z.n (omega arith))

    top_in : t % band_width z < z.w
    top_in = omega (arith, mod-lt t band_width_some, shr_le z.w z.n)

    top_row : row z (raster_of z (levels z) t) ≡ t / band_width z
    top_row = ap (row z) top ∙ row_index z _ _ top_in

    top_column : column z (raster_of z (levels z) t) ≡ t % band_width z
    top_column = ap (column z) top ∙ column_index z _ _ top_in

    pub band_level_tree : t < level_size z (levels z) → level_of z (raster_of z (levels z) t) ≡ levels z
    unfolding span
    band_level_tree h =
        let q : ℕ = raster_of z (levels z) t in
        let r : t / band_width z < z.h / 2 ^ z.n =
        (div-lt_iff_lt-mul {x = t} {y = z.h / 2 ^ z.n} band_width_some).1 (omega (arith, level_size_top z Z)) in
        in_band_lem z q (omega (arith, top_row)) (omega (arith, top_column, mod-lt t band_width_some))

  -- Back from a place to the node: tree_at is the inverse of tree_row and tree_column, both ways.
  pub tree_at_node : (d j t : ℕ) → j + d ≡ z.n → t < 3 * span z (suc j) → tree_at z d (tree_row z d t) (tree_column z d t) ≡ t
  unfolding tree_at tree_row tree_column span
  tree_at_node zero j t e h =
      let n : j ≡ z.n = omega arith in
      let a : t / 3 / half_columns z < half_rows z = group_row_lt (t / 3) (omega (arith, ap (λ (x : ℕ). span z (suc x)) n)) in
      let b : t / 3 % half_columns z < half_columns z = group_column_lt (t / 3) in
      rw (digits_div ((t % 3 + 1) / 2) a, digits_mod ((t % 3 + 1) / 2) a, digits_div ((t % 3 + 1) % 2) b, digits_mod ((t % 3 + 1) % 2) b)
      (omega (arith, div-add-mod' (t / 3) (half_columns z)))
  tree_at_node (suc d) j t e h =
      let i : _ = tree_at_node d (suc j) (t / 4) (omega arith) (omega (arith, span_quarter z Z (suc j) (omega arith))) in
      let r1 : (2 * tree_row z d (t / 4) + t % 4 / 2) / 2 ≡ tree_row z d (t / 4) = omega arith in
      let r2 : (2 * tree_row z d (t / 4) + t % 4 / 2) % 2 ≡ t % 4 / 2 = omega arith in
      let c1 : (2 * tree_column z d (t / 4) + t % 4 % 2) / 2 ≡ tree_column z d (t / 4) = omega arith in
      let c2 : (2 * tree_column z d (t / 4) + t % 4 % 2) % 2 ≡ t % 4 % 2 = omega arith in
      rw (r1, r2, c1, c2, i) (omega arith)

  under_two : (x m : ℕ) → x < 2 * m → (x / m ≤ 1) × (x / m ≡ 0 → x < m)
  under_two x m h = go (dec_lt x m)
    where
      go : Dec (x < m) → (x / m ≤ 1) × (x / m ≡ 0 → x < m)
      go (yes l) = let e : (0 * m + x) / m ≡ 0 = digits_div 0 l in
          let f : 0 * m + x ≡ x = omega arith in
          (omega (arith, rw f at e), λ g. l)
      go (no l) =
          let b : x - m < m = omega arith in
          let e : (1 * m + (x - m)) / m ≡ 1 = digits_div 1 b in
          let f : 1 * m + (x - m) ≡ x = omega arith in
          let g : x / m ≡ 1 = rw f at e in
          (omega arith, λ k. absurd (omega arith))

  abbrev Found : ℕ → ℕ → ℕ → ℕ → Type 0
  Found d j x y =
      (tree_row z d (tree_at z d x y) ≡ x) × (tree_column z d (tree_at z d x y) ≡ y) × (tree_at z d x y < 3 * span z (suc j))

  -- which of a group's three: by halves
  rank : (x y a b : ℕ) → x < 2 * a → y < 2 * b → (x < a → y < b → ⊥)
      → (1 ≤ 2 * (x / a) + y / b) × (x / a ≤ 1) × (y / b ≤ 1)
  rank x y a b h l n =
      let f : _ = under_two x a h in
      let g : _ = under_two y b l in
      go (x / a) (y / b) f g
    where
      go : (p q : ℕ) → (p ≤ 1) × (p ≡ 0 → x < a) → (q ≤ 1) × (q ≡ 0 → y < b) → (1 ≤ 2 * p + q) × (p ≤ 1) × (q ≤ 1)
      go zero zero f g = absurd (n (f.1 refl) (g.1 refl))
      go (suc p) q f g = (omega arith, f.0, g.0)
      go zero (suc q) f g = (omega arith, f.0, g.0)

  twice_row : (r x y : ℕ) → r ≡ x / 2 → 2 * r + (2 * (x % 2) + y % 2) / 2 ≡ x
  twice_row r x y e = omega arith

  twice_column : (c x y : ℕ) → c ≡ y / 2 → 2 * c + (2 * (x % 2) + y % 2) % 2 ≡ y
  twice_column c x y e = omega arith

  four_under : (t m n f : ℕ) → f < 4 → n ≡ 4 * m → t < 3 * m → 4 * t + f < 3 * n
  four_under t m n f l e h = omega arith

  node_tree_at : (d j x y : ℕ) → j + d ≡ z.n → Stands j x y → Found d j x y
  unfolding tree_at tree_row tree_column span
  node_tree_at zero j x y e s = rw n (
    rw (u1, u2, m1, digits_div (x % half_rows z) b) (div-add-mod' x (half_rows z)),
    rw (u1, u2, m2, digits_mod (x % half_rows z) b) (div-add-mod' y (half_columns z)),
    omega (arith, v, b, k.0, k.1, k.2),
  )
    where
      n : j ≡ z.n
      n = omega arith

      k : (1 ≤ 2 * (x / half_rows z) + y / half_columns z) × (x / half_rows z ≤ 1) × (y / half_columns z ≤ 1)
      k =
          rank x y (half_rows z) (half_columns z) (omega (arith, rows_2 z Z, rw n at s.0)) (omega (arith, columns_2 z Z, rw n at s.1))
          (λ p q. s.2 (rw n p) (rw n q))

      a : x % half_rows z < half_rows z
      a = mod-lt x half_rows_some

      b : y % half_columns z < half_columns z
      b = mod-lt y half_columns_some

      g : ℕ
      g = x % half_rows z * half_columns z + y % half_columns z

      m : ℕ
      m = 2 * (x / half_rows z) + y / half_columns z - 1

      v : suc (x % half_rows z) * half_columns z ≤ half_rows z * half_columns z
      v = mul-le-mul a (omega arith)

      u1 : (3 * g + m) / 3 ≡ g
      u1 = omega (arith, k.0, k.1, k.2)

      u2 : (3 * g + m) % 3 ≡ m
      u2 = omega (arith, k.0, k.1, k.2)

      m1 : (m + 1) / 2 ≡ x / half_rows z
      m1 = omega (arith, k.0, k.1, k.2)

      m2 : (m + 1) % 2 ≡ y / half_columns z
      m2 = omega (arith, k.0, k.1, k.2)
  node_tree_at (suc d) j x y e s =
      let r : z.h / 2 ^ j ≡ 2 * (z.h / 2 ^ suc j) = Z.height.half j (omega arith) in
      let c : z.w / 2 ^ j ≡ 2 * (z.w / 2 ^ suc j) = Z.width.half j (omega arith) in
      let rr : z.h / 2 ^ suc j ≡ 2 * (z.h / 2 ^ suc (suc j)) = Z.height.half (suc j) (omega arith) in
      let cs : z.w / 2 ^ suc j ≡ 2 * (z.w / 2 ^ suc (suc j)) = Z.width.half (suc j) (omega arith) in
      let i : Found d (suc j) (x / 2) (y / 2) =
      node_tree_at d (suc j) (x / 2) (y / 2) (omega arith)
      (omega (arith, s.0), omega (arith, s.1), λ p q. s.2 (omega arith) (omega arith)) in
      let l : 2 * (x % 2) + y % 2 < 4 = omega arith in
      let t : ℕ = tree_at z d (x / 2) (y / 2) in (
        (tree_four z d t (2 * (x % 2) + y % 2) l).0 ∙ twice_row (tree_row z d t) x y i.0,
        (tree_four z d t (2 * (x % 2) + y % 2) l).1 ∙ twice_column (tree_column z d t) x y i.1,
        four_under t (span z (suc (suc j))) (span z (suc j)) (2 * (x % 2) + y % 2) l (span_quarter z Z (suc j) (omega arith)) i.2,
      )

  span_is : (k : ℕ) → span z k ≡ z.h / 2 ^ k * (z.w / 2 ^ k)
  unfolding span
  span_is k = refl

  -- tree_of and raster_of are each other's inverse.
  tree_fine : (d j q : ℕ) → j + suc d ≡ z.n → level_of z q ≡ suc j → tree_of z q ≡ tree_at z (suc d) (row z q) (column z q)
  unfolding tree_of
  tree_fine d j q e v =
      let m : depth_of z (suc j) ≡ suc d = omega arith in
      rw (v, le-leb (suc j) z.n (omega arith), m)

  tree_top : (q : ℕ) → level_of z q ≡ levels z → tree_of z q ≡ row z q * band_width z + column z q
  unfolding tree_of
  tree_top q v = rw (v, lt-leb (levels z) z.n (omega arith))

  pub tree_raster : (k t : ℕ) → 1 ≤ k → k ≤ levels z → t < level_size z k → tree_of z (raster_of z k t) ≡ t
  tree_raster zero t l m h = absurd (omega arith)
  tree_raster (suc j) t l m h = go (dec_lt j z.n)
    where
      go : Dec (j < z.n) → tree_of z (raster_of z (suc j) t) ≡ t
      go (yes f) =
          let d : ℕ = z.n - suc j in
          let e : j + suc d ≡ z.n = omega arith in
          let c : t < 3 * span z (suc j) = fine_count d j t e h in
          let p : raster_of z (suc j) t ≡ index z (tree_row z (suc d) t) (tree_column z (suc d) t) = fine_depth d j t e in
          tree_fine d j (raster_of z (suc j) t) e (raster_level (suc j) t l f h)
          ∙ ap₂ (tree_at z (suc d)) (ap (row z) p ∙ at_row (suc d) j t e c) (ap (column z) p ∙ at_column (suc d) j t e c)
          ∙ tree_at_node (suc d) j t e c
      go (no f) =
          let n : j ≡ z.n = omega arith in
          let i : level_size z (suc j) ≡ level_size z (levels z) = ap (λ (x : ℕ). level_size z (suc x)) n in
          ap (λ (x : ℕ). tree_of z (raster_of z (suc x) t)) n
          ∙ tree_top (raster_of z (levels z) t) (band_level_tree t (omega arith))
          ∙ ap₂ (λ (x y : ℕ). x * band_width z + y) (top_row t) (top_column t)
          ∙ div-add-mod' t (band_width z)

  pub raster_one : (k t u : ℕ) → 1 ≤ k → k ≤ levels z → t < level_size z k → u < level_size z k → raster_of z k t ≡ raster_of z k u → t ≡ u
  raster_one k t u l m h g e = sym (tree_raster k t l m h) ∙ ap (tree_of z) e ∙ tree_raster k u l m g

  -- and every coefficient has its node
  coefficient_stands : (j q : ℕ) → suc j ≤ z.n → level_of z q ≡ suc j → Stands j (row z q) (column z q)
  coefficient_stands j q l v =
      let w : Within z j q = over_within z j q (omega arith) in
      (w.0, w.1, λ p c. omega (arith, within_over z (suc j) q l (p, c)))

  pub raster_tree : (q : ℕ) → q < area z → (tree_of z q < level_size z (level_of z q)) × (raster_of z (level_of z q) (tree_of z q) ≡ q)
  raster_tree q h = go (level_of z q) refl (level_least z Z q h) (level_most z q)
    where
      go : (k : ℕ) → level_of z q ≡ k → 1 ≤ k → k ≤ levels z → (tree_of z q < level_size z k) × (raster_of z k (tree_of z q) ≡ q)
      go zero v l m = absurd (omega arith)
      go (suc j) v l m = cases (dec_lt j z.n)
        where
          cases : Dec (j < z.n) → (tree_of z q < level_size z (suc j)) × (raster_of z (suc j) (tree_of z q) ≡ q)
          cases (yes f) =
              let d : ℕ = z.n - suc j in
              let e : j + suc d ≡ z.n = omega arith in
              let s : Found (suc d) j (row z q) (column z q) =
              node_tree_at (suc d) j (row z q) (column z q) e (coefficient_stands j q (omega arith) v) in
              let p : tree_of z q ≡ tree_at z (suc d) (row z q) (column z q) = tree_fine d j q e v in (
                omega (arith, s.2, level_size_fine z Z (suc j) (omega arith) (omega arith)),
                ap (raster_of z (suc j)) p
                    ∙ fine_depth d j (tree_at z (suc d) (row z q) (column z q)) e
                    ∙ ap₂ (index z) s.0 s.1
                    ∙ index_place z q,
              )
          cases (no f) =
              let n : j ≡ z.n = omega arith in
              let w : Within z z.n q = over_within z z.n q (omega arith) in
              let p : tree_of z q ≡ row z q * band_width z + column z q = tree_top q (v ∙ ap suc n) in
              let b : suc (row z q) * band_width z ≤ z.h / 2 ^ z.n * band_width z = mul-le-mul w.0 (omega arith) in
              rw n (
                omega (arith, w.1, level_size_top z Z, span_is z.n),
                ap (raster_of z (levels z)) p
                    ∙ top (row z q * band_width z + column z q)
                    ∙ ap₂ (index z) (digits_div (row z q) w.1) (digits_mod (row z q) w.1)
                    ∙ index_place z q,
              )

  -- and every coefficient of the band with an odd row or column its root
  pub root_tree : (p : ℕ) → level_of z p ≡ levels z → odd (row z p) || odd (column z p) ≡ true
      → (root_of_band z p < 3 * span z (levels z)) × (root_at z (root_of_band z p) ≡ p)
  unfolding root_of_band root_at
  root_tree p v o =
      let t : z.n < level_of z p = omega arith in
      let a : apart (half_rows z) (row z p) < 2 * half_rows z = apart_lt (half_rows z) (row z p) (band_row z Z p t) in
      let b : apart (half_columns z) (column z p) < 2 * half_columns z = apart_lt (half_columns z) (column z p) (band_column z Z p t) in
      let s : Found 0 z.n (apart (half_rows z) (row z p)) (apart (half_columns z) (column z p)) =
      node_tree_at 0 z.n (apart (half_rows z) (row z p)) (apart (half_columns z) (column z p)) (omega arith) (
        omega (arith, rows_2 z Z),
        omega (arith, columns_2 z Z),
        λ x y.
            true≢false (sym o ∙ ap₂ ◌||◌ (apart_low (half_rows z) (row z p) x) (apart_low (half_columns z) (column z p) y)),
      ) in (
        s.2,
        ap₂ (λ (x y : ℕ). index z (together (half_rows z) x) (together (half_columns z) y)) s.0 s.1
            ∙ ap₂ (index z) (together_apart (half_rows z) (row z p) (band_row z Z p t)) (together_apart (half_columns z) (column z p) (band_column z Z p t))
            ∙ index_place z p,
      )

  pub tree_root_lem : (u : ℕ) → u < 3 * span z (levels z) → root_of_band z (root_at z u) ≡ u
  unfolding root_of_band
  tree_root_lem u h =
      ap₂ (tree_at z 0)
      (ap (apart (half_rows z)) (root_row u h) ∙ apart_together (half_rows z) (tree_row z 0 u))
      (ap (apart (half_columns z)) (root_column u h) ∙ apart_together (half_columns z) (tree_column z 0 u))
      ∙ tree_at_node 0 z.n u (omega arith) h
