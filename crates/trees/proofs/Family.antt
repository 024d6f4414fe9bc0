-- One numbering for the whole pyramid, under which a pass needs no level, no width and no case: tree number x has the offspring 4 x, 4 x + 1,
-- 4 x + 2 and 4 x + 3.
--
--   node t of level k, 1 to N         span z k + t: the levels end to end, coarsest first
--   root u of the LL band             span z (N + 1) + u
--   group g's even, even coefficient  g
--
--   tree_level z x        level of tree number x, 0 outside the pyramid
--   tree_offspring z x    its offspring
--   tree_descendants z x  its descendants
--   tree_max_d z m g x     the largest of a measure m in D, over g generations
--   tree_max_l z m g x     and in L, over one more
--   trees z              the family on tree numbers
--   coefficient_of z x    the coefficient that has tree number x; outside the pyramid x itself
--   Lies z k x           x is where the tree numbers of level k are
use Rattle.std.specs.Prelude.{◌≡◌, false, ◌||◌, leb, ltb}
use Rattle.std.proofs.Math.Path.{refl, ap, ap₂, sym}
use Rattle.std.proofs.Common.{◌∙◌, arith}
use mathlib.Core.List.{[], ◌∷◌, ◌++◌, map}
use Rattle.std.proofs.Math.Bool.{cond, and-false}
use Prim.Native.Nat.{ℕ, zero, suc, ◌+◌, ◌-◌, ◌*◌, ◌/◌, ◌%◌, ◌^◌, ◌≤◌, ◌<◌, max}
use Rattle.std.proofs.Math.Nat.{mul-le-mul}
use Rattle.std.proofs.Math.Decide.{dec_lt, ℕ_discrete}
use Rattle.std.proofs.Math.Pow.{shr_le}
use borrow.Author.Tests.{le-leb, lt-leb, lt-ltb, le-ltb, ne_eqb}
use Rattle.rules.specs.declared.Size.{Size}
use Rattle.rules.specs.Document.Notation.{flat, greatest}
use Rattle.rules.specs.Document.Pyramid.{family, area, odd, row, column, levels, level_of, offspring_of, generations, descendants_of, max_d, max_l}
use Rattle.rules.specs.Promises.Vocabulary.{Legal}
use Rattle.rules.specs.Laws.Family.Sizes.{span}
use Rattle.rules.proofs.Laws.Family.Sizes.{span_whole, span_quarter, side_falls, level_size_fine}
use Rattle.rules.proofs.Laws.Offspring.Level.{level_area}
use Rattle.rules.specs.Laws.Offspring.Block.{half_columns, block_ll}
use Rattle.rules.proofs.Laws.Offspring.Block.{row_index, column_index, offspring_band, offspring_leaf}
use Rattle.rules.proofs.Laws.Offspring.Kin.{rows_2, columns_2}
use Rattle.trees.specs.Places.{four_of, band_width, root_at, raster_of}
use Rattle.trees.proofs.Places.{group_row_lt, group_column_lt, raster_level, offspring_tree, root_level}
use Rattle.trees.proofs.Places.{offspring_root, in_band_lem}
use Rattle.trees.specs.Renamed.{Renames}
use Rattle.trees.proofs.Renamed.{map-append, map_flat, map_greatest}
use Rattle.trees.specs.Family.{tree_up_to, tree_level, tree_offspring, tree_generations, tree_descendants, tree_max_d, tree_max_l, trees, group_at}
use Rattle.trees.specs.Family.{in_band, coefficient_at, coefficient_of}

-- Where the numbers of a level lie.
module _ (z : Size) where
  unfoldable pub Lies : ℕ → ℕ → Type 0
  Lies zero x = area z ≤ x
  Lies (suc k) x = (x < span z k) × (suc k ≤ z.n → span z (suc k) ≤ x) × (k ≤ z.n)

  pub span_falls : (j k : ℕ) → j ≤ k → span z k ≤ span z j
  unfolding span
  span_falls j k h = mul-le-mul (side_falls z.h j k h) (side_falls z.w j k h)

  up_to_lies : (f x : ℕ) → f ≤ levels z → (f ≤ z.n → span z f ≤ x) → Lies (tree_up_to z f x) x
  unfolding tree_up_to Lies
  up_to_lies zero x m g = omega (arith, g (omega arith), span_whole z)
  up_to_lies (suc f) x m g = go (dec_lt x (span z f)) (up_to_lies f x (omega arith))
    where
      go : Dec (x < span z f) → ((f ≤ z.n → span z f ≤ x) → Lies (tree_up_to z f x) x)
          → Lies (cond (ltb x (span z f)) (suc f) (tree_up_to z f x)) x
      go (yes h) r = rw (lt-ltb x (span z f) h) (h, g, omega arith)
      go (no h) r = rw (le-ltb x (span z f) (omega arith)) (r (λ l. omega arith))

  pub lies : (x : ℕ) → Lies (tree_level z x) x
  unfolding tree_level
  lies x = up_to_lies (levels z) x (omega arith) (λ l. absurd (omega arith))

  up_to_at : (f k x : ℕ) → k < f → f ≤ levels z → x < span z k → (suc k ≤ z.n → span z (suc k) ≤ x) → tree_up_to z f x ≡ suc k
  unfolding tree_up_to
  up_to_at zero k x l m h g = absurd (omega arith)
  up_to_at (suc f) k x l m h g = go (ℕ_discrete k f) (λ i. up_to_at f k x i (omega arith) h g)
    where
      go : Dec (k ≡ f) → (k < f → tree_up_to z f x ≡ suc k) → cond (ltb x (span z f)) (suc f) (tree_up_to z f x) ≡ suc k
      go (yes e) r = rw (← e, lt-ltb x (span z k) h)
      go (no d) r =
          rw (le-ltb x (span z f) (omega (arith, g (omega arith), span_falls (suc k) f (omega arith)))) (r (omega arith))

  pub level_at_lem : (k x : ℕ) → k ≤ z.n → x < span z k → (suc k ≤ z.n → span z (suc k) ≤ x) → tree_level z x ≡ suc k
  unfolding tree_level
  level_at_lem k x m h g = up_to_at (levels z) k x (omega arith) (omega arith) h g

  -- the coefficient of a number, by its level
  pub coefficient_fine : (k x : ℕ) → suc k ≤ z.n → tree_level z x ≡ suc k → coefficient_of z x ≡ raster_of z (suc k) (x - span z (suc k))
  unfolding coefficient_of coefficient_at
  coefficient_fine k x l e = rw (e, lt-ltb k z.n l)

  pub coefficient_band : (x : ℕ) → tree_level z x ≡ levels z → coefficient_of z x ≡ in_band z x
  unfolding coefficient_of coefficient_at
  coefficient_band x e = rw (e, le-ltb z.n z.n (omega arith))

  pub coefficient_none : (x : ℕ) → tree_level z x ≡ 0 → coefficient_of z x ≡ x
  unfolding coefficient_of coefficient_at
  coefficient_none x e = rw e

  pub group_in : (x : ℕ) → x < span z (levels z) → in_band z x ≡ group_at z x
  unfolding in_band
  group_in x h = rw (lt-ltb x (span z (levels z)) h)

  pub root_in : (x : ℕ) → span z (levels z) ≤ x → in_band z x ≡ root_at z (x - span z (levels z))
  unfolding in_band
  root_in x h = rw (le-ltb x (span z (levels z)) h)

  pub tree_offspring_some : (x : ℕ) → span z (levels z) ≤ x → x < span z 1 → tree_offspring z x ≡ four_of (λ y. y) x
  unfolding tree_offspring
  tree_offspring_some x h l = rw (le-leb (span z (levels z)) x h, lt-ltb x (span z 1) l)

  pub tree_offspring_none : (x : ℕ) → span z 1 ≤ x → tree_offspring z x ≡ []
  unfolding tree_offspring
  tree_offspring_none x h = rw (le-ltb x (span z 1) h) (ap (λ b. cond b (four_of (λ y. y) x) []) (and-false (leb (span z (levels z)) x)))

  pub tree_offspring_group : (x : ℕ) → x < span z (levels z) → tree_offspring z x ≡ []
  unfolding tree_offspring
  tree_offspring_group x h = rw (lt-leb (span z (levels z)) x h)

module _ (z : Size) (Z : Legal z) where
  -- The even, even coefficients of the band.
  module _ (g : ℕ) (h : g < span z (levels z)) where
    column_within : 2 * (g % half_columns z) < band_width z
    column_within = omega (arith, columns_2 z Z, group_column_lt z Z g)

    row_within : 2 * (g / half_columns z) < z.h / 2 ^ z.n
    row_within = omega (arith, rows_2 z Z, group_row_lt z Z g h)

    pub group_row : row z (group_at z g) ≡ 2 * (g / half_columns z)
    unfolding group_at
    group_row = row_index z _ _ (omega (arith, column_within, shr_le z.w z.n))

    pub group_column : column z (group_at z g) ≡ 2 * (g % half_columns z)
    unfolding group_at
    group_column = column_index z _ _ (omega (arith, column_within, shr_le z.w z.n))

    pub group_level : level_of z (group_at z g) ≡ levels z
    group_level = in_band_lem z (group_at z g) (omega (arith, group_row, row_within)) (omega (arith, group_column, column_within))

    pub group_even : odd (row z (group_at z g)) || odd (column z (group_at z g)) ≡ false
    group_even =
        let r : odd (row z (group_at z g)) ≡ false = ne_eqb (row z (group_at z g) % 2) 1 (λ e. omega (arith, group_row)) in
        let c : odd (column z (group_at z g)) ≡ false = ne_eqb (column z (group_at z g) % 2) 1 (λ e. omega (arith, group_column)) in
        ap₂ ◌||◌ r c

    group_offspring : offspring_of z (group_at z g) ≡ []
    group_offspring =
        offspring_band z Z (group_at z g) (omega (arith, group_level))
        ∙ ap (λ b. cond b (block_ll z (row z (group_at z g)) (column z (group_at z g))) []) group_even

  pub coefficient_out : (x : ℕ) → area z ≤ x → coefficient_of z x ≡ x
  unfolding Lies
  coefficient_out x h = go (tree_level z x) refl (lies z x)
    where
      go : (k : ℕ) → tree_level z x ≡ k → Lies z k x → coefficient_of z x ≡ x
      go zero e l = coefficient_none z x e
      go (suc k) e l = absurd (omega (arith, l.0, span_falls z 0 k (omega arith), span_whole z))

  -- Levels are the same.
  pub level_same : (x : ℕ) → level_of z (coefficient_of z x) ≡ tree_level z x
  unfolding Lies
  level_same x = go (tree_level z x) refl (lies z x)
    where
      go : (k : ℕ) → tree_level z x ≡ k → Lies z k x → level_of z (coefficient_of z x) ≡ k
      go zero e l = ap (level_of z) (coefficient_none z x e) ∙ none (level_of z x) refl
        where
          none : (m : ℕ) → level_of z x ≡ m → level_of z x ≡ 0
          none zero v = v
          none (suc m) v = absurd (omega (arith, level_area z Z x (omega arith)))
      go (suc k) e l = cases (dec_lt k z.n) (dec_lt x (span z (levels z)))
        where
          cases : Dec (k < z.n) → Dec (x < span z (levels z)) → level_of z (coefficient_of z x) ≡ suc k
          cases (yes m) d =
              ap (level_of z) (coefficient_fine z k x m e)
              ∙ raster_level z Z (suc k) (x - span z (suc k)) (omega arith) m
              (omega (arith, l.0, l.1 m, level_size_fine z Z (suc k) (omega arith) m, span_quarter z Z k (omega arith)))
          cases (no m) d =
              let n : k ≡ z.n = omega (arith, l.2) in
              ap (level_of z) (coefficient_band z x (e ∙ ap suc n)) ∙ band d ∙ ap suc (sym n)
            where
              band : Dec (x < span z (levels z)) → level_of z (in_band z x) ≡ levels z
              band (yes h) = ap (level_of z) (group_in z x h) ∙ group_level x h
              band (no h) =
                  let q : span z k ≡ span z z.n = ap (span z) (omega (arith, l.2)) in
                  ap (level_of z) (root_in z x (omega arith))
                  ∙ root_level z Z (x - span z (levels z)) (omega (arith, l.0, span_quarter z Z z.n (omega arith)))

  -- Offspring are the same: the numbers under x are the nodes under its coefficient.
  module _ (k x : ℕ) (m : suc k ≤ z.n) (h : span z (suc (suc k)) ≤ x) (l : x < span z (suc k)) where
    number_under : (f y : ℕ) → f < 4 → y ≡ 4 * x + f → (u : ℕ) → u ≡ 4 * (x - span z (suc (suc k))) + f
        → raster_of z (suc k) u ≡ coefficient_of z y
    number_under f y i e u g =
        let a : span z k ≡ 4 * span z (suc k) = span_quarter z Z k (omega arith) in
        let b : span z (suc k) ≡ 4 * span z (suc (suc k)) = span_quarter z Z (suc k) m in
        ap (raster_of z (suc k)) (omega arith)
        ∙ sym (coefficient_fine z k y m (level_at_lem z k y (omega arith) (omega arith) (λ j. omega arith)))

    nodes_under : four_of (raster_of z (suc k)) (x - span z (suc (suc k))) ≡ map (coefficient_of z) (four_of (λ y. y) x)
    nodes_under =
        λ i.
        number_under 0 (4 * x) (omega arith) (omega arith) (4 * t) (omega arith) i
        ∷ number_under 1 (4 * x + 1) (omega arith) refl (4 * t + 1) refl i
        ∷ number_under 2 (4 * x + 2) (omega arith) refl (4 * t + 2) refl i
        ∷ number_under 3 (4 * x + 3) (omega arith) refl (4 * t + 3) refl i
        ∷ []
      where
        t : ℕ
        t = x - span z (suc (suc k))

    under_some : tree_offspring z x ≡ four_of (λ y. y) x
    under_some =
        tree_offspring_some z x (omega (arith, span_falls z (suc (suc k)) (levels z) (omega arith))) (omega (arith, span_falls z 1 (suc k) (omega arith)))

  pub offspring_same : (x : ℕ) → offspring_of z (coefficient_of z x) ≡ map (coefficient_of z) (tree_offspring z x)
  unfolding Lies
  offspring_same x = go (tree_level z x) refl (lies z x)
    where
      leaf : span z 1 ≤ x → tree_level z x ≤ 1 → offspring_of z (coefficient_of z x) ≡ map (coefficient_of z) (tree_offspring z x)
      leaf h l =
          offspring_leaf z Z (coefficient_of z x) (omega (arith, level_same x)) ∙ sym (ap (map (coefficient_of z)) (tree_offspring_none z x h))

      band : tree_level z x ≡ levels z → x < span z z.n → Dec (x < span z (levels z))
          → offspring_of z (coefficient_of z x) ≡ map (coefficient_of z) (tree_offspring z x)
      band e l (yes h) =
          ap (offspring_of z) (coefficient_band z x e ∙ group_in z x h)
          ∙ group_offspring x h
          ∙ sym (ap (map (coefficient_of z)) (tree_offspring_group z x h))
      band e l (no h) =
          let n : suc (z.n - 1) ≡ z.n = omega (arith, Z.some) in
          let a : span z (suc (suc (z.n - 1))) ≡ span z (levels z) = ap (λ (y : ℕ). span z (suc y)) n in
          let b : span z (suc (z.n - 1)) ≡ span z z.n = ap (span z) n in
          ap (offspring_of z) (coefficient_band z x e ∙ root_in z x (omega arith))
          ∙ offspring_root z Z (x - span z (levels z)) (omega (arith, span_quarter z Z z.n (omega arith)))
          ∙ ap₂ (λ (j u : ℕ). four_of (raster_of z j) u) (sym n) (ap (λ (y : ℕ). x - y) (sym a))
          ∙ nodes_under (z.n - 1) x (omega arith) (omega arith) (omega arith)
          ∙ sym (ap (map (coefficient_of z)) (under_some (z.n - 1) x (omega arith) (omega arith) (omega arith)))

      go : (k : ℕ) → tree_level z x ≡ k → Lies z k x → offspring_of z (coefficient_of z x) ≡ map (coefficient_of z) (tree_offspring z x)
      go zero e l = leaf (omega (arith, span_falls z 0 1 (omega arith), span_whole z)) (omega arith)
      go (suc zero) e l = leaf (l.1 Z.some) (omega arith)
      go (suc (suc k)) e l = cases (dec_lt (suc k) z.n)
        where
          cases : Dec (suc k < z.n) → offspring_of z (coefficient_of z x) ≡ map (coefficient_of z) (tree_offspring z x)
          cases (yes m) =
              ap (offspring_of z) (coefficient_fine z (suc k) x m e)
              ∙ offspring_tree z Z (suc k) (x - span z (suc (suc k))) (omega arith) m
              (omega (arith, l.0, l.1 m, level_size_fine z Z (suc (suc k)) (omega arith) m, span_quarter z Z (suc k) (omega arith)))
              ∙ nodes_under k x (omega arith) (l.1 m) l.0
              ∙ sym (ap (map (coefficient_of z)) (under_some k x (omega arith) (l.1 m) l.0))
          cases (no m) =
              let n : suc k ≡ z.n = omega (arith, l.2) in
              let q : span z (suc k) ≡ span z z.n = ap (span z) n in
              band (e ∙ ap suc n) (omega (arith, l.0)) (dec_lt x (span z (levels z)))

  pub generations_same : (g x : ℕ) → generations z g (coefficient_of z x) ≡ map (coefficient_of z) (tree_generations z g x)
  unfolding generations tree_generations
  generations_same zero x = refl
  generations_same (suc g) x =
      ap₂ ◌++◌ (offspring_same x)
      (ap (flat (generations z g)) (offspring_same x)
      ∙ map_flat (coefficient_of z) (coefficient_of z) (generations z g) (tree_generations z g) (generations_same g) (tree_offspring z x))
      ∙ sym (map-append (coefficient_of z) (tree_offspring z x) (flat (tree_generations z g) (tree_offspring z x)))

  pub descendants_same : (x : ℕ) → descendants_of z (coefficient_of z x) ≡ map (coefficient_of z) (tree_descendants z x)
  unfolding descendants_of tree_descendants
  descendants_same x =
      ap (λ (g : ℕ). generations z g (coefficient_of z x)) (level_same x) ∙ generations_same (tree_level z x) x

  -- Document 01's family is the family on tree numbers, renamed.
  pub trees_rename : Renames (coefficient_of z) (family z) (trees z)
  trees_rename = record { offspring = offspring_same; descendants = descendants_same; level = level_same }

  -- Maxima are the same, over any measure.
  module _ (m : ℕ → ℕ) where
    under_same : (u v : ℕ → ℕ) → ((x : ℕ) → u (coefficient_of z x) ≡ v x) → (x : ℕ)
        → greatest u (offspring_of z (coefficient_of z x)) ≡ greatest v (tree_offspring z x)
    under_same u v e x =
        ap (greatest u) (offspring_same x) ∙ map_greatest (coefficient_of z) u v e (tree_offspring z x)

    pub max_d_same : (g x : ℕ) → max_d z m g (coefficient_of z x) ≡ tree_max_d z (λ y. m (coefficient_of z y)) g x
    unfolding max_d tree_max_d
    max_d_same zero x = refl
    max_d_same (suc g) x =
        ap₂ max (under_same m (λ y. m (coefficient_of z y)) (λ y. refl) x)
        (under_same (max_d z m g) (tree_max_d z (λ y. m (coefficient_of z y)) g) (max_d_same g) x)

    pub max_l_same : (g x : ℕ) → max_l z m g (coefficient_of z x) ≡ tree_max_l z (λ y. m (coefficient_of z y)) g x
    unfolding max_l tree_max_l
    max_l_same g x = under_same (max_d z m g) (tree_max_d z (λ y. m (coefficient_of z y)) g) (max_d_same g) x
