-- The number of each coefficient, and a pyramid's parts by tree numbers.
--
--   band_number z b q   tree number of coefficient q of the LL band, its row or column odd if b
--   number_of z q       tree number of coefficient q
--   tree_band z         the LL band row by row, in tree numbers
--   tree_root z x       x as a set of type A, if it has offspring
--   tree_start z        what the passes start with, in tree numbers
use Rattle.std.specs.Prelude.{◌≡◌, Bool, ◌||◌, eqb, ℤ}
use Rattle.std.proofs.Math.Path.{refl, ap, ap₂, sym}
use Rattle.std.proofs.Common.{◌∙◌, true≢false}
use mathlib.Core.List.{List, [], ◌∷◌, map}
use Rattle.std.proofs.Math.Bool.{true, false, cond}
use Prim.Native.Nat.{ℕ, zero, suc, ◌+◌, ◌-◌, ◌*◌, ◌/◌, ◌%◌, ◌≤◌, ◌<◌}
use native.Mathlib.Omega.{arith}
use Rattle.std.proofs.Math.Nat.{mul-le-mul, div-add-mod'}
use Rattle.std.proofs.Math.Decide.{dec_lt}
use Rattle.std.proofs.Math.Arith.{digits_div, digits_mod}
use borrow.Author.Tests.{le-leb, lt-leb, eqb-false}
use Rattle.rules.specs.declared.Size.{Size}
use Rattle.rules.specs.Document.Notation.{flat, if_any}
use Rattle.rules.specs.Document.Pyramid.{family, area, magnitude, negative, odd, index, row, column, levels, level_of}
use Rattle.rules.specs.Document.Passes.{typeA, Lists, band_ll, root_of, start, part_names}
use Rattle.rules.specs.Document.Layout.{coded_parts, planes_in, parts_of}
use Rattle.rules.specs.Laws.Counting.Sums.{All}
use Rattle.rules.proofs.Laws.Counting.Sums.{every_all}
use Rattle.rules.specs.Promises.Vocabulary.{Legal}
use Rattle.rules.specs.Laws.Family.Sizes.{span, level_size}
use Rattle.rules.proofs.Laws.Family.Sizes.{span_whole, span_quarter, level_size_fine}
use Rattle.rules.proofs.Laws.Offspring.Level.{level_most, level_least, level_area}
use Rattle.rules.specs.Laws.Offspring.Block.{half_rows, half_columns}
use Rattle.rules.proofs.Laws.Offspring.Block.{index_place}
use Rattle.rules.proofs.Laws.Offspring.Kin.{band_row, band_column}
use Rattle.rules.proofs.Laws.Offspring.Once.{band_level}
use Rattle.trees.specs.Places.{root_at, root_of_band, raster_of, tree_of}
use Rattle.trees.proofs.Places.{tree_raster, raster_tree, root_level, root_odd, root_tree, tree_root_lem}
use Rattle.trees.specs.Renamed.{name_entry, name_lists, name_state}
use Rattle.trees.proofs.Renamed.{map_flat, if_any_renamed, coded_parts_renamed}
use Rattle.trees.specs.Family.{tree_level}
use Rattle.trees.proofs.Family.{Lies, lies, level_same, coefficient_none, coefficient_out, span_falls, group_row, group_column, group_level}
use Rattle.trees.specs.Family.{tree_offspring, trees, group_at, in_band, coefficient_of}
use Rattle.trees.proofs.Family.{group_even, coefficient_fine, coefficient_band, group_in, root_in}
use Rattle.trees.proofs.Family.{level_at_lem, offspring_same, trees_rename}
use Rattle.trees.specs.Run.{band_number, number_of, tree_root, tree_band, tree_start}

even_half : (i : ℕ) → odd i ≡ false → 2 * (i / 2) ≡ i
even_half i e = omega (arith, eqb-false (i % 2) 1 e)

neither : (a b : Bool) → a || b ≡ false → (a ≡ false) × (b ≡ false)
neither false false h = (refl, refl)
neither false true h = (refl, h)
neither true b h = (h, absurd (true≢false h))

-- number_of, by the level
module _ (z : Size) where
  pub number_fine : (k q : ℕ) → level_of z q ≡ k → k ≤ z.n → number_of z q ≡ span z k + tree_of z q
  unfolding number_of
  number_fine k q v m = rw (v, le-leb k z.n m)

  pub number_band : (q : ℕ) → level_of z q ≡ levels z → number_of z q ≡ band_number z (odd (row z q) || odd (column z q)) q
  unfolding number_of
  number_band q v = rw (v, lt-leb (levels z) z.n (omega arith))

-- Every coefficient is that of its number.
module _ (z : Size) (Z : Legal z) where
  fine_back : (k q : ℕ) → level_of z q ≡ suc k → suc k ≤ z.n → q < area z → coefficient_of z (number_of z q) ≡ q
  fine_back k q v m h =
      let r : _ = raster_tree z Z q h in
      let x : ℕ = span z (suc k) + tree_of z q in
      let s : x < span z k =
      omega (arith, rw v at r.0, level_size_fine z Z (suc k) (omega arith) m, span_quarter z Z k (omega arith)) in
      ap (coefficient_of z) (number_fine z (suc k) q v m)
      ∙ coefficient_fine z k x m (level_at_lem z k x (omega arith) s (λ l. omega arith))
      ∙ ap (raster_of z (suc k)) (omega arith)
      ∙ rw v at r.1

  band_back : (q : ℕ) → level_of z q ≡ levels z → (b : Bool) → odd (row z q) || odd (column z q) ≡ b → coefficient_of z (band_number z b q) ≡ q
  unfolding band_number group_at span
  band_back q v true o =
      let r : _ = root_tree z Z q v o in
      let x : ℕ = span z (levels z) + root_of_band z q in
      let l : x < span z z.n = omega (arith, r.0, span_quarter z Z z.n (omega arith)) in
      coefficient_band z x (level_at_lem z z.n x (omega arith) l (λ i. absurd (omega arith)))
      ∙ root_in z x (omega arith)
      ∙ ap (root_at z) (omega arith)
      ∙ r.1
  band_back q v false o =
      let n : _ = neither (odd (row z q)) (odd (column z q)) o in
      let r : row z q / 2 < half_rows z = omega (arith, band_row z Z q (omega arith)) in
      let c : column z q / 2 < half_columns z = omega (arith, band_column z Z q (omega arith)) in
      let x : ℕ = row z q / 2 * half_columns z + column z q / 2 in
      let p : suc (row z q / 2) * half_columns z ≤ half_rows z * half_columns z = mul-le-mul r (omega arith) in
      let h : x < span z (levels z) = omega arith in
      let l : x < span z z.n = omega (arith, span_quarter z Z z.n (omega arith)) in
      coefficient_band z x (level_at_lem z z.n x (omega arith) l (λ i. absurd (omega arith)))
      ∙ group_in z x h
      ∙ ap₂ (λ (i j : ℕ). index z (2 * i) (2 * j)) (digits_div (row z q / 2) c) (digits_mod (row z q / 2) c)
      ∙ ap₂ (index z) (even_half (row z q) n.0) (even_half (column z q) n.1)
      ∙ index_place z q

  pub coefficient_number : (q : ℕ) → q < area z → coefficient_of z (number_of z q) ≡ q
  coefficient_number q h = go (level_of z q) refl (level_least z Z q h) (level_most z q)
    where
      go : (k : ℕ) → level_of z q ≡ k → 1 ≤ k → k ≤ levels z → coefficient_of z (number_of z q) ≡ q
      go zero v l m = absurd (omega arith)
      go (suc k) v l m = cases (dec_lt k z.n)
        where
          cases : Dec (k < z.n) → coefficient_of z (number_of z q) ≡ q
          cases (yes i) = fine_back k q v i h
          cases (no i) =
              let t : level_of z q ≡ levels z = omega arith in
              ap (coefficient_of z) (number_band z q t) ∙ band_back q t (odd (row z q) || odd (column z q)) refl

  -- Every number is that of its coefficient, so no two have the same.
  root_number : (u : ℕ) → u < 3 * span z (levels z) → number_of z (root_at z u) ≡ span z (levels z) + u
  unfolding band_number
  root_number u h =
      number_band z (root_at z u) (root_level z Z u h)
      ∙ ap (λ b. band_number z b (root_at z u)) (root_odd z Z u h)
      ∙ ap (λ (x : ℕ). span z (levels z) + x) (tree_root_lem z Z u h)

  group_number : (g : ℕ) → g < span z (levels z) → number_of z (group_at z g) ≡ g
  unfolding band_number
  group_number g h =
      number_band z (group_at z g) (group_level z Z g h)
      ∙ ap (λ b. band_number z b (group_at z g)) (group_even z Z g h)
      ∙ ap₂ (λ (x y : ℕ). x * half_columns z + y) (omega (arith, group_row z Z g h)) (omega (arith, group_column z Z g h))
      ∙ div-add-mod' g (half_columns z)

  pub number_coefficient : (x : ℕ) → x < area z → number_of z (coefficient_of z x) ≡ x
  unfolding Lies
  number_coefficient x h = go (tree_level z x) refl (lies z x)
    where
      band : Dec (x < span z (levels z)) → x < span z z.n → number_of z (in_band z x) ≡ x
      band (yes i) l = ap (number_of z) (group_in z x i) ∙ group_number x i
      band (no i) l =
          ap (number_of z) (root_in z x (omega arith))
          ∙ root_number (x - span z (levels z)) (omega (arith, span_quarter z Z z.n (omega arith)))
          ∙ omega arith

      go : (k : ℕ) → tree_level z x ≡ k → Lies z k x → number_of z (coefficient_of z x) ≡ x
      go zero e l = absurd (omega arith)
      go (suc k) e l = cases (dec_lt k z.n)
        where
          cases : Dec (k < z.n) → number_of z (coefficient_of z x) ≡ x
          cases (yes m) =
              let t : ℕ = x - span z (suc k) in
              let c : t < level_size z (suc k) =
              omega (arith, l.0, l.1 m, level_size_fine z Z (suc k) (omega arith) m, span_quarter z Z k (omega arith)) in
              number_fine z (suc k) (coefficient_of z x) (level_same z Z x ∙ e) m
              ∙ ap (λ (y : ℕ). span z (suc k) + y) (ap (tree_of z) (coefficient_fine z k x m e) ∙ tree_raster z Z (suc k) t (omega arith) (omega arith) c)
              ∙ omega (arith, l.1 m)
          cases (no m) =
              let n : k ≡ z.n = omega (arith, l.2) in
              let q : span z k ≡ span z z.n = ap (span z) n in
              ap (number_of z) (coefficient_band z x (e ∙ ap suc n)) ∙ band (dec_lt x (span z (levels z))) (omega (arith, l.0))

  pub coefficient_under : (x : ℕ) → (x < area z → coefficient_of z x < area z) × (coefficient_of z x < area z → x < area z)
  unfolding Lies
  coefficient_under x = go (tree_level z x) refl (lies z x)
    where
      go : (k : ℕ) → tree_level z x ≡ k → Lies z k x → (x < area z → coefficient_of z x < area z) × (coefficient_of z x < area z → x < area z)
      go zero e l = ((λ h. absurd (omega arith)), (λ h. omega (arith, coefficient_none z x e)))
      go (suc k) e l = (
        (λ h. level_area z Z (coefficient_of z x) (omega (arith, level_same z Z x))),
        (λ h. omega (arith, l.0, span_falls z 0 k (omega arith), span_whole z)),
      )

  pub coefficient_one : (x y : ℕ) → coefficient_of z x ≡ coefficient_of z y → x ≡ y
  coefficient_one x y e = go (dec_lt x (area z)) (dec_lt y (area z))
    where
      go : Dec (x < area z) → Dec (y < area z) → x ≡ y
      go (yes h) (yes g) = sym (number_coefficient x h) ∙ ap (number_of z) e ∙ number_coefficient y g
      go (yes h) (no g) = absurd (g ((coefficient_under y).1 (omega (arith, (coefficient_under x).0 h))))
      go (no h) (yes g) = absurd (h ((coefficient_under x).1 (omega (arith, (coefficient_under y).0 g))))
      go (no h) (no g) = sym (coefficient_out z Z x (omega arith)) ∙ e ∙ coefficient_out z Z y (omega arith)

  -- The number of a coefficient: its level, and that it is in the pyramid.
  pub number_level : (q : ℕ) → q < area z → tree_level z (number_of z q) ≡ level_of z q
  number_level q h = sym (level_same z Z (number_of z q)) ∙ ap (level_of z) (coefficient_number q h)

  pub number_area : (q : ℕ) → q < area z → number_of z q < area z
  number_area q h = (coefficient_under (number_of z q)).1 (omega (arith, coefficient_number q h))

  -- What the passes start with, and so every part, is that of the trees.
  names_back : (qs : List ℕ) → All (λ q. q < area z) qs → map (coefficient_of z) (map (number_of z) qs) ≡ qs
  unfolding All
  names_back [] a = refl
  names_back (q ∷ qs) a = ap₂ ◌∷◌ (coefficient_number q a.0) (names_back qs a.1)

  root_same : (x : ℕ) → root_of z (coefficient_of z x) ≡ map (name_entry (coefficient_of z)) (tree_root z x)
  unfolding root_of tree_root name_entry
  root_same x =
      ap (λ xs. if_any xs (typeA (coefficient_of z x) ∷ [])) (offspring_same z Z x) ∙ if_any_renamed (coefficient_of z) (tree_offspring z x) (typeA x)

  band_renamed : map (coefficient_of z) (tree_band z) ≡ band_ll z
  band_renamed = names_back (band_ll z) (every_all _ (band_ll z) (λ p i. level_area z Z p (omega (arith, band_level z Z p i))))

  pub roots_renamed : flat (root_of z) (band_ll z) ≡ map (name_entry (coefficient_of z)) (flat (tree_root z) (tree_band z))
  roots_renamed =
      ap (flat (root_of z)) (sym band_renamed)
      ∙ map_flat (coefficient_of z) (name_entry (coefficient_of z)) (root_of z) (tree_root z) root_same (tree_band z)

  pub start_trees : start z ≡ name_state (coefficient_of z) (tree_start z)
  unfolding start tree_start
  start_trees = λ i k. one (eqb k (levels z)) i
    where
      one : (b : Bool)
          → cond b (record { lip = band_ll z; lis = flat (root_of z) (band_ll z); lsp = [] }) (record { lip = []; lis = []; lsp = [] })
          ≡ name_lists (coefficient_of z) (cond {A = Lists} b
          (record { lip = tree_band z; lis = flat (tree_root z) (tree_band z); lsp = [] })
          (record { lip = []; lis = []; lsp = [] }))
      one true = λ i. record { lip = sym band_renamed i; lis = roots_renamed i; lsp = [] }
      one false = refl

  pub parts_of_trees : (v : List ℤ)
      → parts_of z v
      ≡ coded_parts (trees z) (λ x. magnitude v (coefficient_of z x)) (λ x. negative v (coefficient_of z x)) (part_names (levels z) (planes_in v))
      (tree_start z)
  unfolding parts_of
  parts_of_trees v =
      ap (coded_parts (family z) (magnitude v) (negative v) (part_names (levels z) (planes_in v))) start_trees
      ∙ coded_parts_renamed (coefficient_of z) (family z) (trees z) (trees_rename z Z) (magnitude v) (negative v)
      (part_names (levels z) (planes_in v)) (tree_start z)
