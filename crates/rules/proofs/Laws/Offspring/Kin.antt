-- Who is whose offspring, by rows and columns: each offspring once, in the pyramid, and one level under its parent.
use Rattle.std.specs.Prelude.{◌≡◌, refl, Bool, true, false, ◌||◌, ℕ, suc, ◌-◌, ◌*◌, ◌/◌, ◌^◌, ◌≤◌, ◌<◌}
use Rattle.std.proofs.Common.{sym, ◌∙◌, true≢false, arith}
use Rattle.std.proofs.Math.Decide.{dec_lt, dec_le}
use Rattle.std.proofs.lemmas.Nat.{shr_le}
use Rattle.rules.specs.declared.Size.{Size}
use Rattle.rules.specs.Document.Pyramid.{area, odd, row, column, level_of, offspring_of}
use Rattle.rules.specs.Laws.Counting.Sums.{sum, is, ◌∈◌}
use Rattle.rules.proofs.Laws.Counting.Sums.{both_yes, both_eq, both_most}
use Rattle.rules.proofs.Laws.Family.Sizes.{half_twice}
use Rattle.rules.specs.Promises.Vocabulary.{Legal}
use Rattle.rules.specs.Laws.Offspring.Level.{Within}
use Rattle.rules.proofs.Laws.Offspring.Level.{level_most, over_within, within_over, outside_level, row_area}
use Rattle.rules.specs.Laws.Offspring.Block.{apart, half_rows, half_columns}
use Rattle.rules.proofs.Laws.Offspring.Block.{apart_lt, apart_low, block_count, offspring_band, offspring_inner}
use Rattle.rules.proofs.Laws.Offspring.Block.{offspring_leaf}
use Rattle.rules.specs.Laws.Offspring.Kin.{Kin, band, inner}

module _ (z : Size) (Z : Legal z) where
  pub rows_2 : z.h / 2 ^ z.n ≡ 2 * half_rows z
  rows_2 = Z.height.half z.n (omega arith)

  pub columns_2 : z.w / 2 ^ z.n ≡ 2 * half_columns z
  columns_2 = Z.width.half z.n (omega arith)

  pub rows_4 : z.h / 2 ^ (z.n - 1) ≡ 4 * half_rows z
  rows_4 = half_twice z.n z.h Z.height Z.some

  pub columns_4 : z.w / 2 ^ (z.n - 1) ≡ 4 * half_columns z
  columns_4 = half_twice z.n z.w Z.width Z.some

  -- How often q is an offspring of p.
  module _ (p : ℕ) (top : z.n < level_of z p) where
    pub band_row : row z p < 2 * half_rows z
    band_row = omega (arith, (over_within z z.n p top).0, rows_2)

    pub band_column : column z p < 2 * half_columns z
    band_column = omega (arith, (over_within z z.n p top).1, columns_2)

    band_some : (q : ℕ) → odd (row z p) || odd (column z p) ≡ true
        → sum (is q) (offspring_of z p) ≡ is (row z q / 2) (apart (half_rows z) (row z p)) * is (column z q / 2) (apart (half_columns z) (column z p))
    band_some q o =
        rw (offspring_band z Z p top, o)
        (block_count z q _ _ (omega (arith, apart_lt (half_columns z) (column z p) band_column, columns_4, shr_le z.w (z.n - 1))))

    band_none : (q : ℕ) → odd (row z p) || odd (column z p) ≡ false → sum (is q) (offspring_of z p) ≡ 0
    unfolding sum
    band_none q o = rw (offspring_band z Z p top, o)

  inner_some : (p q : ℕ) → 2 ≤ level_of z p → level_of z p ≤ z.n
      → sum (is q) (offspring_of z p) ≡ is (row z q / 2) (row z p) * is (column z q / 2) (column z p)
  inner_some p q s l =
      rw (offspring_inner z Z p s l)
      (block_count z q (row z p) (column z p) (omega (arith, (over_within z 1 p (omega arith)).1, Z.width.half 0 (omega arith), shr_le z.w 0)))

  leaf_none : (p q : ℕ) → level_of z p ≤ 1 → sum (is q) (offspring_of z p) ≡ 0
  unfolding sum
  leaf_none p q h = rw (offspring_leaf z Z p h)

  pub kin_offspring : (p q : ℕ) → Kin z p q → q ∈ offspring_of z p
  kin_offspring p q (band t o a b) = omega (arith, band_some p t q o, both_yes _ _ _ _ a b)
  kin_offspring p q (inner s l a b) = omega (arith, inner_some p q s l, both_yes _ _ _ _ a b)

  -- Once at most, and then by kin.
  pub offspring_kin : (p q : ℕ) → (sum (is q) (offspring_of z p) ≤ 1) × (q ∈ offspring_of z p → Kin z p q)
  offspring_kin p q = go (dec_lt z.n (level_of z p)) (dec_le 2 (level_of z p))
    where
      top : z.n < level_of z p → (b : Bool) → odd (row z p) || odd (column z p) ≡ b
          → (sum (is q) (offspring_of z p) ≤ 1) × (q ∈ offspring_of z p → Kin z p q)
      top t true o =
          rw (band_some p t q o)
          (both_most _ _ _ _, (λ i. let e : _ = both_eq (row z q / 2) _ (column z q / 2) _ i in band t o e.0 e.1))
      top t false o = rw (band_none p t q o) (omega arith, (λ i. absurd (omega arith)))

      go : Dec (z.n < level_of z p) → Dec (2 ≤ level_of z p) → (sum (is q) (offspring_of z p) ≤ 1) × (q ∈ offspring_of z p → Kin z p q)
      go (yes t) x = top t (odd (row z p) || odd (column z p)) refl
      go (no t) (yes s) =
          rw (inner_some p q s (omega arith))
          (both_most _ _ _ _, (λ i. let e : _ = both_eq (row z q / 2) _ (column z q / 2) _ i in inner s (omega arith) e.0 e.1))
      go (no t) (no s) = rw (leaf_none p q (omega arith)) (omega arith, (λ i. absurd (omega arith)))

  -- A coefficient at half of q's row and column lies within one halving more.
  pub halves : (p q : ℕ) → row z p ≡ row z q / 2 → column z p ≡ column z q / 2 → (k : ℕ) → k ≤ z.n
      → (Within z (suc k) p → Within z k q) × (Within z k q → Within z (suc k) p)
  halves p q a b k l =
      let r : z.h / 2 ^ k ≡ 2 * (z.h / 2 ^ suc k) = Z.height.half k l in
      let c : z.w / 2 ^ k ≡ 2 * (z.w / 2 ^ suc k) = Z.width.half k l in
      ((λ w. (omega (arith, w.0), omega (arith, w.1))), (λ w. (omega (arith, w.0), omega (arith, w.1))))

  -- An offspring is in the pyramid, one level under its parent.
  pub kin_area : (p q : ℕ) → Kin z p q → q < area z
  kin_area p q (band t o a b) =
      row_area z Z q (omega (arith, apart_lt (half_rows z) (row z p) (band_row p t), rows_4, shr_le z.h (z.n - 1)))
  kin_area p q (inner s l a b) = row_area z Z q (omega (arith, (over_within z 1 p (omega arith)).0, Z.height.half 0 (omega arith), shr_le z.h 0))

  pub kin_level : (p q : ℕ) → Kin z p q → suc (level_of z q) ≡ level_of z p
  kin_level p q (band t o a b) = omega (arith, level_most z p, over, outside_level z z.n q outside)
    where
      over : z.n - 1 < level_of z q
      over =
          let r : apart (half_rows z) (row z p) < 2 * half_rows z = apart_lt (half_rows z) (row z p) (band_row p t) in
          let c : apart (half_columns z) (column z p) < 2 * half_columns z = apart_lt (half_columns z) (column z p) (band_column p t) in
          within_over z (z.n - 1) q (omega arith) (omega (arith, rows_4), omega (arith, columns_4))

      outside : Within z z.n q → ⊥
      outside w =
          let e : odd (row z p) ≡ false = apart_low (half_rows z) (row z p) (omega (arith, w.0, rows_2)) in
          let f : odd (column z p) ≡ false = apart_low (half_columns z) (column z p) (omega (arith, w.1, columns_2)) in
          true≢false (sym o ∙ rw (e, f))
  kin_level p q (inner s l a b) = go (level_of z p - 2) (omega arith)
    where
      go : (m : ℕ) → level_of z p ≡ suc (suc m) → suc (level_of z q) ≡ level_of z p
      go m e =
          omega (
            arith,
            within_over z m q (omega arith) ((halves p q a b m (omega arith)).0 (over_within z (suc m) p (omega arith))),
            outside_level z (suc m) q (λ w. omega (arith, within_over z (suc (suc m)) p (omega arith) ((halves p q a b (suc m) (omega arith)).1 w))),
          )

  pub offspring_area : (p q : ℕ) → q ∈ offspring_of z p → q < area z
  offspring_area p q i = kin_area p q ((offspring_kin p q).1 i)

  pub offspring_level : (p q : ℕ) → q ∈ offspring_of z p → suc (level_of z q) ≡ level_of z p
  offspring_level p q i = kin_level p q ((offspring_kin p q).1 i)
