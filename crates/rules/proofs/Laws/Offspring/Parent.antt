-- The parent: a coefficient outside the LL band is the offspring of its parent alone, once.
use Rattle.std.specs.Prelude.{◌≡◌, true, ◌||◌, ℕ, suc, ◌-◌, ◌*◌, ◌/◌, ◌≤◌, ◌<◌}
use Rattle.std.proofs.Math.Path.{refl}
use Rattle.std.proofs.Common.{ap, ap₂, sym, ◌∙◌, arith}
use Rattle.std.proofs.Math.Bool.{or-true}
use Rattle.std.proofs.Math.Decide.{ℕ_discrete, dec_lt}
use Rattle.std.proofs.lemmas.Nat.{shr_le}
use borrow.Author.Tests.{eq-eqb, ne_eqb}
use Rattle.rules.specs.declared.Size.{Size}
use Rattle.rules.specs.Document.Pyramid.{area, odd, index, row, column, level_of, offspring_of}
use Rattle.rules.specs.Laws.Counting.Sums.{sum, is}
use Rattle.rules.proofs.Laws.Counting.Sums.{is_count}
use Rattle.rules.specs.Promises.Vocabulary.{Legal}
use Rattle.rules.specs.Laws.Offspring.Level.{Within}
use Rattle.rules.proofs.Laws.Offspring.Level.{level_most, over_within, within_over, outside_level, column_lt, row_lt, level_area}
use Rattle.rules.specs.Laws.Offspring.Block.{apart, together}
use Rattle.rules.proofs.Laws.Offspring.Block.{together_lt, together_odd, apart_together, together_apart, row_index}
use Rattle.rules.specs.Laws.Offspring.Block.{half_rows, half_columns}
use Rattle.rules.proofs.Laws.Offspring.Block.{column_index, index_place}
use Rattle.rules.specs.Laws.Offspring.Kin.{Kin, band, inner}
use Rattle.rules.proofs.Laws.Offspring.Kin.{rows_2, columns_2, rows_4, columns_4, band_row, band_column, halves, kin_offspring}
use Rattle.rules.proofs.Laws.Offspring.Kin.{offspring_kin, kin_level}
use Rattle.rules.specs.Laws.Offspring.Parent.{parent}

module _ (z : Size) (Z : Legal z) where
  kin_parent : (p q : ℕ) → Kin z p q → p ≡ parent z q
  unfolding parent
  kin_parent p q (band t o a b) =
      let e : level_of z q ≡ z.n = omega (arith, kin_level z Z p q (band t o a b), level_most z p) in
      rw (
        eq-eqb (level_of z q) z.n e,
        ← a,
        ← b,
        together_apart (half_rows z) (row z p) (band_row z Z p t),
        together_apart (half_columns z) (column z p) (band_column z Z p t),
      ) (sym (index_place z p))
  kin_parent p q (inner s l a b) =
      rw (ne_eqb (level_of z q) z.n (λ e. omega (arith, kin_level z Z p q (inner s l a b))), ← a, ← b) (sym (index_place z p))

  -- The parent has q as an offspring: one in the LL band, and one in the levels under it.
  band_parent : (q i j : ℕ) → level_of z q ≡ z.n → row z q / 2 ≡ i → column z q / 2 ≡ j
      → Kin z (index z (together (half_rows z) i) (together (half_columns z) j)) q
  band_parent q i j e f g =
      let w : Within z (z.n - 1) q = over_within z (z.n - 1) q (omega (arith, Z.some)) in
      let a : together (half_rows z) i < 2 * half_rows z = together_lt (half_rows z) i (omega (arith, w.0, rows_4 z Z)) in
      let b : together (half_columns z) j < 2 * half_columns z = together_lt (half_columns z) j (omega (arith, w.1, columns_4 z Z)) in
      let c : together (half_columns z) j < z.w = omega (arith, columns_2 z Z, shr_le z.w z.n) in
      let p : ℕ = index z (together (half_rows z) i) (together (half_columns z) j) in
      let r : row z p ≡ together (half_rows z) i = row_index z _ _ c in
      let s : column z p ≡ together (half_columns z) j = column_index z _ _ c in
      band (within_over z z.n p (omega arith) (omega (arith, rows_2 z Z), omega (arith, columns_2 z Z)))
      (ap₂ ◌||◌ (ap odd r) (ap odd s) ∙ one_odd (dec_lt i (half_rows z)) (dec_lt j (half_columns z)))
      (ap (apart (half_rows z)) r ∙ apart_together (half_rows z) i ∙ sym f)
      (ap (apart (half_columns z)) s ∙ apart_together (half_columns z) j ∙ sym g)
    where
      one_odd : Dec (i < half_rows z) → Dec (j < half_columns z) → odd (together (half_rows z) i) || odd (together (half_columns z) j) ≡ true
      one_odd (no d) m = rw (together_odd (half_rows z) i (omega arith))
      one_odd (yes l) (no d) = rw (together_odd (half_columns z) j (omega arith)) (or-true (odd (together (half_rows z) i)))
      one_odd (yes l) (yes m) = absurd (omega (arith, within_over z z.n q (omega arith) (omega (arith, rows_2 z Z), omega (arith, columns_2 z Z))))

  inner_parent : (q : ℕ) → q < area z → level_of z q < z.n → Kin z (index z (row z q / 2) (column z q / 2)) q
  inner_parent q v h =
      let c : column z q / 2 < z.w = omega (arith, column_lt z Z q) in
      let p : ℕ = index z (row z q / 2) (column z q / 2) in
      let r : row z p ≡ row z q / 2 = row_index z _ _ c in
      let s : column z p ≡ column z q / 2 = column_index z _ _ c in
      let k : suc (z.n - 1) ≡ z.n = omega (arith, Z.some) in
      inner
      (within_over z 1 p Z.some ((halves z Z p q r s 0 (omega arith)).1 (omega (arith, row_lt z Z q v), omega (arith, column_lt z Z q))))
      (outside_level z z.n p (λ w.
      omega (arith, within_over z (z.n - 1) q (omega arith) ((halves z Z p q r s (z.n - 1) (omega arith)).0 (rw k w)))))
      r s

  parent_kin : (q : ℕ) → q < area z → level_of z q ≤ z.n → Kin z (parent z q) q
  unfolding parent
  parent_kin q v l = go (ℕ_discrete (level_of z q) z.n)
    where
      go : Dec (level_of z q ≡ z.n) → Kin z (parent z q) q
      go (yes e) = rw (eq-eqb (level_of z q) z.n e) (band_parent q (row z q / 2) (column z q / 2) e refl refl)
      go (no d) = rw (ne_eqb (level_of z q) z.n d) (inner_parent q v (omega arith))

  pub parent_only : (q : ℕ) → q < area z → level_of z q ≤ z.n → (p : ℕ) → sum (is q) (offspring_of z p) ≡ is (parent z q) p
  parent_only q v l p =
      is_count (sum (is q) (offspring_of z p)) (parent z q) p (offspring_kin z Z p q).0 (λ i. kin_parent p q ((offspring_kin z Z p q).1 i))
      (λ e. rw e (kin_offspring z Z (parent z q) q (parent_kin q v l)))

  pub parent_level : (q : ℕ) → q < area z → level_of z q ≤ z.n → level_of z (parent z q) ≡ suc (level_of z q)
  parent_level q v l = sym (kin_level z Z (parent z q) q (parent_kin q v l))

  pub parent_area : (q : ℕ) → q < area z → level_of z q ≤ z.n → parent z q < area z
  parent_area q v l = level_area z Z (parent z q) (omega (arith, parent_level q v l))
