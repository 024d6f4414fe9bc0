-- The block of a coefficient's offspring, by its row and its column: the offspring of a level 2 to N are at twice them. Those of the LL band
-- are at twice what the band's order of rows and columns becomes when the even ones are put first.
--
--   apart m i        even i go to the first m, odd i to the next m
--   together m x     and back
use Rattle.std.specs.Prelude.{◌≡◌, [], Bool, true, false, cond, ◌||◌, ◌≢◌}
use Rattle.std.proofs.Math.Path.{refl}
use Rattle.std.proofs.Common.{ap, ap₂, sym, ◌∙◌, div-add-mod'}
use Prim.Native.Nat.{ℕ, ◌+◌, ◌-◌, ◌*◌, ◌/◌, ◌%◌, ◌^◌, ◌≤◌, ◌<◌}
use native.Mathlib.Omega.{arith}
use Rattle.std.proofs.Math.Decide.{ℕ_discrete, dec_lt}
use Rattle.std.proofs.Math.Arith.{digits_div, digits_mod}
use borrow.Author.Tests.{eqb-true, eqb-false, eq-eqb, ne_eqb, lt-ltb, le-ltb}
use Rattle.rules.specs.declared.Size.{Size}
use Rattle.rules.specs.Document.Pyramid.{odd, index, row, column, within, level_of, block, offspring_ll, offspring_at, offspring_of}
use Rattle.rules.specs.Laws.Counting.Sums.{sum, is}
use Rattle.rules.proofs.Laws.Counting.Sums.{is_yes, is_no, is_count, both_yes, both_eq, both_most}
use Rattle.rules.specs.Promises.Vocabulary.{Legal}
use Rattle.rules.proofs.Laws.Offspring.Level.{within_level}
use Rattle.rules.specs.Laws.Offspring.Block.{apart, together, half_rows, half_columns, block_ll}

odd_true : (i : ℕ) → odd i ≡ true → i % 2 ≡ 1
odd_true i e = eqb-true (i % 2) 1 e

odd_false : (i : ℕ) → odd i ≡ false → i % 2 ≡ 0
odd_false i e = let d : i % 2 ≢ 1 = eqb-false (i % 2) 1 e in omega arith

module _ (m : ℕ) where
  pub apart_even : (i : ℕ) → odd i ≡ false → apart m i ≡ i / 2
  unfolding apart
  apart_even i e = rw (odd_false i e) (omega arith)

  pub apart_odd : (i : ℕ) → odd i ≡ true → apart m i ≡ i / 2 + m
  unfolding apart
  apart_odd i e = rw (odd_true i e) (omega arith)

  -- where the block of row or column i of a band of 2 m begins
  even_first : (i : ℕ) → odd i ≡ false → i / 2 * 2 ≡ 2 * apart m i
  even_first i e = omega (arith, apart_even i e)

  odd_first : (b i : ℕ) → b ≡ 2 * m → odd i ≡ true → b + i / 2 * 2 ≡ 2 * apart m i
  odd_first b i h e = omega (arith, apart_odd i e)

  pub apart_lt : (i : ℕ) → i < 2 * m → apart m i < 2 * m
  apart_lt i h = go (odd i) refl
    where
      go : (b : Bool) → odd i ≡ b → apart m i < 2 * m
      go true e = omega (arith, apart_odd i e)
      go false e = omega (arith, apart_even i e)

  pub apart_low : (i : ℕ) → apart m i < m → odd i ≡ false
  apart_low i h = go (odd i) refl
    where
      go : (b : Bool) → odd i ≡ b → odd i ≡ false
      go true e = absurd (omega (arith, apart_odd i e))
      go false e = e

  together_low : (x : ℕ) → x < m → together m x ≡ 2 * x
  unfolding together
  together_low x h = rw (lt-ltb x m h)

  together_high : (x : ℕ) → m ≤ x → together m x ≡ 2 * (x - m) + 1
  unfolding together
  together_high x h = rw (le-ltb x m h)

  pub together_lt : (x : ℕ) → x < 2 * m → together m x < 2 * m
  together_lt x h = go (dec_lt x m)
    where
      go : Dec (x < m) → together m x < 2 * m
      go (yes l) = omega (arith, together_low x l)
      go (no l) = omega (arith, together_high x (omega arith))

  together_even : (x : ℕ) → x < m → odd (together m x) ≡ false
  together_even x h = ne_eqb (together m x % 2) 1 (λ e. omega (arith, together_low x h))

  pub together_odd : (x : ℕ) → m ≤ x → odd (together m x) ≡ true
  together_odd x h = eq-eqb (together m x % 2) 1 (omega (arith, together_high x h))

  pub apart_together : (x : ℕ) → apart m (together m x) ≡ x
  apart_together x = go (dec_lt x m)
    where
      go : Dec (x < m) → apart m (together m x) ≡ x
      go (yes l) = omega (arith, apart_even (together m x) (together_even x l), together_low x l)
      go (no l) = omega (arith, apart_odd (together m x) (together_odd x (omega arith)), together_high x (omega arith))

  pub together_apart : (i : ℕ) → i < 2 * m → together m (apart m i) ≡ i
  together_apart i h = go (odd i) refl
    where
      go : (b : Bool) → odd i ≡ b → together m (apart m i) ≡ i
      go true e = omega (arith, together_high (apart m i) (omega (arith, apart_odd i e)), apart_odd i e, odd_true i e)
      go false e = omega (arith, together_low (apart m i) (omega (arith, apart_even i e)), apart_even i e, odd_false i e)

-- A row or column, and its half.
is_half : (i a : ℕ) → is i (2 * a) + is i (2 * a + 1) ≡ is (i / 2) a
is_half i a = go (ℕ_discrete a (i / 2)) (ℕ_discrete (i % 2) 0)
  where
    go : Dec (a ≡ i / 2) → Dec (i % 2 ≡ 0) → is i (2 * a) + is i (2 * a + 1) ≡ is (i / 2) a
    go (yes e) (yes f) = omega (arith, is_yes (i / 2) a e, is_yes i (2 * a) (omega arith), is_no i (2 * a + 1) (λ g. omega arith))
    go (yes e) (no f) = omega (arith, is_yes (i / 2) a e, is_no i (2 * a) (λ g. f (omega arith)), is_yes i (2 * a + 1) (omega arith))
    go (no d) x = omega (arith, is_no (i / 2) a d, is_no i (2 * a) (λ g. d (omega arith)), is_no i (2 * a + 1) (λ g. d (omega arith)))

module _ (z : Size) where
  pub row_index : (i j : ℕ) → j < z.w → row z (index z i j) ≡ i
  row_index i j h = digits_div i h

  pub column_index : (i j : ℕ) → j < z.w → column z (index z i j) ≡ j
  column_index i j h = digits_mod i h

  pub index_place : (q : ℕ) → index z (row z q) (column z q) ≡ q
  index_place q = div-add-mod' q z.w

  -- An index is its row and its column.
  pub is_index : (q i j : ℕ) → j < z.w → is q (index z i j) ≡ is (row z q) i * is (column z q) j
  is_index q i j h =
      sym (is_count _ q (index z i j) (both_most (row z q) i (column z q) j)
      (λ l. let e : (i ≡ row z q) × (j ≡ column z q) = both_eq _ _ _ _ l in ap₂ (index z) e.0 e.1 ∙ index_place q)
      (λ e. omega (arith, both_yes (row z q) i (column z q) j (sym (row_index i j h) ∙ ap (row z) e) (sym (column_index i j h) ∙ ap (column z) e))))

  pub block_count : (q a b : ℕ) → 2 * b + 1 < z.w → sum (is q) (block z (2 * a) (2 * b)) ≡ is (row z q / 2) a * is (column z q / 2) b
  unfolding sum block
  block_count q a b h =
      rw (← (is_half (row z q) a), ← (is_half (column z q) b))
      (omega (
        arith,
        is_index q (2 * a) (2 * b) (omega arith),
        is_index q (2 * a) (2 * b + 1) h,
        is_index q (2 * a + 1) (2 * b) (omega arith),
        is_index q (2 * a + 1) (2 * b + 1) h,
      ))

module _ (z : Size) (Z : Legal z) where
  pub offspring_band : (p : ℕ) → z.n < level_of z p
      → offspring_of z p ≡ cond (odd (row z p) || odd (column z p)) (block_ll z (row z p) (column z p)) []
  unfolding offspring_of offspring_at offspring_ll
  offspring_band p h = rw (within_level z z.n p (omega arith), lt-ltb z.n (level_of z p) h) (go (odd i) refl (odd j) refl)
    where
      i : ℕ
      i = row z p

      j : ℕ
      j = column z p

      rows : z.h / 2 ^ z.n ≡ 2 * half_rows z
      rows = Z.height.half z.n (omega arith)

      columns : z.w / 2 ^ z.n ≡ 2 * half_columns z
      columns = Z.width.half z.n (omega arith)

      go : (a : Bool) → odd i ≡ a → (b : Bool) → odd j ≡ b → offspring_ll z a b (i / 2 * 2) (j / 2 * 2) ≡ cond (a || b) (block_ll z i j) []
      go false e false f = refl
      go false e true f = ap₂ (block z) (even_first (half_rows z) i e) (odd_first (half_columns z) (z.w / 2 ^ z.n) j columns f)
      go true e false f = ap₂ (block z) (odd_first (half_rows z) (z.h / 2 ^ z.n) i rows e) (even_first (half_columns z) j f)
      go true e true f =
          ap₂ (block z) (odd_first (half_rows z) (z.h / 2 ^ z.n) i rows e) (odd_first (half_columns z) (z.w / 2 ^ z.n) j columns f)

  outside : (p : ℕ) → level_of z p ≤ z.n → within z z.n p ≡ false
  outside p l = within_level z z.n p (omega arith) ∙ le-ltb z.n (level_of z p) l

  pub offspring_inner : (p : ℕ) → 2 ≤ level_of z p → level_of z p ≤ z.n → offspring_of z p ≡ block z (2 * row z p) (2 * column z p)
  unfolding offspring_of offspring_at
  offspring_inner p h l =
      rw (outside p l, within_level z 1 p Z.some, lt-ltb 1 (level_of z p) (omega arith))

  pub offspring_leaf : (p : ℕ) → level_of z p ≤ 1 → offspring_of z p ≡ []
  unfolding offspring_of offspring_at
  offspring_leaf p h =
      rw (outside p (omega (arith, Z.some)), within_level z 1 p Z.some, le-ltb 1 (level_of z p) h)
