-- The LL band: the tree number at a row and a column, and the band's coefficients row by row.
use mathlib.Core.Path.{◌≡◌, refl, sym, ap, ap₂, ◌∙◌}
use mathlib.Core.Bool.{Bool, true, false, ◌||◌}
use Prim.Native.Nat.{ℕ, zero, suc, ◌+◌, ◌-◌, ◌*◌, ◌/◌, ◌%◌, ◌^◌, ◌≤◌, ◌<◌}
use native.Mathlib.Omega.{arith}
use native.Mathlib.Nat.{mul-le-mul}
use native.Mathlib.Numerals.{add-one}
use lib.Arith.{digits_div, digits_mod}
use lib.Pow.{shr_le}
use lib.Dec.{eqb}
use borrow.Author.Tests.{ne_eqb, lt-leb}
use Rattle.rules.specs.declared.Size.{Size}
use Rattle.rules.specs.Document.Pyramid.{legal_size, area, odd, index, row, column, levels, level_of}
use Rattle.rules.specs.Promises.Vocabulary.{Legal}
use Rattle.rules.specs.Laws.Family.Sizes.{span}
use Rattle.rules.proofs.Laws.Family.Sizes.{legal}
use Rattle.rules.proofs.Laws.Offspring.Level.{level_area}
use Rattle.rules.specs.Laws.Offspring.Block.{apart, half_rows, half_columns}
use Rattle.rules.proofs.Laws.Offspring.Block.{row_index, column_index}
use Rattle.rules.proofs.Laws.Offspring.Kin.{rows_2, columns_2}
use Rattle.trees.specs.Places.{tree_at, root_of_band, raster_of, band_width}
use Rattle.trees.proofs.Places.{in_band_lem}
use Rattle.trees.specs.Family.{coefficient_of}
use Rattle.trees.specs.Run.{number_of, band_number}
use Rattle.trees.proofs.Run.{number_band, number_area, coefficient_number}
use Rattle.placing.specs.Stores.{Apart}

halved : (m i : ℕ) → i / 2 < m → ((i / 2 + i % 2 * m) / m ≡ i % 2) × ((i / 2 + i % 2 * m) % m ≡ i / 2)
halved m i h =
    let e : i / 2 + i % 2 * m ≡ i % 2 * m + i / 2 = omega arith in
    (ap (λ (x : ℕ). x / m) e ∙ digits_div (i % 2) h, ap (λ (x : ℕ). x % m) e ∙ digits_mod (i % 2) h)

module _ (z : Size) (Z : Legal z) (i j : ℕ) (h : i < z.h / 2 ^ z.n) (l : j < z.w / 2 ^ z.n) where
  column_fits : j < z.w
  column_fits = omega (arith, shr_le z.w z.n)

  at_row : row z (index z i j) ≡ i
  at_row = row_index z i j column_fits

  at_column : column z (index z i j) ≡ j
  at_column = column_index z i j column_fits

  pub index_level : level_of z (index z i j) ≡ levels z
  index_level = in_band_lem z (index z i j) (omega (arith, at_row)) (omega (arith, at_column))

  pub index_area : index z i j < area z
  index_area = level_area z Z (index z i j) (omega (arith, index_level))

  band_is : (b : Bool) → odd i || odd j ≡ b → number_of z (index z i j) ≡ band_number z b (index z i j)
  band_is b e =
      number_band z (index z i j) index_level
      ∙ ap (λ (c : Bool). band_number z c (index z i j)) (ap₂ (λ (x y : ℕ). odd x || odd y) at_row at_column ∙ e)

  pub number_even : i % 2 * 2 + j % 2 ≡ 0 → number_of z (index z i j) ≡ i / 2 * half_columns z + j / 2
  unfolding band_number
  number_even e =
      band_is false (ap₂ ◌||◌ (ne_eqb (i % 2) 1 (λ x. omega arith)) (ne_eqb (j % 2) 1 (λ x. omega arith)))
      ∙ ap₂ (λ (x y : ℕ). x / 2 * half_columns z + y / 2) at_row at_column

  some_odd : (a b : ℕ) → a < 2 → b < 2 → 0 < a * 2 + b → eqb a 1 || eqb b 1 ≡ true
  some_odd zero zero x y e = absurd (omega arith)
  some_odd zero (suc zero) x y e = refl
  some_odd zero (suc (suc b)) x y e = absurd (omega arith)
  some_odd (suc zero) b x y e = refl
  some_odd (suc (suc a)) b x y e = absurd (omega arith)

  pub number_odd : 0 < i % 2 * 2 + j % 2
      → number_of z (index z i j) ≡ half_rows z * half_columns z + 3 * (i / 2 * half_columns z + j / 2) + (i % 2 * 2 + j % 2 - 1)
  unfolding band_number root_of_band tree_at apart span
  number_odd e =
      let r = halved (half_rows z) i (omega (arith, rows_2 z Z)) in
      let c = halved (half_columns z) j (omega (arith, columns_2 z Z)) in
      band_is true (some_odd (i % 2) (j % 2) (omega arith) (omega arith) e)
      ∙ ap₂ (λ (x y : ℕ).
      half_rows z * half_columns z
      + (3 * ((x / 2 + x % 2 * half_rows z) % half_rows z * half_columns z + (y / 2 + y % 2 * half_columns z) % half_columns z)
      + (2 * ((x / 2 + x % 2 * half_rows z) / half_rows z) + (y / 2 + y % 2 * half_columns z) / half_columns z - 1)))
      at_row at_column
      ∙ rw (r.0, r.1, c.0, c.1) (omega arith)

  pub number_under : number_of z (index z i j) < area z
  number_under = number_area z Z (index z i j) index_area

-- row by row
module _ (z : Size) (i j : ℕ) (l : j < band_width z) where
  pub raster_row : index z i j ≡ raster_of z (levels z) (i * band_width z + j)
  unfolding raster_of
  raster_row = rw (lt-leb (levels z) z.n (omega arith)) (sym (ap₂ (index z) (digits_div i l) (digits_mod i l)))

-- as the code has it: halves by z.n + 1
abbrev pub across : Size → ℕ
across z = z.w / 2 ^ (z.n + 1)

abbrev pub down : Size → ℕ
down z = z.h / 2 ^ (z.n + 1)

pub across_half : (z : Size) → across z ≡ half_columns z
across_half z = ap (λ (e : ℕ). z.w / 2 ^ e) (add-one z.n)

pub down_half : (z : Size) → down z ≡ half_rows z
down_half z = ap (λ (e : ℕ). z.h / 2 ^ e) (add-one z.n)

-- bounds of all that is formed from a legal size: rules for `omega`
module _ (z : Size) (e : legal_size z ≡ true) where
  pub few : z.n ≤ 5
  few = (legal z e).few

  pub wide : z.w ≤ 512
  wide = (legal z e).width.most

  high : z.h ≤ 512
  high = (legal z e).height.most

  pub least : 4 ≤ z.w
  least = (legal z e).width.least

  pub columns : across z ≤ 512
  columns = omega (arith, wide, shr_le z.w (z.n + 1))

  pub rows : down z ≤ 512
  rows = omega (arith, high, shr_le z.h (z.n + 1))

  pub band_columns : z.w / 2 ^ z.n ≤ 512
  band_columns = omega (arith, wide, shr_le z.w z.n)

  pub band_rows_lem : z.h / 2 ^ z.n ≤ 512
  band_rows_lem = omega (arith, high, shr_le z.h z.n)

  pub groups : down z * across z ≤ 262144
  groups = mul-le-mul rows columns

  pub all : area z ≤ 262144
  all = mul-le-mul wide high

-- a place in the band, what is formed of it, and its number
abbrev pub InBand : Size → ℕ → ℕ → Type 0
InBand z i j = (legal_size z ≡ true) × (i < z.h / 2 ^ z.n) × (j < z.w / 2 ^ z.n)

pub record BandRoom (z : Size) (i j : ℕ) : Type 0 where
  pub row : i / 2 * across z ≤ 262144
  pub column : j / 2 ≤ 512
  pub groups : down z * across z ≤ 262144

module _ (z : Size) (i j : ℕ) (p : InBand z i j) where
  pub band_room : BandRoom z i j
  band_room =
      let r : i / 2 ≤ 512 = omega (arith, band_rows_lem z p.0) in
      record { row = mul-le-mul r (columns z p.0); column = omega (arith, band_columns z p.0); groups = groups z p.0 }

  number_small : number_of z (index z i j) < 2 ^ 31
  number_small = omega (arith, number_under z (legal z p.0) i j p.1 p.2, all z p.0)

  pub numbered_even : i % 2 * 2 + j % 2 ≡ 0
      → (i / 2 * across z + j / 2 ≡ number_of z (index z i j)) × (i / 2 * across z + j / 2 < 2 ^ 31)
  numbered_even r =
      let e : i / 2 * across z + j / 2 ≡ number_of z (index z i j) =
      sym (number_even z (legal z p.0) i j p.1 p.2 r ∙ ap (λ (a : ℕ). i / 2 * a + j / 2) (sym (across_half z))) in
      (e, rw e number_small)

  pub numbered_odd : ¬ (i % 2 * 2 + j % 2 ≡ 0)
      → (down z * across z + 3 * (i / 2 * across z + j / 2) + (i % 2 * 2 + j % 2 - 1) ≡ number_of z (index z i j))
      × (down z * across z + 3 * (i / 2 * across z + j / 2) + (i % 2 * 2 + j % 2 - 1) < 2 ^ 31)
  numbered_odd r =
      let e : down z * across z + 3 * (i / 2 * across z + j / 2) + (i % 2 * 2 + j % 2 - 1) ≡ number_of z (index z i j) =
      sym (number_odd z (legal z p.0) i j p.1 p.2 (omega arith)
      ∙ ap₂ (λ (d a : ℕ). d * a + 3 * (i / 2 * a + j / 2) + (i % 2 * 2 + j % 2 - 1)) (sym (down_half z)) (sym (across_half z))) in
      (e, rw e number_small)

-- the numbers of a row of the band
module _ (z : Size) (Z : Legal z) (i : ℕ) (h : i < z.h / 2 ^ z.n) where
  pub numbers_apart : (m : ℕ) → area z ≤ m → Apart (λ j. number_of z (index z i j)) (band_width z) m
  numbers_apart m g =
      record {
        inside = λ j l. omega (arith, number_under z Z i j h l);
        one =
            λ j k l n e.
            let q : index z i j ≡ index z i k =
            sym (coefficient_number z Z (index z i j) (index_area z Z i j h l)) ∙ ap (coefficient_of z) e
            ∙ coefficient_number z Z (index z i k) (index_area z Z i k h n) in
            omega arith;
      }
