-- Sums over the pyramid and over the LL band, row by row: a weight that is one of the row times one of the column is summed by each.
use Rattle.std.specs.Prelude.{◌≡◌, refl, ltb}
use Rattle.std.proofs.Math.Path.{ap, ap₂, sym}
use Rattle.std.proofs.Common.{◌∙◌, mul_comm, lt-ltb, le-ltb}
use Prim.Native.Nat.{ℕ, zero, suc, ◌+◌, ◌-◌, ◌*◌, ◌/◌, ◌^◌, ◌≤◌}
use native.Mathlib.Omega.{arith}
use Rattle.std.proofs.lemmas.Nat.{shr_le}
use Rattle.rules.specs.declared.Size.{Size}
use Rattle.rules.specs.Document.Pyramid.{area, index, row, column, within, level_of}
use Rattle.rules.specs.Document.Passes.{from, rows, band_ll}
use Rattle.rules.specs.Laws.Counting.Sums.{sum, one, is}
use Rattle.rules.proofs.Laws.Counting.Sums.{sum_append, sum_pointwise, one_and, from_add, from_once}
use Rattle.rules.specs.Laws.Family.Sizes.{span}
use Rattle.rules.specs.Promises.Vocabulary.{Legal}
use Rattle.rules.proofs.Laws.Offspring.Level.{within_level, column_lt}
use Rattle.rules.proofs.Laws.Offspring.Block.{row_index, column_index, index_place, is_index}

module _ (z : Size) (g h : ℕ → ℕ) where
  weight : ℕ → ℕ
  weight q = g (row z q) * h (column z q)

  line : (i j m : ℕ) → j + m ≤ z.w → sum weight (from (index z i j) m) ≡ g i * sum h (from j m)
  unfolding from sum weight
  line i j zero l = omega arith
  line i j (suc m) l =
      let e : suc (index z i j) ≡ index z i (suc j) = omega arith in
      rw (e, row_index z i j (omega arith), column_index z i j (omega arith)) (omega (arith, line i (suc j) m (omega arith)))

  whole_line : (i m : ℕ) → m ≤ z.w → sum weight (from (i * z.w) m) ≡ g i * sum h (from 0 m)
  whole_line i m l = let e : index z i 0 ≡ i * z.w = omega arith in rw (← e) (line i 0 m (omega arith))

  rows_sum : (i m : ℕ) → sum weight (rows z i m) ≡ sum g (from i m) * sum h (from 0 (z.w / 2 ^ z.n))
  unfolding rows from sum
  rows_sum i zero = omega arith
  rows_sum i (suc m) =
      omega (
        arith,
        sum_append weight (from (i * z.w) (z.w / 2 ^ z.n)) (rows z (suc i) m),
        whole_line i (z.w / 2 ^ z.n) (shr_le z.w z.n),
        rows_sum (suc i) m,
      )

  lines_sum : (i m : ℕ) → sum weight (from (i * z.w) (m * z.w)) ≡ sum g (from i m) * sum h (from 0 z.w)
  unfolding from sum
  lines_sum i zero = let e : 0 * z.w ≡ 0 = omega arith in rw e (omega arith)
  lines_sum i (suc m) =
      let e : suc m * z.w ≡ z.w + m * z.w = omega arith in
      let f : i * z.w + z.w ≡ suc i * z.w = omega arith in
      rw (e, from_add (i * z.w) z.w (m * z.w), f)
      (omega (
        arith,
        sum_append weight (from (i * z.w) z.w) (from (suc i * z.w) (m * z.w)),
        whole_line i z.w (omega arith),
        lines_sum (suc i) m,
      ))

  pub band_sum : sum (λ q. g (row z q) * h (column z q)) (band_ll z) ≡ sum g (from 0 (z.h / 2 ^ z.n)) * sum h (from 0 (z.w / 2 ^ z.n))
  unfolding band_ll weight
  band_sum = rows_sum 0 (z.h / 2 ^ z.n)

  pub area_sum : sum (λ q. g (row z q) * h (column z q)) (from 0 (area z)) ≡ sum g (from 0 z.h) * sum h (from 0 z.w)
  unfolding weight
  area_sum = let e : 0 * z.w ≡ 0 = omega arith in rw (mul_comm z.w z.h) (rw e at (lines_sum 0 z.h))

-- How many coefficients lie within k halvings.
from_under : (b a m : ℕ) → a + m ≤ b → sum (λ i. one (ltb i b)) (from a m) ≡ m
unfolding from sum one
from_under b a zero h = refl
from_under b a (suc m) h = rw (lt-ltb a b (omega arith)) (omega (arith, from_under b (suc a) m (omega arith)))

from_over : (b a m : ℕ) → b ≤ a → sum (λ i. one (ltb i b)) (from a m) ≡ 0
unfolding from sum one
from_over b a zero h = refl
from_over b a (suc m) h = rw (le-ltb a b h) (omega (arith, from_over b (suc a) m (omega arith)))

from_first : (b m : ℕ) → b ≤ m → sum (λ i. one (ltb i b)) (from 0 m) ≡ b
from_first b m h =
    let e : b + (m - b) ≡ m = omega arith in
    rw (← e, from_add 0 b (m - b))
    (omega (
      arith,
      sum_append (λ i. one (ltb i b)) (from 0 b) (from (0 + b) (m - b)),
      from_under b 0 b (omega arith),
      from_over b (0 + b) (m - b) (omega arith),
    ))

pub within_count : (z : Size) (k : ℕ) → sum (λ q. one (within z k q)) (from 0 (area z)) ≡ span z k
unfolding within span
within_count z k =
    sum_pointwise _ _ (from 0 (area z)) (λ q. one_and (ltb (row z q) (z.h / 2 ^ k)) (ltb (column z q) (z.w / 2 ^ k)))
    ∙ area_sum z (λ i. one (ltb i (z.h / 2 ^ k))) (λ j. one (ltb j (z.w / 2 ^ k)))
    ∙ ap₂ (λ (x y : ℕ). x * y) (from_first (z.h / 2 ^ k) z.h (shr_le z.h k)) (from_first (z.w / 2 ^ k) z.w (shr_le z.w k))

-- The LL band holds each coefficient of its level once, and no other.
module _ (z : Size) (Z : Legal z) where
  pub band_once : (q : ℕ) → sum (is q) (band_ll z) ≡ one (ltb z.n (level_of z q))
  unfolding within
  band_once q =
      sum_pointwise (is q) (λ p. is (row z q) (row z p) * is (column z q) (column z p)) (band_ll z) place
      ∙ band_sum z (is (row z q)) (is (column z q))
      ∙ ap₂ (λ (x y : ℕ). x * y) (from_once (row z q) (z.h / 2 ^ z.n)) (from_once (column z q) (z.w / 2 ^ z.n))
      ∙ sym (one_and _ _)
      ∙ ap one (within_level z z.n q (omega arith))
    where
      place : (p : ℕ) → is q p ≡ is (row z q) (row z p) * is (column z q) (column z p)
      place p = ap (is q) (sym (index_place z p)) ∙ is_index z q (row z p) (column z p) (column_lt z Z p)
