-- The LL band and what descends from it is the pyramid, each coefficient once.
use Rattle.std.specs.Prelude.{◌≡◌}
use Rattle.std.proofs.Math.Path.{refl, ap}
use mathlib.Core.List.{List}
use Prim.Native.Nat.{ℕ, zero, suc, ◌+◌, ◌-◌, ◌≤◌, ◌<◌}
use native.Mathlib.Omega.{arith}
use Rattle.std.proofs.Math.Decide.{dec_le}
use Rattle.std.proofs.Common.{lt-ltb, le-ltb}
use Rattle.rules.specs.declared.Size.{Size}
use Rattle.rules.specs.Document.Notation.{flat}
use Rattle.rules.specs.Document.Pyramid.{area, levels, level_of, offspring_of, generations, descendants_of}
use Rattle.rules.specs.Document.Passes.{band_ll}
use Rattle.rules.specs.Laws.Counting.Sums.{sum, one, is, Every}
use Rattle.rules.proofs.Laws.Counting.Sums.{sum_append, sum_flat, sum_plus, sum_same, sum_pointwise, sum_zero, all_of, every_all}
use Rattle.rules.specs.Promises.Vocabulary.{Legal}
use Rattle.rules.proofs.Laws.Offspring.Level.{level_most}
use Rattle.rules.proofs.Laws.Offspring.Kin.{offspring_level}
use Rattle.rules.specs.Laws.Offspring.Parent.{parent}
use Rattle.rules.proofs.Laws.Offspring.Parent.{parent_only, parent_level, parent_area}
use Rattle.rules.proofs.Laws.Offspring.Grid.{band_once}

module _ (z : Size) (Z : Legal z) where
  -- How often q stands in the first generations of a coefficient, by how often its parent does.
  module _ (q : ℕ) where
    generations_next : (g p : ℕ)
        → sum (is q) (generations z (suc g) p) ≡ sum (is q) (offspring_of z p) + sum (λ x. sum (is q) (generations z g x)) (offspring_of z p)
    unfolding generations
    generations_next g p =
        let rs : List ℕ = offspring_of z p in
        omega (arith, sum_append (is q) rs (flat (generations z g) rs), sum_flat (is q) (generations z g) rs)

    band_free : z.n < level_of z q → (p : ℕ) → sum (is q) (offspring_of z p) ≡ 0
    band_free h p = go (sum (is q) (offspring_of z p)) refl
      where
        go : (m : ℕ) → sum (is q) (offspring_of z p) ≡ m → sum (is q) (offspring_of z p) ≡ 0
        go zero e = e
        go (suc m) e = absurd (omega (arith, offspring_level z Z p q (omega arith), level_most z p))

    generations_free : z.n < level_of z q → (g p : ℕ) → sum (is q) (generations z g p) ≡ 0
    unfolding generations sum
    generations_free h zero p = refl
    generations_free h (suc g) p =
        let rs : List ℕ = offspring_of z p in
        omega (arith, generations_next g p, band_free h p, sum_zero (λ x. sum (is q) (generations z g x)) rs (all_of _ rs (generations_free h g)))

  generations_parent : (q : ℕ) → q < area z → level_of z q ≤ z.n → (g p : ℕ)
      → sum (is q) (generations z (suc g) p) ≡ is (parent z q) p + sum (is (parent z q)) (generations z g p)
  unfolding generations sum
  generations_parent q v l zero p =
      omega (arith, generations_next q zero p, parent_only z Z q v l p, sum_zero (λ x. 0) (offspring_of z p) (all_of _ (offspring_of z p) (λ x. refl)))
  generations_parent q v l (suc g) p =
      omega (
        arith,
        generations_next q (suc g) p,
        parent_only z Z q v l p,
        sum_pointwise _ (λ x. is (parent z q) x + sum (is (parent z q)) (generations z g x)) (offspring_of z p) (generations_parent q v l g),
        sum_plus (is (parent z q)) (λ x. sum (is (parent z q)) (generations z g x)) (offspring_of z p),
        generations_next (parent z q) g p,
      )

  -- d steps up to the LL band, within g generations
  once_up : (d g q : ℕ) → q < area z → level_of z q + d ≡ levels z → d ≤ g
      → sum (is q) (band_ll z) + sum (λ p. sum (is q) (generations z g p)) (band_ll z) ≡ 1
  unfolding one
  once_up zero g q v e l =
      omega (
        arith,
        rw (lt-ltb z.n (level_of z q) (omega arith)) at (band_once z Z q),
        sum_zero (λ p. sum (is q) (generations z g p)) (band_ll z) (all_of _ (band_ll z) (generations_free q (omega arith) g)),
      )
  once_up (suc d) zero q v e l = absurd (omega arith)
  once_up (suc d) (suc g) q v e l =
      omega (
        arith,
        rw (le-ltb z.n (level_of z q) (omega arith)) at (band_once z Z q),
        once_up d g (parent z q) (parent_area z Z q v (omega arith)) (omega (arith, parent_level z Z q v (omega arith))) (omega arith),
        sum_pointwise _ (λ p. is (parent z q) p + sum (is (parent z q)) (generations z g p)) (band_ll z) (generations_parent q v (omega arith) g),
        sum_plus (is (parent z q)) (λ p. sum (is (parent z q)) (generations z g p)) (band_ll z),
      )

  -- The LL band is of level N + 1.
  pub band_level : Every (λ p. level_of z p ≡ levels z) (band_ll z)
  unfolding one
  band_level p i = go (dec_le (level_of z p) z.n)
    where
      go : Dec (level_of z p ≤ z.n) → level_of z p ≡ levels z
      go (yes l) = absurd (omega (arith, rw (le-ltb z.n (level_of z p) l) at (band_once z Z p)))
      go (no d) = omega (arith, level_most z p)

  -- Each coefficient once.
  pub coefficients_once : (q : ℕ) → q < area z → sum (is q) (band_ll z) + sum (λ p. sum (is q) (descendants_of z p)) (band_ll z) ≡ 1
  unfolding descendants_of
  coefficients_once q v =
      omega (
        arith,
        once_up (levels z - level_of z q) (levels z) q v (omega (arith, level_most z q)) (omega arith),
        sum_same (λ p. sum (is q) (descendants_of z p)) (λ p. sum (is q) (generations z (levels z) p)) (band_ll z)
            (every_all _ (band_ll z) (λ p i. ap (λ (g : ℕ). sum (is q) (generations z g p)) (band_level p i))),
      )
