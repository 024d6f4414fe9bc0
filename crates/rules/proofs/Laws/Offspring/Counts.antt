-- n_k: how many coefficients of the pyramid are of level k, and how many of the levels over it.
use Rattle.std.specs.Prelude.{◌≡◌, List, ℕ, suc, ◌+◌, ◌-◌, ◌≤◌, ◌<◌, ltb, leb}
use Rattle.std.proofs.Math.Path.{ap}
use Rattle.std.proofs.Common.{sym, ◌∙◌, lt-ltb, le-ltb, le-leb}
use Rattle.std.proofs.Math.Bool.{cond}
use native.Mathlib.Omega.{arith}
use Rattle.std.proofs.Math.Decide.{ℕ_discrete, dec_lt, dec_le}
use Rattle.std.proofs.lemmas.Bool.{lt-leb}
use Rattle.rules.specs.declared.Size.{Size}
use Rattle.rules.specs.Document.Pyramid.{area, levels, level_of}
use Rattle.rules.specs.Document.Passes.{from}
use Rattle.rules.specs.Laws.Counting.Sums.{sum, one, is}
use Rattle.rules.proofs.Laws.Counting.Sums.{sum_plus, sum_pointwise, sum_zero, is_yes, is_no, all_of}
use Rattle.rules.specs.Laws.Family.Sizes.{span, level_start, level_end, level_size}
use Rattle.rules.proofs.Laws.Family.Sizes.{level_start_fine}
use Rattle.rules.proofs.Laws.Offspring.Level.{level_most, within_level}
use Rattle.rules.proofs.Laws.Offspring.Grid.{within_count}

-- A number over m is the next one, or over that.
is_next : (m k l : ℕ) → suc m ≡ k → is k l + one (ltb k l) ≡ one (ltb m l)
unfolding one
is_next m k l n = go (dec_lt m l) (ℕ_discrete l k)
  where
    go : Dec (m < l) → Dec (l ≡ k) → is k l + one (ltb k l) ≡ one (ltb m l)
    go (no d) e = rw (le-ltb m l (omega arith), le-ltb k l (omega arith)) (omega (arith, is_no k l (λ i. d (omega arith))))
    go (yes d) (yes e) = rw (lt-ltb m l d, le-ltb k l (omega arith)) (omega (arith, is_yes k l e))
    go (yes d) (no e) = rw (lt-ltb m l d, lt-ltb k l (omega arith)) (omega (arith, is_no k l e))

module _ (z : Size) where
  abbrev pub whole : List ℕ
  whole = from 0 (area z)

  pub over_count : (k : ℕ) → k ≤ levels z → sum (λ q. one (ltb k (level_of z q))) whole ≡ level_start z k
  unfolding level_start one
  over_count k h = go (dec_le k z.n)
    where
      go : Dec (k ≤ z.n) → sum (λ q. one (ltb k (level_of z q))) whole ≡ cond (leb k z.n) (span z k) 0
      go (yes l) = rw (le-leb k z.n l) (sum_pointwise _ _ whole (λ q. ap one (sym (within_level z k q l))) ∙ within_count z k)
      go (no l) =
          rw (lt-leb k z.n (omega arith))
          (sum_zero _ whole (all_of _ whole (λ q. ap one (le-ltb k (level_of z q) (omega (arith, level_most z q))))))

  pub level_count_lem : (k : ℕ) → 1 ≤ k → k ≤ levels z → sum (λ q. is k (level_of z q)) whole ≡ level_size z k
  unfolding level_size level_end level_start
  level_count_lem k h l =
      let s : level_start z (k - 1) ≡ span z (k - 1) = level_start_fine z (k - 1) (omega arith) in
      omega (
        arith,
        over_count k l,
        over_count (k - 1) (omega arith),
        sum_plus (λ q. is k (level_of z q)) (λ q. one (ltb k (level_of z q))) whole,
        sum_pointwise _ (λ q. one (ltb (k - 1) (level_of z q))) whole (λ q. is_next (k - 1) k (level_of z q) (omega arith)),
      )
