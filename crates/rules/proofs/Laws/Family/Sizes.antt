-- Sizes: that the test of a legal one is the statement Legal, and n_k, how many coefficients level k has.
--
--   span z k          coefficients in the first H / 2^k rows and W / 2^k columns
--   level_start z k    coefficients of the levels over k: where level k starts when they are laid out coarsest first
--   level_end z k      and where it ends
--   level_size z k     n_k
use Rattle.std.specs.Prelude.{◌≡◌, true, ◌&&◌, leb, eqb}
use Rattle.std.proofs.Math.Path.{ap, ap₂}
use Rattle.std.proofs.Common.{sym, ◌∙◌, mul_assoc, pow-suc, div-add-mod', add-sub_of_le, div-one, pow-add, shr-shr, leb-true, eqb-true, le-leb, eq-eqb}
use Rattle.std.proofs.Math.Bool.{and-eq-true_iff}
use Prim.Native.Nat.{ℕ, zero, suc, ◌+◌, ◌-◌, ◌*◌, ◌/◌, ◌%◌, ◌^◌, ◌≤◌}
use native.Mathlib.Omega.{arith}
use Rattle.std.proofs.Math.Nat.{mul_comm, mul-le-mul}
use Rattle.std.proofs.Math.Decide.{dec_le}
use Rattle.std.proofs.lemmas.Nat.{shl-shr, shr_le}
use Rattle.std.proofs.lemmas.Bool.{lt-leb}
use Rattle.rules.specs.declared.Size.{Size}
use Rattle.rules.specs.Document.Pyramid.{least_side, greatest_side, most_area, most_decompositions, legal_side, legal_size, area, levels}
use Rattle.rules.specs.Promises.Vocabulary.{Side, Legal}
use Rattle.rules.specs.Laws.Family.Sizes.{span, level_start, level_end, level_size}
use Rattle.rules.proofs.Promises.Cases.{cases_hold}

-- legal_size
module _ (n x : ℕ) (e : x % 2 ^ (n + 1) ≡ 0) where
  quotient : (k d : ℕ) → d + k ≡ n + 1 → x / 2 ^ k ≡ x / 2 ^ (n + 1) * 2 ^ d
  quotient k d s =
      let c : ℕ = x / 2 ^ (n + 1) in
      let i : x ≡ c * 2 ^ (n + 1) = omega (arith, div-add-mod' x (2 ^ (n + 1))) in
      let e : 2 ^ (n + 1) ≡ 2 ^ d * 2 ^ k = ap (λ (y : ℕ). 2 ^ y) (sym s) ∙ pow-add 2 d k in
      let j : x ≡ c * 2 ^ d * 2 ^ k = i ∙ ap (λ (y : ℕ). c * y) e ∙ sym (mul_assoc c (2 ^ d) (2 ^ k)) in
      ap (λ (y : ℕ). y / 2 ^ k) j ∙ shl-shr (c * 2 ^ d) k

  multiple_halves : (k : ℕ) → k ≤ n → x / 2 ^ k ≡ 2 * (x / 2 ^ suc k)
  multiple_halves k h = rw (quotient k (suc (n - k)) (omega arith), quotient (suc k) (n - k) (omega arith), pow-suc) (omega arith)

legal_side_lem : (n x : ℕ) → legal_side n x ≡ true → Side n x
unfolding legal_side
legal_side_lem n x h =
    let a : (leb least_side x && leb x greatest_side ≡ true) × (eqb (x % 2 ^ (n + 1)) 0 ≡ true) = (and-eq-true_iff _ _).0 h in
    let b : (leb least_side x ≡ true) × (leb x greatest_side ≡ true) = (and-eq-true_iff _ _).0 a.0 in
    let m : x % 2 ^ (n + 1) ≡ 0 = eqb-true _ _ a.1 in
    record { least = leb-true _ _ b.0; most = leb-true _ _ b.1; multiple = m; half = multiple_halves n x m }

pub legal : (z : Size) → legal_size z ≡ true → Legal z
unfolding legal_size
legal z h =
    let a : _ = (and-eq-true_iff (leb 1 z.n && leb z.n most_decompositions && legal_side z.n z.w) _).0 h in
    let b : _ = (and-eq-true_iff (leb 1 z.n && leb z.n most_decompositions) _).0 a.0 in
    let c : _ = (and-eq-true_iff (leb 1 z.n) _).0 b.0 in
    record { some = leb-true _ _ c.0; few = leb-true _ _ c.1; width = legal_side_lem _ _ b.1; height = legal_side_lem _ _ a.1 }

side_legal : (n x : ℕ) → Side n x → legal_side n x ≡ true
unfolding legal_side
side_legal n x S = rw (le-leb least_side x S.least, le-leb x greatest_side S.most, eq-eqb (x % 2 ^ (n + 1)) 0 S.multiple)

pub size_legal : (z : Size) → Legal z → legal_size z ≡ true
unfolding legal_size
size_legal z Z =
    rw (
      le-leb 1 z.n Z.some,
      le-leb z.n most_decompositions Z.few,
      side_legal z.n z.w Z.width,
      side_legal z.n z.h Z.height,
    )

pub area_bound : (z : Size) → legal_size z ≡ true → area z ≤ most_area
area_bound z e = let Z : Legal z = legal z e in mul-le-mul Z.width.most Z.height.most

-- half
pub side_falls : (x j k : ℕ) → j ≤ k → x / 2 ^ k ≤ x / 2 ^ j
side_falls x j k h = let e : j + (k - j) ≡ k = add-sub_of_le h in rw (← e, ← (shr-shr x j (k - j))) (shr_le (x / 2 ^ j) (k - j))

pub side_some : (n x : ℕ) → Side n x → (k : ℕ) → k ≤ suc n → 1 ≤ x / 2 ^ k
side_some n x S zero h = omega (arith, S.least)
side_some n x S (suc k) h = omega (arith, S.half k (omega arith), side_some n x S k (omega arith))

pub half_twice : (n x : ℕ) → Side n x → 1 ≤ n → x / 2 ^ (n - 1) ≡ 4 * (x / 2 ^ suc n)
half_twice n x S h =
    let e : suc (n - 1) ≡ n = omega arith in
    omega (arith, rw e at (S.half (n - 1) (omega arith)), S.half n (omega arith))

-- span, level_start and level_end
module _ (z : Size) where
  pub span_whole : span z 0 ≡ area z
  unfolding span
  span_whole = ap₂ (λ (x y : ℕ). x * y) (div-one z.h) (div-one z.w) ∙ mul_comm z.h z.w

  pub level_start_top : level_start z (levels z) ≡ 0
  unfolding level_start
  level_start_top = rw (lt-leb (levels z) z.n (omega arith))

  pub level_start_fine : (k : ℕ) → k ≤ z.n → level_start z k ≡ span z k
  unfolding level_start
  level_start_fine k h = rw (le-leb k z.n h)

  pub level_end_next : (k : ℕ) → level_end z (suc k) ≡ span z k
  unfolding level_end
  level_end_next k = ap (span z) (omega arith)

  -- The levels lie end to end: where level k starts, level k + 1 ends.
  pub level_end_start : (k : ℕ) → k ≤ z.n → level_end z (suc k) ≡ level_start z k
  level_end_start k h = level_end_next k ∙ sym (level_start_fine k h)

module _ (z : Size) (Z : Legal z) where
  pub span_some : (k : ℕ) → k ≤ levels z → 1 ≤ span z k
  unfolding span
  span_some k h = mul-le-mul (side_some z.n z.h Z.height k h) (side_some z.n z.w Z.width k h)

  pub span_quarter : (k : ℕ) → k ≤ z.n → span z k ≡ 4 * span z (suc k)
  unfolding span
  span_quarter k h = rw (Z.height.half k h, Z.width.half k h) (omega arith)

  pub span_most : (k : ℕ) → k ≤ levels z → span z k ≤ area z
  span_most zero h = omega (arith, span_whole z)
  span_most (suc k) h = omega (arith, span_quarter k (omega arith), span_most k (omega arith))

  -- level_size
  pub level_size_top : level_size z (levels z) ≡ span z z.n
  unfolding level_size
  level_size_top = omega (arith, level_end_next z z.n, level_start_top z)

  pub level_size_fine : (k : ℕ) → 1 ≤ k → k ≤ z.n → level_size z k ≡ 3 * span z k
  unfolding level_size
  level_size_fine zero h l = absurd (omega arith)
  level_size_fine (suc k) h l = omega (arith, level_end_next z k, level_start_fine z (suc k) l, span_quarter k (omega arith))

  pub level_size_end : (k : ℕ) → 1 ≤ k → k ≤ levels z → level_start z k + level_size z k ≡ level_end z k
  unfolding level_size
  level_size_end zero h l = absurd (omega arith)
  level_size_end (suc k) h l = go (dec_le (suc k) z.n)
    where
      go : Dec (suc k ≤ z.n) → level_start z (suc k) + (level_end z (suc k) - level_start z (suc k)) ≡ level_end z (suc k)
      go (yes a) = omega (arith, level_end_next z k, level_start_fine z (suc k) a, span_quarter k (omega arith))
      go (no a) = let e : k ≡ z.n = omega arith in rw e (omega (arith, level_start_top z))
