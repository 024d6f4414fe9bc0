-- How many planes there are: enough for every magnitude, and never more than a record may have.
use Rattle.std.specs.Prelude.{◌≡◌, List, Bool, cond, ◌≢◌, ℕ, zero, suc, ◌≤◌, ◌<◌, ◌^◌, leb, ltb, eqb, get_or, ℤ, pos}
use Rattle.std.proofs.Math.Path.{refl, sym}
use Rattle.std.proofs.Common.{ap, subst, arith, pow_mono, pow-suc}
use Rattle.std.proofs.Math.Bool.{true, false}
use Rattle.std.proofs.Math.Decide.{dec_le, dec_lt}
use Rattle.std.proofs.Math.ListN.{length, get_or-eq_default}
use Rattle.std.proofs.Math.IntN.{nat_abs}
use Rattle.std.proofs.Math.Pow.{pow-lt}
use borrow.Author.Tests.{leb-true, leb-false, eqb-true, eqb-false, ltb-true, ltb-false, lt-ltb, le-ltb}
use Rattle.rules.specs.Document.Notation.{greatest}
use Rattle.rules.specs.Document.Pyramid.{most_magnitude, magnitude, most_planes, log2_up, earlier_planes_of, log2_down, planes_of}
use Rattle.rules.specs.Document.Calls.{first_over}
use Rattle.rules.proofs.Laws.Counting.Booleans.{lowest_within, lowest_passes, lowest_least, lowest_found}
use Rattle.rules.specs.Promises.Refusals.{InRange, FirstOver}
use Rattle.rules.proofs.Laws.Family.Maxima.{greatest_at, greatest_each}
use Rattle.rules.specs.Laws.Rounding.Planes.{Counts}

-- The least exponent, of those up to e, whose power of two is not under m.
pub log2_up_not_under : (e m : ℕ) → m ≤ 2 ^ e → m ≤ 2 ^ log2_up e m
unfolding log2_up
log2_up_not_under zero m h = h
log2_up_not_under (suc e) m h = cases (leb m (2 ^ e)) refl (log2_up_not_under e m)
  where
    cases : (b : Bool) → leb m (2 ^ e) ≡ b → (m ≤ 2 ^ e → m ≤ 2 ^ log2_up e m) → m ≤ 2 ^ cond b (log2_up e m) (suc e)
    cases true t r = r (leb-true m (2 ^ e) t)
    cases false t r = h

pub log2_up_least : (e m x : ℕ) → m ≤ 2 ^ x → log2_up e m ≤ x
unfolding log2_up
log2_up_least zero m x h = omega arith
log2_up_least (suc e) m x h = cases (leb m (2 ^ e)) refl (log2_up_least e m x h)
  where
    below : leb m (2 ^ e) ≡ false → Dec (x ≤ e) → suc e ≤ x
    below t (yes l) = absurd (omega (arith, leb-false m (2 ^ e) t, pow_mono l))
    below t (no l) = omega arith

    cases : (b : Bool) → leb m (2 ^ e) ≡ b → log2_up e m ≤ x → cond b (log2_up e m) (suc e) ≤ x
    cases true t r = r
    cases false t r = below t (dec_le x e)

-- The greatest exponent, of those up to e, whose power of two is not over m.
pub log2_down_not_over : (e m : ℕ) → 1 ≤ m → 2 ^ log2_down e m ≤ m
unfolding log2_down
log2_down_not_over zero m h = h
log2_down_not_over (suc e) m h = cases (leb (2 ^ suc e) m) refl (log2_down_not_over e m h)
  where
    cases : (b : Bool) → leb (2 ^ suc e) m ≡ b → 2 ^ log2_down e m ≤ m → 2 ^ cond b (suc e) (log2_down e m) ≤ m
    cases true t r = leb-true (2 ^ suc e) m t
    cases false t r = r

pub log2_down_most : (e m : ℕ) → m < 2 ^ suc e → m < 2 ^ suc (log2_down e m)
unfolding log2_down
log2_down_most zero m h = h
log2_down_most (suc e) m h = cases (leb (2 ^ suc e) m) refl (log2_down_most e m)
  where
    cases : (b : Bool) → leb (2 ^ suc e) m ≡ b → (m < 2 ^ suc e → m < 2 ^ suc (log2_down e m)) → m < 2 ^ suc (cond b (suc e) (log2_down e m))
    cases true t r = h
    cases false t r = r (leb-false (2 ^ suc e) m t)

pub counts_once : (m : ℕ) {a b : ℕ} → Counts m a → Counts m b → a ≡ b
counts_once m {a} {b} x y = by (dec_lt a b) (dec_lt b a)
  where
    no_less : {a b : ℕ} → Counts m a → Counts m b → a < b → ⊥
    no_less {a} {b} x y l = omega (arith, x.enough, y.least, pow_mono {i = suc a} {j = b} l, pow-suc 2 a)

    by : Dec (a < b) → Dec (b < a) → a ≡ b
    by (yes l) d = absurd (no_less x y l)
    by (no l) (yes k) = absurd (no_less y x k)
    by (no l) (no k) = omega arith

-- The coder's count, of any magnitude of 32 bits.
pub planes_of_counts : (m : ℕ) → m < 2 ^ 32 → Counts m (planes_of m)
unfolding planes_of
planes_of_counts m h = cases (eqb m 0) refl
  where
    cases : (b : Bool) → eqb m 0 ≡ b → Counts m (cond b 0 (suc (log2_down 31 m)))
    cases true t = record { enough = omega (arith, eqb-true m 0 t); least = omega arith }
    cases false t =
        record {
          enough = log2_down_most 31 m h;
          least = omega (arith, log2_down_not_over 31 m (omega (arith, eqb-false m 0 t)), pow-suc 2 (log2_down 31 m));
        }

pub planes_of_above : (m : ℕ) → m ≤ most_magnitude → m < 2 ^ planes_of m
planes_of_above m h = (planes_of_counts m (omega arith)).enough

pub planes_of_most : (m : ℕ) → m ≤ most_magnitude → planes_of m ≤ 16
planes_of_most m h = by (dec_le (planes_of m) 16)
  where
    by : Dec (planes_of m ≤ 16) → planes_of m ≤ 16
    by (yes l) = l
    by (no l) = absurd (omega (arith, (planes_of_counts m (omega arith)).least, pow_mono {i = 17} {j = planes_of m} (omega arith)))

-- The earlier count.
pub earlier_planes_of_above : (m : ℕ) → m ≤ most_magnitude → m < 2 ^ earlier_planes_of m
unfolding earlier_planes_of
earlier_planes_of_above m h = cases (eqb m 0) refl
  where
    cases : (b : Bool) → eqb m 0 ≡ b → m < 2 ^ cond b 0 (suc (log2_up most_planes m))
    cases true t = omega (arith, eqb-true m 0 t)
    cases false t =
        omega (arith, log2_up_not_under most_planes m (omega arith), pow-lt {i = log2_up most_planes m} {j = suc (log2_up most_planes m)} (omega arith))

pub earlier_planes_of_most : (m : ℕ) → m ≤ most_magnitude → earlier_planes_of m ≤ most_planes
unfolding earlier_planes_of
earlier_planes_of_most m h = cases (eqb m 0)
  where
    cases : (b : Bool) → cond b 0 (suc (log2_up most_planes m)) ≤ most_planes
    cases true = omega arith
    cases false = omega (arith, log2_up_least most_planes m 16 (omega arith))

-- A pyramid: where no magnitude is over the most there may be, all are under 2^planes.
pub magnitude_most : (v : List ℤ) (q : ℕ) → magnitude v q ≤ greatest nat_abs v
unfolding magnitude
magnitude_most v q = cases (dec_lt q (length v))
  where
    cases : Dec (q < length v) → nat_abs (get_or v q (pos 0)) ≤ greatest nat_abs v
    cases (yes l) = greatest_at nat_abs v q (pos 0) l
    cases (no l) = omega (arith, ap nat_abs (get_or-eq_default v (pos 0) {n = q} (omega arith)))

-- The first magnitude over the most there may be.
abbrev over : ℕ → List ℤ → ℕ → Bool
over most v q = ltb most (magnitude v q)

module _ (most : ℕ) (v : List ℤ) where
  pub under_first : InRange most v (first_over most v)
  unfolding first_over
  under_first i l = cases (over most v i) refl
    where
      cases : (b : Bool) → over most v i ≡ b → magnitude v i ≤ most
      cases true e = absurd (omega (arith, lowest_least (over most v) (length v) i e))
      cases false e = ltb-false most (magnitude v i) e

  pub first_over_lem : first_over most v ≢ length v → FirstOver most v (first_over most v)
  unfolding first_over
  first_over_lem n =
      let l : first_over most v < length v = omega (arith, lowest_within (over most v) (length v)) in
      record { inside = l; over = ltb-true most _ (lowest_passes (over most v) (length v) l); first = under_first }

  none_before : (m : ℕ) → InRange most v m → (i : ℕ) → i < m → over most v i ≡ false
  none_before m r i l = le-ltb most (magnitude v i) (r i l)

  pub none_over : InRange most v (length v) → first_over most v ≡ length v
  unfolding first_over
  none_over r = sym (lowest_found (over most v) (length v) (length v) (omega arith) (none_before (length v) r) (λ l. absurd (omega arith)))

  pub over_first : (at : ℕ) → FirstOver most v at → first_over most v ≡ at
  unfolding first_over
  over_first at f =
      sym (lowest_found (over most v) (length v) at (omega (arith, f.inside)) (none_before at f.first) (λ l. lt-ltb most (magnitude v at) f.over))

  pub range_greatest : first_over most v ≡ length v → greatest nat_abs v ≤ most
  unfolding magnitude
  range_greatest e = greatest_each nat_abs v (pos 0) most (subst (InRange most v) e under_first)
