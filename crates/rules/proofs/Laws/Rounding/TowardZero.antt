-- Magnitudes rounded toward zero, plane by plane, and the signed values that the decoder writes for them.
use Rattle.std.specs.Prelude.{◌≡◌, refl, Bool, true, false, cond, ◌≢◌, ℕ, zero, suc, ◌+◌, ◌-◌, ◌*◌, ◌/◌, ◌%◌, ◌^◌, ◌≤◌, ◌<◌, ltb, eqb, ℤ, pos, negsuc}
use Rattle.std.specs.Prelude.{nat_abs, neg_ℤ, ◌-ℤ◌}
use Rattle.std.proofs.Common.{ap, sym, ◌∙◌, inl, inr, arith, div-add-mod', mod-lt, pow-suc, add-one, pow_pos, pow_mono, shr-shr, ltb-true, ltb-false, eqb-true}
use Rattle.std.proofs.Math.Decide.{dec_le}
use Rattle.std.proofs.Math.Nat.{div-eq_of_lt-le, div-eq_of_lt}
use Rattle.std.proofs.Math.IntN.{sub_ℕ}
use Rattle.std.proofs.Math.Pow.{split}
use Rattle.std.proofs.lemmas.Bool.{eqb-false}
use Rattle.rules.specs.Document.Pyramid.{below0}
use Rattle.rules.specs.Document.Passes.{signed, grown}
use Rattle.rules.specs.Promises.Vocabulary.{toward_zero, Near}
use Rattle.rules.proofs.Promises.Cases.{cases_hold}

-- What is rounded away is less than 2^m; where the magnitude is below 2^m that is all of it, at plane 0 nothing.
pub toward_most : (m x : ℕ) → toward_zero m x ≤ x
unfolding toward_zero
toward_most m x = omega (arith, split x m)

pub toward_near : (m x : ℕ) → x < toward_zero m x + 2 ^ m
unfolding toward_zero
toward_near m x = omega (arith, split x m, mod-lt x (pow_pos m))

pub toward_small : (m x : ℕ) → x < 2 ^ m → toward_zero m x ≡ 0
unfolding toward_zero
toward_small m x h = rw (div-eq_of_lt h) (omega arith)

pub toward_all : (x : ℕ) → toward_zero 0 x ≡ x
toward_all x = omega (arith, toward_most 0 x, toward_near 0 x)

-- From one plane to the next: what comes in at plane n is 2^n, what was in gets bit n.
pub toward_first : (n x : ℕ) → 2 ^ n ≤ x → x < 2 ^ suc n → toward_zero n x ≡ 2 ^ n
unfolding toward_zero
toward_first n x l h =
    let e : x / 2 ^ n ≡ 1 = div-eq_of_lt-le {k = 1} (2 ^ n) (omega arith) (omega arith) in
    rw e (omega arith)

two_parts : (a h t q : ℕ) → h * 2 + t ≡ a → a * q ≡ h * (q * 2) + t * q
two_parts a h t q e = rw (← e) (omega arith)

toward_next : (n x : ℕ) → toward_zero n x ≡ toward_zero (suc n) x + x / 2 ^ n % 2 * 2 ^ n
unfolding toward_zero
toward_next n x =
    let e : x / 2 ^ suc n ≡ x / 2 ^ n / 2 = ap (λ (y : ℕ). x / 2 ^ y) (sym (add-one n)) ∙ sym (shr-shr x n 1) in
    rw (e, pow-suc) (two_parts (x / 2 ^ n) (x / 2 ^ n / 2) (x / 2 ^ n % 2) (2 ^ n) (div-add-mod' (x / 2 ^ n) 2))

-- Signed values: 0 has no sign.
pub signed_zero : (s : Bool) → signed s 0 ≡ pos 0
unfolding signed
signed_zero false = refl
signed_zero true = refl

pub signed_itself : (x : ℤ) → signed (below0 x) (nat_abs x) ≡ x
unfolding signed
signed_itself (pos m) = refl
signed_itself (negsuc m) = refl

pub signed_magnitude : (s : Bool) (m : ℕ) → nat_abs (signed s m) ≡ m
unfolding signed
signed_magnitude false m = refl
signed_magnitude true zero = refl
signed_magnitude true (suc m) = refl

pub signed_sign : (s : Bool) (m : ℕ) → 1 ≤ m → below0 (signed s m) ≡ s
unfolding signed
signed_sign false m l = refl
signed_sign true zero l = absurd (omega arith)
signed_sign true (suc m) l = refl

grown_signed : (s : Bool) (a x : ℕ) → 1 ≤ x → grown true a (signed s x) ≡ signed s (x + a)
unfolding grown signed
grown_signed false a x h = refl
grown_signed true a zero h = absurd (omega arith)
grown_signed true a (suc x) h = let e : suc x + a ≡ suc (x + a) = omega arith in rw e

-- A refinement bit takes a value that is known to plane n + 1 to plane n.
pub grown_next : (n x : ℕ) (s : Bool) → 2 ^ suc n ≤ x
    → grown (eqb (x / 2 ^ n % 2) 1) (2 ^ n) (signed s (toward_zero (suc n) x)) ≡ signed s (toward_zero n x)
unfolding grown
grown_next n x s l = by (eqb (x / 2 ^ n % 2) 1) refl
  where
    by : (b : Bool) → eqb (x / 2 ^ n % 2) 1 ≡ b → grown b (2 ^ n) (signed s (toward_zero (suc n) x)) ≡ signed s (toward_zero n x)
    by true e =
        let one : x / 2 ^ n % 2 ≡ 1 = eqb-true _ _ e in
        grown_signed s (2 ^ n) (toward_zero (suc n) x) (omega (arith, toward_near (suc n) x))
        ∙ ap (signed s) (sym (toward_next n x ∙ rw one (omega arith)))
    by false e =
        let other : x / 2 ^ n % 2 ≢ 1 = eqb-false _ _ e in
        let none : x / 2 ^ n % 2 ≡ 0 = omega (arith, mod-lt (x / 2 ^ n) {m = 2} (omega arith)) in
        ap (signed s) (sym (toward_next n x ∙ rw none (omega arith)))

-- A signed value rounded toward zero is near the one that was rounded.
apart : (a b : ℕ) → nat_abs (sub_ℕ a b) ≡ (a - b) + (b - a)
apart a b = by (ltb a b) refl
  where
    by : (t : Bool) → ltb a b ≡ t → nat_abs (cond t (negsuc (b - suc a)) (pos (a - b))) ≡ (a - b) + (b - a)
    by true e = omega (arith, ltb-true a b e)
    by false e = omega (arith, ltb-false a b e)

near_pos : (m x t : ℕ) → t ≤ x → x < t + 2 ^ m → nat_abs (pos t -ℤ pos x) < 2 ^ m
near_pos m zero t l h = omega arith
near_pos m (suc x) t l h = omega (arith, apart t (suc x))

near_neg : (m x t : ℕ) → t ≤ suc x → suc x < t + 2 ^ m → nat_abs (neg_ℤ (pos t) -ℤ negsuc x) < 2 ^ m
near_neg m x zero l h = omega arith
near_neg m x (suc t) l h = omega (arith, apart (suc x) (suc t))

pub rounded_near : (m : ℕ) (x : ℤ) → Near m (signed (below0 x) (toward_zero m (nat_abs x))) x
unfolding signed
rounded_near m (pos x) =
    record { distance = near_pos m x (toward_zero m x) (toward_most m x) (toward_near m x); no_greater = toward_most m x; sign = inr refl }
rounded_near m (negsuc x) = by (toward_zero m (suc x)) (toward_most m (suc x)) (toward_near m (suc x))
  where
    by : (t : ℕ) → t ≤ suc x → suc x < t + 2 ^ m → Near m (neg_ℤ (pos t)) (negsuc x)
    by zero l h = record { distance = near_neg m x zero l h; no_greater = omega arith; sign = inl refl }
    by (suc t) l h = record { distance = near_neg m x (suc t) l h; no_greater = l; sign = inr refl }

-- What is near by a lower plane is near by a higher one.
pub near_above : {n m : ℕ} {x y : ℤ} → n ≤ m → Near n x y → Near m x y
near_above {n} {m} l a = record { distance = omega (arith, a.distance, pow_mono {i = n} {j = m} l); no_greater = a.no_greater; sign = a.sign }

-- A lower plane rounds less away.
toward_step : (n x : ℕ) → toward_zero (suc n) x ≤ toward_zero n x
toward_step n x = omega (arith, toward_next n x)

pub toward_falls : (n m x : ℕ) → n ≤ m → toward_zero m x ≤ toward_zero n x
toward_falls n zero x l = let e : n ≡ 0 = omega arith in rw e (omega arith)
toward_falls n (suc m) x l = by (dec_le n m) (toward_falls n m x)
  where
    by : Dec (n ≤ m) → (n ≤ m → toward_zero m x ≤ toward_zero n x) → toward_zero (suc m) x ≤ toward_zero n x
    by (yes i) r = omega (arith, r i, toward_step m x)
    by (no i) r = let e : n ≡ suc m = omega arith in rw e (omega arith)
