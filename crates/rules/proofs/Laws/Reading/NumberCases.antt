-- Reading a number has the outcome that its case says, and no other.
use Rattle.std.specs.Prelude.{◌≡◌, List, Bool, true, false, cond, ◌&&◌, ◌≢◌, leb, ltb, eqb, length, Ok, Err}
use Rattle.std.proofs.Math.Path.{refl, ap₂, subst}
use Rattle.std.proofs.Common.{sym, ◌∙◌, pow-suc}
use Prim.Native.Nat.{ℕ, zero, suc, ◌+◌, ◌-◌, ◌*◌, ◌^◌, ◌≤◌, ◌<◌}
use native.Mathlib.Omega.{arith}
use Rattle.std.proofs.Math.Nat.{pow-le-pow_right}
use Rattle.std.proofs.Math.Decide.{dec_lt}
use Rattle.std.proofs.Math.ListN.{get_or, get_or-eq_default}
use borrow.Author.Tests.{leb-true, leb-false, le-leb, lt-ltb, eqb-true, eqb-false}
use Rattle.rules.specs.declared.NoNumber.TheVariants.{LongForm, CutOff}
use Rattle.rules.specs.Document.Layout.{number_from, read_number, Number}
use Rattle.rules.specs.Laws.Bytes.Numbers.{too_large}
use Rattle.rules.proofs.Laws.Bytes.Numbers.{number_from_cut, number_from_last, number_from_next, shortest_form, group_below}
use Rattle.rules.specs.Promises.Refusals.{GoesOn, groups_worth, NumberCase, CUT-OFF, FOURTH-goes-on, LAST-is-0, VALUE}

module _ (s : List ℕ) (at : ℕ) where
  -- what is read behind i bytes that go on, with so many bytes still allowed
  abbrev behind : ℕ → ℕ → Number
  behind i more = number_from more s (at + i) (128 ^ i) (groups_worth s at i)

  one_more : (i : ℕ) → GoesOn s at i → 128 ≤ get_or s (at + i) 0 → GoesOn s at (suc i)
  one_more i g b j l = cases (dec_lt j i)
    where
      cases : Dec (j < i) → 128 ≤ get_or s (at + j) 0
      cases (yes k) = g j k
      cases (no k) = let e : i ≡ j = omega arith in subst (λ x. 128 ≤ get_or s (at + x) 0) e b

  behind_next : (i more : ℕ)
      → number_from more s (at + i + 1) (128 ^ i * 128) (groups_worth s at i + (get_or s (at + i) 0 - 128) * 128 ^ i) ≡ behind (suc i) more
  unfolding groups_worth
  behind_next i more =
      let e : at + i + 1 ≡ at + suc i = omega arith in
      ap₂ (λ x y. number_from more s x y (groups_worth s at (suc i))) e (sym (pow-suc 128 i))

  several : (i : ℕ) → ltb 1 (128 ^ i) ≡ leb 1 i
  several zero = refl
  several (suc i) =
      let l : 128 ^ 1 ≤ 128 ^ suc i = pow-le-pow_right {n = 128} (omega arith) {i = 1} {j = suc i} (omega arith) in
      lt-ltb 1 (128 ^ suc i) (omega arith) ∙ sym (le-leb 1 (suc i) (omega arith))

  behind_case : (more i : ℕ) → i + more ≡ 4 → GoesOn s at i → NumberCase s at (behind i more)
  unfolding number_from
  behind_case zero i e g = FOURTH-goes-on (let q : i ≡ 4 = omega arith in subst (GoesOn s at) q g)
  behind_case (suc more) i e g = cases (leb (length s) (at + i)) refl (leb 128 b) refl (eqb b 0) refl (behind_case more (suc i) (omega arith))
    where
      b : ℕ
      b = get_or s (at + i) 0

      last : (c : Bool) → eqb b 0 ≡ c → at + i < length s → b < 128 → (d : Bool) → leb 1 i ≡ d
          → NumberCase s at (cond (d && c) (Err LongForm) (Ok (groups_worth s at i + b * 128 ^ i, at + i + 1)))
      last true z l k true o = LAST-is-0 i (leb-true 1 i o) (omega arith) g l (eqb-true b 0 z)
      last true z l k false o = VALUE i (omega arith) g l k (λ q. absurd (omega (arith, leb-false 1 i o)))
      last false z l k true o = VALUE i (omega arith) g l k (λ q. eqb-false b 0 z)
      last false z l k false o = VALUE i (omega arith) g l k (λ q. eqb-false b 0 z)

      cases : (x : Bool) → leb (length s) (at + i) ≡ x → (y : Bool) → leb 128 b ≡ y → (c : Bool) → eqb b 0 ≡ c
          → (GoesOn s at (suc i) → NumberCase s at (behind (suc i) more))
          → NumberCase s at (cond x (Err CutOff) (cond y (number_from more s (at + i + 1) (128 ^ i * 128) (groups_worth s at i + (b - 128) * 128 ^ i))
          (cond (ltb 1 (128 ^ i) && c) (Err LongForm) (Ok (groups_worth s at i + b * 128 ^ i, at + i + 1)))))
      cases true l y k c z r = CUT-OFF i (omega arith) g (leb-true _ _ l)
      cases false l true k c z r = rw (behind_next i more) (r (one_more i g (leb-true _ _ k)))
      cases false l false k c z r = rw (several i) (last c z (leb-false _ _ l) (leb-false _ _ k) (leb 1 i) refl)

  pub number_case : NumberCase s at (read_number s at)
  unfolding read_number groups_worth
  number_case =
      let e : at + 0 ≡ at = omega arith in
      subst (λ x. NumberCase s at (number_from 4 s x 1 0)) e (behind_case 4 0 (omega arith) (λ j l. absurd (omega arith)))

  byte_there : (i : ℕ) → 128 ≤ get_or s (at + i) 0 → at + i < length s
  byte_there i b = cases (dec_lt (at + i) (length s))
    where
      cases : Dec (at + i < length s) → at + i < length s
      cases (yes l) = l
      cases (no l) = absurd (omega (arith, get_or-eq_default s 0 {n = at + i} (omega arith)))

  -- behind the bytes that go on
  number_behind : (i more : ℕ) → i + more ≡ 4 → GoesOn s at i → read_number s at ≡ behind i more
  unfolding read_number groups_worth
  number_behind zero more e g =
      let q : at ≡ at + 0 = omega arith in
      let m : 4 ≡ more = omega arith in
      ap₂ (λ x y. number_from x s y 1 0) m q
  number_behind (suc i) more e g =
      let b : 128 ≤ get_or s (at + i) 0 = g i (omega arith) in
      number_behind i (suc more) (omega arith) (λ j l. g j (omega arith))
      ∙ number_from_next more s (at + i) (128 ^ i) (groups_worth s at i) (byte_there i b) b ∙ behind_next i more

  pub number_is : (x : Number) → NumberCase s at x → read_number s at ≡ x
  unfolding number_from
  number_is x (CUT-OFF i l g e) =
      number_behind i (suc (3 - i)) (omega arith) g ∙ number_from_cut (3 - i) s (at + i) (128 ^ i) (groups_worth s at i) e
  number_is x (FOURTH-goes-on g) = number_behind 4 0 (omega arith) g
  number_is x (LAST-is-0 i o l g t z) =
      number_behind i (suc (3 - i)) (omega arith) g ∙ number_from_last (3 - i) s (at + i) (128 ^ i) (groups_worth s at i) t (omega arith)
      ∙ rw (z, several i, le-leb 1 i o)
  number_is x (VALUE i l g t k n) =
      number_behind i (suc (3 - i)) (omega arith) g ∙ number_from_last (3 - i) s (at + i) (128 ^ i) (groups_worth s at i) t k
      ∙ rw (shortest_form (128 ^ i) (get_or s (at + i) 0) (λ o. not_0 (get_or s (at + i) 0) (n (leb-true 1 i (sym (several i) ∙ lt-ltb 1 (128 ^ i) o)))))
    where
      not_0 : (b : ℕ) → b ≢ 0 → 1 ≤ b
      not_0 b n = omega arith

  -- Of bytes, and not of any numbers, a value has four groups at most.
  groups_under : ((j : ℕ) → get_or s j 0 < 256) → (i : ℕ) → groups_worth s at i < 128 ^ i
  unfolding groups_worth
  groups_under bytes zero = omega arith
  groups_under bytes (suc i) =
      rw (pow-suc 128 i)
      (group_below (groups_worth s at i) (128 ^ i) (get_or s (at + i) 0 - 128) (groups_under bytes i) (omega (arith, bytes (at + i))))

  pub number_under : ((j : ℕ) → get_or s j 0 < 256) → (v end : ℕ) → read_number s at ≡ Ok (v, end) → v < too_large
  number_under bytes v end e = cases (subst (NumberCase s at) e number_case)
    where
      cases : {v end : ℕ} → NumberCase s at (Ok (v, end)) → v < too_large
      cases (VALUE i l g t k n) =
          omega (
            arith,
            group_below (groups_worth s at i) (128 ^ i) (get_or s (at + i) 0) (groups_under bytes i) k,
            pow-suc 128 i,
            pow-le-pow_right {n = 128} (omega arith) {i = suc i} {j = 4} l,
          )
