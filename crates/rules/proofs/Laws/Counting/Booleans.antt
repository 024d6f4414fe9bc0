-- Tests, which give true or false: what it tells that one holds, when two agree, and what is selected by one.
use Rattle.std.specs.Prelude.{◌≡◌, refl, List, [], ◌∷◌, ◌++◌, Bool, true, false, cond, ◌&&◌, ◌||◌, ◌⊎◌, ℕ, zero, suc, ◌≤◌, ◌<◌}
use Rattle.std.proofs.Common.{ap, sym, ◌∙◌, true≢false, inl, inr, arith}
use Rattle.std.proofs.Math.Bool.{and_assoc, or_assoc}
use Rattle.rules.specs.Document.Notation.{any, every, lowest}
use Rattle.rules.specs.Promises.Vocabulary.{selection}
use Rattle.rules.proofs.Promises.Cases.{cases_hold}

-- one selection after another
pub selection_both : {X : Type 0} (t u : X → Bool) (xs : List X) → selection (λ x. t x && u x) xs ≡ selection u (selection t xs)
unfolding selection
selection_both t u [] = refl
selection_both {X} t u (x ∷ xs) = by (t x) (selection_both t u xs)
  where
    rest : List X
    rest = selection (λ x. t x && u x) xs

    by : (b : Bool) → rest ≡ selection u (selection t xs) → cond (b && u x) (x ∷ rest) rest ≡ selection u (cond b (x ∷ selection t xs) (selection t xs))
    by true e = ap (λ ys. cond (u x) (x ∷ ys) ys) e
    by false e = e

-- What `cc` makes of two constructors that differ, for any goal.
pub clash : {X : Type 0} → ◌≡◌ {A = ℕ} 0 1 → X
clash e = absurd (omega arith)

-- Two tests that hold together are the same.
pub same_test : (a b : Bool) → (a ≡ true → b ≡ true) → (b ≡ true → a ≡ true) → a ≡ b
same_test true b f g = sym (f refl)
same_test false true f g = g refl
same_test false false f g = refl

pub not_test : (a : Bool) → (a ≡ true → ⊥) → a ≡ false
not_test true h = absurd (h refl)
not_test false h = refl

pub both : (a b : Bool) → a ≡ true → b ≡ true → a && b ≡ true
both a b h g = rw (h, g)

pub both_left : (a b : Bool) → a && b ≡ true → a ≡ true
both_left true b h = refl
both_left false b h = h

pub both_right : (a b : Bool) → a && b ≡ true → b ≡ true
both_right true b h = h
both_right false b h = absurd (true≢false (sym h))

pub either : (a b : Bool) → a || b ≡ true → (a ≡ true) ⊎ (b ≡ true)
either true b h = inl refl
either false b h = inr h

pub either_right : (a b : Bool) → b ≡ true → a || b ≡ true
either_right true b h = refl
either_right false b h = h

-- any and every, of a list put together
pub any_append : {X : Type 0} (t : X → Bool) (xs ys : List X) → any t (xs ++ ys) ≡ any t xs || any t ys
unfolding any
any_append t [] ys = refl
any_append t (x ∷ xs) ys = rw (any_append t xs ys) (sym (or_assoc (t x) (any t xs) (any t ys)))

pub every_append : {X : Type 0} (t : X → Bool) (xs ys : List X) → every t (xs ++ ys) ≡ every t xs && every t ys
unfolding every
every_append t [] ys = refl
every_append t (x ∷ xs) ys = rw (every_append t xs ys) (sym (and_assoc (t x) (every t xs) (every t ys)))

-- lowest: m where none passes, else the least that does
pub lowest_within : (t : ℕ → Bool) (m : ℕ) → lowest t m ≤ m
unfolding lowest
lowest_within t zero = omega arith
lowest_within t (suc m) = cases (t 0) (lowest_within (λ n. t (suc n)) m)
  where
    cases : (b : Bool) → lowest (λ n. t (suc n)) m ≤ m → cond b 0 (suc (lowest (λ n. t (suc n)) m)) ≤ suc m
    cases true h = omega arith
    cases false h = omega arith

pub lowest_passes : (t : ℕ → Bool) (m : ℕ) → lowest t m < m → t (lowest t m) ≡ true
unfolding lowest
lowest_passes t zero h = absurd (omega arith)
lowest_passes t (suc m) h = cases (t 0) refl h (lowest_passes (λ n. t (suc n)) m)
  where
    cases : (b : Bool) → t 0 ≡ b → cond b 0 (suc (lowest (λ n. t (suc n)) m)) < suc m
        → (lowest (λ n. t (suc n)) m < m → t (suc (lowest (λ n. t (suc n)) m)) ≡ true)
        → t (cond b 0 (suc (lowest (λ n. t (suc n)) m))) ≡ true
    cases true e l r = e
    cases false e l r = r (omega arith)

pub lowest_least : (t : ℕ → Bool) (m n : ℕ) → t n ≡ true → lowest t m ≤ n
unfolding lowest
lowest_least t zero n h = omega arith
lowest_least t (suc m) n h = cases (t 0) refl n h (lowest_least (λ n. t (suc n)) m)
  where
    cases : (b : Bool) → t 0 ≡ b → (n : ℕ) → t n ≡ true → ((n : ℕ) → t (suc n) ≡ true → lowest (λ n. t (suc n)) m ≤ n)
        → cond b 0 (suc (lowest (λ n. t (suc n)) m)) ≤ n
    cases true e n h r = omega arith
    cases false e zero h r = absurd (true≢false (sym h ∙ e))
    cases false e (suc n) h r = omega (arith, r n h)

pub lowest_same : (t u : ℕ → Bool) (m : ℕ) → ((n : ℕ) → n < m → t n ≡ u n) → lowest t m ≡ lowest u m
unfolding lowest
lowest_same t u zero h = refl
lowest_same t u (suc m) h =
    rw (h 0 (omega arith), lowest_same (λ n. t (suc n)) (λ n. u (suc n)) m (λ n l. h (suc n) (omega arith)))

-- what a search from 0 finds
pub lowest_found : (t : ℕ → Bool) (m i : ℕ) → i ≤ m → ((k : ℕ) → k < i → t k ≡ false) → (i < m → t i ≡ true) → i ≡ lowest t m
unfolding lowest
lowest_found t zero i h before here = omega arith
lowest_found t (suc m) zero h before here = rw (here (omega arith))
lowest_found t (suc m) (suc i) h before here =
    rw (before 0 (omega arith))
    (ap suc (lowest_found (λ k. t (suc k)) m i (omega arith) (λ k l. before (suc k) (omega arith)) (λ l. here (omega arith))))
