-- The lists of all levels, after a pass of one of them: level by level, and what they weigh together.
use Rattle.std.specs.Prelude.{◌≡◌, refl, List, [], ◌∷◌, Bool, true, false, cond, ◌≢◌, eqb}
use Rattle.std.proofs.Common.{ap, ◌∙◌, subst, arith, lt-ltb, eqb-true}
use Rattle.std.proofs.Math.Path.{sym}
use Prim.Native.Nat.{ℕ, zero, suc, ◌+◌, ◌*◌, ◌≤◌}
use Rattle.std.proofs.Math.Decide.{ℕ_discrete}
use Rattle.std.proofs.lemmas.Bool.{eqb-false}
use Rattle.rules.specs.Document.Pyramid.{Family}
use Rattle.rules.specs.Document.Passes.{Lists, Side, Course, passed, State, own, handed, after, from}
use Rattle.rules.specs.Laws.Counting.Sums.{sum, one, is, ◌∈◌}
use Rattle.rules.proofs.Laws.Counting.Sums.{sum_append, sum_plus, sum_times, sum_same, is_yes, is_no, is_same, all_of, from_once}
use Rattle.rules.specs.Laws.Family.Lawful.{Lawful}
use Rattle.rules.specs.Laws.Pass.Lists.{set_weight, lists_weight, course_weight}
use Rattle.rules.proofs.Laws.Pass.Lists.{passed_weight}
use Rattle.rules.specs.Laws.State.Weight.{state_weight}

-- after
pub after_cases : {S : Type 0} (k : ℕ) (c : Course S) (s : State) (P : ℕ → Lists → Type 0)
    → P k (own c) → ((j : ℕ) → suc j ≡ k → P j (handed c (s j))) → ((j : ℕ) → j ≢ k → suc j ≢ k → P j (s j)) → (j : ℕ) → P j (after k c s j)
unfolding after
after_cases k c s P x y z j = by (eqb j k) refl (eqb (suc j) k) refl
  where
    by : (a : Bool) → eqb j k ≡ a → (b : Bool) → eqb (suc j) k ≡ b → P j (cond a (own c) (cond b (handed c (s j)) (s j)))
    by true e b f = subst (λ (i : ℕ). P i (own c)) (sym (eqb-true j k e)) x
    by false e true f = y j (eqb-true (suc j) k f)
    by false e false f = z j (eqb-false j k e) (eqb-false (suc j) k f)

module _ {S : Type 0} (c : Course S) (s : State) where
  pub after_own : (k : ℕ) → after k c s k ≡ own c
  after_own k =
      after_cases k c s (λ j l. j ≡ k → l ≡ own c) (λ e. refl) (λ j e f. absurd (omega arith)) (λ j d e f. absurd (d f)) k refl

  pub after_next : (j : ℕ) → after (suc j) c s j ≡ handed c (s j)
  after_next j =
      after_cases (suc j) c s (λ i l. suc i ≡ suc j → l ≡ handed c (s i))
      (λ e. absurd (omega arith)) (λ i e f. refl) (λ i d e f. absurd (e f)) j refl

  pub after_other : (k j : ℕ) → j ≢ k → suc j ≢ k → after k c s j ≡ s j
  after_other k j d e =
      after_cases k c s (λ i l. i ≢ k → suc i ≢ k → l ≡ s i)
      (λ d e. absurd (d refl)) (λ i f d e. absurd (e f)) (λ i d e d' e'. refl) j d e

-- sums over levels
pub level_once : (k top : ℕ) → k ≤ top → sum (is k) (from 0 (suc top)) ≡ 1
unfolding one
level_once k top h = from_once k (suc top) ∙ ap one (lt-ltb k (suc top) (omega arith))

sum_part : (w : ℕ → ℕ) (k : ℕ) (ks : List ℕ) → k ∈ ks → w k ≤ sum w ks
unfolding sum
sum_part w k [] h = absurd (omega arith)
sum_part w k (x ∷ ks) h = by (ℕ_discrete x k) (sum_part w k ks)
  where
    by : Dec (x ≡ k) → (k ∈ ks → w k ≤ sum w ks) → w k ≤ w x + sum w ks
    by (yes e) r = rw e (omega arith)
    by (no d) r = omega (arith, r (omega (arith, is_no k x d)))

-- a level is a part of the whole
pub weight_part : (F : Family) (w : ℕ → ℕ) (s : State) (k top : ℕ) → k ≤ top → lists_weight F w (s k) ≤ state_weight F w top s
unfolding state_weight
weight_part F w s k top h = sum_part (λ j. lists_weight F w (s j)) k (from 0 (suc top)) (omega (arith, level_once k top h))

-- what goes from level a to level b changes nothing
sum_moved : (v w : ℕ → ℕ) (a b more : ℕ) (ks : List ℕ) → ((k : ℕ) → v k + more * is a k ≡ w k + more * is b k) → sum (is a) ks ≡ sum (is b) ks
    → sum v ks ≡ sum w ks
sum_moved v w a b more ks h e =
    omega (
      arith,
      sum_same (λ k. v k + more * is a k) (λ k. w k + more * is b k) ks (all_of _ ks h),
      sum_plus v (λ k. more * is a k) ks,
      sum_plus w (λ k. more * is b k) ks,
      sum_times more (is a) ks,
      sum_times more (is b) ks,
      ap (λ (x : ℕ). more * x) e,
    )

module _ (F : Family) (w : ℕ → ℕ) (top j : ℕ) (b : suc j ≤ top) {S : Type 0} (c : Course S) (s : State) where
  handed_weight : course_weight F w c ≡ lists_weight F w (s (suc j)) → state_weight F w top (after (suc j) c s) ≡ state_weight F w top s
  unfolding state_weight course_weight lists_weight
  handed_weight h =
      let more : ℕ = sum (set_weight F w) c.moved in
      sum_moved (λ i. lists_weight F w (after (suc j) c s i)) (λ i. lists_weight F w (s i)) (suc j) j more (from 0 (suc top))
      (after_cases (suc j) c s (λ i l. lists_weight F w l + more * is (suc j) i ≡ lists_weight F w (s i) + more * is j i)
      (rw (is_same (suc j), is_no j (suc j) (omega arith)) (omega arith))
      (λ i e.
      rw (is_no (suc j) i (omega arith), is_yes j i (omega arith)) (omega (arith, sum_append (set_weight F w) (s i).lis c.moved)))
      (λ i d e. rw (is_no (suc j) i d, is_no j i (λ f. e (ap suc f)))))
      (level_once (suc j) top b ∙ sym (level_once j top (omega arith)))

-- A pass conserves every weight.
pub after_weight : {F : Family} (L : Lawful F) (w : ℕ → ℕ) (top k : ℕ) → 1 ≤ k → k ≤ top → {S : Type 0} (C : Side S) (x : S) (s : State)
    → state_weight F w top (after k (passed F k C (s k) x) s) ≡ state_weight F w top s
after_weight L w top zero a b C x s = absurd (omega arith)
after_weight {F} L w top (suc j) a b C x s =
    handed_weight F w top j b (passed F (suc j) C (s (suc j)) x) s (passed_weight L w (suc j) C (s (suc j)) x)
