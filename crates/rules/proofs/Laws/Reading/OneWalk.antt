-- The test that one walk over a record can make: what came by before a part decides whether it is usable, by document 01's definition over
-- all the parts there are.
use Rattle.std.specs.Prelude.{◌≡◌, List, [], ◌∷◌, ◌++◌, Bool, cond, ◌&&◌, ℕ, suc, ◌≤◌, ◌<◌, leb}
use Rattle.std.proofs.Math.Path.{refl}
use Rattle.std.proofs.Common.{ap, sym, ◌∙◌, subst, append_assoc, true≢false, arith}
use Rattle.std.proofs.Math.Bool.{true, false}
use Rattle.std.proofs.Math.Logic.{⊎_elim}
use Rattle.std.proofs.Math.Decide.{dec_le, dec_lt}
use Rattle.std.proofs.Math.Dec.{eqb}
use borrow.Author.Tests.{leb-true, le-leb, eqb-true, eq-eqb}
use Rattle.rules.specs.Document.Notation.{any}
use Rattle.rules.specs.Document.Passes.{PartName}
use Rattle.rules.specs.Document.Layout.{same_name, usable, reached}
use Rattle.rules.specs.Laws.Counting.Sums.{All}
use Rattle.rules.proofs.Laws.Counting.Booleans.{same_test, not_test, both, both_left, both_right, either, either_right, lowest_same}
use Rattle.rules.specs.Laws.Reading.Parts.{After, InOrder}
use Rattle.rules.proofs.Laws.Reading.Parts.{same_name_lem, name_same, present_append, absent, order_behind, order_front}
use Rattle.rules.specs.Laws.Reading.OneWalk.{usable_now, reached_now}
use Rattle.rules.specs.Promises.Vocabulary.{at, Named, present, Usable}
use Rattle.rules.proofs.Laws.Reading.Usable.{usable_every, every_usable, usable_there, usable_rises, reached_within, usable_reached, reached_usable}

module _ (top planes : ℕ) (seen : List PartName) (p : PartName) (front : All (λ q. After q p) seen) where
  -- the parts that came by, p the last
  abbrev with_it : List PartName
  with_it = seen ++ (p ∷ [])

  abbrev R : ℕ → ℕ
  R k = reached top planes seen k

  it_there : present with_it p ≡ true
  unfolding present any
  it_there = present_append seen (p ∷ []) p ∙ either_right (present seen p) _ (rw (name_same p p refl refl))

  still_there : (q : PartName) → present seen q ≡ true → present with_it q ≡ true
  still_there q h = present_append seen (p ∷ []) q ∙ rw h

  other_there : (q : PartName) → present with_it q ≡ true → same_name q p ≡ false → present seen q ≡ true
  unfolding present any
  other_there q h d =
      ⊎_elim (λ x. x) (λ x. absurd (true≢false (sym x ∙ rw d))) (either (present seen q) _ (sym (present_append seen (p ∷ []) q) ∙ h))

  -- nothing that needs p has come by
  not_seen : (q : PartName) → q.plane ≤ p.plane → q.level ≤ p.level → present seen q ≡ false
  not_seen q a b = absent (λ x. After x p) seen q front (λ x. omega (arith, x.in_plane a))

  -- What comes after p is not needed for it.
  pub usable_later : (later : List PartName) → All (After p) later
      → usable top planes (seen ++ p ∷ later) p ≡ usable top planes (seen ++ (p ∷ [])) p
  usable_later later behind =
      same_test _ _
      (λ h. every_usable top planes with_it p (λ q l a b. fewer q a b (usable_every top planes _ p h q l a b)))
      (λ h. every_usable top planes _ p (λ q l a b. more q (usable_every top planes with_it p h q l a b)))
    where
      split : present (seen ++ p ∷ later) ≡ present (with_it ++ later)
      split = ap present (sym (append_assoc seen (p ∷ []) later))

      fewer : (q : PartName) → p.plane ≤ q.plane → p.level ≤ q.level → present (seen ++ p ∷ later) q ≡ true → present with_it q ≡ true
      fewer q a b h =
          ⊎_elim (λ x. x) (λ x. absurd (true≢false (sym x ∙ absent (After p) later q behind (λ y. omega (arith, y.in_plane a)))))
          (either (present with_it q) _ (sym (present_append with_it later q) ∙ ap (λ f. f q) (sym split) ∙ h))

      more : (q : PartName) → present with_it q ≡ true → present (seen ++ p ∷ later) q ≡ true
      more q h = ap (λ f. f q) split ∙ present_append with_it later q ∙ rw h

  module _ (named : Named top planes p) where
    pub differs : (q : PartName) → (q.plane ≡ p.plane → q.level ≡ p.level → ⊥) → same_name q p ≡ false
    differs q h = not_test _ (λ e. let s : q ≡ p = same_name_lem q p e in h (ap (λ x. x.plane) s) (ap (λ x. x.level) s))

    -- p makes no other part usable: were it needed for q, q would have come by
    pub usable_other : (q : PartName) → 1 ≤ q.level → same_name q p ≡ false → usable top planes with_it q ≡ usable top planes seen q
    usable_other q f d =
        same_test _ _
        (λ h. every_usable top planes seen q (λ x l a b. cases h x l a b (same_name x p) refl))
        (λ h. every_usable top planes with_it q (λ x l a b. still_there x (usable_every top planes seen q h x l a b)))
      where
        early : usable top planes with_it q ≡ true → q.plane ≤ p.plane → q.level ≤ p.level → ⊥
        early h a b =
            let l : Named top planes q = record { under = omega (arith, named.under); from1 = f; up_to = omega (arith, named.up_to) } in
            true≢false (sym (other_there q (usable_there top planes with_it q l h) d) ∙ not_seen q a b)

        cases : usable top planes with_it q ≡ true → (x : PartName) → Named top planes x → q.plane ≤ x.plane → q.level ≤ x.level
            → (b : Bool) → same_name x p ≡ b → present seen x ≡ true
        cases h x l a b false e = other_there x (usable_every top planes with_it q h x l a b) e
        cases h x l a b true e =
            let s : x ≡ p = same_name_lem x p e in
            absurd (early h (subst (λ y. q.plane ≤ y.plane) s a) (subst (λ y. q.level ≤ y.level) s b))

    -- before p came by, its plane was not reached
    not_usable : (q : PartName) → usable top planes seen q ≡ true → q.plane ≤ p.plane → q.level ≤ p.level → ⊥
    not_usable q h a b = true≢false (sym (usable_every top planes seen q h p named a b) ∙ not_seen p (omega arith) (omega arith))

    pub reached_above : p.plane < R p.level
    reached_above = cases (dec_le (R p.level) p.plane)
      where
        cases : Dec (R p.level ≤ p.plane) → p.plane < R p.level
        cases (no l) = omega arith
        cases (yes l) =
            absurd (not_usable p (usable_reached top planes seen p.plane p.level named.under ∙ le-leb _ _ l) (omega arith) (omega arith))

    -- p usable, then the test holds
    plane_above : usable top planes with_it p ≡ true → R p.level ≡ suc p.plane
    plane_above h = cases (dec_lt (suc p.plane) planes)
      where
        up : PartName
        up = at (suc p.plane) p.level

        cases : Dec (suc p.plane < planes) → R p.level ≡ suc p.plane
        cases (no l) = omega (arith, reached_above, reached_within top planes seen p.level)
        cases (yes l) =
            let u : usable top planes with_it up ≡ true = usable_rises top planes with_it p up (omega arith) (omega arith) h in
            let v : usable top planes seen up ≡ true = sym (usable_other up named.from1 (differs up (λ a b. omega arith))) ∙ u in
            omega (arith, reached_above, leb-true (R p.level) (suc p.plane) (sym (usable_reached top planes seen (suc p.plane) p.level l) ∙ v))

    coarser_too : usable top planes with_it p ≡ true → leb (R (suc p.level)) p.plane ≡ true
    coarser_too h =
        let over : PartName = at p.plane (suc p.level) in
        sym (usable_reached top planes seen p.plane (suc p.level) named.under)
        ∙ sym (usable_other over (omega arith) (differs over (λ a b. omega arith)))
        ∙ usable_rises top planes with_it p over (omega arith) (omega arith) h

    -- the test holds, then p is usable: what p needs is in a plane above, or in its plane and coarser, or p itself
    test_usable : R p.level ≡ suc p.plane → R (suc p.level) ≤ p.plane → Usable top planes with_it p
    test_usable e r q x a b = cases (dec_lt p.plane q.plane) (dec_lt p.level q.level)
      where
        came : (n k : ℕ) → n < planes → R k ≤ n → n ≤ q.plane → k ≤ q.level → present with_it q ≡ true
        came n k l c d f = still_there q (usable_every top planes seen (at n k) (usable_reached top planes seen n k l ∙ le-leb _ _ c) q x d f)

        cases : Dec (p.plane < q.plane) → Dec (p.level < q.level) → present with_it q ≡ true
        cases (yes l) d = came q.plane p.level x.under (omega arith) (omega arith) b
        cases (no l) (yes m) = came p.plane (suc p.level) named.under r a m
        cases (no l) (no m) = ap (present with_it) (same_name_lem q p (name_same q p (omega arith) (omega arith))) ∙ it_there

    pub usable_now_lem : usable top planes (seen ++ (p ∷ [])) p ≡ usable_now (λ k. reached top planes seen k) p
    unfolding usable_now
    usable_now_lem =
        same_test _ _
        (λ h. both _ _ (eq-eqb (R p.level) (suc p.plane) (plane_above h)) (coarser_too h))
        (λ h. every_usable top planes with_it p
        (test_usable (eqb-true (R p.level) (suc p.plane) (both_left _ _ h)) (leb-true _ _ (both_right (eqb (R p.level) (suc p.plane)) _ h))))

    -- The reached planes change at p's level only, and only where p is usable.
    reached_it : usable top planes with_it p ≡ true → reached top planes with_it p.level ≡ p.plane
    reached_it h = cases (dec_lt r p.plane)
      where
        r : ℕ
        r = reached top planes with_it p.level

        lower : PartName
        lower = at r p.level

        lower_usable : r < p.plane → usable top planes seen lower ≡ true
        lower_usable l =
            sym (usable_other lower named.from1 (differs lower (λ a b. omega arith)))
            ∙ reached_usable top planes with_it p.level (omega (arith, named.under))

        cases : Dec (r < p.plane) → r ≡ p.plane
        cases (no l) = omega (arith, leb-true r p.plane (sym (usable_reached top planes with_it p.plane p.level named.under) ∙ h))
        cases (yes l) = absurd (not_usable lower (lower_usable l) (omega arith) (omega arith))

    usable_same : (q : PartName) → 1 ≤ q.level → (same_name q p ≡ true → usable top planes with_it p ≡ false)
        → usable top planes with_it q ≡ usable top planes seen q
    usable_same q f h = cases (same_name q p) refl
      where
        cases : (b : Bool) → same_name q p ≡ b → usable top planes with_it q ≡ usable top planes seen q
        cases false e = usable_other q f e
        cases true e =
            let s : q ≡ p = same_name_lem q p e in
            let none : usable top planes seen p ≡ false = not_test _ (λ v. not_usable p v (omega arith) (omega arith)) in
            ap (usable top planes with_it) s ∙ h e ∙ sym (ap (usable top planes seen) s ∙ none)

    pub reached_now_lem : (k : ℕ) → 1 ≤ k → reached top planes (seen ++ (p ∷ [])) k ≡ reached_now (λ k. reached top planes seen k) p k
    unfolding reached_now
    reached_now_lem k f = cases (eqb k p.level && usable_now R p) refl
      where
        is_usable : (b : Bool) → usable_now R p ≡ b → usable top planes with_it p ≡ b
        is_usable b e = usable_now_lem ∙ e

        cases : (b : Bool) → eqb k p.level && usable_now R p ≡ b → reached top planes with_it k ≡ cond b p.plane (R k)
        cases true h =
            ap (reached top planes with_it) (eqb-true k p.level (both_left _ _ h)) ∙ reached_it (is_usable true (both_right (eqb k p.level) _ h))
        cases false h = unfold reached in lowest_same _ _ planes (λ n l. usable_same (at n k) f (λ e. is_usable false (own n e)))
          where
            own : (n : ℕ) → same_name (at n k) p ≡ true → usable_now R p ≡ false
            own n e = let o : eqb k p.level ≡ true = eq-eqb _ _ (ap (λ x. x.level) (same_name_lem (at n k) p e)) in rw o at h

-- The one_walk test, over parts in order.
module _ (top planes : ℕ) (before : PartName) (seen : List PartName) (p : PartName) (later : List PartName)
    (order : InOrder before (seen ++ p ∷ later)) (named : Named top planes p) where
  pub one_walk : usable top planes (seen ++ p ∷ later) p ≡ usable_now (λ k. reached top planes seen k) p
  one_walk =
      let front : All (λ q. After q p) seen = order_front p later before seen order in
      usable_later top planes seen p front later (order_behind p later before seen order) ∙ usable_now_lem top planes seen p front named

  pub reached_walk : (k : ℕ) → 1 ≤ k → reached top planes (seen ++ (p ∷ [])) k ≡ reached_now (λ k. reached top planes seen k) p k
  reached_walk = reached_now_lem top planes seen p (order_front p later before seen order) named
