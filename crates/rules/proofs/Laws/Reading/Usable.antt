-- Usable parts and reached planes: that document 01's definition is the statement Usable, and what follows from it.
use Rattle.std.specs.Prelude.{◌≡◌, List, [], ◌||◌, leb}
use Rattle.std.proofs.Math.Path.{refl}
use Rattle.std.proofs.Common.{sym, ◌∙◌, true≢false, arith}
use Rattle.std.proofs.Math.Bool.{Bool, true, false, not}
use Prim.Native.Nat.{ℕ, suc, ◌≤◌, ◌<◌}
use Rattle.std.proofs.Math.Decide.{dec_lt}
use borrow.Author.Tests.{leb-true, le-leb}
use Rattle.rules.specs.Document.Notation.{any, lowest}
use Rattle.rules.specs.Document.Passes.{PartName}
use Rattle.rules.specs.Document.Layout.{same_name, needs, usable, reached}
use Rattle.rules.specs.Promises.Vocabulary.{Usable, at, Named, present}
use Rattle.rules.proofs.Laws.Counting.Booleans.{same_test, lowest_within, lowest_passes, lowest_least}
use Rattle.rules.proofs.Laws.Reading.Parts.{needs_above, above_needs, every_name, name_every}

module _ (top planes : ℕ) (there : List PartName) where
  pub usable_every : (p : PartName) → usable top planes there p ≡ true → Usable top planes there p
  unfolding usable present
  usable_every p h q l a b =
      let e : needs p q ≡ true = above_needs p q a b in
      rw e at (every_name (λ q. not (needs p q) || any (same_name q) there) top planes h q l)

  pub every_usable : (p : PartName) → Usable top planes there p → usable top planes there p ≡ true
  unfolding usable present
  every_usable p h = name_every (λ q. not (needs p q) || any (same_name q) there) top planes (λ q l. cases q l (needs p q) refl)
    where
      cases : (q : PartName) → Named top planes q → (b : Bool) → needs p q ≡ b → not b || any (same_name q) there ≡ true
      cases q l true e = let a : (p.plane ≤ q.plane) × (p.level ≤ q.level) = needs_above p q e in h q l a.0 a.1
      cases q l false e = refl

  pub usable_there : (p : PartName) → Named top planes p → usable top planes there p ≡ true → present there p ≡ true
  usable_there p l h = usable_every p h p l (omega arith) (omega arith)

  -- "Planes usable at a level run without a gap from the top", and so do levels in a plane.
  pub usable_rises : (p q : PartName) → p.plane ≤ q.plane → p.level ≤ q.level → usable top planes there p ≡ true
      → usable top planes there q ≡ true
  usable_rises p q a b h = every_usable q (λ x l c d. usable_every p h x l (omega arith) (omega arith))

  pub reached_within : (k : ℕ) → reached top planes there k ≤ planes
  unfolding reached
  reached_within k = lowest_within _ planes

  -- A part is usable exactly if its plane is not under the one that its level reached.
  pub usable_reached : (n k : ℕ) → n < planes → usable top planes there (at n k) ≡ leb (reached top planes there k) n
  unfolding reached
  usable_reached n k l = same_test _ _ (λ h. le-leb _ _ (lowest_least t planes n h)) (λ h. back (leb-true _ _ h))
    where
      t : ℕ → Bool
      t m = usable top planes there (at m k)

      back : lowest t planes ≤ n → t n ≡ true
      back h = usable_rises (at (lowest t planes) k) (at n k) h (omega arith) (lowest_passes t planes (omega arith))

  pub reached_usable : (k : ℕ) → reached top planes there k < planes → usable top planes there (at (reached top planes there k) k) ≡ true
  reached_usable k l = let r : ℕ = reached top planes there k in usable_reached r k l ∙ le-leb r r (omega arith)

  -- A coarser level has reached no higher plane; above the top level there is nothing to reach.
  pub reached_falls : (k : ℕ) → reached top planes there (suc k) ≤ reached top planes there k
  reached_falls k = cases (dec_lt (reached top planes there k) planes)
    where
      cases : Dec (reached top planes there k < planes) → reached top planes there (suc k) ≤ reached top planes there k
      cases (no l) = omega (arith, reached_within (suc k))
      cases (yes l) =
          let r : ℕ = reached top planes there k in
          leb-true _ _ (sym (usable_reached r (suc k) l) ∙ usable_rises (at r k) (at r (suc k)) (omega arith) (omega arith) (reached_usable k l))

  pub reached_beyond : (k : ℕ) → top < k → reached top planes there k ≡ 0
  reached_beyond k l = cases (dec_lt 0 planes)
    where
      cases : Dec (0 < planes) → reached top planes there k ≡ 0
      cases (no x) = omega (arith, reached_within k)
      cases (yes x) =
          let h : usable top planes there (at 0 k) ≡ true = every_usable _ (λ q a b c. absurd (omega (arith, a.up_to))) in
          omega (arith, leb-true (reached top planes there k) 0 (sym (usable_reached 0 k x) ∙ h))

-- What is lost shows: a part (n, k) that is not there makes the plane reached by level k greater than n, and that of every finer level too. (Only
-- a level's first gap is told: of what is missing under it nothing can be said.)
pub loss_shows : (top planes : ℕ) (there : List PartName) (n k : ℕ) → Named top planes (at n k) → present there (at n k) ≡ false
    → (j : ℕ) → j ≤ k → n < reached top planes there j
loss_shows top planes there n k named lost j finer = cases (dec_lt n (reached top planes there j))
  where
    cases : Dec (n < reached top planes there j) → n < reached top planes there j
    cases (yes l) = l
    cases (no l) =
        let could : usable top planes there (at n j) ≡ true
        = usable_reached top planes there n j named.under ∙ le-leb (reached top planes there j) n (omega arith) in
        absurd (true≢false (sym (usable_every top planes there (at n j) could (at n k) named (omega arith) finer) ∙ lost))

-- With more parts there every level reaches as low a plane, or a lower one.
pub reached_more : (top planes : ℕ) (there more : List PartName) → ((p : PartName) → present there p ≡ true → present more p ≡ true)
    → (k : ℕ) → reached top planes more k ≤ reached top planes there k
reached_more top planes there more all k = cases (dec_lt (reached top planes there k) planes)
  where
    cases : Dec (reached top planes there k < planes) → reached top planes more k ≤ reached top planes there k
    cases (no l) = omega (arith, reached_within top planes more k)
    cases (yes l) =
        let r : ℕ = reached top planes there k in
        let u : usable top planes more (at r k) ≡ true
        = every_usable top planes more _ (λ q n a b. all q (usable_every top planes there _ (reached_usable top planes there k l) q n a b)) in
        leb-true _ _ (sym (usable_reached top planes more r k l) ∙ u)

-- Before any part is there, no plane is reached.
pub reached_none : (top planes k : ℕ) → 1 ≤ k → k ≤ top → reached top planes [] k ≡ planes
reached_none top planes k a b = cases (dec_lt (reached top planes [] k) planes)
  where
    cases : Dec (reached top planes [] k < planes) → reached top planes [] k ≡ planes
    cases (no l) = omega (arith, reached_within top planes [] k)
    cases (yes l) =
        let n : Named top planes (at (reached top planes [] k) k) = record { under = l; from1 = a; up_to = b } in
        absurd (true≢false (sym (usable_there top planes [] _ n (reached_usable top planes [] k l)) ∙ unfold present any in refl))
