-- Selection: a level's lists depend on its own and coarser parts only; so coder and decoder agree on every level still usable.
use Rattle.std.specs.Prelude.{◌≡◌, Bool, cond, ℕ, suc, ◌≤◌, leb, eqb}
use Rattle.std.proofs.Math.Path.{refl}
use Rattle.std.proofs.Common.{ap₂, sym, ◌∙◌, arith, le-leb}
use mathlib.Core.List.{List, [], ◌∷◌}
use Rattle.std.proofs.Math.Bool.{true, false}
use Rattle.std.proofs.Math.Decide.{dec_le}
use Rattle.rules.specs.Document.Pyramid.{Family}
use Rattle.rules.specs.Document.Passes.{Lists, Course, State, own, handed, after, PartName, coded}
use Rattle.rules.specs.Laws.Counting.Sums.{All}
use Rattle.rules.proofs.Laws.Counting.Sums.{all_then}
use Rattle.rules.proofs.Laws.State.Weight.{after_other}
use Rattle.rules.proofs.Laws.Rounding.KnownState.{falls_far}
use Rattle.rules.specs.Laws.State.Agreement.{lists_with, lists_after, Alike}

after_same : {S : Type 0} (k j : ℕ) (c d : Course S) (s t : State) → c ≡ d → s j ≡ t j → after k c s j ≡ after k d t j
unfolding after
after_same k j c d s t e f = ap₂ (λ x y. cond {A = Lists} (eqb j k) (own x) (cond (eqb (suc j) k) (handed x y) y)) e f

-- A part of one of these levels keeps them alike, for what moves out goes to a finer level; a part of another level leaves them as they are.
module _ (F : Family) (mag : ℕ → ℕ) (neg : ℕ → Bool) (P : ℕ → Type 0) (p : PartName) where
  pub alike_used : (s t : State) → P p.level → Alike P s t → Alike P (lists_with F mag neg p s) (lists_with F mag neg p t)
  unfolding coded
  alike_used s t i h k j = after_same p.level k _ _ s t (rw (h p.level i)) (h k j)

  pub alike_unused : (s : State) → ((k : ℕ) → P k → P (suc k)) → (P p.level → ⊥) → Alike P (lists_with F mag neg p s) s
  alike_unused s closed d k j =
      after_other (coded F mag neg p s) s p.level k (λ e. d (rw e at j)) (λ e. d (rw e at (closed k j)))

module _ (F : Family) (mag : ℕ → ℕ) (neg : ℕ → Bool) where
  -- A level's lists depend on its own and coarser parts only: whichever finer ones are used, they are the same.
  pub own_and_coarser : (k : ℕ) (used other : PartName → Bool) (ps : List PartName) → All (λ p. k ≤ p.level → used p ≡ other p) ps
      → (s t : State) → Alike (λ j. k ≤ j) s t → Alike (λ j. k ≤ j) (lists_after F mag neg used ps s) (lists_after F mag neg other ps t)
  unfolding lists_after All
  own_and_coarser k used other [] a s t h = h
  own_and_coarser k used other (p ∷ ps) a s t h =
      own_and_coarser k used other ps a.1 _ _ (by (dec_le k p.level) (used p) refl (other p) refl)
    where
      finer : (k ≤ p.level → ⊥) → (b : Bool) (x : State) → Alike (λ j. k ≤ j) (cond b (lists_with F mag neg p x) x) x
      finer d true x = alike_unused F mag neg (λ j. k ≤ j) p x (λ j i. omega arith) d
      finer d false x = λ j i. refl

      by : Dec (k ≤ p.level) → (b : Bool) → used p ≡ b → (c : Bool) → other p ≡ c
          → Alike (λ j. k ≤ j) (cond b (lists_with F mag neg p s) s) (cond c (lists_with F mag neg p t) t)
      by (no d) b e c f = λ j i. finer d b s j i ∙ h j i ∙ sym (finer d c t j i)
      by (yes l) true e c f =
          let g : c ≡ true = sym f ∙ sym (a.0 l) ∙ e in
          rw g (alike_used F mag neg (λ j. k ≤ j) p s t l h)
      by (yes l) false e c f = let g : c ≡ false = sym f ∙ sym (a.0 l) ∙ e in rw g h

  -- With R the planes that the levels reached: the coder used every part so far, the decoder those that are usable. On each level that is
  -- usable in plane n, the parts so far being of planes n and above, they have the same lists.
  pub usable_agree : (R : ℕ → ℕ) → ((k : ℕ) → R (suc k) ≤ R k) → (n : ℕ) (ps : List PartName) → All (λ p. n ≤ p.plane) ps → (s : State)
      → Alike (λ k. R k ≤ n) (lists_after F mag neg (λ p. true) ps s) (lists_after F mag neg (λ p. leb (R p.level) p.plane) ps s)
  usable_agree R falls n ps a s k l =
      own_and_coarser k (λ p. true) (λ p. leb (R p.level) p.plane) ps
      (all_then _ _ ps (λ p i j. sym (le-leb (R p.level) p.plane (omega (arith, falls_far R falls k p.level j)))) a)
      s s (λ j i. refl) k (omega arith)
