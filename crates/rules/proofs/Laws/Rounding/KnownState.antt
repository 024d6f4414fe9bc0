-- All levels, between parts, each known to a plane of its own: what a part changes, and what then stands in the pyramid.
use Rattle.std.specs.Prelude.{◌≡◌, List, [], ◌∷◌, Bool, ◌≢◌, get_or, ℤ, pos}
use Rattle.std.proofs.Math.Path.{refl, ap}
use Rattle.std.proofs.Common.{sym, ◌∙◌, arith}
use Prim.Native.Nat.{ℕ, zero, suc, ◌+◌, ◌^◌, ◌≤◌, ◌<◌}
use Rattle.std.proofs.Math.Decide.{dec_le}
use Rattle.std.proofs.Math.Pow.{pow_mono}
use Rattle.rules.specs.Document.Pyramid.{Family}
use Rattle.rules.specs.Document.Passes.{Entry, Lists, members, Course, passed, State, after, from, PartName, signed}
use Rattle.rules.specs.Laws.Counting.Sums.{sum, is, ◌∈◌, All, Every}
use Rattle.rules.proofs.Laws.Counting.Sums.{all_then, all_append, all_every, is_same, from_all}
use Rattle.rules.specs.Laws.Family.Lawful.{Lawful}
use Rattle.rules.specs.Laws.Pass.Lists.{set_weight, lists_weight}
use Rattle.rules.specs.Laws.State.Weight.{state_weight}
use Rattle.rules.proofs.Laws.State.Weight.{after_cases, weight_part}
use Rattle.rules.specs.Laws.State.Sound.{Sound}
use Rattle.rules.specs.Promises.Vocabulary.{toward_zero}
use Rattle.rules.proofs.Laws.Rounding.TowardZero.{toward_small, signed_zero}
use Rattle.rules.proofs.Laws.Rounding.Known.{Known, follower, PassKnown, pass_known}
use Rattle.rules.specs.Laws.Rounding.KnownState.{Fits}

-- Every level j is known to plane r j.
abbrev pub KnownAll : Family → (ℕ → ℕ) → (ℕ → Bool) → ℕ → (ℕ → ℕ) → State → List ℤ → Type 0
KnownAll F mag neg top r s v = (j : ℕ) → 1 ≤ j → j ≤ top → Known F mag neg (r j) j (s j) v

-- The decoder's part, as long as its bits are the coder's.
unfoldable pub followed : Family → (ℕ → ℕ) → (ℕ → Bool) → PartName → State → List ℤ → Course (List ℤ)
followed F mag neg p s v = passed F p.level (follower F mag neg p.plane) (s p.level) v

module _ {F : Family} (L : Lawful F) (mag : ℕ → ℕ) (neg : ℕ → Bool) {top : ℕ} {all : List ℕ} {s : State} (h : Sound F top all s) {v : List ℤ}
    (fits : Fits all v) (p : PartName) (b : p.level ≤ top) (before : Known F mag neg (suc p.plane) p.level (s p.level) v) where
  abbrev c : Course (List ℤ)
  c = followed F mag neg p s v

  counted : (q : ℕ) → lists_weight F (is q) (s p.level) ≤ sum (is q) all
  counted q = omega (arith, h.conserved (is q), weight_part F (is q) s p.level top b)

  pub part_known : PassKnown F mag neg p.plane p.level v (followed F mag neg p s v)
  unfolding followed lists_weight
  part_known =
      pass_known L mag neg p.plane p.level v (s p.level) (h.placed p.level)
      (λ q. omega (arith, counted q, fits.once q)) (λ q i. fits.inside q (omega (arith, counted q))) before

  -- another level stays known, if it is known to no lower plane than what moves into it
  module _ (m : ℕ) where
    other_stays : (j : ℕ) → j ≢ p.level → (l : Lists) → l.lip ≡ (s j).lip → l.lsp ≡ (s j).lsp
        → All (λ e. Every (λ q. mag q < 2 ^ m) (members F e)) l.lis → Known F mag neg m j (s j) v → Known F mag neg m j l c.side
    other_stays j d l e f sets x =
        record {
          lips = rw e x.lips;
          sets = sets;
          lsps = rw f x.lsps;
          found = rw f (λ q i.
              part_known.elsewhere q (λ g. d (sym (all_every _ (s j).lsp (h.placed j).lsps q i) ∙ g)) ∙ x.found q i);
          unfound = rw f (λ q i o. part_known.elsewhere q (λ g. d (sym i ∙ g)) ∙ x.unfound q i o);
        }

  -- What a part leaves: its level known to its plane, and each other level as before.
  pub after_known : (r : ℕ → ℕ) → r p.level ≡ p.plane → ((j : ℕ) → suc j ≡ p.level → suc p.plane ≤ r j)
      → ((j : ℕ) → 1 ≤ j → j ≤ top → j ≢ p.level → Known F mag neg (r j) j (s j) v)
      → KnownAll F mag neg top r (after p.level (followed F mag neg p s v) s) (followed F mag neg p s v).side
  after_known r own next others =
      after_cases p.level c s (λ j l. 1 ≤ j → j ≤ top → Known F mag neg (r j) j l c.side)
      (λ x y. rw own part_known.known)
      (λ j e x y.
      other_stays (r j) j (λ f. omega arith) _ refl refl
      (all_append _ (s j).lis c.moved (others j x y (λ f. omega arith)).sets
      (all_then _ _ c.moved (λ d i q k. omega (arith, i q k, pow_mono (next j e))) part_known.moving))
      (others j x y (λ f. omega arith)))
      (λ j d e x y. other_stays (r j) j d (s j) refl refl (others j x y d).sets (others j x y d))

-- Where no coarser level is known to a higher plane: each coefficient is known to the plane of its level.
pub falls_far : (r : ℕ → ℕ) → ((j : ℕ) → r (suc j) ≤ r j) → (k j : ℕ) → k ≤ j → r j ≤ r k
falls_far r falls k zero l = let e : k ≡ 0 = omega arith in rw e (omega arith)
falls_far r falls k (suc j) l = by (dec_le k j) (falls_far r falls k j)
  where
    by : Dec (k ≤ j) → (k ≤ j → r j ≤ r k) → r (suc j) ≤ r k
    by (yes x) g = omega (arith, g x, falls j)
    by (no x) g = let e : k ≡ suc j = omega arith in rw e (omega arith)

sum_some : (w : ℕ → ℕ) (xs : List ℕ) → 1 ≤ sum w xs → (x : ℕ) × (x ∈ xs) × (1 ≤ w x)
unfolding sum
sum_some w [] h = absurd (omega arith)
sum_some w (x ∷ xs) h = by (w x) refl (sum_some w xs)
  where
    by : (m : ℕ) → w x ≡ m → (1 ≤ sum w xs → (y : ℕ) × (y ∈ xs) × (1 ≤ w y)) → (y : ℕ) × (1 ≤ is y x + sum (is y) xs) × (1 ≤ w y)
    by zero e g = let t : (y : ℕ) × (y ∈ xs) × (1 ≤ w y) = g (omega arith) in (t.0, omega (arith, t.1), t.2)
    by (suc m) e g = (x, omega (arith, is_same x), omega arith)

in_sets : (F : Family) (P : ℕ → Type 0) (es : List Entry) → All (λ e. Every P (members F e)) es → (q : ℕ) → 1 ≤ sum (set_weight F (is q)) es → P q
unfolding All sum
in_sets F P [] a q h = absurd (omega arith)
in_sets F P (e ∷ es) a q h = by (sum (is q) (members F e)) refl (in_sets F P es a.1 q)
  where
    by : (m : ℕ) → sum (is q) (members F e) ≡ m → (1 ≤ sum (set_weight F (is q)) es → P q) → P q
    by zero i g = g (omega arith)
    by (suc m) i g = a.0 q (omega arith)

module _ {F : Family} (mag : ℕ → ℕ) (neg : ℕ → Bool) {top : ℕ} {all : List ℕ} {s : State} (h : Sound F top all s) {v : List ℤ}
    (r : ℕ → ℕ) (falls : (j : ℕ) → r (suc j) ≤ r j) (known : KnownAll F mag neg top r s v) (q : ℕ) (some : q ∈ all)
    (a : 1 ≤ F.level q) (b : F.level q ≤ top) where
  abbrev k : ℕ
  k = F.level q

  -- a coefficient that is in some list and not in LSP_k is below the plane of its level
  below : (j : ℕ) → j ≤ top → 1 ≤ lists_weight F (is q) (s j) → sum (is q) (s k).lsp ≡ 0 → mag q < 2 ^ r k
  unfolding lists_weight
  below j l w o = by (sum (is q) (s j).lip) refl (sum (set_weight F (is q)) (s j).lis) refl
    where
      by : (x : ℕ) → sum (is q) (s j).lip ≡ x → (y : ℕ) → sum (set_weight F (is q)) (s j).lis ≡ y → mag q < 2 ^ r k
      by (suc x) e y f =
          let i : k ≡ j = all_every _ (s j).lip (h.placed j).lips q (omega arith) in
          rw i (all_every _ (s j).lip (known j (omega arith) l).lips q (omega arith))
      by zero e (suc y) f =
          let i : k ≤ j = in_sets F (λ q. F.level q ≤ j) (s j).lis (all_then _ _ (s j).lis (λ e t. t.up_to) (h.placed j).sets) q (omega arith) in
          omega (arith, in_sets F (λ q. mag q < 2 ^ r j) (s j).lis (known j (omega arith) l).sets q (omega arith), pow_mono (falls_far r falls k j i))
      by zero e zero f =
          let i : k ≡ j = all_every _ (s j).lsp (h.placed j).lsps q (omega arith) in
          absurd (omega (arith, ap (λ (x : ℕ). sum (is q) (s x).lsp) i))

  pub known_value : get_or v q (pos 0) ≡ signed (neg q) (toward_zero (r (F.level q)) (mag q))
  unfolding state_weight
  known_value = by (sum (is q) (s k).lsp) refl
    where
      some_level : (j : ℕ) × (j ∈ from 0 (suc top)) × (1 ≤ lists_weight F (is q) (s j))
      some_level = sum_some (λ j. lists_weight F (is q) (s j)) (from 0 (suc top)) (omega (arith, h.conserved (is q)))

      within : some_level.0 ≤ top
      within = let i : _ = all_every _ (from 0 (suc top)) (from_all 0 (suc top)) some_level.0 some_level.1 in omega (arith, i.1)

      by : (x : ℕ) → sum (is q) (s k).lsp ≡ x → get_or v q (pos 0) ≡ signed (neg q) (toward_zero (r k) (mag q))
      by zero e =
          (known k a b).unfound q refl e
          ∙ sym (ap (signed (neg q)) (toward_small (r k) (mag q) (below some_level.0 within some_level.2 e)) ∙ signed_zero (neg q))
      by (suc x) e = (known k a b).found q (omega arith)
