-- The lists that a record starts with are sound: one level holds all, a band of its coefficients and the sets below them.
use Rattle.std.specs.Prelude.{◌≡◌, refl, Bool, true, false, ◌≢◌, length}
use Rattle.std.proofs.Common.{sym, ◌∙◌, subst}
use mathlib.Core.List.{List, [], ◌∷◌}
use Prim.Native.Nat.{ℕ, suc, ◌+◌, ◌*◌, ◌≤◌, ◌<◌}
use native.Mathlib.Omega.{arith}
use Rattle.std.proofs.Math.Decide.{ℕ_discrete}
use Rattle.rules.specs.Document.Pyramid.{Family}
use Rattle.rules.specs.Document.Passes.{Entry, typeA, Lists, in_level, State, from}
use Rattle.rules.specs.Laws.Counting.Sums.{sum, is, All}
use Rattle.rules.proofs.Laws.Counting.Sums.{sum_times, sum_same, is_same, is_no, all_of, all_then, all_flat}
use Rattle.rules.specs.Laws.Family.Lawful.{Lawful}
use Rattle.rules.proofs.Laws.Family.Lawful.{leaves_a}
use Rattle.rules.specs.Laws.Pass.Lists.{set_weight, lists_weight}
use Rattle.rules.specs.Laws.Pass.Levels.{Met, Settled, Placed}
use Rattle.rules.proofs.Laws.Pass.Levels.{leaves_met, leaves_next, all_if_any}
use Rattle.rules.specs.Laws.Pass.Slots.{here, slots_twice}
use Rattle.rules.proofs.Laws.Pass.Slots.{level_length, here_four, slots_gone, slots_paid}
use Rattle.rules.specs.Laws.State.Weight.{state_weight}
use Rattle.rules.proofs.Laws.State.Weight.{level_once}
use Rattle.rules.specs.Laws.State.Sound.{level_count, Sound}
use Rattle.rules.specs.Laws.State.Start.{roots_of, Begins}

begins_cases : {F : Family} {top : ℕ} {band : List ℕ} {s : State} → Begins F top band s → (P : ℕ → Lists → Type 0)
    → P top (record { lip = band; lis = roots_of F band; lsp = [] }) → ((k : ℕ) → k ≢ top → P k (record { lip = []; lis = []; lsp = [] }))
    → (k : ℕ) → P k (s k)
begins_cases {top = top} {s = s} b P x y k = by (ℕ_discrete k top)
  where
    by : Dec (k ≡ top) → P k (s k)
    by (yes e) = subst (λ (i : ℕ). P i (s i)) (sym e) (subst (P top) (sym b.first) x)
    by (no d) = subst (P k) (sym (b.others k d)) (y k d)

-- what the levels weigh together is what the top level does
begins_weight : {F : Family} {top : ℕ} {band : List ℕ} {s : State} → Begins F top band s → (w : ℕ → ℕ)
    → state_weight F w top s ≡ sum w band + sum (set_weight F w) (roots_of F band)
unfolding state_weight lists_weight sum
begins_weight {F} {top} {band} {s} b w =
    let total : ℕ = sum w band + sum (set_weight F w) (roots_of F band) in
    sum_same _ (λ k. total * is top k) (from 0 (suc top))
    (all_of _ (from 0 (suc top))
    (begins_cases b (λ k l. lists_weight F w l ≡ total * is top k) (rw (is_same top) (omega arith)) (λ k d. rw (is_no top k d) (omega arith))))
    ∙ sum_times total (is top) (from 0 (suc top)) ∙ rw (level_once top top (omega arith)) (omega arith)

module _ {F : Family} (L : Lawful F) {j : ℕ} (most : (q : ℕ) → F.level q ≤ suc j) where
  root_settled : (p : ℕ) → F.level p ≡ suc j → 1 ≤ length (F.offspring p) → Settled F (suc j) (typeA p)
  root_settled p e l =
      record {
        up_to = λ q i. most q;
        leaves = λ n. leaves_next j (typeA p) (λ q i. most q) n (leaves_a F L j p (λ q i. most q) e l n);
      }

  roots_settled : (band : List ℕ) → All (λ p. F.level p ≡ suc j) band → All (Settled F (suc j)) (roots_of F band)
  unfolding roots_of
  roots_settled band a =
      all_flat _ _ band (all_then _ _ band (λ p e. all_if_any (Settled F (suc j)) (F.offspring p) (typeA p) (root_settled p e)) a)

  -- a set that has members in the level pays for its slots; one that has none there is paid for by four members in the next
  settled_slots : (e : Entry) → Settled F (suc j) e → 2 * slots_twice F (suc j) e ≤ 3 * here F (suc j) e + here F j e
  settled_slots e s = by (in_level F (suc j) e) refl
    where
      by : (b : Bool) → in_level F (suc j) e ≡ b → 2 * slots_twice F (suc j) e ≤ 3 * here F (suc j) e + here F j e
      by true h = omega (arith, slots_paid L (suc j) e (record { up_to = s.up_to; there = h }))
      by false h = omega (arith, slots_gone F (suc j) e h, here_four L j e (leaves_met j refl (s.leaves h)))

  roots_slots : (es : List Entry) → All (Settled F (suc j)) es
      → 2 * sum (slots_twice F (suc j)) es ≤ 3 * sum (here F (suc j)) es + sum (here F j) es
  unfolding sum All
  roots_slots [] a = omega arith
  roots_slots (e ∷ es) a = omega (arith, settled_slots e a.0, roots_slots es a.1)

  module _ (all band : List ℕ) (in_top : All (λ p. F.level p ≡ suc j) band)
      (whole : (w : ℕ → ℕ) → sum w band + sum (set_weight F w) (roots_of F band) ≡ sum w all) where
    -- Roots that leave the top level at once are no more than three quarters of the band, where the next level is three times the band.
    pub roots_paid : level_count F all j ≤ 3 * length band → 2 * sum (slots_twice F (suc j)) (roots_of F band) ≤ 3 * level_count F all (suc j)
    roots_paid h =
        omega (
          arith,
          roots_slots (roots_of F band) (roots_settled band in_top),
          whole (λ q. is j (F.level q)),
          whole (λ q. is (suc j) (F.level q)),
          level_length F (suc j) band in_top,
        )

    pub begins_sound : (s : State) → Begins F (suc j) band s → 2 * sum (slots_twice F (suc j)) (roots_of F band) ≤ 3 * level_count F all (suc j)
        → Sound F (suc j) all s
    unfolding All
    begins_sound s b paid =
        record {
          conserved = λ w. begins_weight b w ∙ whole w;
          placed =
              begins_cases b (Placed F) (record { lips = in_top; sets = roots_settled band in_top; lsps = tt })
              (λ k d. record { lips = tt; sets = tt; lsps = tt });
          met = begins_cases b (λ k l. k < suc j → All (Met F k) l.lis) (λ h. absurd (omega arith)) (λ k d h. tt);
          paid = rw b.first paid;
        }
