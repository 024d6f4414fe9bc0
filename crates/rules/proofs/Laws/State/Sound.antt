-- The lists of all levels, between parts: whatever parts were used and whatever their bits, each coefficient is in one place, each level's
-- lists hold that level, and there is room for the next part.
use Rattle.std.specs.Prelude.{◌≡◌, refl, List, [], ℕ, suc, ◌*◌, ◌≤◌, ◌<◌, length}
use Rattle.std.proofs.Common.{◌∙◌}
use native.Mathlib.Omega.{arith}
use Rattle.std.proofs.Math.Decide.{ℕ_discrete}
use Rattle.rules.specs.Document.Pyramid.{Family}
use Rattle.rules.specs.Document.Passes.{Side, Course, passed, State, after}
use Rattle.rules.specs.Laws.Counting.Sums.{sum, is, All}
use Rattle.rules.proofs.Laws.Counting.Sums.{all_then, all_append}
use Rattle.rules.specs.Laws.Family.Lawful.{Lawful}
use Rattle.rules.specs.Laws.Pass.Lists.{Sorted, lists_weight, course_weight}
use Rattle.rules.proofs.Laws.Pass.Lists.{passed_weight}
use Rattle.rules.specs.Laws.Pass.Levels.{Met, Settled, Placed, level_claims}
use Rattle.rules.proofs.Laws.Pass.Levels.{met_settled, leaves_met, passed_levels}
use Rattle.rules.specs.Laws.Pass.Slots.{slots_twice, Room}
use Rattle.rules.proofs.Laws.Pass.Slots.{room_start, met_paid}
use Rattle.rules.proofs.Laws.State.Weight.{after_cases, weight_part, after_weight}
use Rattle.rules.specs.Laws.State.Sound.{level_count, Sound}

module _ {F : Family} {top : ℕ} {all : List ℕ} {s : State} (h : Sound F top all s) where
  -- the coefficients of level k in its own lists
  level_part : (k : ℕ) → k ≤ top → lists_weight F (λ q. is k (F.level q)) (s k) ≤ level_count F all k
  level_part k b = omega (arith, h.conserved (λ q. is k (F.level q)), weight_part F (λ q. is k (F.level q)) s k top b)

  -- Any part can begin: there is room for its pass.
  pub sound_room : Lawful F → (k : ℕ) → k ≤ top → Room F k (level_count F all k) (length (s k).lsp) 0 (s k).lip (s k).lis
  unfolding lists_weight
  sound_room L k b = room_start (s k) (h.placed k) (level_part k b) (by (ℕ_discrete k top))
    where
      by : Dec (k ≡ top) → 2 * sum (slots_twice F k) (s k).lis ≤ 3 * level_count F all k
      by (yes e) = rw e h.paid
      by (no d) = omega (arith, level_part k b, met_paid L k (s k).lis (h.met k (omega arith)))

-- What a part leaves is sound again.
module _ {F : Family} (L : Lawful F) {top : ℕ} {all : List ℕ} {s : State} (h : Sound F top all s) (k : ℕ) (a : 1 ≤ k) (b : k ≤ top) {S : Type 0}
    (C : Side S) (x : S) where
  left : Sorted (level_claims F k) (passed F k C (s k) x) [] []
  left = passed_levels L k C (s k) x (h.placed k)

  landed : (j : ℕ) → suc j ≡ k → All (Met F j) (passed F k C (s k) x).moved
  landed j i = all_then _ _ (passed F k C (s k) x).moved (λ e l. leaves_met j i l) left.move

  left_paid : 2 * sum (slots_twice F k) (passed F k C (s k) x).lis ≤ 3 * level_count F all k
  unfolding course_weight lists_weight
  left_paid =
      omega (
        arith,
        met_paid L k (passed F k C (s k) x).lis left.stay,
        passed_weight L (λ q. is k (F.level q)) k C (s k) x,
        level_part h k b,
      )

  pub sound_after : Sound F top all (after k (passed F k C (s k) x) s)
  sound_after =
      record {
        conserved = λ w. after_weight L w top k a b C x s ∙ h.conserved w;
        placed =
            after_cases k c s (Placed F)
            (record { lips = left.lips; sets = all_then _ _ c.lis (λ e m. met_settled m) left.stay; lsps = left.lsps })
            (λ j i. record {
              lips = (h.placed j).lips;
              sets =
                  all_append (Settled F j) (s j).lis c.moved (h.placed j).sets
                  (all_then _ _ c.moved (λ e m. met_settled m) (landed j i));
              lsps = (h.placed j).lsps;
            })
            (λ j d e. h.placed j);
        met =
            after_cases k c s (λ j l. j < top → All (Met F j) l.lis)
            (λ u. left.stay)
            (λ j i u. all_append (Met F j) (s j).lis c.moved (h.met j u) (landed j i))
            (λ j d e. h.met j);
        paid =
            after_cases k c s (λ j l. j ≡ top → 2 * sum (slots_twice F j) l.lis ≤ 3 * level_count F all j)
            (λ i. left_paid)
            (λ j i u. absurd (omega arith))
            (λ j d e i. rw i h.paid)
            top refl;
      }
    where
      c : Course S
      c = passed F k C (s k) x
