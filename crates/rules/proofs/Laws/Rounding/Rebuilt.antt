-- The decoder's run over a coder's parts, as long as it uses just the usable ones: each level gets known to the plane that it reached.
use Rattle.std.specs.Prelude.{◌≡◌, List, [], ◌∷◌, ◌++◌, Bool, true, false, cond, ◌≢◌, leb, get_or, ℤ, pos}
use Rattle.std.proofs.Math.Path.{refl, ap, sym}
use Rattle.std.proofs.Common.{◌∙◌, leb-true, leb-false, le-leb}
use Prim.Native.Nat.{ℕ, zero, suc, ◌^◌, ◌≤◌, ◌<◌, max}
use native.Mathlib.Omega.{arith}
use Rattle.std.proofs.Math.Decide.{ℕ_discrete, dec_le}
use Rattle.std.proofs.Math.ListN.{length}
use Rattle.std.proofs.lemmas.Bool.{lt-leb}
use Rattle.rules.specs.Document.Pyramid.{Family}
use Rattle.rules.specs.Document.Passes.{State, after, PartName, parts_of_plane, part_names}
use Rattle.rules.specs.Document.Calls.{Progress, going, unfit}
use Rattle.rules.specs.Laws.Counting.Sums.{sum, is, All, Every}
use Rattle.rules.proofs.Laws.Counting.Sums.{every_all, in_some}
use Rattle.rules.specs.Laws.Family.Lawful.{Lawful}
use Rattle.rules.proofs.Laws.Pass.Levels.{members_apart}
use Rattle.rules.specs.Laws.State.Sound.{Sound}
use Rattle.rules.proofs.Laws.State.Sound.{sound_after}
use Rattle.rules.specs.Promises.Vocabulary.{at}
use Rattle.rules.proofs.Laws.Rounding.Known.{Known, follower}
use Rattle.rules.specs.Laws.Rounding.KnownState.{Fits}
use Rattle.rules.proofs.Laws.Rounding.KnownState.{KnownAll, followed, part_known, after_known}

-- R being the planes that the levels reached: the lists and the pyramid after the parts, of these used where their plane is not under it.
module _ (F : Family) (mag : ℕ → ℕ) (neg : ℕ → Bool) (R : ℕ → ℕ) where
  unfoldable pub rebuilt : List PartName → State → List ℤ → Progress
  rebuilt [] s v = going s v
  rebuilt (p ∷ ps) s v =
      let c = followed F mag neg p s v in
      cond (leb (R p.level) p.plane) (rebuilt ps (after p.level c s) c.side) (rebuilt ps s v)

  -- What is known on the way, every level j to plane r j, of a pyramid of that size.
  pub record OnTheWay (top : ℕ) (all : List ℕ) (size : ℕ) (r : ℕ → ℕ) (s : State) (v : List ℤ) : Type 0 where
    pub sound : Sound F top all s
    pub sized : length v ≡ size
    pub known : KnownAll F mag neg top r s v

  unfoldable pub Ended : ℕ → List ℕ → ℕ → Progress → Type 0
  Ended top all size (going s v) = OnTheWay top all size R s v
  Ended top all size (unfit place) = ⊥

  -- before part (n, k) is used: the coarser levels are known to plane n, the others to plane n + 1, none to one that it did not reach
  abbrev rank : ℕ → ℕ → ℕ → ℕ
  rank n k j = max (R j) (cond (leb j k) (suc n) n)

  rank_below : (n k j : ℕ) → j ≤ k → rank n k j ≡ max (R j) (suc n)
  rank_below n k j l = rw (le-leb j k l)

  rank_above : (n k j : ℕ) → k < j → rank n k j ≡ max (R j) n
  rank_above n k j l = rw (lt-leb j k l)

  rank_other : (n k j : ℕ) → j ≢ suc k → rank n (suc k) j ≡ rank n k j
  rank_other n k j d = by (dec_le j k)
    where
      by : Dec (j ≤ k) → rank n (suc k) j ≡ rank n k j
      by (yes l) = rank_below n (suc k) j (omega arith) ∙ sym (rank_below n k j l)
      by (no l) = rank_above n (suc k) j (omega arith) ∙ sym (rank_above n k j (omega arith))

module _ {F : Family} (L : Lawful F) (mag : ℕ → ℕ) (neg : ℕ → Bool) (R : ℕ → ℕ) (top : ℕ) (all : List ℕ) (size : ℕ)
    (once : (q : ℕ) → sum (is q) all ≤ 1) (inside : Every (λ q. q < size) all) where
  abbrev Way : (ℕ → ℕ) → State → List ℤ → Type 0
  Way = OnTheWay F mag neg R top all size

  fits : (v : List ℤ) → length v ≡ size → Fits all v
  fits v e = record { once = once; inside = rw e inside }

  module _ (n k : ℕ) (b : suc k ≤ top) (s : State) (v : List ℤ) (w : Way (rank F mag neg R n (suc k)) s v) where
    abbrev p : PartName
    p = at n (suc k)

    part_used : R (suc k) ≤ n → Way (rank F mag neg R n k) (after (suc k) (followed F mag neg p s v) s) (followed F mag neg p s v).side
    unfolding followed
    part_used u =
        let here : rank F mag neg R n (suc k) (suc k) ≡ suc n = rank_below F mag neg R n (suc k) (suc k) (omega arith) ∙ omega arith in
        let before : Known F mag neg (suc n) (suc k) (s (suc k)) v = rw here at (w.known (suc k) (omega arith) b) in
        let f : Fits all v = fits v w.sized in
        record {
          sound = sound_after L w.sound (suc k) (omega arith) b (follower F mag neg n) v;
          sized = (part_known L mag neg w.sound f p b before).sized ∙ w.sized;
          known =
              after_known L mag neg w.sound f p b before (rank F mag neg R n k)
              (rank_above F mag neg R n k (suc k) (omega arith) ∙ omega arith)
              (λ j e. omega (arith, rank_below F mag neg R n k j (omega arith)))
              (λ j x y d. rw (rank_other F mag neg R n k j d) at (w.known j x y));
        }

    part_passed : n < R (suc k) → Way (rank F mag neg R n k) s v
    part_passed u = record { sound = w.sound; sized = w.sized; known = λ j x y. by j (w.known j x y) (ℕ_discrete j (suc k)) }
      where
        by : (j : ℕ) → Known F mag neg (rank F mag neg R n (suc k) j) j (s j) v → Dec (j ≡ suc k) → Known F mag neg (rank F mag neg R n k j) j (s j) v
        by j i (no d) = rw (rank_other F mag neg R n k j d) at i
        by j i (yes e) =
            let same : rank F mag neg R n (suc k) j ≡ rank F mag neg R n k j
            = rank_below F mag neg R n (suc k) j (omega arith) ∙ omega (arith, ap R e) ∙ sym (rank_above F mag neg R n k j (omega arith)) in
            rw same at i

  same_planes : (r t : ℕ → ℕ) (s : State) (v : List ℤ) → ((j : ℕ) → 1 ≤ j → j ≤ top → r j ≡ t j) → Way r s v → Way t s v
  same_planes r t s v e w = record { sound = w.sound; sized = w.sized; known = λ j x y. rw (e j x y) at (w.known j x y) }

  plane_ends : (n k : ℕ) (rest : List PartName)
      → ((s : State) (v : List ℤ) → Way (rank F mag neg R n 0) s v → Ended F mag neg R top all size (rebuilt F mag neg R rest s v))
      → k ≤ top → (s : State) (v : List ℤ) → Way (rank F mag neg R n k) s v
      → Ended F mag neg R top all size (rebuilt F mag neg R (parts_of_plane n k ++ rest) s v)
  unfolding rebuilt parts_of_plane
  plane_ends n zero rest f b s v w = f s v w
  plane_ends n (suc k) rest f b s v w =
      by (leb (R (suc k)) n) refl (plane_ends n k rest f (omega arith))
    where
      p : PartName
      p = at n (suc k)

      by : (u : Bool) → leb (R (suc k)) n ≡ u
          → ((s : State) (v : List ℤ) → Way (rank F mag neg R n k) s v
          → Ended F mag neg R top all size (rebuilt F mag neg R (parts_of_plane n k ++ rest) s v))
          → Ended F mag neg R top all size
          (cond u
          (rebuilt F mag neg R (parts_of_plane n k ++ rest) (after (suc k) (followed F mag neg p s v) s) (followed F mag neg p s v).side)
          (rebuilt F mag neg R (parts_of_plane n k ++ rest) s v))
      by true e g = g _ _ (part_used n k b s v w (leb-true _ _ e))
      by false e g = g s v (part_passed n k b s v w (leb-false _ _ e))

  planes_end : (n : ℕ) (s : State) (v : List ℤ) → Way (λ j. max (R j) n) s v
      → Ended F mag neg R top all size (rebuilt F mag neg R (part_names top n) s v)
  unfolding rebuilt part_names Ended
  planes_end zero s v w = same_planes _ R s v (λ j x y. omega arith) w
  planes_end (suc n) s v w =
      plane_ends n top (part_names top n)
      (λ s v w. planes_end n s v (same_planes _ _ s v (λ j x y. rank_above F mag neg R n 0 j x) w))
      (omega arith) s v (same_planes _ _ s v (λ j x y. sym (rank_below F mag neg R n top j y)) w)

  -- From lists that have no coefficient in any LSP and a pyramid that is all 0.
  module _ (planes : ℕ) (within : (j : ℕ) → 1 ≤ j → j ≤ top → R j ≤ planes) (small : (q : ℕ) → mag q < 2 ^ planes) (s : State) (sound : Sound F top all s)
      (fresh : (k : ℕ) → (s k).lsp ≡ []) (v : List ℤ) (sized : length v ≡ size) (blank : (q : ℕ) → get_or v q (pos 0) ≡ pos 0) where
    pub rebuilt_ends : Ended F mag neg R top all size (rebuilt F mag neg R (part_names top planes) s v)
    rebuilt_ends =
        planes_end planes s v (record {
          sound = sound;
          sized = sized;
          known = λ j x y.
              let e : max (R j) planes ≡ planes = omega (arith, within j x y) in
              rw e (record {
                lips = every_all _ (s j).lip (λ q i. small q);
                sets = members_apart L _ (s j).lis (λ q i. small q);
                lsps = rw (fresh j) (unfold All in tt);
                found = λ q i. absurd (omega (arith, in_some q (s j).lsp i, ap length (fresh j)));
                unfound = λ q i o. blank q;
              });
        })
