-- What is known after a pass: once level k is known to plane n, its LIP and its sets hold what is below 2^n, its LSP what is not, and in the
-- pyramid that the decoder writes stand the signs and rounded magnitudes of LSP_k, and 0 for all else of the level.
use Rattle.std.specs.Prelude.{◌≡◌, Bool, true, false, ◌≢◌, leb, length, get_or, set, ℤ, pos}
use Rattle.std.proofs.Math.Path.{refl, ap, ap₂}
use Rattle.std.proofs.Common.{sym, ◌∙◌, arith, get_or-set_same, get_or-set_other}
use mathlib.Core.List.{List, [], ◌∷◌, ◌++◌}
use Prim.Native.Nat.{ℕ, suc, ◌^◌, ◌≤◌, ◌<◌}
use Rattle.std.proofs.Math.Decide.{ℕ_discrete}
use Rattle.std.proofs.Math.ListN.{length-set}
use Rattle.std.proofs.Math.Pow.{pow_mono}
use borrow.Author.Tests.{leb-true, leb-false}
use Rattle.rules.specs.Document.Notation.{greatest}
use Rattle.rules.specs.Document.Pyramid.{Family}
use Rattle.rules.specs.Document.Passes.{Entry, Talk, done, ask, tell, Lists, members, in_level, opened, added, pass}
use Rattle.rules.specs.Document.Passes.{Side, walk, Course, listed, listing, passed, own, truth, signed, grown, written}
use Rattle.rules.specs.Laws.Counting.Sums.{sum, is, ◌∈◌, All, Every}
use Rattle.rules.proofs.Laws.Counting.Sums.{sum_append, is_same, is_no, all_then, all_both, every_all, all_every}
use Rattle.rules.specs.Laws.Family.Lawful.{Lawful}
use Rattle.rules.specs.Laws.Pass.Steps.{sign_noted, bit_noted}
use Rattle.rules.specs.Laws.Pass.Kept.{Kept}
use Rattle.rules.proofs.Laws.Pass.Kept.{kept_pass}
use Rattle.rules.specs.Laws.Pass.Levels.{Met, Settled, Placed}
use Rattle.rules.proofs.Laws.Pass.Levels.{opened_members, added_members, members_apart, opened_placed, added_settled}
use Rattle.rules.specs.Laws.Pass.Lists.{Claims, Fates, Sorted, lists_weight}
use Rattle.rules.proofs.Laws.Pass.Lists.{sorted_kept}
use Rattle.rules.specs.Laws.Pass.Simulation.{outcomes, drawn, course}
use Rattle.rules.proofs.Laws.Pass.Simulation.{tells_outcomes, passed_told}
use Rattle.rules.proofs.Laws.Family.Maxima.{greatest_most}
use Rattle.rules.specs.Promises.Vocabulary.{toward_zero}
use Rattle.rules.proofs.Laws.Rounding.TowardZero.{toward_first, grown_next}

module _ (F : Family) (mag : ℕ → ℕ) (neg : ℕ → Bool) where
  -- Level k, known to plane n: its lists l, and the pyramid v.
  pub record Known (n k : ℕ) (l : Lists) (v : List ℤ) : Type 0 where
    pub lips : All (λ q. mag q < 2 ^ n) l.lip
    pub sets : All (λ e. Every (λ q. mag q < 2 ^ n) (members F e)) l.lis
    pub lsps : All (λ q. 2 ^ n ≤ mag q) l.lsp
    pub found : Every (λ q. get_or v q (pos 0) ≡ signed (neg q) (toward_zero n (mag q))) l.lsp
    pub unfound : (q : ℕ) → F.level q ≡ k → sum (is q) l.lsp ≡ 0 → get_or v q (pos 0) ≡ pos 0

  -- The decoder, as long as its bits are the coder's: it gets the true answers and draws what is told.
  abbrev pub follower : ℕ → Side (List ℤ)
  follower n = record { reply = λ q v. record { bit = truth F mag neg n q; next = v }; note = λ e v. written n e v }

  follower_drawn : (n : ℕ) (t : Talk) (v : List ℤ) → walk (follower n) t v ≡ drawn n (outcomes (truth F mag neg n) t) v
  unfolding walk outcomes drawn
  follower_drawn n done v = refl
  follower_drawn n (ask q go) v = follower_drawn n (go (truth F mag neg n q)) v
  follower_drawn n (tell e next) v = follower_drawn n next (written n e v)

  pub follower_passed : (n k : ℕ) (l : Lists) (v : List ℤ)
      → passed F k (follower n) l v
      ≡ course l (outcomes (truth F mag neg n) (pass F k l)) (drawn n (outcomes (truth F mag neg n) (pass F k l)) v)
  follower_passed n k l v =
      passed_told F k (follower n) l v
      ∙ ap₂ (course l)
      (tells_outcomes (follower n) (truth F mag neg n) (λ t s. Unit {0})
      (record { now = λ q go s h. refl; after_reply = λ q go s h. tt; after_note = λ e next s h. tt })
      (pass F k l) v tt)
      (follower_drawn n (pass F k l) v)

-- What a pass (n, k) leaves, where level k was known to plane n + 1.
pub record PassKnown (F : Family) (mag : ℕ → ℕ) (neg : ℕ → Bool) (n k : ℕ) (v : List ℤ) (c : Course (List ℤ)) : Type 0 where
  pub known : Known F mag neg n k (own c) c.side
  pub moving : All (λ e. Every (λ q. mag q < 2 ^ suc n) (members F e)) c.moved
  pub elsewhere : (q : ℕ) → F.level q ≢ k → get_or c.side q (pos 0) ≡ get_or v q (pos 0)
  pub sized : length c.side ≡ length v

module _ {F : Family} (L : Lawful F) (mag : ℕ → ℕ) (neg : ℕ → Bool) (n k : ℕ) (v : List ℤ) where
  -- Of what the pass has still to test: it is below 2^(n + 1), of level k and in the pyramid.
  record Untested (q : ℕ) : Type 0 where
    below : mag q < 2 ^ suc n
    level : F.level q ≡ k
    inside : q < length v

  record Unvisited (e : Entry) : Type 0 where
    settled : Settled F k e
    belows : Every (λ q. mag q < 2 ^ suc n) (members F e)
    insides : Every (λ q. q < length v) (members F e)

  -- Of what it has still to refine.
  record Unrefined (q : ℕ) : Type 0 where
    large : 2 ^ suc n ≤ mag q
    level : F.level q ≡ k
    inside : q < length v

  abbrev known_claims : Claims
  known_claims = record {
    Test = Untested;
    Lip = λ q. mag q < 2 ^ n;
    Lsp = λ q. 2 ^ n ≤ mag q;
    Visit = Unvisited;
    Stay = λ e. Every (λ q. mag q < 2 ^ n) (members F e);
    Move = λ e. Every (λ q. mag q < 2 ^ suc n) (members F e);
  }

  opens_untested : (e : Entry) → in_level F k e ≡ true → Unvisited e → All Untested (opened F e) × All Unvisited (added F e)
  opens_untested e i u =
      let m : Met F k e = record { up_to = u.settled.up_to; there = i } in (
        all_then _ _ (opened F e) (λ q h. record { below = h.0; level = h.1.0; inside = h.1.1 })
            (all_both _ _ (opened F e) (opened_members L _ e u.belows)
            (all_both _ _ (opened F e) (opened_placed L k e m) (opened_members L _ e u.insides))),
        all_then _ _ (added F e) (λ d h. record { settled = h.0; belows = h.1.0; insides = h.1.1 })
            (all_both _ _ (added F e) (added_settled L k e m)
            (all_both _ _ (added F e) (added_members L _ e u.belows) (added_members L _ e u.insides))),
      )

  none_large : (e : Entry) → leb (2 ^ n) (greatest mag (members F e)) ≡ false → Every (λ q. mag q < 2 ^ n) (members F e)
  none_large e b =
      all_every _ (members F e)
      (all_then _ _ (members F e) (λ q h. omega (arith, leb-false (2 ^ n) (greatest mag (members F e)) b)) (greatest_most mag (members F e)))

  known_fates : Fates F k (follower F mag neg n) known_claims
  unfolding truth
  known_fates = record {
    insignificant = λ s p b h. leb-false (2 ^ n) (mag p) b;
    significant = λ s p b h. leb-true (2 ^ n) (mag p) b;
    moving = λ e i h. h.belows;
    staying = λ s e i b h. none_large e b;
    opening = λ s e i b h. opens_untested e i h;
  }

  -- The values where the pass stands, with ks still to refine: those are known to plane n + 1, the others of LSP_k to plane n, and the rest
  -- of the level is 0.
  record Values (c : Course (List ℤ)) (ks : List ℕ) : Type 0 where
    sized : length c.side ≡ length v
    elsewhere : (q : ℕ) → F.level q ≢ k → get_or c.side q (pos 0) ≡ get_or v q (pos 0)
    unrefined : All Unrefined ks
    once : (q : ℕ) → sum (is q) ks ≤ 1
    among : (q : ℕ) → sum (is q) ks ≤ sum (is q) c.lsp
    coarse : Every (λ q. get_or c.side q (pos 0) ≡ signed (neg q) (toward_zero (suc n) (mag q))) ks
    fine : (q : ℕ) → q ∈ c.lsp → sum (is q) ks ≡ 0 → get_or c.side q (pos 0) ≡ signed (neg q) (toward_zero n (mag q))
    unfound : (q : ℕ) → F.level q ≡ k → sum (is q) c.lsp ≡ 0 → get_or c.side q (pos 0) ≡ pos 0

  -- What a place holds after a write there, and after one elsewhere.
  wrote : (w : List ℤ) (p q : ℕ) (x y : ℤ) → length w ≡ length v → p < length v → (q ≡ p → x ≡ y) → (q ≢ p → get_or w q (pos 0) ≡ y)
      → get_or (set w p x) q (pos 0) ≡ y
  wrote w p q x y e l f g = by (ℕ_discrete q p)
    where
      by : Dec (q ≡ p) → get_or (set w p x) q (pos 0) ≡ y
      by (yes i) = ap (λ (j : ℕ). get_or (set w p x) j (pos 0)) i ∙ get_or-set_same w p x (pos 0) (omega arith) ∙ f i
      by (no d) = get_or-set_other w p q x (pos 0) d ∙ g d

  values_found : (c : Course (List ℤ)) (p : ℕ) (ks : List ℕ) → 2 ^ n ≤ mag p → Untested p → Values c ks
      → Values (record { lip = c.lip; lsp = c.lsp ++ (p ∷ []); lis = c.lis; moved = c.moved; side = set c.side p (signed (neg p) (2 ^ n)) }) ks
  unfolding sum
  values_found c p ks l u h =
      record {
        sized = length-set c.side p _ ∙ h.sized;
        elsewhere = λ q d. wrote c.side p q _ _ h.sized u.inside (λ e. absurd (d (ap F.level e ∙ u.level))) (λ e. h.elsewhere q d);
        unrefined = h.unrefined;
        once = h.once;
        among = λ q. omega (arith, h.among q, sum_append (is q) c.lsp (p ∷ []));
        coarse = λ q i.
            wrote c.side p q _ _ h.sized u.inside
            (λ e. absurd (omega (arith, u.below, ap mag e, (all_every _ ks h.unrefined q i).large))) (λ e. h.coarse q i);
        fine = λ q i o.
            wrote c.side p q _ _ h.sized u.inside
            (λ e. ap₂ signed (ap neg (sym e)) (sym (toward_first n (mag p) l u.below) ∙ ap (λ (x : ℕ). toward_zero n (mag x)) (sym e)))
            (λ e. h.fine q (omega (arith, sum_append (is q) c.lsp (p ∷ []), is_no q p (λ f. e (sym f)))) o);
        unfound = λ q i o.
            wrote c.side p q _ _ h.sized u.inside
            (λ e. absurd (omega (arith, sum_append (is q) c.lsp (p ∷ []), ap (λ (x : ℕ). is x p) e, is_same p)))
            (λ e. h.unfound q i (omega (arith, sum_append (is q) c.lsp (p ∷ []))));
      }

  values_refined : (c : Course (List ℤ)) (p : ℕ) (ks : List ℕ) (x : ℤ)
      → (get_or c.side p (pos 0) ≡ signed (neg p) (toward_zero (suc n) (mag p)) → 2 ^ suc n ≤ mag p → x ≡ signed (neg p) (toward_zero n (mag p)))
      → Values c (p ∷ ks)
      → Values (record { lip = c.lip; lsp = c.lsp; lis = c.lis; moved = c.moved; side = set c.side p x }) ks
  unfolding sum All
  values_refined c p ks x f h =
      let u : Unrefined p = h.unrefined.0 in
      record {
        sized = length-set c.side p _ ∙ h.sized;
        elsewhere = λ q d. wrote c.side p q _ _ h.sized u.inside (λ e. absurd (d (ap F.level e ∙ u.level))) (λ e. h.elsewhere q d);
        unrefined = h.unrefined.1;
        once = λ q. omega (arith, h.once q);
        among = λ q. omega (arith, h.among q);
        coarse = λ q i.
            wrote c.side p q _ _ h.sized u.inside
            (λ e. absurd (omega (arith, h.once q, ap (λ (x : ℕ). is x p) e, is_same p))) (λ e. h.coarse q (omega arith));
        fine = λ q i o.
            wrote c.side p q _ _ h.sized u.inside
            (λ e. f (h.coarse p (omega (arith, is_same p))) u.large ∙ ap (λ (x : ℕ). signed (neg x) (toward_zero n (mag x))) (sym e))
            (λ e. h.fine q i (omega (arith, is_no q p (λ f. e (sym f)))));
        unfound = λ q i o.
            wrote c.side p q _ _ h.sized u.inside
            (λ e. absurd (omega (arith, h.among q, ap (λ (x : ℕ). is x p) e, is_same p))) (λ e. h.unfound q i o);
      }

  known_kept : Kept F k (listing (follower F mag neg n)) (λ c ps es ks. Sorted known_claims c ps es × Values c ks)
  unfolding All listed sign_noted bit_noted written truth
  known_kept =
      let S : _ = sorted_kept known_fates in
      record {
        insignificant = λ c p ps es ks b h. (S.insignificant c p ps es ks b h.0, same c _ ks refl refl h.1);
        significant = λ c p ps es ks b h.
            (S.significant c p ps es ks b h.0, values_found c p ks (leb-true (2 ^ n) (mag p) b) h.0.tests.0 h.1);
        moving = λ c e es ks i h. (S.moving c e es ks i h.0, same c _ ks refl refl h.1);
        staying = λ c e es ks i b h. (S.staying c e es ks i b h.0, same c _ ks refl refl h.1);
        opening = λ c e es ks i b h. (S.opening c e es ks i b h.0, same c _ ks refl refl h.1);
        refining = λ c p ks h. (
          S.refining c p ks h.0,
          values_refined c p ks _ (λ e l. ap (grown _ (2 ^ n)) e ∙ grown_next n (mag p) (neg p) l) h.1,
        );
      }
    where
      same : (c d : Course (List ℤ)) (ks : List ℕ) → c.lsp ≡ d.lsp → c.side ≡ d.side → Values c ks → Values d ks
      same c d ks e f h = record {
        sized = rw (← f) h.sized;
        elsewhere = rw (← f) h.elsewhere;
        unrefined = h.unrefined;
        once = h.once;
        among = rw (← e) h.among;
        coarse = rw (← f) h.coarse;
        fine = rw (← e, ← f) h.fine;
        unfound = rw (← e, ← f) h.unfound;
      }

  module _ (l : Lists) (placed : Placed F k l) (once : (q : ℕ) → sum (is q) l.lsp ≤ 1)
      (inside : (q : ℕ) → 1 ≤ lists_weight F (is q) l → q < length v) (before : Known F mag neg (suc n) k l v) where
    untested : All Untested l.lip
    unfolding lists_weight
    untested =
        all_then _ _ l.lip (λ q h. record { below = h.0; level = h.1.0; inside = h.1.1 })
        (all_both _ _ l.lip before.lips
        (all_both _ _ l.lip placed.lips (every_all _ l.lip (λ q i. inside q (omega arith)))))

    unvisited : All Unvisited l.lis
    unfolding lists_weight
    unvisited =
        all_then _ _ l.lis (λ e h. record { settled = h.0; belows = h.1.0; insides = h.1.1 })
        (all_both _ _ l.lis placed.sets
        (all_both _ _ l.lis before.sets (members_apart L _ l.lis (λ q i. inside q (omega arith)))))

    unrefineds : All Unrefined l.lsp
    unfolding lists_weight
    unrefineds =
        all_then _ _ l.lsp (λ q h. record { large = h.0; level = h.1.0; inside = h.1.1 })
        (all_both _ _ l.lsp before.lsps
        (all_both _ _ l.lsp placed.lsps (every_all _ l.lsp (λ q i. inside q (omega arith)))))

    abbrev end : Course (List ℤ)
    end = passed F k (follower F mag neg n) l v

    ended : Sorted known_claims end [] [] × Values end []
    unfolding passed All
    ended =
        kept_pass known_kept L l _ (
          record {
            lips = tt;
            lsps = all_then _ _ l.lsp (λ q h. omega (arith, h, pow_mono {i = n} {j = suc n} (omega arith))) before.lsps;
            stay = tt;
            move = tt;
            tests = untested;
            visits = unvisited;
          },
          record {
            sized = refl;
            elsewhere = λ q d. refl;
            unrefined = unrefineds;
            once = once;
            among = λ q. omega arith;
            coarse = before.found;
            fine = λ q i o. absurd (omega arith);
            unfound = before.unfound;
          },
        )

    -- After pass (n, k): members of LIP_k and of the sets of LIS_k are below 2^n, those of LSP_k are not and are known to plane n.
    pub pass_known : PassKnown F mag neg n k v (passed F k (follower F mag neg n) l v)
    unfolding sum
    pass_known =
        record {
          known = record {
            lips = ended.0.lips;
            sets = ended.0.stay;
            lsps = ended.0.lsps;
            found = λ q i. ended.1.fine q i refl;
            unfound = ended.1.unfound;
          };
          moving = ended.0.move;
          elsewhere = ended.1.elsewhere;
          sized = ended.1.sized;
        }
