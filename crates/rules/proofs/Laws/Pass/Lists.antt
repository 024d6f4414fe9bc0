-- The lists that a pass makes, whatever the bits: what is claimed of each entry, and what all entries weigh.
use Rattle.std.specs.Prelude.{◌≡◌, List, [], ◌∷◌, ◌++◌, ℕ, ◌+◌}
use native.Mathlib.Omega.{arith}
use Rattle.rules.specs.Document.Pyramid.{Family}
use Rattle.rules.specs.Document.Passes.{Lists, opened, added, Side, listed, listing, passed}
use Rattle.rules.specs.Laws.Counting.Sums.{sum, All}
use Rattle.rules.proofs.Laws.Counting.Sums.{sum_append, all_append}
use Rattle.rules.specs.Laws.Family.Lawful.{Lawful}
use Rattle.rules.proofs.Laws.Family.Lawful.{set_splits}
use Rattle.rules.specs.Laws.Pass.Steps.{sign_noted, bit_noted}
use Rattle.rules.specs.Laws.Pass.Kept.{Kept}
use Rattle.rules.proofs.Laws.Pass.Kept.{kept_pass}
use Rattle.rules.specs.Laws.Pass.Lists.{Claims, Fates, Sorted, set_weight, lists_weight, course_weight}

all_snoc : {Z : Type 0} (P : Z → Type 0) (xs : List Z) (x : Z) → All P xs → P x → All P (xs ++ (x ∷ []))
unfolding All
all_snoc P xs x a b = all_append P xs (x ∷ []) a (b, tt)

module _ {F : Family} {k : ℕ} {S : Type 0} {C : Side S} {X : Claims} (T : Fates F k C X) where
  pub sorted_kept : Kept F k (listing C) (λ c ps es ks. Sorted X c ps es)
  unfolding All listed sign_noted bit_noted
  sorted_kept = record {
    insignificant = λ c p ps es ks b h. record {
      lips = all_snoc X.Lip c.lip p h.lips (T.insignificant c.side p b h.tests.0);
      lsps = h.lsps;
      stay = h.stay;
      move = h.move;
      tests = h.tests.1;
      visits = h.visits;
    };
    significant = λ c p ps es ks b h. record {
      lips = h.lips;
      lsps = all_snoc X.Lsp c.lsp p h.lsps (T.significant c.side p b h.tests.0);
      stay = h.stay;
      move = h.move;
      tests = h.tests.1;
      visits = h.visits;
    };
    moving = λ c e es ks i h. record {
      lips = h.lips;
      lsps = h.lsps;
      stay = h.stay;
      move = all_snoc X.Move c.moved e h.move (T.moving e i h.visits.0);
      tests = h.tests;
      visits = h.visits.1;
    };
    staying = λ c e es ks i b h. record {
      lips = h.lips;
      lsps = h.lsps;
      stay = all_snoc X.Stay c.lis e h.stay (T.staying c.side e i b h.visits.0);
      move = h.move;
      tests = h.tests;
      visits = h.visits.1;
    };
    opening = λ c e es ks i b h.
        let o : All X.Test (opened F e) × All X.Visit (added F e) = T.opening c.side e i b h.visits.0 in
        record {
          lips = h.lips;
          lsps = h.lsps;
          stay = h.stay;
          move = h.move;
          tests = o.0;
          visits = all_append X.Visit es (added F e) h.visits.1 o.1;
        };
    refining = λ c p ks h. record { lips = h.lips; lsps = h.lsps; stay = h.stay; move = h.move; tests = h.tests; visits = h.visits };
  }

  pub passed_sorted : Lawful F → (l : Lists) (s : S) → All X.Test l.lip → All X.Visit l.lis → All X.Lsp l.lsp
      → Sorted X (passed F k C l s) [] []
  unfolding passed All
  passed_sorted L l s a b c =
      kept_pass sorted_kept L l _ (record { lips = tt; lsps = c; stay = tt; move = tt; tests = a; visits = b })

module _ {F : Family} (L : Lawful F) (w : ℕ → ℕ) (k : ℕ) {S : Type 0} (C : Side S) where
  -- What a pass has made and what it has still to do weigh the same wherever it stands.
  pub weight_kept : (total : ℕ) → Kept F k (listing C) (λ c ps es ks. course_weight F w c + sum w ps + sum (set_weight F w) es ≡ total)
  unfolding course_weight lists_weight listed sign_noted bit_noted sum
  weight_kept total = record {
    insignificant = λ c p ps es ks b h. omega (arith, sum_append w c.lip (p ∷ []));
    significant = λ c p ps es ks b h. omega (arith, sum_append w c.lsp (p ∷ []));
    moving = λ c e es ks i h. omega (arith, sum_append (set_weight F w) c.moved (e ∷ []));
    staying = λ c e es ks i b h. omega (arith, sum_append (set_weight F w) c.lis (e ∷ []));
    opening = λ c e es ks i b h. omega (arith, sum_append (set_weight F w) es (added F e), set_splits F L w e);
    refining = λ c p ks h. h;
  }

  pub passed_weight : (l : Lists) (s : S) → course_weight F w (passed F k C l s) ≡ lists_weight F w l
  unfolding passed course_weight lists_weight sum
  passed_weight l s =
      let h : course_weight F w (passed F k C l s) + 0 + 0 ≡ lists_weight F w l =
      kept_pass (weight_kept (lists_weight F w l)) L l _ (omega arith) in
      omega arith
