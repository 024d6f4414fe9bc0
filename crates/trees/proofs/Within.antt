-- A pass of level k speaks of level k only, over any lawful family; so two sides that agree on what is of that level go through it alike.
--
--   Speaks Q E t             whatever the replies, the conversation t asks only questions of which Q holds, and tells only events of which E does
--   QuestionOf F k q         q is of a coefficient of level k, or of a set in its place there
--   EventOf F k e            the same of an event; a set that moves is in its place in the next level
--   Within F k t             t speaks only of level k
--   Agreeing Q E C D Rel     where Rel relates two states, sides C and D reply to the questions of Q alike, and Rel goes on
--   Related Rel c d          two courses with the same lists, their sides related
use Rattle.std.specs.Prelude.{◌≡◌, Bool, cond, eqb}
use Rattle.std.proofs.Math.Path.{refl, subst}
use Rattle.std.proofs.Common.{ap}
use mathlib.Core.List.{List, [], ◌∷◌, ◌++◌}
use Rattle.std.proofs.Math.Bool.{true, false}
use Prim.Native.Nat.{ℕ, zero, suc}
use Rattle.rules.specs.Document.Pyramid.{Family}
use Rattle.rules.specs.Document.Passes.{Entry, Question, Event, to_lip, to_lsp, stays, moves, refined}
use Rattle.rules.specs.Document.Passes.{Talk, done, ask, tell, Lists, in_level, tested, tests, opened, added, weighed, visited, visits, turns, sets}
use Rattle.rules.specs.Document.Passes.{refines, pass, Side, walk, Course, listed, listing, passed, State, after}
use Rattle.rules.specs.Laws.Counting.Sums.{All}
use Rattle.rules.proofs.Laws.Counting.Sums.{all_append}
use Rattle.rules.specs.Laws.Family.Lawful.{Lawful}
use Rattle.rules.specs.Laws.Pass.Levels.{Met, Settled, Placed}
use Rattle.rules.proofs.Laws.Pass.Levels.{opened_placed, added_settled}
use Rattle.rules.specs.Laws.Pass.Steps.{begun}
use Rattle.trees.specs.Within.{Speaks, QuestionOf, EventOf, Within, Agreeing, Related}

-- Every conversation asks questions and tells events.
pub speaks_any : (t : Talk) → Speaks (λ q. Unit {0}) (λ e. Unit {0}) t
unfolding Speaks
speaks_any done = tt
speaks_any (ask q go) = (tt, λ b. speaks_any (go b))
speaks_any (tell e next) = (tt, speaks_any next)

-- The three steps of a pass.
module _ (F : Family) (k : ℕ) where
  within_tested : (p : ℕ) → F.level p ≡ k → (next : Talk) → Within F k next → (b : Bool) → Within F k (tested F p next b)
  unfolding Speaks QuestionOf EventOf tested
  within_tested p h next w false = (h, w)
  within_tested p h next w true = (h, λ s. (h, w))

  pub within_tests : (ps : List ℕ) → All (λ p. F.level p ≡ k) ps → (next : Talk) → Within F k next → Within F k (tests F ps next)
  unfolding Speaks QuestionOf All tests
  within_tests [] a next w = w
  within_tests (p ∷ ps) a next w = (a.0, within_tested p a.0 (tests F ps next) (within_tests ps a.1 next w))

  pub within_refines : (ps : List ℕ) → All (λ p. F.level p ≡ k) ps → Within F k (refines F ps)
  unfolding Speaks QuestionOf EventOf All refines
  within_refines [] a = tt
  within_refines (p ∷ ps) a = (a.0, λ b. (a.0, within_refines ps a.1))

module _ {F : Family} (L : Lawful F) (k : ℕ) where
  within_visits : (m : ℕ) (es : List Entry) → All (Settled F k) es → (next : Talk) → Within F k next → Within F k (visits F k m es next)
  unfolding Speaks QuestionOf EventOf All visits visited weighed
  within_visits zero es a next w = w
  within_visits (suc m) [] a next w = w
  within_visits (suc m) (e ∷ es) a next w = by (in_level F k e) refl (within_visits m es a.1 next w) (λ x. within_visits m (es ++ added F e) x next w)
    where
      go : List Entry → Talk
      go rest = visits F k m rest next

      settled : Met F k e → All (Settled F k) (es ++ added F e)
      settled i = all_append (Settled F k) es (added F e) a.1 (added_settled L k e i)

      weigh : Met F k e → Within F k (go es) → (All (Settled F k) (es ++ added F e) → Within F k (go (es ++ added F e)))
          → (b : Bool) → Within F k (weighed F e es go b)
      weigh i f g false = (i, f)
      weigh i f g true = within_tests F k (opened F e) (opened_placed L k e i) (go (es ++ added F e)) (g (settled i))

      by : (b : Bool) → in_level F k e ≡ b → Within F k (go es) → (All (Settled F k) (es ++ added F e) → Within F k (go (es ++ added F e)))
          → Within F k (visited F e es go b)
      by false h f g = (a.0.leaves h, f)
      by true h f g = let i : Met F k e = record { up_to = a.0.up_to; there = h } in (i, weigh i f g)

  pub within_sets : (es : List Entry) → All (Settled F k) es → (next : Talk) → Within F k next → Within F k (sets F k es next)
  unfolding sets
  within_sets es a next w = within_visits (turns F es) es a next w

  pub within_pass : (l : Lists) → Placed F k l → Within F k (pass F k l)
  unfolding pass
  within_pass l h =
      within_tests F k l.lip h.lips (sets F k l.lis (refines F l.lsp))
      (within_sets l.lis h.sets (refines F l.lsp) (within_refines F k l.lsp h.lsps))

listed_related : {S T : Type 0} (Rel : S → T → Type 0) (e : Event) (c : Course S) (d : Course T) (s : S) (t : T) → Related Rel c d → Rel s t
    → Related Rel (listed e c s) (listed e d t)
unfolding listed
listed_related Rel (to_lip p) c d s t a r =
    record { lip = ap (λ l. l ++ (p ∷ [])) a.lip; lsp = a.lsp; lis = a.lis; moved = a.moved; side = r }
listed_related Rel (to_lsp p b) c d s t a r =
    record { lip = a.lip; lsp = ap (λ l. l ++ (p ∷ [])) a.lsp; lis = a.lis; moved = a.moved; side = r }
listed_related Rel (stays e) c d s t a r =
    record { lip = a.lip; lsp = a.lsp; lis = ap (λ l. l ++ (e ∷ [])) a.lis; moved = a.moved; side = r }
listed_related Rel (moves e) c d s t a r =
    record { lip = a.lip; lsp = a.lsp; lis = a.lis; moved = ap (λ l. l ++ (e ∷ [])) a.moved; side = r }
listed_related Rel (refined p b) c d s t a r = record { lip = a.lip; lsp = a.lsp; lis = a.lis; moved = a.moved; side = r }

module _ {Q : Question → Type 0} {E : Event → Type 0} {S T : Type 0} {C : Side S} {D : Side T} {Rel : S → T → Type 0} where
  pub walk_related : Agreeing Q E C D Rel → (k : Talk) → Speaks Q E k → (s : S) (t : T) → Rel s t → Rel (walk C k s) (walk D k t)
  unfolding walk Speaks
  walk_related A done w s t r = r
  walk_related A (ask q go) w s t r =
      let a = C.reply q s in
      let b = D.reply q t in
      subst (λ x. Rel (walk C (go a.bit) a.next) (walk D (go x) b.next)) (A.bit q w.0 s t r)
      (walk_related A (go a.bit) (w.1 a.bit) a.next b.next (A.next q w.0 s t r))
  walk_related A (tell e k) w s t r = walk_related A k w.1 (C.note e s) (D.note e t) (A.noted e w.0 s t r)

  -- with the lists that they make
  agreeing_lists : Agreeing Q E C D Rel → Agreeing Q E (listing C) (listing D) (Related Rel)
  agreeing_lists A =
      record {
        bit = λ q i c d a. A.bit q i c.side d.side a.side;
        next = λ q i c d a.
            record { lip = a.lip; lsp = a.lsp; lis = a.lis; moved = a.moved; side = A.next q i c.side d.side a.side };
        noted = λ e i c d a. listed_related Rel e c d _ _ a (A.noted e i c.side d.side a.side);
      }

module _ {Q : Question → Type 0} {E : Event → Type 0} {S T : Type 0} (C : Side S) (D : Side T) (Rel : S → T → Type 0) (A : Agreeing Q E C D Rel) where
  pub passed_speaking : (F : Family) (k : ℕ) (l : Lists) → Speaks Q E (pass F k l) → (s : S) (t : T) → Rel s t
      → Related Rel (passed F k C l s) (passed F k D l t)
  unfolding passed
  passed_speaking F k l w s t r =
      walk_related (agreeing_lists A) (pass F k l) w (begun l s) (begun l t)
      (record { lip = refl; lsp = refl; lis = refl; moved = refl; side = r })

-- Sides that agree on what is of level k go through a pass of level k alike.
pub passed_related : {F : Family} (L : Lawful F) {k : ℕ} {S T : Type 0} (C : Side S) (D : Side T) (Rel : S → T → Type 0)
    → Agreeing (QuestionOf F k) (EventOf F k) C D Rel → (l : Lists) → Placed F k l → (s : S) (t : T) → Rel s t
    → Related Rel (passed F k C l s) (passed F k D l t)
passed_related {F} L {k} C D Rel A l h s t r = passed_speaking C D Rel A F k l (within_pass L k l h) s t r

pub after_related : {S T : Type 0} (Rel : S → T → Type 0) (k : ℕ) (c : Course S) (d : Course T) (s : State) → Related Rel c d
    → after k c s ≡ after k d s
unfolding after
after_related Rel k c d s a =
    λ i j. cond (eqb j k) (record { lip = a.lip i; lis = a.lis i; lsp = a.lsp i })
    (cond (eqb (suc j) k) (record { lip = (s j).lip; lis = (s j).lis ++ a.moved i; lsp = (s j).lsp }) (s j))
