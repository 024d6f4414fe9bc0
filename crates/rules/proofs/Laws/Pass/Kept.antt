-- One induction over the visits of a pass: what every visit keeps, the pass keeps, and it holds wherever a pass stands.
use Rattle.std.specs.Prelude.{◌≡◌, refl, Bool, true, false, ℕ, zero, suc, ◌≤◌}
use Rattle.std.proofs.Common.{sym, subst, arith, le_refl}
use mathlib.Core.List.{List, [], ◌∷◌, ◌++◌}
use Rattle.rules.specs.Document.Pyramid.{Family}
use Rattle.rules.specs.Document.Passes.{Entry, significant?, set?, done, Lists, in_level, opened, added}
use Rattle.rules.specs.Document.Passes.{turns, pass, Side, walk}
use Rattle.rules.specs.Laws.Family.Lawful.{Lawful}
use Rattle.rules.proofs.Laws.Pass.Turns.{turns_some, turns_opened}
use Rattle.rules.specs.Laws.Pass.Steps.{tried, tried_all, sharpened, sharpened_all}
use Rattle.rules.proofs.Laws.Pass.Steps.{tried_insignificant, tried_significant}
use Rattle.rules.specs.Laws.Pass.Steps.{visited_all}
use Rattle.rules.proofs.Laws.Pass.Steps.{visited_all_none, walk_pass, walk_moves, walk_stays, walk_opens}
use Rattle.rules.specs.Laws.Pass.Kept.{Kept}

module _ {F : Family} {k : ℕ} {S : Type 0} {C : Side S} {I : S → List ℕ → List Entry → List ℕ → Type 0} (K : Kept F k C I) where
  -- step 1
  pub kept_tried : (s : S) (p : ℕ) (ps : List ℕ) (es : List Entry) (ks : List ℕ) → I s (p ∷ ps) es ks → I (tried C p s) ps es ks
  kept_tried s p ps es ks h = by (C.reply (significant? p) s).bit refl
    where
      by : (b : Bool) → (C.reply (significant? p) s).bit ≡ b → I (tried C p s) ps es ks
      by false i = subst (λ x. I x ps es ks) (sym (tried_insignificant C p s i)) (K.insignificant s p ps es ks i h)
      by true i = subst (λ x. I x ps es ks) (sym (tried_significant C p s i)) (K.significant s p ps es ks i h)

  pub kept_tried_all : (s : S) (ps : List ℕ) (es : List Entry) (ks : List ℕ) → I s ps es ks → I (tried_all C ps s) [] es ks
  unfolding tried_all
  kept_tried_all s [] es ks h = h
  kept_tried_all s (p ∷ ps) es ks h = kept_tried_all (tried C p s) ps es ks (kept_tried s p ps es ks h)

  -- step 2
  kept_turns : Lawful F → (t : ℕ) (s : S) (es : List Entry) (ks : List ℕ) → turns F es ≤ t → I s [] es ks → I (visited_all F k C es s) [] [] ks
  kept_turns L zero s [] ks a h = subst (λ x. I x [] [] ks) (sym (visited_all_none F k C s)) h
  kept_turns L zero s (e ∷ es) ks a h = absurd (omega (arith, turns_some F e es))
  kept_turns L (suc t) s [] ks a h = subst (λ x. I x [] [] ks) (sym (visited_all_none F k C s)) h
  kept_turns L (suc t) s (e ∷ es) ks a h =
      by (in_level F k e) refl (C.reply (set? e) s).bit refl
      (λ x. kept_turns L t x es ks (omega (arith, turns_some F e es)))
      (λ x. kept_turns L t x (es ++ added F e) ks (omega (arith, turns_opened L e es)))
    where
      by : (b : Bool) → in_level F k e ≡ b → (c : Bool) → (C.reply (set? e) s).bit ≡ c
          → ((x : S) → I x [] es ks → I (visited_all F k C es x) [] [] ks)
          → ((x : S) → I x [] (es ++ added F e) ks → I (visited_all F k C (es ++ added F e) x) [] [] ks)
          → I (visited_all F k C (e ∷ es) s) [] [] ks
      by false i c j f g = subst (λ x. I x [] [] ks) (sym (walk_moves L k C e es done s i)) (f _ (K.moving s e es ks i h))
      by true i false j f g = subst (λ x. I x [] [] ks) (sym (walk_stays L k C e es done s i j)) (f _ (K.staying s e es ks i j h))
      by true i true j f g =
          subst (λ x. I x [] [] ks) (sym (walk_opens L k C e es done s i j))
          (g _ (kept_tried_all _ (opened F e) (es ++ added F e) ks (K.opening s e es ks i j h)))

  pub kept_visited_all : Lawful F → (s : S) (es : List Entry) (ks : List ℕ) → I s [] es ks → I (visited_all F k C es s) [] [] ks
  kept_visited_all L s es ks h = kept_turns L (turns F es) s es ks (le_refl _) h

  -- step 3
  pub kept_sharpened_all : (s : S) (ks : List ℕ) → I s [] [] ks → I (sharpened_all C ks s) [] [] []
  unfolding sharpened_all sharpened
  kept_sharpened_all s [] h = h
  kept_sharpened_all s (p ∷ ks) h = kept_sharpened_all (sharpened C p s) ks (K.refining s p ks h)

  pub kept_pass : Lawful F → (l : Lists) (s : S) → I s l.lip l.lis l.lsp → I (walk C (pass F k l) s) [] [] []
  kept_pass L l s h =
      subst (λ x. I x [] [] []) (sym (walk_pass F k C l s))
      (kept_sharpened_all _ l.lsp (kept_visited_all L _ l.lis l.lsp (kept_tried_all s l.lip l.lis l.lsp h)))
