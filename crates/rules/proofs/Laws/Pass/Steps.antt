-- What each visit of a pass makes of a side of the conversation, and of the lists: equations that a loop of the code goes by.
use Rattle.std.specs.Prelude.{◌≡◌, Bool}
use Rattle.std.proofs.Math.Path.{refl, ap, sym}
use Rattle.std.proofs.Common.{◌∙◌}
use mathlib.Core.List.{List, [], ◌∷◌, ◌++◌}
use Rattle.std.proofs.Math.Bool.{true, false}
use Prim.Native.Nat.{ℕ, zero, suc}
use Rattle.rules.specs.Document.Pyramid.{Family}
use Rattle.rules.specs.Document.Passes.{Entry, significant?, negative?, set?, to_lip, stays, moves, Talk, done}
use Rattle.rules.specs.Document.Passes.{Lists, in_level, tested, tests, opened, added, weighed, visited, visits, turns, sets, refines, pass}
use Rattle.rules.specs.Document.Passes.{Side, walk, Course, listed, with_side, listing, passed}
use Rattle.rules.specs.Laws.Family.Lawful.{Lawful}
use Rattle.rules.proofs.Laws.Pass.Turns.{sets_none, sets_moves, sets_asks}
use Rattle.rules.specs.Laws.Pass.Steps.{sign_noted, tried_by, tried, tried_all, visited_all, bit_noted, sharpened, sharpened_all, begun}

-- Step 1, and the offspring of an opened set.
module _ {S : Type 0} (C : Side S) where
  pub tried_insignificant : (p : ℕ) (s : S) → (C.reply (significant? p) s).bit ≡ false
      → tried C p s ≡ C.note (to_lip p) (C.reply (significant? p) s).next
  unfolding tried tried_by
  tried_insignificant p s h = rw h

  pub tried_significant : (p : ℕ) (s : S) → (C.reply (significant? p) s).bit ≡ true
      → tried C p s ≡ sign_noted C p (C.reply (negative? p) (C.reply (significant? p) s).next)
  unfolding tried tried_by
  tried_significant p s h = rw h

  pub tried_all_append : (ps qs : List ℕ) (s : S) → tried_all C (ps ++ qs) s ≡ tried_all C qs (tried_all C ps s)
  unfolding tried_all
  tried_all_append [] qs s = refl
  tried_all_append (p ∷ ps) qs s = tried_all_append ps qs (tried C p s)

  module _ (F : Family) where
    walk_tested : (p : ℕ) (next : Talk) (b : Bool) (s : S) → walk C (tested F p next b) s ≡ walk C next (tried_by C p b s)
    unfolding walk tested tried_by sign_noted
    walk_tested p next false s = refl
    walk_tested p next true s = refl

    pub walk_tests_one : (p : ℕ) (ps : List ℕ) (next : Talk) (s : S) → walk C (tests F (p ∷ ps) next) s ≡ walk C (tests F ps next) (tried C p s)
    unfolding walk tests tried
    walk_tests_one p ps next s = walk_tested p (tests F ps next) (C.reply (significant? p) s).bit (C.reply (significant? p) s).next

    pub walk_tests : (ps : List ℕ) (next : Talk) (s : S) → walk C (tests F ps next) s ≡ walk C next (tried_all C ps s)
    unfolding tests tried_all
    walk_tests [] next s = refl
    walk_tests (p ∷ ps) next s = walk_tests_one p ps next s ∙ walk_tests ps next (tried C p s)

-- Step 2, a visit of a set.
module _ {F : Family} (L : Lawful F) (k : ℕ) {S : Type 0} (C : Side S) (e : Entry) (es : List Entry) (next : Talk) (s : S) where
  pub walk_moves : in_level F k e ≡ false → walk C (sets F k (e ∷ es) next) s ≡ walk C (sets F k es next) (C.note (moves e) s)
  unfolding walk
  walk_moves h = ap (λ t. walk C t s) (sets_moves L k e es next h)

  walk_asks : (b : Bool) → in_level F k e ≡ true → (C.reply (set? e) s).bit ≡ b
      → walk C (sets F k (e ∷ es) next) s ≡ walk C (weighed F e es (λ rest. sets F k rest next) b) (C.reply (set? e) s).next
  unfolding walk
  walk_asks b h i =
      ap (λ t. walk C t s) (sets_asks L k e es next h)
      ∙ ap (λ b. walk C (weighed F e es (λ rest. sets F k rest next) b) (C.reply (set? e) s).next) i

  pub walk_stays : in_level F k e ≡ true → (C.reply (set? e) s).bit ≡ false
      → walk C (sets F k (e ∷ es) next) s ≡ walk C (sets F k es next) (C.note (stays e) (C.reply (set? e) s).next)
  unfolding walk weighed
  walk_stays h i = walk_asks false h i

  pub walk_opens : in_level F k e ≡ true → (C.reply (set? e) s).bit ≡ true
      → walk C (sets F k (e ∷ es) next) s ≡ walk C (sets F k (es ++ added F e) next) (tried_all C (opened F e) (C.reply (set? e) s).next)
  unfolding weighed
  walk_opens h i = walk_asks true h i ∙ walk_tests C F (opened F e) (sets F k (es ++ added F e) next) (C.reply (set? e) s).next

-- All its visits; what comes after them goes on from there.
module _ (F : Family) (k : ℕ) {S : Type 0} (C : Side S) where
  pub visited_all_none : (s : S) → visited_all F k C [] s ≡ s
  unfolding walk
  visited_all_none s = ap (λ t. walk C t s) (sets_none F k done)

  -- one talk goes on with `next` where another ends
  abbrev GoesOn : Talk → Talk → Talk → Type 0
  GoesOn longer next shorter = (s : S) → walk C longer s ≡ walk C next (walk C shorter s)

  module _ (e : Entry) (es : List Entry) (f g : List Entry → Talk) (next : Talk) (h : (rest : List Entry) → GoesOn (f rest) next (g rest)) where
    weighed_goes_on : (b : Bool) → GoesOn (weighed F e es f b) next (weighed F e es g b)
    unfolding walk weighed
    weighed_goes_on false s = h es (C.note (stays e) s)
    weighed_goes_on true s =
        walk_tests C F (opened F e) (f (es ++ added F e)) s ∙ h (es ++ added F e) (tried_all C (opened F e) s)
        ∙ sym (ap (walk C next) (walk_tests C F (opened F e) (g (es ++ added F e)) s))

    visited_goes_on : (b : Bool) → GoesOn (visited F e es f b) next (visited F e es g b)
    unfolding walk visited
    visited_goes_on false s = h es (C.note (moves e) s)
    visited_goes_on true s = weighed_goes_on (C.reply (set? e) s).bit (C.reply (set? e) s).next

  visits_goes_on : (t : ℕ) (es : List Entry) (next : Talk) → GoesOn (visits F k t es next) next (visits F k t es done)
  unfolding walk visits
  visits_goes_on zero es next s = refl
  visits_goes_on (suc t) [] next s = refl
  visits_goes_on (suc t) (e ∷ es) next s =
      visited_goes_on e es (λ rest. visits F k t rest next) (λ rest. visits F k t rest done) next
      (λ rest. visits_goes_on t rest next) (in_level F k e) s

  pub walk_sets : (es : List Entry) (next : Talk) (s : S) → walk C (sets F k es next) s ≡ walk C next (visited_all F k C es s)
  unfolding sets
  walk_sets es next s = visits_goes_on (turns F es) es next s

-- Step 3.
module _ {S : Type 0} (C : Side S) where
  pub sharpened_all_append : (ps qs : List ℕ) (s : S) → sharpened_all C (ps ++ qs) s ≡ sharpened_all C qs (sharpened_all C ps s)
  unfolding sharpened_all
  sharpened_all_append [] qs s = refl
  sharpened_all_append (p ∷ ps) qs s = sharpened_all_append ps qs (sharpened C p s)

  pub walk_refines_one : (F : Family) (p : ℕ) (ps : List ℕ) (s : S) → walk C (refines F (p ∷ ps)) s ≡ walk C (refines F ps) (sharpened C p s)
  unfolding walk refines sharpened bit_noted
  walk_refines_one F p ps s = refl

  pub walk_refines : (F : Family) (ps : List ℕ) (s : S) → walk C (refines F ps) s ≡ sharpened_all C ps s
  unfolding walk refines sharpened_all
  walk_refines F [] s = refl
  walk_refines F (p ∷ ps) s = walk_refines_one F p ps s ∙ walk_refines F ps (sharpened C p s)

-- The three steps, one after another.
module _ (F : Family) (k : ℕ) {S : Type 0} (C : Side S) where
  pub walk_pass : (l : Lists) (s : S)
      → walk C (pass F k l) s ≡ sharpened_all C l.lsp (visited_all F k C l.lis (tried_all C l.lip s))
  unfolding pass
  walk_pass l s =
      walk_tests C F l.lip (sets F k l.lis (refines F l.lsp)) s
      ∙ walk_sets F k C l.lis (refines F l.lsp) (tried_all C l.lip s)
      ∙ walk_refines C F l.lsp (visited_all F k C l.lis (tried_all C l.lip s))

pub passed_steps : (F : Family) (k : ℕ) {S : Type 0} (C : Side S) (l : Lists) (s : S)
    → passed F k C l s
    ≡ sharpened_all (listing C) l.lsp (visited_all F k (listing C) l.lis (tried_all (listing C) l.lip (begun l s)))
unfolding passed
passed_steps F k C l s = walk_pass F k (listing C) l (begun l s)

-- The lists: a test puts its coefficient at the end of one of them, a refinement leaves them as they are; the side goes its own way.
module _ {S : Type 0} (C : Side S) where
  pub tried_to_lip : (p : ℕ) (c : Course S) → (C.reply (significant? p) c.side).bit ≡ false
      → tried (listing C) p c ≡ record { lip = c.lip ++ (p ∷ []); lsp = c.lsp; lis = c.lis; moved = c.moved; side = tried C p c.side }
  unfolding tried tried_by listed
  tried_to_lip p c h = rw h

  pub tried_to_lsp : (p : ℕ) (c : Course S) → (C.reply (significant? p) c.side).bit ≡ true
      → tried (listing C) p c ≡ record { lip = c.lip; lsp = c.lsp ++ (p ∷ []); lis = c.lis; moved = c.moved; side = tried C p c.side }
  unfolding tried tried_by sign_noted listed
  tried_to_lsp p c h = rw h

  pub sharpened_lists : (ps : List ℕ) (c : Course S) → sharpened_all (listing C) ps c ≡ with_side c (sharpened_all C ps c.side)
  unfolding sharpened sharpened_all bit_noted listed
  sharpened_lists [] c = refl
  sharpened_lists (p ∷ ps) c = sharpened_lists ps (with_side c (sharpened C p c.side))
