-- A pass over renamed coefficients. Where the offspring, the descendants and the level of f t are those of t, renamed, the pass over renamed
-- lists is the pass over the lists, renamed; and a side that is asked about f t goes where the side goes that is asked about t.
--
--   name_entry f e        the entry e of a LIS, its coefficient renamed
--   name_question f q     a question, name_event f e an event, name_talk f t a conversation
--   name_lists f l        a level's lists, name_state f s those of all levels, name_course f c what a pass makes
--   name_side f C         the side that is asked about t, and told of it, as C is of f t
--   Renames f F G        F on renamed coefficients is G
use Rattle.std.specs.Prelude.{◌≡◌, Bool}
use Rattle.std.proofs.Math.Path.{refl, ap, ap₂, sym}
use Rattle.std.proofs.Common.{◌∙◌}
use mathlib.Core.List.{List, [], ◌∷◌, ◌++◌, map}
use Rattle.std.proofs.Math.Bool.{true, false, cond, ◌||◌}
use Prim.Native.Nat.{ℕ, zero, suc, ◌+◌, ◌*◌, ◌^◌, max}
use Rattle.std.proofs.Math.Dec.{leb, eqb}
use Rattle.std.proofs.Math.ListN.{length}
use Rattle.rules.specs.Document.Notation.{any, flat, greatest, if_any}
use Rattle.rules.specs.Document.Pyramid.{Family}
use Rattle.rules.specs.Document.Passes.{Entry, typeA, typeB, Question, significant?, negative?, bit?, set?, Event, to_lip, to_lsp, stays, moves, refined, Talk}
use Rattle.rules.specs.Document.Passes.{done, ask, tell, Lists, members, in_level, tested, tests, opened, added, weighed, visited, visits, turns, sets, refines}
use Rattle.rules.specs.Document.Passes.{pass, Side, walk, Course, listed, with_side, listing, passed, State, own, handed, after, PartName, truth, coder, coded}
use Rattle.rules.specs.Document.Layout.{coded_parts}
use Rattle.trees.specs.Renamed.{name_entry, name_question, name_event, name_talk, name_lists, name_state, name_course, name_side, Renames}

-- Lists under map.
module _ {X Y : Type 0} (f : X → Y) where
  pub map-append : (xs ys : List X) → map f (xs ++ ys) ≡ map f xs ++ map f ys
  map-append [] ys = refl
  map-append (x ∷ xs) ys = ap (λ l. f x ∷ l) (map-append xs ys)

  pub map_length : (xs : List X) → length (map f xs) ≡ length xs
  map_length [] = refl
  map_length (x ∷ xs) = ap suc (map_length xs)

  map_any : (t : Y → Bool) (s : X → Bool) → ((x : X) → t (f x) ≡ s x) → (xs : List X) → any t (map f xs) ≡ any s xs
  unfolding any
  map_any t s h [] = refl
  map_any t s h (x ∷ xs) = ap₂ ◌||◌ (h x) (map_any t s h xs)

  pub map_greatest : (m : Y → ℕ) (n : X → ℕ) → ((x : X) → m (f x) ≡ n x) → (xs : List X) → greatest m (map f xs) ≡ greatest n xs
  unfolding greatest
  map_greatest m n e [] = refl
  map_greatest m n e (x ∷ xs) = ap₂ max (e x) (map_greatest m n e xs)

pub map_flat : {X Y A B : Type 0} (f : X → Y) (k : A → B) (g : Y → List B) (h : X → List A) → ((x : X) → g (f x) ≡ map k (h x))
    → (xs : List X) → flat g (map f xs) ≡ map k (flat h xs)
unfolding flat
map_flat f k g h e [] = refl
map_flat f k g h e (x ∷ xs) = ap₂ ◌++◌ (e x) (map_flat f k g h e xs) ∙ sym (map-append k (h x) (flat h xs))

pub if_any_renamed : (f : ℕ → ℕ) (xs : List ℕ) (e : Entry) → if_any (map f xs) (name_entry f e ∷ []) ≡ map (name_entry f) (if_any xs (e ∷ []))
unfolding if_any
if_any_renamed f [] e = refl
if_any_renamed f (x ∷ xs) e = refl

module _ (f : ℕ → ℕ) (F G : Family) (R : Renames f F G) where
  pub members_renamed : (e : Entry) → members F (name_entry f e) ≡ map f (members G e)
  unfolding members name_entry
  members_renamed (typeA p) = R.descendants p
  members_renamed (typeB p) = ap (flat F.descendants) (R.offspring p) ∙ map_flat f f F.descendants G.descendants R.descendants (G.offspring p)

  pub in_level_renamed : (k : ℕ) (e : Entry) → in_level F k (name_entry f e) ≡ in_level G k e
  unfolding in_level
  in_level_renamed k e =
      ap (any (λ q. eqb (F.level q) k)) (members_renamed e)
      ∙ map_any f (λ q. eqb (F.level q) k) (λ q. eqb (G.level q) k) (λ q. ap (λ (l : ℕ). eqb l k) (R.level q)) (members G e)

  opened_renamed : (e : Entry) → opened F (name_entry f e) ≡ map f (opened G e)
  unfolding opened name_entry
  opened_renamed (typeA p) = R.offspring p
  opened_renamed (typeB p) = refl

  type_a_renamed : (xs : List ℕ) → map typeA (map f xs) ≡ map (name_entry f) (map typeA xs)
  unfolding name_entry
  type_a_renamed [] = refl
  type_a_renamed (x ∷ xs) = ap (λ l. typeA (f x) ∷ l) (type_a_renamed xs)

  added_renamed : (e : Entry) → added F (name_entry f e) ≡ map (name_entry f) (added G e)
  unfolding added name_entry
  added_renamed (typeA p) = ap (λ xs. if_any xs (typeB (f p) ∷ [])) (members_renamed (typeB p)) ∙ if_any_renamed f (members G (typeB p)) (typeB p)
  added_renamed (typeB p) = ap (map typeA) (R.offspring p) ∙ type_a_renamed (G.offspring p)

  turns_renamed : (es : List Entry) → turns F (map (name_entry f) es) ≡ turns G es
  unfolding turns name_entry
  turns_renamed [] = refl
  turns_renamed (typeA p ∷ es) =
      let a : _ = ap length (members_renamed (typeA p)) ∙ map_length f (members G (typeA p)) in
      ap₂ (λ (x y : ℕ). 2 * x + 2 + y) a (turns_renamed es)
  turns_renamed (typeB p ∷ es) =
      let a : length (members F (typeB (f p))) ≡ length (members G (typeB p)) =
      ap length (members_renamed (typeB p)) ∙ map_length f (members G (typeB p)) in
      let b : length (F.offspring (f p)) ≡ length (G.offspring p) = ap length (R.offspring p) ∙ map_length f (G.offspring p) in
      rw (a, b, turns_renamed es)

  -- Step 1, step 2 and step 3.
  tested_renamed : (p : ℕ) (next : Talk) (b : Bool) → tested F (f p) (name_talk f next) b ≡ name_talk f (tested G p next b)
  unfolding tested name_talk name_question name_event
  tested_renamed p next false = refl
  tested_renamed p next true = refl

  pub tests_renamed : (ps : List ℕ) (next : Talk) → tests F (map f ps) (name_talk f next) ≡ name_talk f (tests G ps next)
  unfolding tests name_talk name_question
  tests_renamed [] next = refl
  tests_renamed (p ∷ ps) next =
      ap (λ t. ask (significant? (f p)) (tested F (f p) t)) (tests_renamed ps next)
      ∙ (λ i. ask (significant? (f p)) (λ b. tested_renamed p (tests G ps next) b i))

  module _ (next_f nextG : List Entry → Talk) (same : (es : List Entry) → next_f (map (name_entry f) es) ≡ name_talk f (nextG es)) where
    weighed_renamed : (e : Entry) (es : List Entry) (b : Bool)
        → weighed F (name_entry f e) (map (name_entry f) es) next_f b ≡ name_talk f (weighed G e es nextG b)
    unfolding weighed name_talk name_event
    weighed_renamed e es false = ap (tell (stays (name_entry f e))) (same es)
    weighed_renamed e es true =
        ap₂ (tests F) (opened_renamed e)
        (ap next_f (ap (λ l. map (name_entry f) es ++ l) (added_renamed e) ∙ sym (map-append (name_entry f) es (added G e))) ∙ same (es ++ added G e))
        ∙ tests_renamed (opened G e) (nextG (es ++ added G e))

    visited_renamed : (e : Entry) (es : List Entry) (b : Bool)
        → visited F (name_entry f e) (map (name_entry f) es) next_f b ≡ name_talk f (visited G e es nextG b)
    unfolding visited name_talk name_event name_question
    visited_renamed e es false = ap (tell (moves (name_entry f e))) (same es)
    visited_renamed e es true = λ i. ask (set? (name_entry f e)) (λ b. weighed_renamed e es b i)

  pub visits_renamed : (k m : ℕ) (es : List Entry) (next : Talk)
      → visits F k m (map (name_entry f) es) (name_talk f next) ≡ name_talk f (visits G k m es next)
  unfolding visits
  visits_renamed k zero es next = refl
  visits_renamed k (suc m) [] next = refl
  visits_renamed k (suc m) (e ∷ es) next =
      ap (visited F (name_entry f e) (map (name_entry f) es) (λ rest. visits F k m rest (name_talk f next))) (in_level_renamed k e)
      ∙ visited_renamed (λ rest. visits F k m rest (name_talk f next)) (λ rest. visits G k m rest next) (λ rest. visits_renamed k m rest next)
      e es (in_level G k e)

  refines_renamed : (ps : List ℕ) → refines F (map f ps) ≡ name_talk f (refines G ps)
  unfolding refines name_talk name_question name_event
  refines_renamed [] = refl
  refines_renamed (p ∷ ps) = ap (λ t. ask (bit? (f p)) (λ b. tell (refined (f p) b) t)) (refines_renamed ps)

  pub pass_renamed : (k : ℕ) (l : Lists) → pass F k (name_lists f l) ≡ name_talk f (pass G k l)
  unfolding pass sets
  pass_renamed k l =
      let rs : Talk = refines G l.lsp in
      let m : ℕ = turns G l.lis in
      ap (tests F (map f l.lip))
      (ap₂ (λ (x : ℕ) (t : Talk). visits F k x (map (name_entry f) l.lis) t) (turns_renamed l.lis) (refines_renamed l.lsp)
      ∙ visits_renamed k m l.lis rs)
      ∙ tests_renamed l.lip (visits G k m l.lis rs)

-- A walk through a renamed conversation, and the lists that it makes.
module _ (f : ℕ → ℕ) {S : Type 0} (C : Side S) where
  pub walk_renamed : (t : Talk) (s : S) → walk C (name_talk f t) s ≡ walk (name_side f C) t s
  unfolding walk name_talk
  walk_renamed done s = refl
  walk_renamed (ask q go) s =
      let r = C.reply (name_question f q) s in
      walk_renamed (go r.bit) r.next
  walk_renamed (tell e next) s = walk_renamed next (C.note (name_event f e) s)

  listed_renamed : (e : Event) (c : Course S) (s : S) → listed (name_event f e) (name_course f c) s ≡ name_course f (listed e c s)
  unfolding listed name_event
  listed_renamed (to_lip p) c s = rw (map-append f c.lip (p ∷ []))
  listed_renamed (to_lsp p b) c s = rw (map-append f c.lsp (p ∷ []))
  listed_renamed (stays e) c s = rw (map-append (name_entry f) c.lis (e ∷ []))
  listed_renamed (moves e) c s = rw (map-append (name_entry f) c.moved (e ∷ []))
  listed_renamed (refined p b) c s = refl

  pub listing_renamed : (t : Talk) (c : Course S)
      → walk (listing C) (name_talk f t) (name_course f c) ≡ name_course f (walk (listing (name_side f C)) t c)
  unfolding walk name_talk
  listing_renamed done c = refl
  listing_renamed (ask q go) c =
      let r = C.reply (name_question f q) c.side in
      listing_renamed (go r.bit) (with_side c r.next)
  listing_renamed (tell e next) c =
      let s : S = C.note (name_event f e) c.side in
      ap (walk (listing C) (name_talk f next)) (listed_renamed e c s) ∙ listing_renamed next (listed e c s)

-- The pass over renamed lists makes the renamed lists, and takes its side where the pass takes the renamed side.
module _ (f : ℕ → ℕ) (F G : Family) (R : Renames f F G) where
  pub passed_renamed : {S : Type 0} (k : ℕ) (C : Side S) (l : Lists) (s : S)
      → passed F k C (name_lists f l) s ≡ name_course f (passed G k (name_side f C) l s)
  unfolding passed
  passed_renamed k C l s =
      ap (λ t. walk (listing C) t (record { lip = []; lsp = map f l.lsp; lis = []; moved = []; side = s })) (pass_renamed f F G R k l)
      ∙ listing_renamed f C (pass G k l) (record { lip = []; lsp = l.lsp; lis = []; moved = []; side = s })

  -- The coder's side, renamed, is the coder's of the renamed magnitudes.
  pub truth_renamed : (mag : ℕ → ℕ) (neg : ℕ → Bool) (n : ℕ) (q : Question)
      → truth F mag neg n (name_question f q) ≡ truth G (λ t. mag (f t)) (λ t. neg (f t)) n q
  unfolding truth name_question
  truth_renamed mag neg n (significant? p) = refl
  truth_renamed mag neg n (negative? p) = refl
  truth_renamed mag neg n (bit? p) = refl
  truth_renamed mag neg n (set? e) =
      ap (λ ps. leb (2 ^ n) (greatest mag ps)) (members_renamed f F G R e)
      ∙ ap (leb (2 ^ n)) (map_greatest f mag (λ t. mag (f t)) (λ t. refl) (members G e))

  pub coder_renamed : (mag : ℕ → ℕ) (neg : ℕ → Bool) (n : ℕ)
      → name_side f (coder F mag neg n) ≡ coder G (λ t. mag (f t)) (λ t. neg (f t)) n
  coder_renamed mag neg n =
      λ i. record {
        reply = λ q bits. record { bit = truth_renamed mag neg n q i; next = bits ++ (truth_renamed mag neg n q i ∷ []) };
        note = λ e bits. bits;
      }

  pub coded_renamed : (mag : ℕ → ℕ) (neg : ℕ → Bool) (p : PartName) (s : State)
      → coded F mag neg p (name_state f s) ≡ name_course f (coded G (λ t. mag (f t)) (λ t. neg (f t)) p s)
  unfolding coded
  coded_renamed mag neg p s =
      passed_renamed p.level (coder F mag neg p.plane) (s p.level) []
      ∙ ap (λ C. name_course f (passed G p.level C (s p.level) [])) (coder_renamed mag neg p.plane)

  pub after_renamed : {S : Type 0} (k : ℕ) (c : Course S) (s : State) → after k (name_course f c) (name_state f s) ≡ name_state f (after k c s)
  unfolding after
  after_renamed k c s = λ i j. one j (eqb j k) (eqb (suc j) k) i
    where
      one : (j : ℕ) (a b : Bool)
          → cond a (own (name_course f c)) (cond b (handed (name_course f c) (name_lists f (s j))) (name_lists f (s j)))
          ≡ name_lists f (cond a (own c) (cond b (handed c (s j)) (s j)))
      one j true b = refl
      one j false true = rw (map-append (name_entry f) (s j).lis c.moved)
      one j false false = refl

  -- All parts, from any lists.
  pub coded_parts_renamed : (mag : ℕ → ℕ) (neg : ℕ → Bool) (ps : List PartName) (s : State)
      → coded_parts F mag neg ps (name_state f s) ≡ coded_parts G (λ t. mag (f t)) (λ t. neg (f t)) ps s
  unfolding coded_parts
  coded_parts_renamed mag neg [] s = refl
  coded_parts_renamed mag neg (p ∷ ps) s =
      let c : Course (List Bool) = coded G (λ t. mag (f t)) (λ t. neg (f t)) p s in
      ap (λ d. record { name = p; bits = d.side } ∷ coded_parts F mag neg ps (after p.level d (name_state f s))) (coded_renamed mag neg p s)
      ∙ ap (λ x. record { name = p; bits = c.side } ∷ coded_parts F mag neg ps x) (after_renamed p.level c s)
      ∙ ap (λ l. record { name = p; bits = c.side } ∷ l) (coded_parts_renamed mag neg ps (after p.level c s))
