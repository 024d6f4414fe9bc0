-- Step 2: sets put at the end of LIS, and what the visit of a set makes of lists and side.
use mathlib.Core.Path.{◌≡◌, refl, sym, ap, ap₂, ◌∙◌, subst}
use mathlib.Core.Bool.{Bool, true, false, cond}
use mathlib.Core.List.{List, [], ◌∷◌, ◌++◌, map, map-append, append_assoc, append-nil}
use Prim.Native.Nat.{ℕ, suc, ◌+◌, ◌*◌, ◌≤◌, ◌<◌, ◌^◌}
use native.Mathlib.Nat.{add-zero}
use native.Mathlib.Numerals.{add-one}
use native.Mathlib.Omega.{arith}
use native.Mathlib.Decide.{dec_lt}
use lib.Dec.{leb, ltb}
use lib.ListN.{length, length-append, length-map}
use borrow.Author.Tests.{le-ltb, le-leb, lt-leb}
use Rattle.rules.specs.Document.Pyramid.{Family}
use Rattle.rules.specs.Document.Passes.{Entry, typeA, typeB, set?, stays, opened, added, Side, Course, listed, listing, done, from}
use Rattle.rules.specs.Laws.Counting.Sums.{All}
use Rattle.rules.proofs.Laws.Counting.Sums.{all_then, from_add, from_length}
use Rattle.rules.specs.Laws.Family.Lawful.{Lawful}
use Rattle.rules.specs.Laws.Family.Sizes.{level_start, level_size}
use Rattle.rules.proofs.Laws.Family.Sizes.{legal}
use Rattle.rules.specs.Promises.Vocabulary.{Legal}
use Rattle.rules.specs.Laws.Pass.Levels.{Met, node_of}
use Rattle.rules.proofs.Laws.Pass.Levels.{type_a_met, opened_placed}
use Rattle.rules.specs.Laws.Pass.Steps.{tried_all, visited_all}
use Rattle.rules.proofs.Laws.Pass.Steps.{walk_stays, walk_opens}
use Rattle.rules.specs.Laws.Pass.Slots.{Room}
use Rattle.rules.proofs.Laws.Pass.Slots.{room_past, room_open, room_tests, room_slots, room_held}
use Rattle.trees.specs.Family.{tree_level, tree_offspring}
use Rattle.trees.proofs.Lawful.{trees_lawful}
use Rattle.trees.proofs.Sound.{tree_level_most, tree_level_area}
use Rattle.bits.specs.declared.BitRead.{BitRead}
use Rattle.stretches.specs.Cut.{set_room, values_in}
use Rattle.stretches.specs.Levels.{numbered}
use Rattle.lists.specs.declared.Stretch.{Stretch}
use Rattle.lists.specs.declared.Fill.{Fill}
use Rattle.lists.specs.declared.Set.{Set}
use Rattle.lists.specs.declared.Set.TheVariants.{TypeA, TypeB}
use Rattle.lists.specs.Lists.{Inside, entry_of, four_from, waiting, held, Fits, LinedUp, SetAdded, SetKept, sets_fit, todo_length, all_waiting}
use Rattle.lists.specs.Besides.{beside_none, beside_then, beside_values}
use Rattle.testing.specs.declared.Run.{Run}
use Rattle.testing.specs.declared.Stand.{Stand}
use Rattle.testing.specs.Exchange.{Chan, chan, family_of, side, Replied, Around, notes, quiet_stays, around_then, around_beside, side_same}
use Rattle.testing.specs.Finding.{course_of, course, Testing, Tested, tested_none}
use Rattle.passes.specs.Steps.{visits_of, Proper, Added, Opened, Opening, has_member, Queued, InHand, Weighed}
use Rattle.passes.proofs.Trees.{met_four_a, met_four_b, met_added_more, met_added_less, met_b_finer, met_level_b, met_bound}

-- Sets at the end of LIS: none, one, and more.
added_none : (t : Stretch) (s : List ℕ) (f : Fill) → Fits t s f → Added [] t s f s f
added_none t s f h =
    record {
      fill = ap (λ (x : ℕ). record { lip = f.lip; lsp = f.lsp; kept = f.kept; visited = f.visited; left = x; moved = f.moved }) (sym (add-zero f.left));
      holds =
          ap (λ x. record { lip = (held t s f).lip; lsp = (held t s f).lsp; kept = (held t s f).kept; todo = x; moved = (held t s f).moved })
          (sym (append-nil (held t s f).todo));
      fits = h;
      beside = beside_none t f.moved s;
      known = λ m a. refl;
    }

added_one : {t : Stretch} {s : List ℕ} {f : Fill} {e : Entry} {s' : List ℕ} {r : Fill} → SetAdded t s f e s' r → Added (e ∷ []) t s f s' r
added_one a = record { fill = a.fill; holds = a.holds; fits = a.fits; beside = a.beside; known = a.known }

added_on : {es fs : List Entry} {t : Stretch} {s s₁ s₂ : List ℕ} {f f₁ f₂ : Fill} → Added es t s f s₁ f₁ → Added fs t s₁ f₁ s₂ f₂
    → Added (es ++ fs) t s f s₂ f₂
added_on {es} {fs} {t} {s} {s₁} {f = f} {f₁ = f₁} a b =
    record {
      fill =
          b.fill
          ∙ ap (λ g. record { lip = g.lip; lsp = g.lsp; kept = g.kept; visited = g.visited; left = g.left + length fs; moved = g.moved }) a.fill
          ∙ ap (λ (x : ℕ). record { lip = f.lip; lsp = f.lsp; kept = f.kept; visited = f.visited; left = x; moved = f.moved })
          (omega (arith, length-append es fs));
      holds =
          b.holds
          ∙ ap (λ h. record { lip = h.lip; lsp = h.lsp; kept = h.kept; todo = h.todo ++ fs; moved = h.moved }) a.holds
          ∙ ap (λ x. record { lip = (held t s f).lip; lsp = (held t s f).lsp; kept = (held t s f).kept; todo = x; moved = (held t s f).moved })
          (append_assoc (held t s f).todo es fs);
      fits = b.fits;
      beside = beside_then a.beside b.beside (omega (arith, ap (λ g. g.moved) b.fill));
      known = λ m h. b.known m (omega (arith, ap (λ g. g.lsp) a.fill)) ∙ a.known m h;
    }

-- the first i of a block
pub block_none : (x : ℕ) {t : Stretch} {s : List ℕ} {f : Fill} → Fits t s f → Added (map typeA (from x 0)) t s f s f
unfolding from
block_none x {t} {s} {f} h = added_none t s f h

module _ (x i : ℕ) {t : Stretch} {s s₁ : List ℕ} {f f₁ : Fill} (A : Added (map typeA (from x i)) t s f s₁ f₁) where
  pub block_room : (y : ℕ) → i < 4 → f.visited + f.left + 4 ≤ y → f₁.visited + f₁.left < y
  block_room y l h =
      omega (arith, ap (λ g. g.visited) A.fill, ap (λ g. g.left) A.fill, length-map (from x i) typeA, from_length x i)

  pub block_next : {s₂ : List ℕ} {f₂ : Fill} → SetAdded t s₁ f₁ (typeA (x + i)) s₂ f₂ → Added (map typeA (from x (i + 1))) t s f s₂ f₂
  unfolding from
  block_next {s₂} {f₂} a =
      let more : map typeA (from x (i + 1)) ≡ map typeA (from x i) ++ (typeA (x + i) ∷ []) =
      ap (map typeA) (from_add x i 1) ∙ map-append typeA (from x i) (from (x + i) 1) in
      subst (λ es. Added es t s f s₂ f₂) (sym more) (added_on A (added_one a))

  pub block_whole : i ≡ 4 → Added (map typeA (four_from x)) t s f s₁ f₁
  unfolding from
  block_whole e =
      let a : suc x ≡ x + 1 = omega arith in
      let b : suc (suc x) ≡ x + 2 = omega arith in
      let c : suc (suc (suc x)) ≡ x + 3 = omega arith in
      let four : from x 4 ≡ four_from x =
      ap₂ (λ (y z : ℕ). x ∷ y ∷ z ∷ suc (suc (suc x)) ∷ []) a b ∙ ap (λ (y : ℕ). x ∷ (x + 1) ∷ (x + 2) ∷ y ∷ []) c in
      subst (λ xs. Added (map typeA xs) t s f s₁ f₁) (ap (from x) e ∙ four) A

-- What is left of the visits makes the same, whatever has become of the lists: the side is the same.
pub visits_side : {run : Run} {m : ℕ} {s s' : List ℕ} (body : List ℕ) (es : List Entry) (c : Course Chan) → Around run m s s'
    → 4 * run.stretch.n ≤ run.stretch.away → visits_of run body s' es c ≡ visits_of run body s es c
visits_side {run} body es c a h = ap (λ S. visited_all (family_of run) run.level.0 (listing S) es c) (side_same a h body)

-- A set is opened: coefficients are tested, then sets are added.
opened_by : {run : Run} {body : List ℕ} {e : Entry} (ps : List ℕ) (es : List Entry) {s out s₁ out₁ s₂ : List ℕ} {w w₁ : Stand} {f : Fill}
    → opened (family_of run) e ≡ ps → added (family_of run) e ≡ es → Tested run body ps s out w s₁ out₁ w₁ → Added es run.stretch s₁ w₁.fill s₂ f
    → Opened run body e s out w s₂ out₁ (record { fill = f; at = w₁.at })
opened_by {run} {body} {e} ps es {s} {out} {out₁ = out₁} {s₂ = s₂} {w = w} {w₁ = w₁} {f = f} eo ea T A =
    let lo : length (opened (family_of run) e) ≡ length ps = ap length eo in
    let la : length (added (family_of run) e) ≡ length es = ap length ea in
    let m : f.moved ≡ w.fill.moved = ap (λ g. g.moved) A.fill ∙ T.moved in
    record {
      makes =
          ap₂ (λ h v. course_of h (chan out₁ v w₁.at.at)) A.holds (beside_values A.beside) ∙ T.makes
          ∙ ap (λ qs. tried_all (listing (side run s body)) qs (course run.stretch s out w)) (sym eo);
      todo = ap (λ h. h.todo) A.holds ∙ ap₂ ◌++◌ T.todo (sym ea);
      fits = A.fits;
      around = subst (λ (x : ℕ). Around run x s s₂) m (around_then T.around (around_beside A.beside) (omega arith));
      known = λ i h. A.known i (omega (arith, T.lsp)) ∙ T.known i h;
      visited = ap (λ g. g.visited) A.fill ∙ T.visited;
      left = omega (arith, ap (λ g. g.left) A.fill, T.left);
      kept = ap (λ g. g.kept) A.fill ∙ T.kept;
      moved = m;
      both = omega (arith, ap (λ g. g.lip) A.fill, ap (λ g. g.lsp) A.fill, T.both);
      lsp = omega (arith, ap (λ g. g.lsp) A.fill, T.lsp);
      place = omega (arith, T.place);
    }

-- Tests of coefficients that were lined up behind LIP are tests of them in the stretch as it was.
tested_lined : {run : Run} {body : List ℕ} (ps : List ℕ) {s out s₁ s₂ out₂ : List ℕ} {w w₂ : Stand} → LinedUp ps run.stretch s w.fill s₁
    → 4 * run.stretch.n ≤ run.stretch.away
    → Tested run body (waiting run.stretch.n w.fill.lip (length ps) s₁) s₁ out w s₂ out₂ w₂ → Tested run body ps s out w s₂ out₂ w₂
tested_lined {run} {body} ps {s} {out} {s₁} {s₂} {out₂} {w} {w₂} L far T₀ =
    let T : Tested run body ps s₁ out w s₂ out₂ w₂ = subst (λ qs. Tested run body qs s₁ out w s₂ out₂ w₂) L.waits T₀ in
    record {
      makes =
          T.makes
          ∙ ap₂ (λ S c. tried_all (listing S) ps c) (side_same (around_beside L.beside) far body)
          (ap₂ (λ h v. course_of h (chan out v w.at.at)) L.holds (beside_values L.beside));
      todo = T.todo ∙ ap (λ h. h.todo) L.holds;
      fits = T.fits;
      around = around_then (around_beside L.beside) T.around (omega arith);
      ahead = λ i g h. T.ahead i g h ∙ L.ahead i g h;
      known = λ m g. T.known m g ∙ L.known m g;
      visited = T.visited;
      left = T.left;
      kept = T.kept;
      moved = T.moved;
      both = T.both;
      lip = T.lip;
      lsp = T.lsp;
      place = T.place;
    }

-- the coefficients of the level, by their tree numbers
pub inside_level : {run : Run} → Proper run → (x : ℕ) → tree_level run.z x ≡ run.level.0 → Inside run.stretch x
inside_level {run} P x e =
    let Z = legal run.z P.legal in
    let N = numbered run.z Z x (tree_level_area run.z Z x (omega (arith, P.coarser))) in
    let start = ap (level_start run.z) e in
    let size = ap (level_size run.z) e in
    (omega (arith, N.from, P.first), omega (arith, N.from, N.under, P.first, P.count))

-- A set to open: what is asked for by the tests and by the sets put behind LIS, and what comes of it.
module _ {run : Run} {e : Entry} {s : List ℕ} {w : Stand} (O : Opening run e s w) where
  legal_size_lem : Legal run.z
  legal_size_lem = legal run.z O.proper.legal

  tests_fit : w.fill.lip + w.fill.lsp + length (opened (family_of run) e) ≤ run.stretch.n
  tests_fit = omega (arith, O.room.coefficients)

  sets_room : w.fill.visited + w.fill.left + length (added (family_of run) e) ≤ set_room run.stretch.n
  sets_room =
      sets_fit run.stretch.n _
      (omega (
        arith,
        room_slots (trees_lawful run.z legal_size_lem) O.room,
        length-append (held run.stretch s w.fill).todo (added (family_of run) e),
        todo_length run.stretch s w.fill O.fits,
      ))

module _ {run : Run} {x : ℕ} {s : List ℕ} {w : Stand} (O : Opening run (typeA x) s w) where
  four_a : opened (family_of run) (typeA x) ≡ four_from (4 * x)
  unfolding opened
  four_a = met_four_a run.z (legal_size_lem O) run.level.0 O.proper.coarser x O.met

  small_a : 4 * x + 4 < 2 ^ 26
  unfolding node_of
  small_a = met_bound run.z O.proper.legal (typeA x) O.met

  pub scaled_a : 4 * x < 2 ^ 64
  scaled_a = omega (arith, small_a)

  pub index_a : x < 2 ^ 31
  index_a = omega (arith, small_a)

  inside_a : All (Inside run.stretch) (four_from (4 * x))
  inside_a =
      all_then _ _ (four_from (4 * x)) (inside_level O.proper)
      (subst (All (λ p. tree_level run.z p ≡ run.level.0)) four_a
      (opened_placed (trees_lawful run.z (legal_size_lem O)) run.level.0 (typeA x) O.met))

  pub room_a : w.fill.lip + 4 ≤ run.stretch.n
  room_a = let n = ap length four_a in omega (arith, tests_fit O)

  pub lining_a : Fits run.stretch s w.fill × (run.stretch.n < 2 ^ 32) × (w.fill.lip + 4 ≤ run.stretch.n)
      × (run.stretch.first ≤ 4 * x) × (4 * x + 4 ≤ run.stretch.first + run.stretch.n) × (4 * x + 4 < 2 ^ 26)
  unfolding All
  lining_a = (O.fits, O.proper.size, room_a, inside_a.0.0, omega (arith, inside_a.1.1.1.0.1), small_a)

  module _ {s₁ : List ℕ} (U : LinedUp (four_from (4 * x)) run.stretch s w.fill s₁) where
    pub testing_a : Testing run 4 s₁ w
    testing_a =
        let n = ap length four_a in
        record {
          plane = O.proper.plane;
          size = O.proper.size;
          fits = U.fits;
          room = omega (arith, tests_fit O);
          place = omega (arith, O.place);
          inside =
              all_waiting (Inside run.stretch) run.stretch.n w.fill.lip 4 s₁ U.fits.room room_a
              (subst (All (Inside run.stretch)) (sym U.waits) inside_a);
        }

    pub tested_a : {body out s₂ out₂ : List ℕ} {w₂ : Stand} → Tested run body (waiting run.stretch.n w.fill.lip 4 s₁) s₁ out w s₂ out₂ w₂
        → Tested run body (four_from (4 * x)) s out w s₂ out₂ w₂
    tested_a T = tested_lined (four_from (4 * x)) U O.fits.behind T

  module _ {body out s₁ out₁ : List ℕ} {w₁ : Stand} (T : Tested run body (four_from (4 * x)) s out w s₁ out₁ w₁) where
    module _ (h : 1 < run.level.0) where
      as_b : added (family_of run) (typeA x) ≡ typeB x ∷ []
      as_b = met_added_more run.z (legal_size_lem O) run.level.0 O.proper.coarser x O.met h

      pub set_room_a : w₁.fill.visited + w₁.fill.left < set_room run.stretch.n
      set_room_a = let n = ap length as_b in omega (arith, T.visited, T.left, sets_room O)

      pub opened_a_more : {s₂ : List ℕ} {f : Fill} → SetAdded run.stretch s₁ w₁.fill (typeB x) s₂ f
          → Opened run body (typeA x) s out w s₂ out₁ (record { fill = f; at = w₁.at })
      opened_a_more A = opened_by {e = typeA x} _ (typeB x ∷ []) four_a as_b T (added_one A)

    pub opened_a_less : run.level.0 ≤ 1 → Opened run body (typeA x) s out w s₁ out₁ w₁
    opened_a_less h =
        opened_by {e = typeA x} _ [] four_a (met_added_less run.z (legal_size_lem O) run.level.0 O.proper.coarser x O.met h) T
        (added_none run.stretch s₁ w₁.fill T.fits)

module _ {run : Run} {x : ℕ} {s : List ℕ} {w : Stand} (O : Opening run (typeB x) s w) where
  four_b : four_from (4 * x) ≡ (family_of run).offspring x
  four_b = sym (met_four_b run.z (legal_size_lem O) run.level.0 O.proper.coarser x O.met)

  adds_b : length (added (family_of run) (typeB x)) ≡ 4
  unfolding added
  adds_b = ap (λ qs. length (map typeA qs)) (sym four_b)

  small_b : 4 * x + 4 < 2 ^ 26
  unfolding node_of
  small_b = met_bound run.z O.proper.legal (typeB x) O.met

  pub scaled_b : 4 * x < 2 ^ 64
  scaled_b = omega (arith, small_b)

  pub adding_b : Fits run.stretch s w.fill × (run.stretch.n < 2 ^ 32) × (w.fill.visited + w.fill.left + 4 ≤ set_room run.stretch.n)
      × (4 * x + 4 < 2 ^ 31)
  adding_b = let n = adds_b in (O.fits, O.proper.size, omega (arith, sets_room O), omega (arith, small_b))

  pub added_b : {s' : List ℕ} {r : Fill} → Added (map typeA (four_from (4 * x))) run.stretch s w.fill s' r
      → Added (map typeA ((family_of run).offspring x)) run.stretch s w.fill s' r
  added_b {s'} {r} A = subst (λ xs. Added (map typeA xs) run.stretch s w.fill s' r) four_b A

  opened_b : {body out s' : List ℕ} {r : Stand}
      → Added (map typeA ((family_of run).offspring x)) run.stretch s w.fill s' r.fill × (r.at ≡ w.at)
      → Opened run body (typeB x) s out w s' out r
  unfolding opened added
  opened_b {body} {out} {s'} {r} A =
      subst (λ a. Opened run body (typeB x) s out w s' out (record { fill = r.fill; at = a })) (sym A.1)
      (opened_by {e = typeB x} [] (map typeA ((family_of run).offspring x)) refl refl (tested_none run body s out w O.fits) A.0)

-- a set by its type
module _ {run : Run} {e : Set} {x : ℕ} {s : List ℕ} {w : Stand} (O : Opening run (entry_of e) s w) where
  pub opening_b : e ≡ TypeB x → Opening run (typeB x) s w
  opening_b i = subst (λ y. Opening run (entry_of y) s w) i O

  pub opened_as_b : {body out s' : List ℕ} {r : Stand} → e ≡ TypeB x
      → Added (map typeA ((family_of run).offspring x)) run.stretch s w.fill s' r.fill → r.at ≡ w.at
      → Opened run body (entry_of e) s out w s' out r
  opened_as_b {body} {out} {s'} {r} i A j =
      subst (λ y. Opened run body (entry_of y) s out w s' out r) (sym i) (opened_b (opening_b i) (A, j))

module _ (run : Run) (P : Proper run) where
  abbrev F : Family
  F = family_of run

  abbrev k : ℕ
  k = run.level.0

  Z : Legal run.z
  Z = legal run.z P.legal

  L : Lawful F
  L = trees_lawful run.z Z

  -- Which sets of the queue have a member in the level.
  queue_append : (v : ℕ) (es fs : List Entry) → Queued run v es → Queued run (v + length es) fs → Queued run v (es ++ fs)
  unfolding Queued
  queue_append v [] fs a b = subst (λ (x : ℕ). Queued run x fs) (add-zero v) b
  queue_append v (e ∷ es) fs a b =
      let i : v + length (e ∷ es) ≡ suc v + length es = omega arith in
      (a.0, queue_append (suc v) es fs a.1 (subst (λ (x : ℕ). Queued run x fs) i b))

  queue_met : (v : ℕ) (ps : List ℕ) → k ≤ run.z.n → All (λ p. Met F k (typeA p)) ps → Queued run v (map typeA ps)
  unfolding Queued All has_member
  queue_met v [] h a = tt
  queue_met v (p ∷ ps) h a = (a.0.there ∙ sym (le-leb k run.z.n h), queue_met (suc v) ps h a.1)

  either_false : (b c : Bool) → c ≡ false → false ≡ cond b c false
  either_false true c e = sym e
  either_false false c e = refl

  queue_added : (v : ℕ) (e : Entry) → Met F k e → run.olds ≤ v → Queued run v (added F e)
  unfolding Queued has_member
  queue_added v (typeA x) m h = by (dec_lt 1 k)
    where
      by : Dec (1 < k) → Queued run v (added F (typeA x))
      by (yes l) =
          subst (Queued run v) (sym (met_added_more run.z Z k P.coarser x m l))
          (met_b_finer run.z Z k P.coarser x m ∙ either_false (leb k run.z.n) (ltb v run.olds) (le-ltb v run.olds h), tt)
      by (no l) = subst (Queued run v) (sym (met_added_less run.z Z k P.coarser x m (omega arith))) tt
  queue_added v (typeB x) m h = unfold added in
      queue_met v (tree_offspring run.z x) (omega (arith, met_level_b run.z Z k P.coarser x m, tree_level_most run.z Z x)) (type_a_met L k x m)

  -- The set in hand has members in the level; there is room for what comes of it.
  module _ {body : List ℕ} {e : Entry} {s out : List ℕ} {w : Stand} (H : InHand run body e s out w) where
    abbrev es : List Entry
    es = (held run.stretch s w.fill).todo

    abbrev C : Side Chan
    C = side run s body

    abbrev c : Course Chan
    c = course run.stretch s out w

    abbrev vs : List ℕ
    vs = values_in run.stretch.n s

    hand_met : Met F k e
    unfolding All
    hand_met = record { up_to = H.room.settled.0.up_to; there = H.there }

    hand_room : Room F k run.stretch.n (w.fill.lip + w.fill.lsp) w.fill.visited (opened F e) (es ++ added F e)
    hand_room =
        subst (λ (v : ℕ). Room F k run.stretch.n (w.fill.lip + w.fill.lsp) v (opened F e) (es ++ added F e)) (sym H.count)
        (room_open L H.there H.room)

    hand_queue : Queued run w.fill.visited es
    hand_queue = subst (λ (v : ℕ). Queued run v es) (sym (H.count ∙ add-one H.before)) H.queue

    module _ {bit : BitRead} {out₁ : List ℕ} (R : Replied C (set? e) out w.at bit out₁) where
      pub hand_opening : Opening run e s (record { fill = w.fill; at = bit.next })
      hand_opening =
          record {
            proper = P;
            met = hand_met;
            fits = H.fits;
            room = hand_room;
            place = omega (arith, H.place, P.from, room_held hand_room, room_slots L hand_room, H.count, R.place);
          }

      -- its bit is 0
      kept_noted : C.note (stays e) (C.reply (set? e) (chan out vs w.at.at)).next ≡ chan out₁ vs bit.next.at
      kept_noted =
          ap (C.note (stays e)) (R.next vs) ∙ notes run s body (stays e) out₁ vs bit.next.at
          ∙ ap (λ x. chan out₁ x bit.next.at) (quiet_stays run bit.next.at e vs)

      kept_makes : {s' : List ℕ} {f : Fill} → bit.bit ≡ false → SetKept run.stretch s w.fill e s' f
          → visits_of run body s' (held run.stretch s' f).todo (course run.stretch s' out₁ (record { fill = f; at = bit.next }))
          ≡ visits_of run body s (e ∷ es) c
      unfolding listed
      kept_makes {s'} {f} h K =
          visits_side body _ _ (around_beside K.beside) H.fits.behind
          ∙ ap₂ (visited_all F k (listing C)) (ap (λ x. x.todo) K.holds)
          (ap₂ (λ x y. course_of x (chan out₁ y bit.next.at)) K.holds (beside_values K.beside)
          ∙ ap (course_of (record {
            lip = c.lip;
            lsp = c.lsp;
            kept = c.lis ++ (e ∷ []);
            todo = es;
            moved = c.moved;
          })) (sym kept_noted))
          ∙ sym (walk_stays L k (listing C) e es done c H.there (R.bit vs ∙ h))

      pub hand_kept : {s' : List ℕ} {f : Fill} → bit.bit ≡ false → SetKept run.stretch s w.fill e s' f
          → Weighed run body e s out w s' out₁ (record { fill = f; at = bit.next })
      hand_kept {s'} {f} h K =
          let t : (held run.stretch s' f).todo ≡ es = ap (λ x. x.todo) K.holds in
          let a : f.lip ≡ w.fill.lip = ap (λ x. x.lip) K.fill in
          let b : f.lsp ≡ w.fill.lsp = ap (λ x. x.lsp) K.fill in
          let v : f.visited ≡ w.fill.visited = ap (λ x. x.visited) K.fill in
          let m : f.moved ≡ w.fill.moved = ap (λ x. x.moved) K.fill in
          let r = subst (λ (x : ℕ). Room F k run.stretch.n (w.fill.lip + w.fill.lsp) x [] es) (sym H.count) (room_past L H.room) in
          record {
            makes = kept_makes h K;
            ready = record {
              fits = K.fits;
              away = omega (arith, H.away, ap (λ x. length x.moved) (kept_makes h K), K.beside.long);
              room = rw (t, a, b, v) r;
              queue = rw (t, v) hand_queue;
              olds = omega (arith, H.olds, ap (λ x. x.left) K.fill);
              past = omega (arith, H.past, H.count, ap (λ x. x.kept) K.fill);
              place = omega (arith, H.place, H.count, R.place);
            };
            around = around_beside K.beside;
            known = K.known;
            lsp = omega arith;
            moved = omega arith;
            visited = v;
          }

      -- its bit is 1
      module _ {s' out' : List ℕ} {r : Stand} (h : bit.bit ≡ true) (O : Opened run body e s out₁ (record { fill = w.fill; at = bit.next }) s' out' r) where
        opened_makes : visits_of run body s' (held run.stretch s' r.fill).todo (course run.stretch s' out' r) ≡ visits_of run body s (e ∷ es) c
        opened_makes =
            visits_side body _ _ O.around H.fits.behind
            ∙ ap₂ (visited_all F k (listing C)) O.todo
            (O.makes ∙ ap (λ x. tried_all (listing C) (opened F e) (course_of (held run.stretch s w.fill) x)) (sym (R.next vs)))
            ∙ sym (walk_opens L k (listing C) e es done c H.there (R.bit vs ∙ h))

        pub hand_opened : Weighed run body e s out w s' out' r
        hand_opened =
            let q = room_tests hand_room in
            record {
              makes = opened_makes;
              ready = record {
                fits = O.fits;
                away = omega (arith, H.away, ap (λ x. length x.moved) opened_makes, O.around.long);
                room = rw (O.todo, O.both, O.visited) q;
                queue =
                    rw (O.todo, O.visited)
                    (queue_append w.fill.visited es (added F e) hand_queue
                    (queue_added _ e hand_met (omega (arith, H.olds, todo_length run.stretch s w.fill H.fits))));
                olds = omega (arith, H.olds, O.visited, O.left);
                past = omega (arith, H.past, H.count, O.kept, O.moved, O.visited);
                place = omega (arith, H.place, H.count, R.place, O.place, O.both, O.visited);
              };
              around = subst (λ (m : ℕ). Around run m s s') (sym O.moved) O.around;
              known = O.known;
              lsp = O.lsp;
              moved = omega (arith, O.moved);
              visited = O.visited;
            }

-- whether a set has members in the level
pub has_none : (run : Run) (v : ℕ) (e : Set) → run.z.n < run.level.0 → leb run.level.0 run.z.n ≡ has_member run v (entry_of e)
unfolding has_member
has_none run v (TypeA x) h = refl
has_none run v (TypeB x) h = rw (lt-leb run.level.0 run.z.n h)

module _ (run : Run) (v : ℕ) {e : Set} {x : ℕ} (h : run.level.0 ≤ run.z.n) where
  pub has_a : e ≡ TypeA x → true ≡ has_member run v (entry_of e)
  unfolding has_member
  has_a i = sym (ap (λ y. has_member run v (entry_of y)) i ∙ le-leb run.level.0 run.z.n h)

  pub has_b : e ≡ TypeB x → ltb v run.olds ≡ has_member run v (entry_of e)
  unfolding has_member
  has_b i = sym (ap (λ y. has_member run v (entry_of y)) i ∙ rw (le-leb run.level.0 run.z.n h))
