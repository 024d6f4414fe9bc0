-- The leaves that branch on the side: a word read, the coder's answers, and a word drawn or not.
use mathlib.Core.Path.{◌≡◌, refl, sym, ap, ◌∙◌, subst}
use mathlib.Core.Bool.{Bool, cond, true, false}
use mathlib.Core.List.{List}
use Prim.Native.Nat.{ℕ, ◌+◌, ◌-◌, ◌*◌, ◌/◌, ◌%◌, ◌≤◌, ◌<◌, ◌^◌}
use native.Mathlib.Omega.{arith}
use lib.Dec.{ltb, eqb}
use lib.ListN.{length, get_or, set}
use borrow.Author.Tests.{le-leb, lt-leb}
use native.Mathlib.Nat.{add-zero}
use native.Mathlib.Decide.{dec_le}
use lib.Seq.{set-get_or}
use Rattle.bits.specs.declared.BitPosition.{BitPosition}
use Rattle.rules.specs.Document.Pyramid.{planes_of, most_planes}
use Rattle.rules.specs.Document.Passes.{Entry, significant?, negative?, bit?, set?, Event, to_lsp, refined}
use Rattle.trees.proofs.Measure.{planes_tell}
use Rattle.coefficients.specs.Words.{word_of}
use Rattle.stretches.specs.Cut.{lip_from, values_in, maxima_in, ValueSet, ButAt, SetOr, values_at}
use Rattle.lists.specs.declared.Set.{Set}
use Rattle.lists.specs.declared.Set.TheVariants.{TypeA, TypeB}
use Rattle.lists.specs.declared.Fill.{Fill}
use Rattle.lists.specs.declared.Stretch.{Stretch}
use Rattle.lists.specs.Lists.{Inside, Marked, coefficient, mark_of, entry_of, Fits}
use Rattle.lists.specs.Besides.{spared_none, spared_at}
use Rattle.lists.specs.declared.Role.TheVariants.{Codes, Reads}
use Rattle.testing.specs.declared.Run.{Run}
use Rattle.testing.specs.Exchange.{Tells, local_word, word_at, largest_at, words_tell, answer, drawn, noted, Noted, reading, reads, reads_codes}
use Rattle.testing.specs.declared.Told.{Told}
use Rattle.testing.specs.Telling.{ReadFound, SaidFound, AnsweredBy, NotedBy, told_read, told_said}
use Rattle.testing.specs.Growing.{word_local}

pub word_inside : (first : ℕ) (vs : List ℕ) (x : ℕ) {r : ℕ} → first ≤ x → r ≡ get_or vs (x - first) 0 → r ≡ local_word first vs x
unfolding local_word
word_inside first vs x l e = e ∙ rw (le-leb first x l)

-- a set's maximum
module _ (run : Run) (s : List ℕ) {e : Set} {x : ℕ} where
  pub largest_outside_a : e ≡ TypeA x → x < run.parents → 0 ≡ largest_at run s (entry_of e)
  unfolding largest_at
  largest_outside_a i l = rw (i, lt-leb run.parents x l)

  pub largest_outside_b : e ≡ TypeB x → x < run.elders → 0 ≡ largest_at run s (entry_of e)
  unfolding largest_at
  largest_outside_b i l = rw (i, lt-leb run.elders x l)

  pub largest_a : {m : ℕ} → e ≡ TypeA x → run.parents ≤ x → m ≡ get_or (maxima_in run.stretch.n s) (x - run.parents) 0
      → m % 32 ≡ largest_at run s (entry_of e)
  unfolding largest_at
  largest_a i l h = rw (h, i, le-leb run.parents x l)

  pub largest_b : {m : ℕ} → e ≡ TypeB x → run.elders ≤ x → m ≡ get_or (maxima_in run.stretch.n s) (4 * (x - run.elders)) 0
      → m / 32 ≡ largest_at run s (entry_of e)
  unfolding largest_at
  largest_b i l h = rw (h, i, le-leb run.elders x l)

-- the coder's answers
module _ (run : Run) (s : List ℕ) where
  -- by the mark of an entry
  module _ (e : ℕ) (r : run.stretch.role ≡ Codes) (T : Tells run s e) where
    abbrev w : ℕ
    w = word_at run s (coefficient e)

    marked_parts : (e / 2 % 32 ≡ planes_of (w / 2)) × (e % 2 ≡ w % 2)
    unfolding mark_of
    marked_parts = let m : e % 64 ≡ 2 * planes_of (w / 2) + w % 2 = T (ap reading r) in (omega arith, omega arith)

    says_significant : run.plane.0 < most_planes → ltb run.plane.0 (e / 2 % 32) ≡ answer run s (significant? (coefficient e))
    unfolding answer words_tell
    says_significant h = ap (ltb run.plane.0) marked_parts.0 ∙ planes_tell run.plane.0 (w / 2) (omega arith)

    says_negative : eqb (e % 2) 1 ≡ answer run s (negative? (coefficient e))
    unfolding answer words_tell
    says_negative = ap (λ (x : ℕ). eqb x 1) marked_parts.1

  pub says_bit : {m : ℕ} (x : ℕ) → m ≡ word_at run s x → eqb (m / 2 / 2 ^ run.plane.0 % 2) 1 ≡ answer run s (bit? x)
  unfolding answer words_tell
  says_bit x e = rw e

  pub says_set : {m : ℕ} (e : Entry) → m ≡ largest_at run s e → ltb (run.plane.0 + 1) m ≡ answer run s (set? e)
  unfolding answer words_tell
  says_set e i = rw i

module _ (run : Run) (body : List ℕ) (e : ℕ) (out : List ℕ) (at : BitPosition) {r : Told} where
  pub answered_read : run.stretch.role ≡ Reads → ReadFound body at r → AnsweredBy run body e out at r out
  answered_read h R = record { answered = λ s T. told_read run s body out at (coefficient e) r h R }

  pub answered_said : {out' : List ℕ} → run.stretch.role ≡ Codes → run.plane.0 < most_planes
      → SaidFound (ltb run.plane.0 (e / 2 % 32)) (eqb (e % 2) 1) out at r out' → AnsweredBy run body e out at r out'
  answered_said h l S =
      record { answered = λ s T. told_said run s body out at (coefficient e) r h (says_significant run s e h T l) (says_negative run s e h T) S }

-- what is noted: by the coder nothing, by the decoder a word of the level, while bits are there
module _ (run : Run) (at : ℕ) (s : List ℕ) where
  unchanged : (e : Event) → values_in run.stretch.n s ≡ noted run at e (values_in run.stretch.n s) → Noted run at e s s
  unchanged e h = record { long = refl; values = h; others = λ i l. refl }

  pub noted_coder : (e : Event) → run.stretch.role ≡ Codes → Noted run at e s s
  unfolding noted
  noted_coder e h = unchanged e (rw h)

  pub noted_past : (e : Event) → run.stretch.role ≡ Reads → run.until.at < at → Noted run at e s s
  unfolding noted
  noted_past e r l = unchanged e (rw (r, lt-leb at run.until.at l))

  module _ (x : ℕ) (b : Bool) (r : run.stretch.role ≡ Reads) (there : at ≤ run.until.at) where
    module _ {w : ℕ} {s' : List ℕ} (l : run.stretch.first ≤ x) (drew : ValueSet run.stretch.n s (x - run.stretch.first) w s') where
      found_drawn : w ≡ word_of b (2 ^ run.plane.0) → Noted run at (to_lsp x b) s s'
      unfolding noted drawn
      found_drawn e =
          record {
            long = drew.long;
            values =
                drew.values ∙ ap (λ (y : ℕ). set (values_in run.stretch.n s) (x - run.stretch.first) y) e
                ∙ rw (r, le-leb at run.until.at there, le-leb run.stretch.first x l);
            others = drew.others;
          }

      refined_there : {old : ℕ} → old ≡ get_or (values_in run.stretch.n s) (x - run.stretch.first) 0 → w ≡ old + cond b (2 * 2 ^ run.plane.0) 0
          → Noted run at (refined x b) s s'
      unfolding noted drawn
      refined_there o e =
          record {
            long = drew.long;
            values =
                drew.values ∙ ap (λ (y : ℕ). set (values_in run.stretch.n s) (x - run.stretch.first) y) e
                ∙ rw (r, o, le-leb at run.until.at there, le-leb run.stretch.first x l);
            others = drew.others;
          }

-- a refinement, whether its bit is there or not: one that isn't is 0, and adds nothing
module _ (run : Run) (at : ℕ) (s : List ℕ) (x : ℕ) (b : Bool) (r : run.stretch.role ≡ Reads) where
  module _ {w old : ℕ} {s' : List ℕ} (l : run.stretch.first ≤ x) (drew : ValueSet run.stretch.n s (x - run.stretch.first) w s')
      (o : old ≡ get_or (values_in run.stretch.n s) (x - run.stretch.first) 0) (e : w ≡ old + cond b (2 * 2 ^ run.plane.0) 0) where
    unfolded : b ≡ false → w ≡ get_or (values_in run.stretch.n s) (x - run.stretch.first) 0
    unfolded h = e ∙ ap (λ (d : Bool). old + cond d (2 * 2 ^ run.plane.0) 0) h ∙ add-zero old ∙ o

    pub refined_drawn : (reads run ≡ true → run.until.at < at → b ≡ false) → Noted run at (refined x b) s s'
    refined_drawn silent = by (dec_le at run.until.at)
      where
        by : Dec (at ≤ run.until.at) → Noted run at (refined x b) s s'
        by (yes there) = refined_there run at s x b r there l drew o e
        by (no past) =
            let vs = values_in run.stretch.n s in
            let place = x - run.stretch.first in
            let same = drew.values ∙ ap (set vs place) (unfolded (silent (ap reading r) (omega arith))) ∙ set-get_or vs place 0 in
            record { long = drew.long; values = same ∙ (noted_past run at s (refined x b) r (omega arith)).values; others = drew.others }

-- what is noted of a coefficient, found or not
module _ (run : Run) (at : ℕ) (f : Fill) (s : List ℕ) (x : ℕ) (bit negative : Bool) (g : Fits run.stretch s f) where
  pub tested_coder : run.stretch.role ≡ Codes → NotedBy bit run at x negative f s s
  tested_coder h = record { found = λ e. noted_coder run at s (to_lsp x negative) h; missed = λ e. spared_none run.stretch s f g }

  pub tested_past : run.stretch.role ≡ Reads → run.until.at < at → NotedBy bit run at x negative f s s
  tested_past h l = record { found = λ e. noted_past run at s (to_lsp x negative) h l; missed = λ e. spared_none run.stretch s f g }

  pub tested_drawn : {w spare : ℕ} {s' : List ℕ} → run.stretch.role ≡ Reads → at ≤ run.until.at → run.stretch.first ≤ x → f.lip < run.stretch.n
      → w ≡ word_of negative (2 ^ run.plane.0) → spare ≡ lip_from run.stretch.n + f.lip
      → SetOr bit run.stretch.n s (x - run.stretch.first) w spare s' → NotedBy bit run at x negative f s s'
  tested_drawn {s' = s'} h there l room e p drew =
      record {
        found = λ d. found_drawn run at s x negative h there l (drew.written d) e;
        missed = λ d. spared_at g room (subst (λ (i : ℕ). ButAt i s s') p (drew.spared d));
      }

pub spare_inside : {t : Stretch} {s : List ℕ} {f : Fill} {spare : ℕ} → Fits t s f → f.lip < t.n → spare ≡ lip_from t.n + f.lip → spare < length s
unfolding lip_from
spare_inside g room e = omega (arith, g.room)

pub word_small : (run : Run) (vs : List ℕ) (x : ℕ) {old : ℕ} → run.stretch.role ≡ Reads → run.stretch.first ≤ x → old ≡ get_or vs (x - run.stretch.first) 0
    → (reads run ≡ true → local_word run.stretch.first vs x < 2 ^ 30) → old < 2 ^ 31
word_small run vs x r l e h = omega (arith, word_local run.stretch.first vs x l, h (ap reading r))

-- the mark of an entry of the level is that of its word
pub marked_tells : (run : Run) (s : List ℕ) (e : ℕ) → Inside run.stretch (coefficient e) → Marked run.stretch s e → Tells run s e
marked_tells run s e i m r =
    let n = run.stretch.n in
    let first = run.stretch.first in
    let x = coefficient e in
    m.mark (reads_codes run.stretch.role r)
    ∙ ap mark_of (sym (word_local first (values_in n s) x i.0 ∙ values_at n s (x - first) (omega (arith, i.0, i.1))))
