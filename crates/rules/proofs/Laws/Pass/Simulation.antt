-- A walk is what its side says and tells; the decoder, on the bits that the coder spoke, tells the coder's outcomes and makes its lists.
use Rattle.std.specs.Prelude.{◌≡◌, cond, ◌↔◌, get_or, drop, ℤ}
use Rattle.std.proofs.Math.Path.{refl, ap, ap₂, sym}
use Rattle.std.proofs.Common.{◌∙◌, zero-add, length-drop, drop_of_length-le, drop-cons}
use mathlib.Core.List.{List, [], ◌∷◌, ◌++◌, append_assoc, append-nil}
use Rattle.std.proofs.Math.Bool.{Bool, true, false}
use Prim.Native.Nat.{ℕ, suc, ◌+◌, ◌≤◌, ◌<◌}
use native.Mathlib.Omega.{arith}
use Rattle.std.proofs.Math.Decide.{dec_lt}
use Rattle.std.proofs.Math.Dec.{leb}
use Rattle.std.proofs.Math.ListN.{length}
use borrow.Author.Tests.{le-leb}
use Rattle.rules.specs.Document.Notation.{flat}
use Rattle.rules.specs.Document.Pyramid.{Family}
use Rattle.rules.specs.Document.Passes.{Question, Event, to_lip, to_lsp, stays, moves, refined, Talk, done, ask, tell, Lists, pass, Side}
use Rattle.rules.specs.Document.Passes.{walk, Course, listed, with_side, listing, passed, State, after, PartName, truth, coder, coded, Reader}
use Rattle.rules.specs.Document.Passes.{written, decoder, decoded}
use Rattle.rules.proofs.Laws.Counting.Booleans.{clash}
use Rattle.rules.specs.Laws.Pass.Simulation.{said, told, spoken, outcomes, short, whole, noted, heard, lip_of, lsp_of, lis_of, moved_of, extended}
use Rattle.rules.specs.Laws.Pass.Simulation.{course, drawn, Reads, Along}

pub decoder_reads : (bit : ℕ → Bool) (there n : ℕ) → Reads (decoder bit there n) bit (λ r. r.taken)
decoder_reads bit there n = record { bit_read = λ q s. refl; one_taken = λ q s. refl; none_taken = λ e s. refl }

-- The lists of a walk are its events, each at the end of its list.
listed_side : {S : Type 0} (e : Event) (c : Course S) (s : S) → (listed e c s).side ≡ s
unfolding listed
listed_side (to_lip p) c s = refl
listed_side (to_lsp p b) c s = refl
listed_side (stays e) c s = refl
listed_side (moves e) c s = refl
listed_side (refined p b) c s = refl

extended_none : {S : Type 0} (c : Course S) → extended c [] c.side ≡ c
unfolding extended flat
extended_none c =
    λ i. record {
      lip = append-nil c.lip i;
      lsp = append-nil c.lsp i;
      lis = append-nil c.lis i;
      moved = append-nil c.moved i;
      side = c.side;
    }

extended_one : {S : Type 0} (e : Event) (es : List Event) (c : Course S) (s r : S) → extended (listed e c s) es r ≡ extended c (e ∷ es) r
unfolding extended listed flat lip_of lsp_of lis_of moved_of
extended_one (to_lip p) es c s r = rw append_assoc
extended_one (to_lsp p b) es c s r = rw append_assoc
extended_one (stays e) es c s r = rw append_assoc
extended_one (moves e) es c s r = rw append_assoc
extended_one (refined p b) es c s r = refl

pub lists_told : {S : Type 0} (C : Side S) (t : Talk) (c : Course S)
    → walk (listing C) t c ≡ extended c (told C t c.side) (walk C t c.side)
unfolding walk told
lists_told C done c = sym (extended_none c)
lists_told C (ask q go) c =
    let r = C.reply q c.side in
    lists_told C (go r.bit) (with_side c r.next) ∙ unfold extended in refl
lists_told C (tell e next) c =
    let s = C.note e c.side in
    lists_told C next (listed e c s)
    ∙ ap (λ x. extended (listed e c s) (told C next x) (walk C next x)) (listed_side e c s)
    ∙ extended_one e (told C next s) c s (walk C next s)

pub passed_told : {S : Type 0} (F : Family) (k : ℕ) (C : Side S) (l : Lists) (s : S)
    → passed F k C l s ≡ course l (told C (pass F k l) s) (walk C (pass F k l) s)
unfolding passed course extended
passed_told F k C l s = lists_told C (pass F k l) (record { lip = []; lsp = l.lsp; lis = []; moved = []; side = s })

-- A side that gives the settled answers all along says what is spoken and tells what comes out.
module _ {S : Type 0} (C : Side S) (answer : Question → Bool) (P : Talk → S → Type 0) (along : Along C answer P) where
  pub says_spoken : (t : Talk) (s : S) → P t s → said C t s ≡ spoken answer t
  unfolding said spoken
  says_spoken done s h = refl
  says_spoken (ask q go) s h =
      ap (λ b. b ∷ said C (go b) (C.reply q s).next) (along.now q go s h)
      ∙ ap (λ bits. answer q ∷ bits) (says_spoken (go (answer q)) (C.reply q s).next (along.after_reply q go s h))
  says_spoken (tell e next) s h = says_spoken next (C.note e s) (along.after_note e next s h)

  pub tells_outcomes : (t : Talk) (s : S) → P t s → told C t s ≡ outcomes answer t
  unfolding told outcomes
  tells_outcomes done s h = refl
  tells_outcomes (ask q go) s h =
      ap (λ b. told C (go b) (C.reply q s).next) (along.now q go s h)
      ∙ tells_outcomes (go (answer q)) (C.reply q s).next (along.after_reply q go s h)
  tells_outcomes (tell e next) s h = ap (λ es. e ∷ es) (tells_outcomes next (C.note e s) (along.after_note e next s h))

-- The coder: what it spoke stands at the end of its bits.
module _ (F : Family) (mag : ℕ → ℕ) (neg : ℕ → Bool) (n : ℕ) where
  pub coder_spoken : (t : Talk) (bits : List Bool) → walk (coder F mag neg n) t bits ≡ bits ++ spoken (truth F mag neg n) t
  unfolding walk spoken
  coder_spoken done bits = sym (append-nil bits)
  coder_spoken (ask q go) bits =
      let b : Bool = truth F mag neg n q in
      coder_spoken (go b) (bits ++ (b ∷ [])) ∙ append_assoc bits (b ∷ []) _
  coder_spoken (tell e next) bits = coder_spoken next bits

  pub coder_tells : (t : Talk) (bits : List Bool) → told (coder F mag neg n) t bits ≡ outcomes (truth F mag neg n) t
  coder_tells t bits =
      tells_outcomes (coder F mag neg n) (truth F mag neg n) (λ t s. Unit {0})
      (record { now = λ q go s h. refl; after_reply = λ q go s h. tt; after_note = λ e next s h. tt })
      t bits tt

  pub coder_passed : (k : ℕ) (l : Lists) (bits : List Bool)
      → passed F k (coder F mag neg n) l bits
      ≡ course l (outcomes (truth F mag neg n) (pass F k l)) (bits ++ spoken (truth F mag neg n) (pass F k l))
  coder_passed k l bits =
      passed_told F k (coder F mag neg n) l bits ∙ ap₂ (course l) (coder_tells (pass F k l) bits) (coder_spoken (pass F k l) bits)

not_short : (es : List Event) (rest : List Bool) → whole es rest ≡ short → ⊥
not_short es rest e = clash (cc)

rest_same : (es fs : List Event) (rest left : List Bool) → whole es rest ≡ whole fs left → rest ≡ left
rest_same es fs rest left e = cc

-- A reader takes a bit for each that it says.
module _ {S : Type 0} (C : Side S) (bit : ℕ → Bool) (taken : S → ℕ) (reads : Reads C bit taken) where
  pub taken_said : (t : Talk) (s : S) → taken (walk C t s) ≡ taken s + length (said C t s)
  unfolding walk said
  taken_said done s = omega arith
  taken_said (ask q go) s = omega (arith, reads.one_taken q s, taken_said (go (C.reply q s).bit) (C.reply q s).next)
  taken_said (tell e next) s = omega (arith, reads.none_taken e s, taken_said next (C.note e s))

  -- Where the bits ahead are those that are spoken, it says and tells the same.
  unfoldable pub Ahead : S → List Bool → Type 0
  Ahead s bits = (i : ℕ) → i < length bits → bit (taken s + i) ≡ get_or bits i false

  pub ahead_along : (answer : Question → Bool) → Along C answer (λ t s. Ahead s (spoken answer t))
  unfolding Ahead spoken
  ahead_along answer =
      record {
        now = λ q go s h. reads.bit_read q s ∙ ap bit (omega arith) ∙ h 0 (omega arith);
        after_reply = λ q go s h i l. ap bit (omega (arith, reads.one_taken q s)) ∙ h (suc i) (omega arith);
        after_note = λ e next s h i l. ap bit (omega (arith, reads.none_taken e s)) ∙ h i l;
      }

  -- Reading 0 past the end: the bits run out exactly where the place at the end is beyond their number, and where it is not, those from
  -- there on are left over.
  module _ (bits : List Bool) (these : (i : ℕ) → bit i ≡ get_or bits i false) where
    hears_next : (q : Question) (go : Bool → Talk) (s : S) → taken s < length bits
        → heard (ask q go) (drop (taken s) bits) ≡ heard (go (C.reply q s).bit) (drop (taken (C.reply q s).next) bits)
    unfolding heard
    hears_next q go s l =
        rw (drop-cons bits (taken s) false l, ← these (taken s), ← reads.bit_read q s, ← reads.one_taken q s)

    pub reads_whole : (t : Talk) (s : S) → taken (walk C t s) ≤ length bits
        → heard t (drop (taken s) bits) ≡ whole (told C t s) (drop (taken (walk C t s)) bits)
    unfolding walk heard told noted
    reads_whole done s h = refl
    reads_whole (ask q go) s h =
        hears_next q go s (omega (arith, reads.one_taken q s, taken_said (go (C.reply q s).bit) (C.reply q s).next))
        ∙ reads_whole (go (C.reply q s).bit) (C.reply q s).next h
    reads_whole (tell e next) s h =
        ap (λ i. noted e (heard next (drop i bits))) (sym (reads.none_taken e s)) ∙ ap (noted e) (reads_whole next (C.note e s) h)

    pub reads_short : (t : Talk) (s : S) → taken s ≤ length bits → length bits < taken (walk C t s) → heard t (drop (taken s) bits) ≡ short
    unfolding walk heard noted
    reads_short done s g h = absurd (omega arith)
    reads_short (ask q go) s g h = cases (dec_lt (taken s) (length bits)) (λ l. reads_short (go (C.reply q s).bit) (C.reply q s).next l h)
      where
        cases : Dec (taken s < length bits)
            → (taken (C.reply q s).next ≤ length bits → heard (go (C.reply q s).bit) (drop (taken (C.reply q s).next) bits) ≡ short)
            → heard (ask q go) (drop (taken s) bits) ≡ short
        cases (yes l) r = hears_next q go s l ∙ r (omega (arith, reads.one_taken q s))
        cases (no l) r = ap (heard (ask q go)) (drop_of_length-le bits {i = taken s} (omega arith))
    reads_short (tell e next) s g h =
        ap (λ i. noted e (heard next (drop i bits))) (sym (reads.none_taken e s))
        ∙ ap (noted e) (reads_short next (C.note e s) (omega (arith, reads.none_taken e s)) h)

    pub beyond_is_short : (t : Talk) (s : S) → taken s ≤ length bits
        → (length bits < taken (walk C t s)) ↔ (heard t (drop (taken s) bits) ≡ short)
    beyond_is_short t s g = (reads_short t s g, λ e. cases e (dec_lt (length bits) (taken (walk C t s))))
      where
        cases : heard t (drop (taken s) bits) ≡ short → Dec (length bits < taken (walk C t s)) → length bits < taken (walk C t s)
        cases e (yes l) = l
        cases e (no l) = absurd (not_short _ _ (sym (reads_whole t s (omega arith)) ∙ e))

    -- the bits fit: none is missing and none left over
    pub fit_is_whole : (t : Talk) (s : S) → taken s ≤ length bits
        → (taken (walk C t s) ≡ length bits) ↔ (heard t (drop (taken s) bits) ≡ whole (told C t s) [])
    fit_is_whole t s g = (there, λ e. cases e (dec_lt (length bits) (taken (walk C t s))))
      where
        there : taken (walk C t s) ≡ length bits → heard t (drop (taken s) bits) ≡ whole (told C t s) []
        there e = reads_whole t s (omega arith) ∙ ap (whole (told C t s)) (drop_of_length-le bits {i = taken (walk C t s)} (omega arith))

        cases : heard t (drop (taken s) bits) ≡ whole (told C t s) [] → Dec (length bits < taken (walk C t s))
            → taken (walk C t s) ≡ length bits
        cases e (yes l) = absurd (not_short _ _ (sym e ∙ reads_short t s g l))
        cases e (no l) =
            let none : drop (taken (walk C t s)) bits ≡ [] = rest_same _ _ _ _ (sym (reads_whole t s (omega arith)) ∙ e) in
            omega (arith, length-drop (taken (walk C t s)) bits, ap length none)

    -- some are left over
    pub under_is_left : (t : Talk) (s : S) → taken s ≤ length bits
        → (taken (walk C t s) < length bits)
        ↔ ((b : Bool) × (rest : List Bool) × (heard t (drop (taken s) bits) ≡ whole (told C t s) (b ∷ rest)))
    under_is_left t s g = (there, λ w. cases w.0 w.1 w.2 (dec_lt (taken (walk C t s)) (length bits)))
      where
        place : ℕ
        place = taken (walk C t s)

        there : place < length bits → (b : Bool) × (rest : List Bool) × (heard t (drop (taken s) bits) ≡ whole (told C t s) (b ∷ rest))
        there l = (
          get_or bits place false,
          drop (suc place) bits,
          reads_whole t s (omega arith) ∙ ap (whole (told C t s)) (drop-cons bits place false l),
        )

        cases : (b : Bool) (rest : List Bool) → heard t (drop (taken s) bits) ≡ whole (told C t s) (b ∷ rest) → Dec (place < length bits) → place < length bits
        cases b rest e (yes l) = l
        cases b rest e (no l) = absurd (none (dec_lt (length bits) place))
          where
            none : Dec (length bits < place) → ⊥
            none (yes m) = not_short _ _ (sym e ∙ reads_short t s g m)
            none (no m) =
                let same : b ∷ rest ≡ [] = rest_same _ _ _ _ (sym e ∙ (fit_is_whole t s g).0 (omega arith)) in
                omega (arith, ap length same)

-- The decoder, where as many bits are there as it takes.
module _ (bit : ℕ → Bool) (there n : ℕ) where
  abbrev D : Side Reader
  D = decoder bit there n

  pub pyramid_drawn : (t : Talk) (r : Reader) → (walk (decoder bit there n) t r).taken ≤ there
      → (walk (decoder bit there n) t r).pyramid ≡ drawn n (told (decoder bit there n) t r) r.pyramid
  unfolding walk told drawn
  pyramid_drawn done r h = refl
  pyramid_drawn (ask q go) r h = pyramid_drawn (go (bit r.taken)) (record { taken = suc r.taken; pyramid = r.pyramid }) h
  pyramid_drawn (tell e next) r h =
      let in-time : leb r.taken there ≡ true
      = le-leb r.taken there (omega (arith, taken_said D bit (λ r. r.taken) (decoder_reads bit there n) next (D.note e r))) in
      pyramid_drawn next (D.note e r) h
      ∙ ap (λ b. drawn n (told D next (D.note e r)) (cond b (written n e r.pyramid) r.pyramid)) in-time

  pub decoder_passed : (F : Family) (answer : Question → Bool) (k : ℕ) (l : Lists) (r : Reader)
      → ((i : ℕ) → i < length (spoken answer (pass F k l)) → bit (r.taken + i) ≡ get_or (spoken answer (pass F k l)) i false)
      → r.taken + length (spoken answer (pass F k l)) ≤ there
      → passed F k (decoder bit there n) l r
      ≡ course l (outcomes answer (pass F k l))
      (record { taken = r.taken + length (spoken answer (pass F k l)); pyramid = drawn n (outcomes answer (pass F k l)) r.pyramid })
  unfolding Ahead
  decoder_passed F answer k l r h enough =
      let t = pass F k l in
      let reads = decoder_reads bit there n in
      let along = ahead_along D bit (λ r. r.taken) reads answer in
      let says : said D t r ≡ spoken answer t = says_spoken D answer _ along t r h in
      let tells : told D t r ≡ outcomes answer t = tells_outcomes D answer _ along t r h in
      let takes : (walk D t r).taken ≡ r.taken + length (spoken answer t)
      = taken_said D bit (λ r. r.taken) reads t r ∙ ap (λ bits. r.taken + length bits) says in
      passed_told F k D l r
      ∙ ap₂ (course l) tells
      (λ i. record { taken = takes i; pyramid = (pyramid_drawn t r (omega arith) ∙ ap (λ es. drawn n es r.pyramid) tells) i })

-- Parts: what the coder makes of one, and what the decoder makes of one whose bits are those.
module _ (F : Family) (mag : ℕ → ℕ) (neg : ℕ → Bool) (p : PartName) (s : State) where
  abbrev pub talk_of : Talk
  talk_of = pass F p.level (s p.level)

  abbrev pub bits_of : List Bool
  bits_of = spoken (truth F mag neg p.plane) talk_of

  abbrev pub events_of : List Event
  events_of = outcomes (truth F mag neg p.plane) talk_of

  pub coded_course : coded F mag neg p s ≡ course (s p.level) events_of bits_of
  unfolding coded
  coded_course = coder_passed F mag neg p.plane p.level (s p.level) []

  pub decoded_course : (bit : ℕ → Bool) (there : ℕ) (v : List ℤ) → ((i : ℕ) → i < length bits_of → bit i ≡ get_or bits_of i false)
      → length bits_of ≤ there
      → decoded F p bit there s v ≡ course (s p.level) events_of (record { taken = length bits_of; pyramid = drawn p.plane events_of v })
  unfolding decoded
  decoded_course bit there v h enough =
      decoder_passed bit there p.plane F (truth F mag neg p.plane) p.level (s p.level) (record { taken = 0; pyramid = v })
      (λ i l. ap bit (zero-add i) ∙ h i l) (omega arith)
      ∙ ap (λ m. course (s p.level) events_of (record { taken = m; pyramid = drawn p.plane events_of v })) (zero-add (length bits_of))

-- The lists after a part do not depend on the side.
pub after_course : {S T : Type 0} (k : ℕ) (l : Lists) (es : List Event) (x : S) (y : T) (s : State)
    → after k (course l es x) s ≡ after k (course l es y) s
unfolding after course
after_course k l es x y s = refl
