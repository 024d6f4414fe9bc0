-- Walking over the parts of a record with a cursor: where it stands, which parts it came past, and what is left. The law of every walk.
use Rattle.std.specs.Prelude.{◌≡◌, refl, true, ℕ, ◌+◌, ◌-◌, ◌≤◌, ◌<◌, Ok, Err}
use Rattle.std.proofs.Math.Path.{ap, sym}
use Rattle.std.proofs.Common.{ap₂, ◌∙◌, arith}
use mathlib.Core.List.{List, [], ◌∷◌, ◌++◌, append_assoc, append-nil}
use Rattle.std.proofs.Math.ListN.{length, length-append}
use Rattle.rules.specs.declared.Refusal.{Refusal}
use Rattle.rules.specs.declared.Header.{Header}
use Rattle.rules.specs.declared.Part.{Part}
use Rattle.rules.specs.declared.Piece.{Piece}
use Rattle.rules.specs.declared.Piece.TheVariants as part
use Rattle.rules.specs.Document.Pyramid.{legal_size}
use Rattle.rules.specs.Document.Layout.{name_of}
use Rattle.rules.specs.Document.Numbers.{read_header, read_part, Ending, tail, fault, Reading, read_parts, behind_from, behind, PartRead, HeaderRead}
use Rattle.rules.specs.Laws.Reading.Stands.{PartStands}
use Rattle.rules.proofs.Laws.Reading.Stands.{read_header_stands, header_legal, header_within, read_part_stands, part_further}
use Rattle.rules.specs.Laws.Reading.Walk.{parts_from}
use Rattle.rules.proofs.Laws.Reading.Walk.{read_parts_from, parts_from_part, parts_from_tail, parts_from_cut, parts_from_fault}
use Rattle.rules.specs.Laws.Reading.CutPart.{CutStands}
use Rattle.rules.proofs.Laws.Reading.CutPart.{read_part_cut}
use Rattle.record.specs.declared.walk.Cursor.{Cursor}
use Rattle.record.specs.Named.{named}

abbrev pub first_of : Header → Cursor
first_of h = record { before = record { plane = record { 0 = h.planes }; level = record { 0 = 0 } }; place = h.end }

abbrev pub next_of : Header → List ℕ → Cursor → PartRead
next_of h s c = read_part h s (named c.before) c.place

abbrev pub past_of : Part → Cursor
past_of p = record { before = record { plane = p.plane; level = p.level }; place = p.end }

-- what is left from here on
abbrev pub left : Header → List ℕ → Cursor → Reading
left h s c = parts_from h s (named c.before) c.place

-- A cursor in a record with this header: it came past the record's first parts, `seen`, and the others are left.
pub record Stands (h : Header) (s : List ℕ) (c : Cursor) (seen : List Part) : Type 0 where
  pub read : read_header s ≡ Ok h
  pub parts : (read_parts h s).parts ≡ seen ++ (left h s c).parts
  pub ending : (read_parts h s).ending ≡ (left h s c).ending
  pub onward : (later : List Part) → behind h s (seen ++ later) ≡ behind_from h s (named c.before) c.place later
  pub few : length seen ≤ c.place
  pub within : c.place ≤ length s

-- What a header that was found says of the record.
module _ (s : List ℕ) (found : HeaderRead) (h : Header) (e : found ≡ read_header s) (f : found ≡ Ok h) where
  pub header_found : read_header s ≡ Ok h
  header_found = sym e ∙ f

  pub found_legal : legal_size h.size ≡ true
  found_legal = header_legal (read_header_stands s h header_found)

pub stands_first : (h : Header) (s : List ℕ) (c : Cursor) → read_header s ≡ Ok h → c ≡ first_of h → Stands h s c []
stands_first h s c e g =
    let w : h.end ≤ length s = header_within (read_header_stands s h e) in
    let f : read_parts h s ≡ left h s (first_of h) = read_parts_from h s w in
    rw g
    (record {
      read = e;
      parts = ap (λ (x : Reading). x.parts) f;
      ending = ap (λ (x : Reading). x.ending) f;
      onward = λ later. refl;
      few = omega arith;
      within = w;
    })

pub stands_legal : (h : Header) (s : List ℕ) (c : Cursor) (seen : List Part) → Stands h s c seen → legal_size h.size ≡ true
stands_legal h s c seen st = header_legal (read_header_stands s h st.read)

-- less than a part: one that is cut, or a tail
abbrev pub Short : Piece → Type 0
Short x = (p : Part) → x ≡ part.Part p → ⊥

-- What stands at a cursor, by what was found there. A part ends behind the cursor: the measure of every walk falls.
module _ (h : Header) (s : List ℕ) (c : Cursor) (found : PartRead) (e : found ≡ next_of h s c) where
  pub next_stands : (p : Part) → found ≡ Ok (part.Part p) → PartStands h s (named c.before) c.place p
  next_stands p f = read_part_stands h s (named c.before) c.place p (sym e ∙ f)

  pub next_cut : (p : Part) → found ≡ Ok (part.Cut p) → CutStands h s (named c.before) c.place p
  next_cut p f = read_part_cut h s (named c.before) c.place p (sym e ∙ f)

  pub next_falls : (p : Part) (d : Cursor) → found ≡ Ok (part.Part p) → d ≡ past_of p → length s - d.place < length s - c.place
  next_falls p d f g = rw g (part_further (next_stands p f))

  module _ (seen : List Part) (st : Stands h s c seen) where
    pub stands_past : (p : Part) (d : Cursor) → found ≡ Ok (part.Part p) → d ≡ past_of p → Stands h s d (seen ++ (p ∷ []))
    unfolding name_of behind_from
    stands_past p d f over =
        let t : PartStands h s (named c.before) c.place p = next_stands p f in
        let g = parts_from_part h s (named c.before) c.place p (sym e ∙ f) in
        let longer : length (seen ++ (p ∷ [])) ≡ length seen + 1 = length-append seen (p ∷ []) in
        rw over
        (record {
          read = st.read;
          parts = st.parts ∙ ap (λ (x : Reading). seen ++ x.parts) g ∙ sym (append_assoc seen (p ∷ []) (left h s (past_of p)).parts);
          ending = st.ending ∙ ap (λ (x : Reading). x.ending) g;
          onward = λ later. ap (behind h s) (append_assoc seen (p ∷ []) later) ∙ st.onward (p ∷ later);
          few = omega (arith, longer, st.few, t.after, t.end);
          within = t.within;
        })

    -- What is found stands behind the parts that were seen.
    pub stands_behind : behind h s seen ≡ found
    unfolding behind_from
    stands_behind = sym (ap (behind h s) (append-nil seen)) ∙ st.onward [] ∙ sym e

    ended : (x : Ending) → left h s c ≡ record { parts = []; ending = x } → read_parts h s ≡ record { parts = seen; ending = x }
    ended x g =
        let all : (read_parts h s).parts ≡ seen = st.parts ∙ ap (λ (y : Reading). seen ++ y.parts) g ∙ append-nil seen in
        let end : (read_parts h s).ending ≡ x = st.ending ∙ ap (λ (y : Reading). y.ending) g in
        ap₂ (λ (ps : List Part) (y : Ending). record { parts = ps; ending = y }) all end

    pub stands_tail : found ≡ Ok part.Tail → read_parts h s ≡ record { parts = seen; ending = tail (length s - c.place) }
    stands_tail f = ended _ (parts_from_tail h s (named c.before) c.place (sym e ∙ f))

    pub stands_cut : (p : Part) → found ≡ Ok (part.Cut p) → read_parts h s ≡ record { parts = seen; ending = tail (length s - c.place) }
    stands_cut p f = ended _ (parts_from_cut h s (named c.before) c.place p (sym e ∙ f))

    pub stands_short : (x : Piece) → found ≡ Ok x → Short x → read_parts h s ≡ record { parts = seen; ending = tail (length s - c.place) }
    stands_short (part.Part p) f d = absurd (d p refl)
    stands_short (part.Cut p) f d = stands_cut p f
    stands_short part.Tail f d = stands_tail f

    pub stands_fault : (q : Refusal) → found ≡ Err q → read_parts h s ≡ record { parts = seen; ending = fault q }
    stands_fault q f = ended _ (parts_from_fault h s (named c.before) c.place q (sym e ∙ f))
