-- A header and a part read back, whole or cut.
use Rattle.std.specs.Prelude.{◌≡◌, ℕ, ◌+◌, ◌-◌, ◌≤◌, ◌<◌, take, drop, Ok}
use Rattle.std.proofs.Math.Path.{refl, ap, sym}
use Rattle.std.proofs.Common.{◌∙◌, subst, arith, length-drop, length-take, take_all, le-leb}
use mathlib.Core.List.{List, [], ◌∷◌, ◌++◌, append_assoc}
use Rattle.std.proofs.Math.Bool.{true}
use Rattle.std.proofs.Math.ListN.{length, length-append}
use Rattle.std.proofs.Math.Seq.{length-take-le, take_at, take-append-add}
use Rattle.std.proofs.lemmas.Bool.{lt-leb}
use Rattle.rules.specs.declared.Size.{Size}
use Rattle.rules.specs.declared.Header.{Header}
use Rattle.rules.specs.declared.Piece.TheVariants as part
use Rattle.rules.specs.Document.Notation.{flat}
use Rattle.rules.specs.Document.Pyramid.{most_area, area, most_planes, legal_size}
use Rattle.rules.specs.Document.Passes.{PartName}
use Rattle.rules.specs.Document.Layout.{number_bytes, bytes_for, packed, pad_clear, version, header_bytes, CodedPart, part_bytes, whole_of, body_of, name_of}
use Rattle.rules.specs.Document.Numbers.{read_header, legal_head, headed, read_part}
use Rattle.rules.specs.Promises.Vocabulary.{header_of, head_bytes, part_at, Legal, LegalHead}
use Rattle.rules.proofs.Laws.Family.Sizes.{legal, area_bound}
use Rattle.rules.proofs.Laws.Reading.Parts.{legal_head_lem}
use Rattle.rules.specs.Laws.Bytes.Numbers.{too_large}
use Rattle.rules.proofs.Laws.Bytes.Numbers.{number_bytes_length}
use Rattle.rules.specs.Laws.Bytes.NumberBack.{AllSmall, Cut, inside, behind}
use Rattle.rules.proofs.Laws.Bytes.NumberBack.{left_behind, numbers_read, numbers_cut}
use Rattle.rules.specs.Laws.Counting.Sums.{All}
use Rattle.rules.specs.Promises.Refusals.{Numbers, LEGAL, HeadRead, TAIL-head, CUT, WHOLE}
use Rattle.rules.proofs.Laws.Reading.PartCases.{header_is, pad_none, part_is}
use Rattle.rules.proofs.Laws.Bytes.BodyBack.{packed_length, packed_clear}
use Rattle.rules.specs.Laws.Bytes.PartBack.{Small, cut_at}

pub legal_small : (z : Size) (planes : ℕ) → legal_size z ≡ true → planes ≤ most_planes → Small z planes
legal_small z planes h l =
    let Z : Legal z = legal z h in
    let a : area z ≤ most_area = area_bound z h in
    record {
      width = omega (arith, Z.width.most);
      height = omega (arith, Z.height.most);
      count = omega (arith, Z.few);
      planes_few = omega arith;
      bits_few = omega arith;
    }

-- A header.
pub reads_header : (z : Size) (planes : ℕ) (rest : List ℕ) → legal_size z ≡ true → planes ≤ most_planes
    → read_header (header_bytes z planes ++ rest) ≡ Ok (header_of z planes)
unfolding header_bytes All
reads_header z planes rest ok l =
    let S : Small z planes = legal_small z planes ok l in
    let s : List ℕ = header_bytes z planes ++ rest in
    let q : 0 + length (header_bytes z planes) ≡ length (header_bytes z planes) = omega arith in
    let ns : Numbers s 0 (version ∷ z.w ∷ z.h ∷ z.n ∷ planes ∷ []) (0 + length (header_bytes z planes))
    = numbers_read s 0 _ rest (omega arith, (S.width, (S.height, (omega (arith, S.count), (S.planes_few, tt))))) refl in
    header_is s _ (LEGAL (subst (Numbers s 0 (version ∷ z.w ∷ z.h ∷ z.n ∷ planes ∷ [])) q ns) (record { size = legal z ok; few = l }))

-- A part's bytes.
pub part_length : (p : CodedPart) → length (part_bytes p) ≡ length (head_bytes p) + bytes_for (length p.bits)
unfolding part_bytes
part_length p = omega (arith, length-append (head_bytes p) (packed p.bits), packed_length p.bits)

pub part_some : (p : CodedPart) → 1 ≤ length (part_bytes p)
unfolding part_bytes flat
part_some p =
    omega (
      arith,
      length-append (head_bytes p) (packed p.bits),
      length-append (number_bytes p.name.plane) (flat number_bytes (p.name.level ∷ length p.bits ∷ [])),
      (number_bytes_length p.name.plane).0,
    )

-- A part: where it stands, and what is read there.
module _ (s : List ℕ) (place : ℕ) (p : CodedPart) (rest : List ℕ) (stands : drop place s ≡ part_bytes p ++ rest) where
  body_stands : drop (place + length (head_bytes p)) s ≡ packed p.bits ++ rest
  unfolding part_bytes
  body_stands = left_behind s place (head_bytes p) (packed p.bits ++ rest) (stands ∙ append_assoc (head_bytes p) (packed p.bits) rest)

  pub next_stands : drop (place + length (part_bytes p)) s ≡ rest
  next_stands = left_behind s place (part_bytes p) rest stands

  pub part_body : body_of s (part_at place p) ≡ packed p.bits
  unfolding body_of part_at headed
  part_body =
      ap (take (bytes_for (length p.bits))) body_stands ∙ take_at (packed p.bits) rest (bytes_for (length p.bits)) (packed_length p.bits)

  pub part_whole : whole_of s (part_at place p) ≡ part_bytes p
  unfolding whole_of part_at headed
  part_whole =
      let long : length (part_bytes p) ≡ place + length (head_bytes p) + bytes_for (length p.bits) - place = omega (arith, part_length p) in
      ap (take (place + length (head_bytes p) + bytes_for (length p.bits) - place)) stands ∙ take_at (part_bytes p) rest _ long

-- Where it is cut behind its head, its body is as far as it goes.
pub cut_body : (s : List ℕ) (place : ℕ) (p : CodedPart) (d : ℕ) → drop place s ≡ take (length (head_bytes p) + d) (part_bytes p)
    → body_of s (part_at place p) ≡ take d (packed p.bits)
unfolding body_of part_at headed part_bytes
cut_body s place p d stands =
    ap (take (bytes_for (length p.bits)))
    (left_behind s place (head_bytes p) (take d (packed p.bits)) (stands ∙ take-append-add (head_bytes p) (packed p.bits) d))
    ∙ take_all (bytes_for (length p.bits)) (take d (packed p.bits)) (omega (arith, length-take d (packed p.bits), packed_length p.bits))

pub part_name : (place : ℕ) (p : CodedPart) → name_of (part_at place p) ≡ p.name
unfolding name_of part_at headed
part_name place p = refl

pub part_end : (place : ℕ) (p : CodedPart) → (part_at place p).end ≡ place + length (part_bytes p)
unfolding part_at headed
part_end place p = omega (arith, part_length p)

-- Reading a part.
module _ (h : Header) (small : Small h.size h.planes) (s : List ℕ) (before : PartName) (place : ℕ) (p : CodedPart)
    (ok : legal_head h before p.name (length p.bits) ≡ true) where
  abbrev its_numbers : List ℕ
  its_numbers = p.name.plane ∷ p.name.level ∷ length p.bits ∷ []

  numbers_small : AllSmall its_numbers
  unfolding All
  numbers_small =
      let l : LegalHead h before p.name (length p.bits) = legal_head_lem h before p.name (length p.bits) ok in
      let n : p.name.plane < too_large = omega (arith, l.named.under, small.planes_few) in
      let k : p.name.level < too_large = omega (arith, l.named.up_to, small.count) in
      (n, (k, (omega (arith, l.bits_most, small.bits_few), tt)))

  head_read : (rest : List ℕ) → drop place s ≡ head_bytes p ++ rest → HeadRead s place (part_at place p)
  unfolding part_at headed
  head_read rest stands = record { numbers = numbers_read s place its_numbers rest numbers_small stands; placed = refl; ends = refl }

  legal_here : LegalHead h before (name_of (part_at place p)) (part_at place p).bits
  unfolding name_of part_at headed
  legal_here = legal_head_lem h before p.name (length p.bits) ok

  pub reads_part : (rest : List ℕ) → drop place s ≡ part_bytes p ++ rest → read_part h s before place ≡ Ok (part.Part (part_at place p))
  unfolding part_bytes
  reads_part rest stands =
      let head = stands ∙ append_assoc (head_bytes p) (packed p.bits) rest in
      let long : length s - place ≡ length (part_bytes p) + length rest
      = sym (length-drop place s) ∙ ap length stands ∙ length-append (part_bytes p) rest in
      part_is h s before place _
      (WHOLE (head_read (packed p.bits ++ rest) head) legal_here (omega (arith, part_end place p, part_some p)) (pad_none s (part_at place p) clear))
    where
      clear : pad_clear (body_of s (part_at place p)) (part_at place p).bits ≡ true
      clear = ap (λ x. pad_clear x (part_at place p).bits) (part_body s place p rest stands) ∙ unfold part_at headed in packed_clear p.bits

  -- Of a part that is cut behind c bytes no head is there, or its head and some of its body.
  pub reads_part_cut : (c : ℕ) → c < length (part_bytes p) → drop place s ≡ take c (part_bytes p) → read_part h s before place ≡ cut_at place c p
  unfolding part_bytes cut_at
  reads_part_cut c short cut = cases (numbers_cut s place its_numbers (packed p.bits) c numbers_small short cut)
    where
      cases : Cut s place its_numbers (packed p.bits) c → read_part h s before place ≡ cut_at place c p
      cases (inside ns l z k) = rw (lt-leb (length (head_bytes p)) c k) (part_is h s before place _ (TAIL-head ns l z))
      cases (behind d l stands k) =
          let long : length s - place ≡ length (head_bytes p) + length (take d (packed p.bits))
          = sym (length-drop place s) ∙ ap length stands ∙ length-append (head_bytes p) (take d (packed p.bits)) in
          let cut_short : length (take d (packed p.bits)) ≡ d = length-take-le d (packed p.bits) (omega arith) in
          rw (le-leb (length (head_bytes p)) c (omega arith))
          (part_is h s before place _
          (CUT (head_read (take d (packed p.bits)) stands) legal_here (omega (arith, part_end place p, part_length p, packed_length p.bits))))
