-- For Promises/Memory, a law for each field. Each call is led back to `coding`, `serving` or `decoding`, an export by way of its routine; what arrived reads as
-- the parts that are whole in it; and then demands 2 and 3 say the rest.
use Rattle.std.specs.Prelude.{◌≡◌, Bool, true, false, cond, ◌&&◌, get_or, drop, replicate, ℤ, Ok}
use Rattle.std.proofs.Math.Path.{refl, ap, ap₂, sym, subst, subst₂}
use Rattle.std.proofs.Common.{◌∙◌, ⊎_elim, ext_get_or}
use mathlib.Core.List.{List, [], ◌∷◌, ◌++◌, map}
use Prim.Native.Nat.{ℕ, ◌+◌, ◌-◌, ◌≤◌, ◌<◌}
use native.Mathlib.Omega.{arith}
use Rattle.std.proofs.Math.Decide.{dec_lt, dec_le}
use Rattle.std.proofs.Math.ListN.{length, take, length-append, replicate-append-replicate, get_or-eq_default}
use Rattle.std.proofs.Math.Seq.{take_all, take-append_seam}
use borrow.Author.Tests.{le-leb}
use Rattle.rules.specs.declared.Size.{Size}
use Rattle.rules.specs.declared.Plane.{Plane}
use Rattle.rules.specs.declared.Header.{Header}
use Rattle.rules.specs.Document.Notation.{flat, zeros}
use Rattle.rules.specs.Document.Pyramid.{area, levels, level_of, most_planes, legal_size}
use Rattle.rules.specs.Document.Passes.{PartName, from}
use Rattle.rules.specs.Document.Layout.{CodedPart, parts_with, record_with, planes_in, record_of, header_bytes, part_bytes, packed, body_of, name_of, reached}
use Rattle.rules.specs.Document.Numbers.{verdict_number, verdict_place, read_header, read_parts, headed, Accepted}
use Rattle.rules.specs.Document.Calls.{work_for, unless, legal_ask, portioned, Result, refused, accepted, Portion, Picture, coding, serving, decoding}
use Rattle.rules.specs.Document.Calls.{filled, code_out, code_answer, serve_out, serve_answer, decode_out, decode_answer, code_numbers, serve_numbers}
use Rattle.rules.specs.Document.Calls.{decode_numbers, code_places, serve_places, decode_places, level_places, plane_in, count_in, Coding, Serving, Decoding}
use Rattle.rules.specs.Document.Calls.{AfsCode, AfsServe, AfsDecode, Decoded, Served, Coded}
use Rattle.rules.proofs.Laws.Counting.Sums.{flat_append}
use Rattle.rules.proofs.Laws.Family.Sizes.{legal}
use Rattle.rules.proofs.Laws.Offspring.Level.{level_most, level_least}
use Rattle.rules.proofs.Laws.Reading.Usable.{loss_shows}
use Rattle.rules.proofs.Laws.Calls.Exports.{afs_code_short, afs_code_codes, afs_serve_short, afs_serve_serves, afs_decode_decodes}
use Rattle.rules.proofs.Laws.Bytes.Room.{coding_accepts}
use Rattle.rules.proofs.Laws.Calls.Results.{number_accepts}
use Rattle.rules.proofs.Laws.Counting.Booleans.{selection_both}
use Rattle.rules.proofs.Laws.Bytes.BodyBack.{packed_length, packed_clear, packed_bit, first_length, body_bit}
use Rattle.rules.specs.Promises.Vocabulary.{bits_from, header_of, part_at, selection, record_bytes, Codable, PlaneCount, Stated, enough_room, names, kept}
use Rattle.rules.specs.Promises.Vocabulary.{asked, whole_in, tail_in, cut_in, arrived, RoundedAt, Rounded, ReadsAs, parts_in, kept_in, Selected, whole_parts}
use Rattle.rules.specs.Promises.Vocabulary.{cut_bytes, cut_parts, Recorded, Serves, Decodes, planes_told, planes_answered, counts_told, counts_answered}
use Rattle.rules.proofs.Laws.Bytes.PartBack.{part_body}
use Rattle.rules.specs.Laws.Bytes.RecordBack.{before_all}
use Rattle.rules.proofs.Laws.Bytes.RecordBack.{parts_map}
use Rattle.rules.specs.Laws.Rounding.Arrival.{AllThere, CutIn}
use Rattle.rules.proofs.Laws.Rounding.Arrival.{header_read, parts_stand, all_or_cut, arrived_reads, arrived_selection, legal_order}
use Rattle.rules.proofs.Laws.Rounding.Run.{map_from, map_length, blank_same, kept_legal}
use Rattle.rules.proofs.Laws.Serving.Parts.{kept_wholes, serves_read, served_read}
use Rattle.rules.proofs.Laws.Calls.Arrived.{coding_codable, this_count, demand3, printed_near}
use Rattle.rules.proofs.Laws.Calls.Whole.{demand2_names, demand2_record, demand2_whole}

-- The parts that are read in bytes are the parts that were written there.
bits_back : (bits : List Bool) → bits_from (packed bits) 0 (length bits) ≡ bits
bits_back bits =
    ext_get_or false (bits_from (packed bits) 0 (length bits)) bits (first_length (packed bits) 0 (length bits))
    (λ i l. sym (body_bit (packed bits) (length bits) (omega (arith, packed_length bits)) (packed_clear bits) i) ∙ packed_bit bits i)

part_in : (s : List ℕ) (place : ℕ) (p : CodedPart) (rest : List ℕ) → drop place s ≡ part_bytes p ++ rest
    → record { name = name_of (part_at place p); bits = bits_from (body_of s (part_at place p)) 0 (part_at place p).bits } ≡ p
unfolding part_at headed name_of
part_in s place p rest stands =
    ap (λ b. record { name = p.name; bits = b })
    (ap (λ body. bits_from body 0 (length p.bits)) (part_body s place p rest stands) ∙ bits_back p.bits)

map_itself : {X : Type 0} (xs : List X) → map (λ x. x) xs ≡ xs
map_itself [] = refl
map_itself (x ∷ xs) = ap (λ l. x ∷ l) (map_itself xs)

module _ {z : Size} {planes : ℕ} {ps : List CodedPart} {cut : ℕ} {bytes : List ℕ} (r : ReadsAs z planes ps cut bytes) where
  abbrev front : ℕ
  front = length (header_bytes z planes)

  parts_in_lem : parts_in (header_of z planes) bytes ≡ ps
  unfolding parts_in
  parts_in_lem =
      ap (λ y. map (λ p. record { name = name_of p; bits = bits_from (body_of bytes p) 0 p.bits }) y.parts) r.parts_read
      ∙ parts_map _ (λ p. p) bytes (part_in bytes) front ps r.rest (parts_stand r) ∙ map_itself ps

  -- What is made of them is what arrives of these parts.
  made_arrived : (keep : PartName → Bool) (n : ℕ)
      → take (front + n) (take front bytes ++ flat (kept_in keep bytes) (read_parts (header_of z planes) bytes).parts) ≡ arrived z planes (kept keep ps) n
  unfolding arrived
  made_arrived keep n =
      let head : take front bytes ≡ header_bytes z planes
      = ap (take front) r.stand ∙ take-append_seam (header_bytes z planes) (flat part_bytes ps ++ r.rest) in
      let some : flat (kept_in keep bytes) (read_parts (header_of z planes) bytes).parts ≡ flat part_bytes (kept keep ps)
      = ap (λ y. flat (kept_in keep bytes) y.parts) r.parts_read
      ∙ kept_wholes keep bytes (kept_in keep bytes) (λ q. unfold kept_in in refl) front ps r.rest (parts_stand r) in
      ap₂ (λ x y. take (front + n) (x ++ y)) head some

  module _ (ok : legal_size z ≡ true) (few : planes ≤ most_planes) where
    head_is : (h : Header) → read_header bytes ≡ Ok h → h ≡ header_of z planes
    head_is h e = let same : Ok h ≡ Ok (header_of z planes) = sym e ∙ header_read r ok few in cc

    module _ {s : List ℕ} (x : Selected bytes s) where
      selected_arrived : s ≡ arrived z planes (kept x.keep ps) x.more
      selected_arrived =
          x.made
          ∙ ap (λ h. take (h.end + x.more) (take h.end bytes ++ flat (kept_in x.keep bytes) (read_parts h bytes).parts)) (head_is x.head x.read)
          ∙ made_arrived x.keep x.more

      selected_parts : parts_in x.head bytes ≡ ps
      selected_parts = ap (λ h. parts_in h bytes) (head_is x.head x.read) ∙ parts_in_lem

-- What coding and serving accepted stands at the front of their output.
record_stands : (bytes : List ℕ) (room : ℕ) → (take (length bytes) (filled room bytes) ≡ bytes) × (length bytes ≤ length (filled room bytes))
unfolding filled
record_stands bytes room =
    let rest : List ℕ = zeros (room - length bytes) in
    (take-append_seam bytes rest, omega (arith, length-append bytes rest))

coded_stands : (room : ℕ) (y : Result (List ℕ)) → (code_answer y).verdict ≡ Accepted
    → (y ≡ accepted (take (code_answer y).length (code_out room y))) × ((code_answer y).length ≤ length (code_out room y))
unfolding code_answer code_out
coded_stands room (refused r) e = absurd (let z : ◌≡◌ {A = ℕ} 0 1 = cc in omega arith)
coded_stands room (accepted bytes) e = let s = record_stands bytes room in (ap accepted (sym s.0), s.1)

served_stands : (room : ℕ) (y : Result Portion) → (serve_answer y).verdict ≡ Accepted
    → (y ≡ accepted (record { bytes = take (serve_answer y).length (serve_out room y); tail = (serve_answer y).tail }))
    × ((serve_answer y).length ≤ length (serve_out room y))
unfolding serve_answer serve_out
served_stands room (refused r) e = absurd (let z : ◌≡◌ {A = ℕ} 0 1 = cc in omega arith)
served_stands room (accepted x) e =
    let s = record_stands x.bytes room in (ap (λ bytes. accepted (record { bytes = bytes; tail = x.tail })) (sym s.0), s.1)

-- A record of any number of planes that is enough.
pub recorded : {z : Size} {planes : ℕ} {pyramid : List ℤ} {bytes : List ℕ} → Codable z pyramid → PlaneCount pyramid planes
    → bytes ≡ record_with z planes pyramid → Recorded z planes pyramid bytes
recorded {z} {planes} {pyramid} {bytes} c count e =
    let r : ReadsAs z planes (parts_with z planes pyramid) 0 bytes
    = subst (ReadsAs z planes (parts_with z planes pyramid) 0) (sym e) (demand2_record c count) in
    record {
      codable = c;
      count = count;
      its_bytes = e;
      its_header = header_read r c.legal_size_lem count.few;
      its_parts = parts_in_lem r;
      every_part = ap names (parts_in_lem r) ∙ demand2_names z planes pyramid;
    }

module _ {pyramid : List ℤ} {z : Size} {out work : List ℕ} {answer : Coded} {out' work' : List ℕ} (x : Coding pyramid z out work answer out' work')
    (e : answer.verdict ≡ Accepted) where
  pub coding_wrote : (coding pyramid z (length out) (length work) ≡ accepted (take answer.length out')) × (answer.length ≤ length out')
  coding_wrote =
      let y : Result (List ℕ) = coding pyramid z (length out) (length work) in
      subst₂ (λ (a : Coded) o. (y ≡ accepted (take a.length o)) × (a.length ≤ length o)) (sym x.answers) (sym x.writes)
      (coded_stands (length out) y (ap (λ a. a.verdict) (sym x.answers) ∙ e))

  pub coding_recorded : Recorded z (planes_in pyramid) pyramid (take answer.length out')
  unfolding record_of
  coding_recorded =
      let w : Codable z pyramid × (take answer.length out' ≡ record_of z pyramid)
      = coding_codable pyramid z (length out) (length work) (take answer.length out') coding_wrote.0 in
      recorded w.0 (this_count w.0) w.1

-- A record, and what arrived of it, reads as the parts that are whole.
module _ {z : Size} {planes : ℕ} {pyramid : List ℤ} {bytes : List ℕ} (w : Recorded z planes pyramid bytes) where
  abbrev c : Codable z pyramid
  c = w.codable

  recorded_reads : ReadsAs z planes (parts_with z planes pyramid) 0 bytes
  recorded_reads = subst (ReadsAs z planes (parts_with z planes pyramid) 0) (sym w.its_bytes) (demand2_record c w.count)

  module _ {s : List ℕ} (x : Selected bytes s) where
    abbrev some : List CodedPart
    some = kept x.keep (parts_with z planes pyramid)

    s_is : s ≡ arrived z planes some x.more
    s_is = selected_arrived recorded_reads c.legal_size_lem w.count.few x

    whole_is : whole_parts x ≡ whole_in x.more some
    whole_is = ap (λ ps. whole_in x.more (kept x.keep ps)) (selected_parts recorded_reads c.legal_size_lem w.count.few x)

    cut_parts_are : cut_parts x ≡ cut_in x.more some
    cut_parts_are = ap (λ ps. cut_in x.more (kept x.keep ps)) (selected_parts recorded_reads c.legal_size_lem w.count.few x)

    cut_is : cut_bytes x ≡ tail_in x.more some
    cut_is = ap (λ ps. tail_in x.more (kept x.keep ps)) (selected_parts recorded_reads c.legal_size_lem w.count.few x)

    selected_reads : ReadsAs z planes (whole_parts x) (cut_bytes x) s
    selected_reads =
        subst (ReadsAs z planes (whole_parts x) (cut_bytes x)) (sym s_is)
        (rw (whole_is, cut_is)
        (arrived_reads z planes some c.legal_size_lem w.count.few (kept_legal z c.legal_size_lem planes pyramid x.keep) x.more))

    -- A selection of it is one of the record.
    pub selected_again : {t : List ℕ} (y : Selected s t)
        → (again : Selected bytes t) × (whole_parts again ≡ whole_parts y) × (cut_bytes again ≡ cut_bytes y) × (cut_parts again ≡ cut_parts y)
    selected_again {t} y =
        let left : (left : PartName → Bool) × (kept left (parts_with z planes pyramid) ≡ whole_in x.more some)
        = arrived_selection x.keep x.more (before_all planes) (parts_with z planes pyramid)
        (legal_order (header_of z planes) (before_all planes) some (kept_legal z c.legal_size_lem planes pyramid x.keep)) in
        let both : PartName → Bool = λ q. left.0 q && y.keep q in
        let same : kept both (parts_with z planes pyramid) ≡ kept y.keep (whole_parts x)
        = selection_both (λ q. left.0 q.name) (λ q. y.keep q.name) (parts_with z planes pyramid) ∙ ap (kept y.keep) (left.1 ∙ sym whole_is) in
        let ys : parts_in y.head s ≡ whole_parts x = selected_parts selected_reads c.legal_size_lem w.count.few y in
        let again : Selected bytes t
        = record {
          head = header_of z planes;
          read = header_read recorded_reads c.legal_size_lem w.count.few;
          keep = both;
          more = y.more;
          made =
              selected_arrived selected_reads c.legal_size_lem w.count.few y ∙ ap (λ ps. arrived z planes ps y.more) (sym same)
              ∙ sym (made_arrived recorded_reads both y.more);
        } in
        let parts : kept both (parts_in (header_of z planes) bytes) ≡ kept y.keep (parts_in y.head s)
        = ap (kept both) (parts_in_lem recorded_reads) ∙ same ∙ ap (kept y.keep) (sym ys) in
        (again, ap (whole_in y.more) parts, ap (tail_in y.more) parts, ap (cut_in y.more) parts)

-- Serving.
all_there : (ps : List CodedPart) → AllThere (length (flat part_bytes ps)) ps
unfolding flat
all_there ps = ⊎_elim (λ a. a) none (all_or_cut (length (flat part_bytes ps)) ps)
  where
    none : CutIn (length (flat part_bytes ps)) ps → AllThere (length (flat part_bytes ps)) ps
    none c =
        let w : List CodedPart = whole_in (length (flat part_bytes ps)) ps in
        absurd (omega (
          arith,
          c.short,
          c.bytes,
          ap (λ x. length (flat part_bytes x)) c.parts,
          ap length (flat_append part_bytes w (c.q ∷ c.later)),
          length-append (flat part_bytes w) (part_bytes c.q ++ flat part_bytes c.later),
          length-append (part_bytes c.q) (flat part_bytes c.later),
        ))

module _ {s : List ℕ} {r p : ℕ} {out : List ℕ} {answer : Served} {out' : List ℕ} (v : Serving s r p out answer out')
    (e : answer.verdict ≡ Accepted) where
  abbrev portion : Portion
  portion = record { bytes = take answer.length out'; tail = answer.tail }

  pub serving_wrote : (serving s r p (length out) ≡ accepted portion) × (answer.length ≤ length out')
  serving_wrote =
      let y : Result Portion = serving s r p (length out) in
      subst₂ (λ (a : Served) o. (y ≡ accepted (record { bytes = take a.length o; tail = a.tail })) × (a.length ≤ length o))
      (sym v.answers) (sym v.writes) (served_stands (length out) y (ap (λ a. a.verdict) (sym v.answers) ∙ e))

  module _ {z : Size} {planes : ℕ} {pyramid : List ℤ} {bytes : List ℕ} (w : Recorded z planes pyramid bytes) (x : Selected bytes s) where
    abbrev ask : List CodedPart
    ask = kept (asked r p) (whole_parts x)

    serving_is : record { bytes = record_bytes z planes ask; tail = cut_bytes x } ≡ portion
    serving_is = served_read (selected_reads w x) w.codable.legal_size_lem w.count.few r p (length out) portion serving_wrote.0

    served_selected : Selected s (take answer.length out')
    unfolding arrived
    served_selected =
        let front : ℕ = length (header_bytes z planes) in
        let all : take (front + length (flat part_bytes ask)) (record_bytes z planes ask) ≡ record_bytes z planes ask
        = take_all (front + length (flat part_bytes ask)) (record_bytes z planes ask)
        (omega (arith, length-append (header_bytes z planes) (flat part_bytes ask))) in
        record {
          head = header_of z planes;
          read = header_read (selected_reads w x) w.codable.legal_size_lem w.count.few;
          keep = asked r p;
          more = length (flat part_bytes ask);
          made =
              ap (λ y. y.bytes) (sym serving_is) ∙ sym all ∙ sym (made_arrived (selected_reads w x) (asked r p) (length (flat part_bytes ask)));
        }

    pub serving_serves : Serves x r p (take answer.length out') answer.tail
    unfolding served_selected
    serving_serves =
        let again = selected_again w x served_selected in
        let parts : parts_in (header_of z planes) s ≡ whole_parts x = parts_in_lem (selected_reads w x) in
        let n : ℕ = length (flat part_bytes ask) in
        record {
          again = again.0;
          parts = again.1 ∙ ap (λ ps. whole_in n (kept (asked r p) ps)) parts ∙ (all_there ask).parts;
          uncut = again.2 ∙ ap (λ ps. tail_in n (kept (asked r p) ps)) parts ∙ (all_there ask).none;
          told = sym (ap (λ y. y.tail) serving_is);
        }

-- With a legal request, and room for as much as there is, it is served.
kept_fewer : (keep : PartName → Bool) (ps : List CodedPart) → length (flat part_bytes (kept keep ps)) ≤ length (flat part_bytes ps)
unfolding flat selection
kept_fewer keep [] = omega arith
kept_fewer keep (p ∷ ps) = by (keep p.name) (kept_fewer keep ps)
  where
    by : (b : Bool) → length (flat part_bytes (kept keep ps)) ≤ length (flat part_bytes ps)
        → length (flat part_bytes (cond b (p ∷ kept keep ps) (kept keep ps))) ≤ length (part_bytes p ++ flat part_bytes ps)
    by true l = omega (arith, length-append (part_bytes p) (flat part_bytes (kept keep ps)), length-append (part_bytes p) (flat part_bytes ps))
    by false l = omega (arith, length-append (part_bytes p) (flat part_bytes ps))

module _ {s : List ℕ} {r p : ℕ} {out : List ℕ} {answer : Served} {out' : List ℕ} (v : Serving s r p out answer out') {z : Size} {planes : ℕ} {pyramid : List ℤ}
    {bytes : List ℕ} (w : Recorded z planes pyramid bytes) (x : Selected bytes s) where
  pub serving_accepts : 1 ≤ r → r ≤ levels z → p ≤ planes → length s ≤ length out → answer.verdict ≡ Accepted
  unfolding serve_answer legal_ask unless portioned
  serving_accepts a b few room =
      let ask : List CodedPart = kept (asked r p) (whole_parts x) in
      let reads : ReadsAs z planes (whole_parts x) (cut_bytes x) s = selected_reads w x in
      let fits : length (record_bytes z planes ask) ≤ length out
      = omega (
        arith,
        kept_fewer (asked r p) (whole_parts x),
        ap length reads.stand,
        length-append (header_bytes z planes) (flat part_bytes (whole_parts x) ++ reads.rest),
        length-append (flat part_bytes (whole_parts x)) reads.rest,
        length-append (header_bytes z planes) (flat part_bytes ask),
      ) in
      let served : serving s r p (length out) ≡ accepted (record { bytes = record_bytes z planes ask; tail = cut_bytes x })
      = serves_read reads w.codable.legal_size_lem w.count.few r p (length out)
      ∙ rw (le-leb 1 r a, le-leb r (levels z) b, le-leb p planes few, le-leb (length (record_bytes z planes ask)) (length out) fits) in
      ap (λ a. a.verdict) v.answers ∙ ap (λ y. (serve_answer y).verdict) served

-- Decoding.
module _ {z : Size} {planes : ℕ} {pyramid : List ℤ} {bytes : List ℕ} (w : Recorded z planes pyramid bytes) {s : List ℕ} (x : Selected bytes s) where
  selected_rounded : (room work : ℕ) → Stated z room work
      → Rounded z planes pyramid (names (whole_parts x)) (names (cut_parts x)) (cut_bytes x) (decoding s room work)
  selected_rounded room work sizes =
      subst (λ t. Rounded z planes pyramid (names (whole_parts x)) (names (cut_parts x)) (cut_bytes x) (decoding t room work)) (sym (s_is w x))
      (rw (whole_is w x, cut_parts_are w x, cut_is w x) (demand3 w.codable w.count room work sizes x.keep x.more))

  module _ {out : List ℤ} {work : List ℕ} {answer : Decoded} {out' : List ℤ} {work' : List ℕ} (d : Decoding s out work answer out' work')
      (sizes : Stated z (length out) (length work)) where
    abbrev rounded : Rounded z planes pyramid (names (whole_parts x)) (names (cut_parts x)) (cut_bytes x) (decoding s (length out) (length work))
    rounded = selected_rounded (length out) (length work) sizes

    abbrev its_picture : Picture
    its_picture = rounded.picture

    decoding_answered : answer
        ≡ record { verdict = Accepted; tail = its_picture.tail; reached = its_picture.reached; skipped = its_picture.skipped }
    unfolding decode_answer
    decoding_answered = d.answers ∙ ap decode_answer rounded.accepts

    decoding_printed : out' ≡ its_picture.pyramid
    unfolding decode_out
    decoding_printed = d.writes ∙ ap (decode_out (length out)) rounded.accepts

    pub decoding_decodes : Decodes z planes pyramid (names (whole_parts x)) (names (cut_parts x)) (cut_bytes x)
        (verdict_number answer.verdict) (verdict_place answer.verdict)
        answer.tail (planes_answered answer) (counts_answered answer) out' work work'
    decoding_decodes =
        subst₂ (λ (a : Decoded) o. Decodes z planes pyramid (names (whole_parts x)) (names (cut_parts x)) (cut_bytes x)
        (verdict_number a.verdict) (verdict_place a.verdict)
        a.tail (planes_answered a) (counts_answered a) o work work') (sym decoding_answered) (sym decoding_printed)
        (record {
          accepts = refl;
          nowhere = refl;
          sized = rounded.sized;
          rounded_at = rounded.plane;
          rounds = λ q l.
              subst (λ (m : ℕ). RoundedAt (names (cut_parts x)) (level_of z q) m (rounded.plane q)) (sym (level_told q l)) (rounded.rounds q l);
          values = rounded.values;
          near = printed_near w.codable rounded;
          reports = rounded.reports;
          beyond = rounded.beyond;
          shows = λ n k named lost j a b.
              subst (λ m. n < m) (sym (rounded.reports j a (omega (arith, named.up_to))))
              (loss_shows (levels z) planes (names (whole_parts x)) n k named lost j b);
          skips = rounded.skips;
          used_and_skipped = rounded.used_and_skipped;
          skips_beyond = rounded.skips_beyond;
          tails = rounded.tail;
          clears = d.clears;
        })
      where
        level_told : (q : ℕ) → q < area z
            → plane_in its_picture.reached (level_of z q - 1) ≡ reached (levels z) planes (names (whole_parts x)) (level_of z q)
        level_told q l = rounded.reports (level_of z q) (level_least z (legal z w.codable.legal_size_lem) q l) (level_most z q)

-- The exports: each does what its routine does, and its answer stands in the slice lent for it.
module _ {pyramid : List ℤ} {z : Size} {out work answer out' work' answer' : List ℕ} (x : AfsCode pyramid z out work answer 0 out' work' answer') where
  pub afs_code_recorded : Recorded z (planes_in pyramid) pyramid (take (get_or answer' 2 0) out') × (get_or answer' 2 0 ≤ length out')
  unfolding code_numbers
  afs_code_recorded = by (dec_le code_places (length answer))
    where
      by : Dec (code_places ≤ length answer) → Recorded z (planes_in pyramid) pyramid (take (get_or answer' 2 0) out') × (get_or answer' 2 0 ≤ length out')
      by (no l) = absurd (omega (arith, (afs_code_short x (omega arith)).0))
      by (yes l) =
          let c = afs_code_codes x l in
          let e = number_accepts c.0.verdict (sym c.2) in
          subst (λ a. Recorded z (planes_in pyramid) pyramid (take (get_or a 2 0) out') × (get_or a 2 0 ≤ length out')) (sym c.3)
          (coding_recorded c.1 e, (coding_wrote c.1 e).1)

module _ {s : List ℕ} {r p : ℕ} {out answer out' answer' : List ℕ} (v : AfsServe s r p out answer 0 out' answer') {z : Size} {planes : ℕ} {pyramid : List ℤ}
    {bytes : List ℕ} (w : Recorded z planes pyramid bytes) (x : Selected bytes s) where
  pub afs_serve_selects : Serves x r p (take (get_or answer' 2 0) out') (get_or answer' 3 0) × (get_or answer' 2 0 ≤ length out')
  unfolding serve_numbers
  afs_serve_selects = by (dec_le serve_places (length answer))
    where
      by : Dec (serve_places ≤ length answer) → Serves x r p (take (get_or answer' 2 0) out') (get_or answer' 3 0) × (get_or answer' 2 0 ≤ length out')
      by (no l) = absurd (omega (arith, (afs_serve_short v (omega arith)).0))
      by (yes l) =
          let c = afs_serve_serves v l in
          let e = number_accepts c.0.verdict (sym c.2) in
          subst (λ a. Serves x r p (take (get_or a 2 0) out') (get_or a 3 0) × (get_or a 2 0 ≤ length out')) (sym c.3)
          (serving_serves c.1 e w x, (serving_wrote c.1 e).1)

-- What is told of the levels, place by place, and behind the last place 0.
told_place : (f : ℕ → ℕ) (i : ℕ) → (level_places ≤ i → f i ≡ 0) → get_or (map f (from 0 level_places)) i 0 ≡ f i
told_place f i past = by (dec_lt i level_places)
  where
    by : Dec (i < level_places) → get_or (map f (from 0 level_places)) i 0 ≡ f i
    by (yes l) = let e : 0 + i ≡ i = omega arith in map_from f 0 0 level_places i l ∙ ap f e
    by (no l) =
        get_or-eq_default (map f (from 0 level_places)) 0 {n = i} (omega (arith, map_length f 0 level_places)) ∙ sym (past (omega arith))

module _ (a : Decoded) (rest : List ℕ) (k : ℕ) where
  told_plane : (level_places ≤ k - 1 → plane_in a.reached (k - 1) ≡ 0) → planes_told (decode_numbers a ++ rest) k ≡ planes_answered a k
  unfolding decode_numbers from
  told_plane past = unfold from in told_place (plane_in a.reached) (k - 1) past

  told_count : (level_places ≤ k - 1 → count_in a.skipped (k - 1) ≡ 0) → counts_told (decode_numbers a ++ rest) k ≡ counts_answered a k
  unfolding decode_numbers from
  told_count past = unfold from in told_place (count_in a.skipped) (k - 1) past

module _ {z : Size} {planes : ℕ} {pyramid : List ℤ} {bytes : List ℕ} (w : Recorded z planes pyramid bytes) {s : List ℕ} (x : Selected bytes s) {out : List ℤ}
    {work answer : List ℕ} {number : ℕ} {out' : List ℤ} {work' answer' : List ℕ} (d : AfsDecode s out work answer number out' work' answer')
    (sizes : Stated z (length out) (length work)) (places : decode_places ≤ length answer) where
  pub afs_decode_prints : Decodes z planes pyramid (names (whole_parts x)) (names (cut_parts x)) (cut_bytes x)
      number (get_or answer' 1 0) (get_or answer' 2 0) (planes_told answer')
      (counts_told answer') out' work work'
  unfolding decode_numbers
  afs_decode_prints =
      let a = afs_decode_decodes d places in
      let y = decoding_decodes w x a.1 sizes in
      let few : levels z ≤ level_places = omega (arith, (legal z w.codable.legal_size_lem).few) in
      let rest : List ℕ = zeros (length answer - decode_places) in
      let planes-told : (k : ℕ) → planes_told (decode_numbers a.0 ++ rest) k ≡ planes_answered a.0 k
      = λ k. told_plane a.0 rest k (λ l. y.beyond k (omega arith)) in
      let counts-told : (k : ℕ) → counts_told (decode_numbers a.0 ++ rest) k ≡ counts_answered a.0 k
      = λ k. told_count a.0 rest k (λ l. y.skips_beyond k (omega arith)) in
      subst₂ (λ (n : ℕ) (t : List ℕ).
      Decodes z planes pyramid (names (whole_parts x)) (names (cut_parts x)) (cut_bytes x)
      n (get_or t 1 0) (get_or t 2 0) (planes_told t) (counts_told t) out' work work')
      (sym a.2) (sym a.3)
      (subst₂ (λ (f g : ℕ → ℕ).
      Decodes z planes pyramid (names (whole_parts x)) (names (cut_parts x)) (cut_bytes x)
      (verdict_number a.0.verdict) (verdict_place a.0.verdict) a.0.tail f g out'
      work work')
      (λ i k. sym (planes-told k) i) (λ i k. sym (counts-told k) i) y)

-- What holds of every selection of the record holds of a selection of one.
module _ {z : Size} {planes : ℕ} {pyramid : List ℤ} {bytes s t : List ℕ} (w : Recorded z planes pyramid bytes) (x : Selected bytes s) (y : Selected s t) where
  holds_again : (P : List PartName → List PartName → ℕ → Type 0)
      → ((u : Selected bytes t) → P (names (whole_parts u)) (names (cut_parts u)) (cut_bytes u)) → P (names (whole_parts y)) (names (cut_parts y)) (cut_bytes y)
  holds_again P each =
      let again = selected_again w x y in
      subst (λ c. P (names (whole_parts y)) (names c) (cut_bytes y)) again.3
      (subst₂ (λ ps n. P (names ps) (names (cut_parts again.0)) n) again.1 again.2 (each again.0))

  pub decoding_again : {out : List ℤ} {work : List ℕ} {answer : Decoded} {out' : List ℤ} {work' : List ℕ} → Decoding t out work answer out' work'
      → Stated z (length out) (length work)
      → Decodes z planes pyramid (names (whole_parts y)) (names (cut_parts y)) (cut_bytes y)
      (verdict_number answer.verdict) (verdict_place answer.verdict) answer.tail
      (planes_answered answer) (counts_answered answer) out' work work'
  decoding_again {work = work} {answer = a} {out' = out'} {work' = work'} d sizes =
      holds_again (λ ps c n.
      Decodes z planes pyramid ps c n (verdict_number a.verdict) (verdict_place a.verdict) a.tail (planes_answered a) (counts_answered a) out'
      work work') (λ u. decoding_decodes w u d sizes)

  pub afs_decode_again : {out : List ℤ} {work answer : List ℕ} {number : ℕ} {out' : List ℤ} {work' answer' : List ℕ}
      → AfsDecode t out work answer number out' work' answer' → Stated z (length out) (length work) → decode_places ≤ length answer
      → Decodes z planes pyramid (names (whole_parts y)) (names (cut_parts y)) (cut_bytes y) number (get_or answer' 1 0) (get_or answer' 2 0)
      (planes_told answer')
      (counts_told answer') out' work work'
  afs_decode_again {work = work} {number = number} {out' = out'} {work' = work'} {answer' = answer'} d sizes places =
      holds_again (λ ps c n.
      Decodes z planes pyramid ps c n number (get_or answer' 1 0) (get_or answer' 2 0) (planes_told answer') (counts_told answer') out' work work') (λ u.
      afs_decode_prints w u d sizes places)

-- With nothing left out and nothing cut.
no_planes : List Plane
no_planes = replicate level_places (record { 0 = 0 })

blank_answer : Decoded
blank_answer = record { verdict = Accepted; tail = 0; reached = no_planes; skipped = zeros level_places }

module _ {z : Size} {planes : ℕ} {pyramid : List ℤ} {bytes : List ℕ} (w : Recorded z planes pyramid bytes) {out : List ℤ} {work : List ℕ} {answer : Decoded}
    {out' : List ℤ} {work' : List ℕ} (d : Decoding bytes out work answer out' work') (sizes : Stated z (length out) (length work)) where
  whole_decoded : decoding bytes (length out) (length work)
      ≡ accepted (record { pyramid = pyramid; tail = 0; reached = no_planes; skipped = zeros level_places })
  unfolding no_planes
  whole_decoded = ap (λ b. decoding b (length out) (length work)) w.its_bytes ∙ demand2_whole w.codable w.count (length out) (length work) sizes

  whole_answered : answer ≡ blank_answer
  unfolding decode_answer blank_answer
  whole_answered = d.answers ∙ ap decode_answer whole_decoded

  whole_printed : out' ≡ pyramid
  unfolding decode_out
  whole_printed = d.writes ∙ ap (decode_out (length out)) whole_decoded

  whole_planes : (k : ℕ) → planes_answered answer k ≡ 0
  unfolding plane_in blank_answer no_planes
  whole_planes k = ap (λ a. planes_answered a k) whole_answered ∙ ap (λ (p : Plane). p.0) (blank_same (record { 0 = 0 }) level_places (k - 1))

  whole_counts : (k : ℕ) → counts_answered answer k ≡ 0
  unfolding count_in blank_answer
  whole_counts k = ap (λ a. counts_answered a k) whole_answered ∙ blank_same 0 level_places (k - 1)

  pub decoding_whole : (answer.verdict ≡ Accepted) × (out' ≡ pyramid) × (answer.tail ≡ 0) × ((k : ℕ) → planes_answered answer k ≡ 0)
      × ((k : ℕ) → counts_answered answer k ≡ 0) × (work' ≡ zeros (length work))
  unfolding blank_answer
  decoding_whole =
      (ap (λ a. a.verdict) whole_answered, whole_printed, ap (λ a. a.tail) whole_answered, whole_planes, whole_counts, d.clears)

module _ {z : Size} {planes : ℕ} {pyramid : List ℤ} {bytes : List ℕ} (w : Recorded z planes pyramid bytes) {out : List ℤ} {work answer : List ℕ} {number : ℕ}
    {out' : List ℤ} {work' answer' : List ℕ} (d : AfsDecode bytes out work answer number out' work' answer')
    (sizes : Stated z (length out) (length work)) (places : decode_places ≤ length answer) where
  blank_numbers : decode_numbers blank_answer ≡ zeros decode_places
  unfolding decode_numbers blank_answer no_planes plane_in count_in from
  blank_numbers = refl

  pub afs_decode_whole : (number ≡ 0) × (out' ≡ pyramid) × (answer' ≡ zeros (length answer)) × (work' ≡ zeros (length work))
  unfolding blank_answer
  afs_decode_whole =
      let a = afs_decode_decodes d places in
      let more : ℕ = length answer - decode_places in
      let e : a.0 ≡ blank_answer = whole_answered w a.1 sizes in
      let all : decode_places + more ≡ length answer = omega arith in (
        a.2 ∙ ap (λ (b : Decoded). verdict_number b.verdict) e,
        whole_printed w a.1 sizes,
        a.3 ∙ ap (λ b. b ++ zeros more) (ap decode_numbers e ∙ blank_numbers) ∙ replicate-append-replicate decode_places more 0 ∙ ap zeros all,
        d.clears,
      )

pub afs_code_accepts : {pyramid : List ℤ} {z : Size} {out work answer : List ℕ} {number : ℕ} {out' work' answer' : List ℕ}
    → AfsCode pyramid z out work answer number out' work' answer' → Codable z pyramid → enough_room z ≤ length out → work_for z ≤ length work
    → code_places ≤ length answer → number ≡ 0
afs_code_accepts x c room enough places =
    let a = afs_code_codes x places in a.2 ∙ ap verdict_number (coding_accepts a.1 c room enough)

pub afs_serve_accepts : {s : List ℕ} {r p : ℕ} {out answer : List ℕ} {number : ℕ} {out' answer' : List ℕ} → AfsServe s r p out answer number out' answer'
    → {z : Size} {planes : ℕ} {pyramid : List ℤ} {bytes : List ℕ} → Recorded z planes pyramid bytes → Selected bytes s → 1 ≤ r → r ≤ levels z → p ≤ planes
    → length s ≤ length out → serve_places ≤ length answer → number ≡ 0
afs_serve_accepts v w x a b few room places =
    let c = afs_serve_serves v places in c.2 ∙ ap verdict_number (serving_accepts c.1 w x a b few room)
