-- What arrives of a record: some of its parts, the last of them cut perhaps. Those that are whole are again a selection of the record's parts.
use Rattle.std.specs.Prelude.{◌≡◌, refl, Bool, true, false, cond, ◌&&◌, ◌⊎◌, ℕ, ◌+◌, ◌-◌, ◌≤◌, leb, take, Ok}
use Rattle.std.proofs.Math.Path.{ap, ap₂}
use Rattle.std.proofs.Common.{sym, ◌∙◌, subst, inl, inr, arith, take_all, length-take-le, leb-true, leb-false}
use mathlib.Core.List.{List, [], ◌∷◌, ◌++◌, map-append, append_assoc, append-nil}
use Rattle.std.proofs.Math.Logic.{⊎_elim}
use Rattle.std.proofs.Math.ListN.{length, drop, length-append}
use Rattle.std.proofs.Math.Seq.{take-append-add, drop-append_seam}
use Rattle.rules.specs.declared.Size.{Size}
use Rattle.rules.specs.declared.Header.{Header}
use Rattle.rules.specs.declared.Piece.TheVariants as part
use Rattle.rules.specs.Document.Notation.{flat}
use Rattle.rules.specs.Document.Pyramid.{most_planes, legal_size}
use Rattle.rules.specs.Document.Passes.{PartName}
use Rattle.rules.specs.Document.Layout.{header_bytes, CodedPart, part_bytes}
use Rattle.rules.specs.Document.Numbers.{read_header, follows, tail, read_parts, behind, top_level}
use Rattle.rules.specs.Promises.Vocabulary.{Named, ReadsAs, names, kept, whole_in, tail_in, cut_in, arrived, header_of, record_bytes, parts_at, selection}
use Rattle.rules.proofs.Laws.Counting.Booleans.{not_test, selection_both}
use Rattle.rules.specs.Laws.Counting.Sums.{All}
use Rattle.rules.proofs.Laws.Counting.Sums.{all_then, map_all}
use Rattle.rules.specs.Laws.Reading.Parts.{InOrder, After}
use Rattle.rules.proofs.Laws.Reading.Parts.{follows_after, after_follows, order_front, order_behind, legal_head_lem}
use Rattle.rules.specs.Laws.Bytes.PartBack.{cut_at}
use Rattle.rules.proofs.Laws.Bytes.PartBack.{reads_header}
use Rattle.rules.specs.Laws.Bytes.RecordBack.{before_all, LegalParts}
use Rattle.rules.proofs.Laws.Bytes.RecordBack.{cut-bytes, reads_record, uncut_behind, reads_cut_record, behind_cut_record}
use Rattle.rules.specs.Laws.Rounding.Arrival.{AllThere, CutIn}

pub all_or_cut : (n : ℕ) (ps : List CodedPart) → AllThere n ps ⊎ CutIn n ps
unfolding whole_in tail_in cut_in flat
all_or_cut n [] = inl (record { parts = refl; none = refl; uncut = refl; bytes = omega arith })
all_or_cut n (p ∷ ps) = by (leb (length (part_bytes p)) n) refl (all_or_cut (n - length (part_bytes p)) ps)
  where
    all : List ℕ
    all = part_bytes p ++ flat part_bytes ps

    by : (b : Bool) → leb (length (part_bytes p)) n ≡ b → AllThere (n - length (part_bytes p)) ps ⊎ CutIn (n - length (part_bytes p)) ps
        → AllThere n (p ∷ ps) ⊎ CutIn n (p ∷ ps)
    by true e (inl t) =
        inl (record {
          parts = rw e (ap (λ x. p ∷ x) t.parts);
          none = rw e t.none;
          uncut = rw e t.uncut;
          bytes = omega (arith, t.bytes, length-append (part_bytes p) (flat part_bytes ps), leb-true (length (part_bytes p)) n e);
        })
    by true e (inr c) =
        let w : List CodedPart = whole_in (n - length (part_bytes p)) ps in
        inr (record {
          q = c.q;
          later = c.later;
          parts = rw e (ap (λ x. p ∷ x) c.parts);
          short = rw e c.short;
          cut = rw e c.cut;
          bytes = rw e (omega (arith, c.bytes, length-append (part_bytes p) (flat part_bytes w), leb-true (length (part_bytes p)) n e));
        })
    by false e r =
        inr (record { q = p; later = ps; parts = rw e; short = rw e (leb-false (length (part_bytes p)) n e); cut = rw e; bytes = rw e (omega arith) })

module _ {z : Size} {planes : ℕ} {ps : List CodedPart} {cut : ℕ} {bytes : List ℕ} (r : ReadsAs z planes ps cut bytes) where
  pub header_read : legal_size z ≡ true → planes ≤ most_planes → read_header bytes ≡ Ok (header_of z planes)
  header_read ok l = ap read_header r.stand ∙ reads_header z planes (flat part_bytes ps ++ r.rest) ok l

  pub parts_stand : drop (length (header_bytes z planes)) bytes ≡ flat part_bytes ps ++ r.rest
  parts_stand = ap (drop (length (header_bytes z planes))) r.stand ∙ drop-append_seam (header_bytes z planes) (flat part_bytes ps ++ r.rest)

-- Where nothing is left behind the parts, nothing stands there.
pub none_behind : {z : Size} {planes : ℕ} {ps : List CodedPart} {bytes : List ℕ} → ReadsAs z planes ps 0 bytes → legal_size z ≡ true → planes ≤ most_planes
    → LegalParts (header_of z planes) (before_all planes) ps → behind (header_of z planes) bytes (parts_at (length (header_bytes z planes)) ps) ≡ Ok part.Tail
none_behind {z} {planes} {ps} r ok l legal-ps =
    ap (λ x. behind (header_of z planes) x (parts_at (length (header_bytes z planes)) ps))
    (r.stand ∙ ap (λ x. header_bytes z planes ++ (flat part_bytes ps ++ x)) (no_length r.rest r.left))
    ∙ uncut_behind z planes ok l ps legal-ps
  where
    no_length : (xs : List ℕ) → length xs ≡ 0 → xs ≡ []
    no_length [] e = refl
    no_length (x ∷ xs) e = absurd (omega arith)

-- What arrived reads as the parts that are whole in it, with a tail of what is there of one more.
arrived_stands : (n : ℕ) (ps : List CodedPart)
    → (rest : List ℕ) × (take n (flat part_bytes ps) ≡ flat part_bytes (whole_in n ps) ++ rest) × (length rest ≡ tail_in n ps)
unfolding whole_in tail_in flat
arrived_stands n [] = ([], take_all n [] (omega arith), refl)
arrived_stands n (p ∷ ps) = by (leb (length (part_bytes p)) n) refl (arrived_stands (n - length (part_bytes p)) ps)
  where
    len : ℕ
    len = length (part_bytes p)

    by : (b : Bool) → leb (length (part_bytes p)) n ≡ b
        → (rest : List ℕ) × (take (n - len) (flat part_bytes ps) ≡ flat part_bytes (whole_in (n - len) ps) ++ rest) × (length rest ≡ tail_in (n - len) ps)
        → (rest : List ℕ) × (take n (part_bytes p ++ flat part_bytes ps) ≡ flat part_bytes (cond b (p ∷ whole_in (n - len) ps) []) ++ rest)
        × (length rest ≡ cond b (tail_in (n - len) ps) n)
    by false e r =
        let short : n ≤ length (part_bytes p ++ flat part_bytes ps)
        = omega (arith, leb-false len n e, length-append (part_bytes p) (flat part_bytes ps)) in
        (take n (part_bytes p ++ flat part_bytes ps), refl, length-take-le n (part_bytes p ++ flat part_bytes ps) short)
    by true e r =
        let m : n ≡ len + (n - len) = omega (arith, leb-true len n e) in (
          r.0,
          ap (λ (i : ℕ). take i (part_bytes p ++ flat part_bytes ps)) m
              ∙ take-append-add (part_bytes p) (flat part_bytes ps) (n - len)
              ∙ ap (λ x. part_bytes p ++ x) r.1
              ∙ sym (append_assoc (part_bytes p) (flat part_bytes (whole_in (n - len) ps)) r.0),
          r.2,
        )

module _ (z : Size) (planes : ℕ) (ps : List CodedPart) (ok : legal_size z ≡ true) (l : planes ≤ most_planes)
    (legal-ps : LegalParts (header_of z planes) (before_all planes) ps) where
  pub record_reads : ReadsAs z planes ps 0 (record_bytes z planes ps)
  record_reads =
      record {
        rest = [];
        stand = ap (λ x. header_bytes z planes ++ x) (sym (append-nil (flat part_bytes ps)));
        left = refl;
        parts_read = reads_record z planes ok l ps legal-ps;
      }

  module _ (n : ℕ) where
    abbrev front : ℕ
    front = length (header_bytes z planes)

    abbrev Read : Type 0
    Read =
        read_parts (header_of z planes) (arrived z planes ps n) ≡ record { parts = parts_at front (whole_in n ps); ending = tail (tail_in n ps) }

    reads_all : AllThere n ps → Read
    unfolding arrived
    reads_all t =
        ap (read_parts (header_of z planes))
        (take_all (front + n) (record_bytes z planes ps) (omega (arith, t.bytes, length-append (header_bytes z planes) (flat part_bytes ps))))
        ∙ reads_record z planes ok l ps legal-ps
        ∙ ap₂ (λ x c. record { parts = parts_at front x; ending = tail c }) (sym t.parts) (sym t.none)

    reads_cut : CutIn n ps → Read
    unfolding arrived
    reads_cut c =
        let w : List CodedPart = whole_in n ps in
        let m : front + n ≡ length (record_bytes z planes w) + tail_in n ps
        = omega (arith, c.bytes, length-append (header_bytes z planes) (flat part_bytes w)) in
        ap₂ (λ i x. read_parts (header_of z planes) (take i (record_bytes z planes x))) m c.parts
        ∙ reads_cut_record z planes ok l w c.q c.later (subst (LegalParts (header_of z planes) (before_all planes)) c.parts legal-ps)
        (tail_in n ps) c.short

    pub arrived_reads : ReadsAs z planes (whole_in n ps) (tail_in n ps) (arrived z planes ps n)
    unfolding arrived
    arrived_reads =
        record {
          rest = (arrived_stands n ps).0;
          stand =
              take-append-add (header_bytes z planes) (flat part_bytes ps) n ∙ ap (λ x. header_bytes z planes ++ x) (arrived_stands n ps).1;
          left = (arrived_stands n ps).2;
          parts_read = ⊎_elim reads_all reads_cut (all_or_cut n ps);
        }

    -- and what stands behind them where a part is cut
    pub cut_stands : (c : CutIn n ps)
        → drop (length (header_bytes z planes) + length (flat part_bytes (whole_in n ps))) (arrived z planes ps n) ≡ take (tail_in n ps) (part_bytes c.q)
    unfolding arrived
    cut_stands c =
        let w : List CodedPart = whole_in n ps in
        let m : front + n ≡ length (record_bytes z planes w) + tail_in n ps
        = omega (arith, c.bytes, length-append (header_bytes z planes) (flat part_bytes w)) in
        ap₂ (λ i x. drop (front + length (flat part_bytes w)) (take i (record_bytes z planes x))) m c.parts
        ∙ ap₂ drop (sym (length-append (header_bytes z planes) (flat part_bytes w)))
        (cut-bytes z planes w c.q c.later (tail_in n ps) (omega (arith, c.short)))
        ∙ drop-append_seam (record_bytes z planes w) (take (tail_in n ps) (part_bytes c.q))

    pub cut_behind : (c : CutIn n ps)
        → behind (header_of z planes) (arrived z planes ps n) (parts_at (length (header_bytes z planes)) (whole_in n ps))
        ≡ cut_at (length (header_bytes z planes) + length (flat part_bytes (whole_in n ps))) (tail_in n ps) c.q
    unfolding arrived
    cut_behind c =
        let w : List CodedPart = whole_in n ps in
        let m : front + n ≡ length (record_bytes z planes w) + tail_in n ps
        = omega (arith, c.bytes, length-append (header_bytes z planes) (flat part_bytes w)) in
        ap₂ (λ i x. behind (header_of z planes) (take i (record_bytes z planes x)) (parts_at front w)) m c.parts
        ∙ behind_cut_record z planes ok l w c.q c.later (subst (LegalParts (header_of z planes) (before_all planes)) c.parts legal-ps)
        (tail_in n ps) c.short

-- Selections of lists put together, of all and of none.
selection_append : (t : CodedPart → Bool) (xs ys : List CodedPart) → selection t (xs ++ ys) ≡ selection t xs ++ selection t ys
unfolding selection
selection_append t [] ys = refl
selection_append t (x ∷ xs) ys = by (t x) (selection_append t xs ys)
  where
    by : (b : Bool) → selection t (xs ++ ys) ≡ selection t xs ++ selection t ys
        → cond b (x ∷ selection t (xs ++ ys)) (selection t (xs ++ ys)) ≡ cond b (x ∷ selection t xs) (selection t xs) ++ selection t ys
    by true e = ap (λ l. x ∷ l) e
    by false e = e

pub selection_all : (t : CodedPart → Bool) (ps : List CodedPart) → All (λ p. t p ≡ true) ps → selection t ps ≡ ps
unfolding selection All
selection_all t [] a = refl
selection_all t (p ∷ ps) a = rw a.0 (ap (λ l. p ∷ l) (selection_all t ps a.1))

selection_none : (t : CodedPart → Bool) (ps : List CodedPart) → All (λ p. t p ≡ false) ps → selection t ps ≡ []
unfolding selection All
selection_none t [] a = refl
selection_none t (p ∷ ps) a = rw a.0 (selection_none t ps a.1)

-- The parts that are whole are a selection by name: where one is cut, it and all behind it are struck out.
not_behind : (a b : PartName) → After b a → follows a b ≡ false
not_behind a b x =
    not_test _ (λ f. let y : After a b = follows_after a b f in omega (arith, x.in_plane y.downward, y.in_plane x.downward))

not_itself : (a : PartName) → follows a a ≡ false
not_itself a = not_test _ (λ f. let y : After a a = follows_after a a f in omega (arith, y.in_plane (omega arith)))

kept_earlier : (before : PartName) (w : List CodedPart) (q : CodedPart) (later : List CodedPart) → InOrder before (names (w ++ q ∷ later))
    → kept (λ p. follows p q.name) (w ++ q ∷ later) ≡ w
unfolding All
kept_earlier before w q later order =
    let o : InOrder before (names w ++ q.name ∷ names later) = subst (InOrder before) (map-append (λ p. p.name) w (q ∷ later)) order in
    let front : All (λ p. follows p q.name ≡ true) (names w)
    = all_then _ _ (names w) (λ x a. after_follows x q.name a) (order_front q.name (names later) before (names w) o) in
    let behind : All (λ p. follows p q.name ≡ false) (names later)
    = all_then _ _ (names later) (λ x a. not_behind x q.name a) (order_behind q.name (names later) before (names w) o) in
    selection_append (λ p. follows p.name q.name) w (q ∷ later)
    ∙ ap₂ (λ x y. x ++ y)
    (selection_all _ w (map_all _ (λ p. p.name) w front))
    (selection_none _ (q ∷ later) (not_itself q.name, map_all _ (λ p. p.name) later behind))
    ∙ append-nil w

pub arrived_selection : (keep : PartName → Bool) (n : ℕ) (before : PartName) (ps : List CodedPart) → InOrder before (names (kept keep ps))
    → (left : PartName → Bool) × (kept left ps ≡ whole_in n (kept keep ps))
arrived_selection keep n before ps order = ⊎_elim there cut (all_or_cut n (kept keep ps))
  where
    there : AllThere n (kept keep ps) → (left : PartName → Bool) × (kept left ps ≡ whole_in n (kept keep ps))
    there t = (keep, sym t.parts)

    cut : CutIn n (kept keep ps) → (left : PartName → Bool) × (kept left ps ≡ whole_in n (kept keep ps))
    cut c = (
      λ p. keep p && follows p c.q.name,
      selection_both (λ p. keep p.name) (λ p. follows p.name c.q.name) ps
          ∙ ap (kept (λ p. follows p c.q.name)) c.parts
          ∙ kept_earlier before (whole_in n (kept keep ps)) c.q c.later (subst (λ x. InOrder before (names x)) c.parts order),
    )

-- Parts that may stand in a record are in order, and each is one that the record may have.
pub legal_order : (h : Header) (before : PartName) (ps : List CodedPart) → LegalParts h before ps → InOrder before (names ps)
unfolding LegalParts InOrder
legal_order h before [] ok = tt
legal_order h before (p ∷ ps) ok = ((legal_head_lem h before p.name (length p.bits) ok.0).in_order, legal_order h p.name ps ok.1)

pub legal_named : (h : Header) (before : PartName) (ps : List CodedPart) → LegalParts h before ps → All (Named (top_level h) h.planes) (names ps)
unfolding LegalParts All
legal_named h before [] ok = tt
legal_named h before (p ∷ ps) ok = ((legal_head_lem h before p.name (length p.bits) ok.0).named, legal_named h p.name ps ok.1)
