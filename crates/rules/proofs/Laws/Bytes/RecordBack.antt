-- The parts of a record, or of any selection of them, read back, whole or cut.
use Rattle.std.specs.Prelude.{◌≡◌, refl, List, [], ◌∷◌, ◌++◌, map, Bool, true, false, cond, ℕ, zero, suc, ◌+◌, ◌-◌, ◌≤◌, ◌<◌, leb, take, drop, Ok, Err}
use Rattle.std.proofs.Common.{ap, ap₂, sym, ◌∙◌, subst, append_assoc, append-nil, arith, length-drop, length-take-le}
use Rattle.std.proofs.Math.ListN.{length, length-append}
use Rattle.std.proofs.lemmas.List.{take-append-le}
use Rattle.std.proofs.Math.Seq.{take-append-add, drop-append_seam}
use Rattle.rules.specs.declared.Size.{Size}
use Rattle.rules.specs.declared.Header.{Header}
use Rattle.rules.specs.declared.Part.{Part}
use Rattle.rules.specs.Document.Numbers.{PartRead}
use Rattle.rules.specs.declared.Piece.TheVariants as part
use Rattle.rules.specs.Document.Notation.{flat}
use Rattle.rules.specs.Document.Pyramid.{Family, most_planes, legal_size}
use Rattle.rules.specs.Document.Passes.{State, after, PartName, part_names, coded}
use Rattle.rules.specs.Document.Layout.{header_bytes, CodedPart, part_bytes, coded_parts, name_of}
use Rattle.rules.specs.Document.Numbers.{most_bits, follows, legal_head, read_part, tail, Reading, go_on, read_from, read_parts, behind_from, behind, top_level}
use Rattle.rules.specs.Promises.Vocabulary.{record_bytes, parts_at, selection, Named, LegalHead, head_bytes, header_of, part_at}
use Rattle.rules.specs.Laws.Counting.Sums.{All}
use Rattle.rules.proofs.Laws.Counting.Sums.{flat_append}
use Rattle.rules.specs.Laws.Reading.Parts.{InOrder}
use Rattle.rules.proofs.Laws.Reading.Parts.{names_in_order, names_named, follows_follows, legal_head_lem, head_legal, legal_behind}
use Rattle.rules.proofs.Laws.Bytes.NumberBack.{left_none, left_behind}
use Rattle.rules.proofs.Laws.Reading.Walk.{read_part_past}
use Rattle.rules.specs.Laws.Bytes.PartBack.{Small, cut_at}
use Rattle.rules.proofs.Laws.Bytes.PartBack.{legal_small, part_some, next_stands, part_name, part_end, reads_part, reads_part_cut}
use Rattle.rules.specs.Laws.Bytes.RecordBack.{before_all, LegalParts, last_name, Short}

nothing_more : (s rest : List ℕ) (place : ℕ) → drop place s ≡ rest
    → ◌≡◌ {A = Reading} (record { parts = []; ending = tail (length s - place) }) (record { parts = []; ending = tail (length rest) })
nothing_more s rest place e = ap (λ x. record { parts = []; ending = tail x }) (sym (length-drop place s) ∙ ap length e)

pub short_ends : (s : List ℕ) (place : ℕ) (x : PartRead) (next : Part → Reading) → Short x
    → go_on s place x next ≡ record { parts = []; ending = tail (length s - place) }
unfolding Short go_on
short_ends s place (Ok (part.Part p)) next h = absurd h
short_ends s place (Ok (part.Cut p)) next h = refl
short_ends s place (Ok part.Tail) next h = refl
short_ends s place (Err r) next h = absurd h

pub cut_short : (place c : ℕ) (p : CodedPart) → Short (cut_at place c p)
unfolding Short cut_at
cut_short place c p = by (leb (length (head_bytes p)) c)
  where
    by : (b : Bool) → Short (cond b (Ok (part.Cut (part_at place p))) (Ok part.Tail))
    by true = tt
    by false = tt

-- Parts one behind the other, and then what is no further part.
pub reads_parts : (h : Header) → Small h.size h.planes
    → (s : List ℕ) (rest : List ℕ) (m : ℕ) (before : PartName) (place : ℕ) (ps : List CodedPart)
    → length ps ≤ m → LegalParts h before ps → drop place s ≡ flat part_bytes ps ++ rest
    → Short (read_part h s (last_name before ps) (place + length (flat part_bytes ps)))
    → read_from m h s before place ≡ record { parts = parts_at place ps; ending = tail (length rest) }
unfolding read_from go_on LegalParts last_name parts_at flat
reads_parts h small s rest zero before place [] l ok stands ends = nothing_more s rest place stands
reads_parts h small s rest (suc m) before place [] l ok stands ends =
    let here : place + 0 ≡ place = omega arith in
    short_ends s place (read_part h s before place) _ (subst (λ (x : ℕ). Short (read_part h s before x)) here ends) ∙ nothing_more s rest place stands
reads_parts h small s rest zero before place (p ∷ ps) l ok stands ends = absurd (omega arith)
reads_parts h small s rest (suc m) before place (p ∷ ps) l ok stands ends =
    let more : List ℕ = flat part_bytes ps ++ rest in
    let this : drop place s ≡ part_bytes p ++ more = stands ∙ append_assoc (part_bytes p) (flat part_bytes ps) rest in
    let end : place + length (part_bytes p) + length (flat part_bytes ps) ≡ place + length (part_bytes p ++ flat part_bytes ps)
    = omega (arith, length-append (part_bytes p) (flat part_bytes ps)) in
    let next : ℕ = place + length (part_bytes p) in
    let others : read_from m h s p.name next ≡ record { parts = parts_at next ps; ending = tail (length rest) }
    = reads_parts h small s rest m p.name (place + length (part_bytes p)) ps (omega arith) ok.1 (next_stands s place p more this)
    (subst (λ (x : ℕ). Short (read_part h s (last_name p.name ps) x)) (sym end) ends) in
    rw (reads_part h small s before place p ok.0 more this)
    (ap (λ (r : Reading). record { parts = part_at place p ∷ r.parts; ending = r.ending })
    (ap₂ (read_from m h s) (part_name place p) (part_end place p) ∙ others))

-- And what stands behind them.
pub behind_parts : (h : Header) (s : List ℕ) (before : PartName) (place : ℕ) (ps : List CodedPart)
    → behind_from h s before place (parts_at place ps) ≡ read_part h s (last_name before ps) (place + length (flat part_bytes ps))
unfolding behind_from parts_at last_name flat
behind_parts h s before place [] = let e : place ≡ place + 0 = omega arith in ap (read_part h s before) e
behind_parts h s before place (p ∷ ps) =
    let e : place + length (part_bytes p) + length (flat part_bytes ps) ≡ place + length (part_bytes p ++ flat part_bytes ps)
    = omega (arith, length-append (part_bytes p) (flat part_bytes ps)) in
    ap₂ (λ n i. behind_from h s n i (parts_at (place + length (part_bytes p)) ps)) (part_name place p) (part_end place p)
    ∙ behind_parts h s p.name (place + length (part_bytes p)) ps ∙ ap (read_part h s (last_name p.name ps)) e

-- A record reads back: all the parts behind its header.
parts_few : (ps : List CodedPart) → length ps ≤ length (flat part_bytes ps)
unfolding flat
parts_few [] = omega arith
parts_few (p ∷ ps) = omega (arith, parts_few ps, part_some p, length-append (part_bytes p) (flat part_bytes ps))

module _ (z : Size) (planes : ℕ) (ok : legal_size z ≡ true) (l : planes ≤ most_planes) (ps : List CodedPart)
    (legal-ps : LegalParts (header_of z planes) (before_all planes) ps) where
  abbrev front : ℕ
  front = length (header_bytes z planes)

  abbrev bytes : List ℕ → List ℕ
  bytes rest = header_bytes z planes ++ (flat part_bytes ps ++ rest)

  past : (rest : List ℕ) → drop (front + length (flat part_bytes ps)) (bytes rest) ≡ rest
  past rest = left_behind (bytes rest) front (flat part_bytes ps) rest (drop-append_seam (header_bytes z planes) (flat part_bytes ps ++ rest))

  reads_with : (rest : List ℕ)
      → Short (read_part (header_of z planes) (bytes rest) (last_name (before_all planes) ps) (front + length (flat part_bytes ps)))
      → read_parts (header_of z planes) (bytes rest) ≡ record { parts = parts_at front ps; ending = tail (length rest) }
  unfolding read_parts
  reads_with rest ends =
      let few : length ps ≤ length (bytes rest)
      = omega (arith, parts_few ps, length-append (header_bytes z planes) (flat part_bytes ps ++ rest), length-append (flat part_bytes ps) rest) in
      reads_parts (header_of z planes) (legal_small z planes ok l) (bytes rest) rest (length (bytes rest)) (before_all planes) front ps few legal-ps
      (drop-append_seam (header_bytes z planes) (flat part_bytes ps ++ rest)) ends

  pub reads_record : read_parts (header_of z planes) (record_bytes z planes ps)
      ≡ record { parts = parts_at (length (header_bytes z planes)) ps; ending = tail 0 }
  reads_record =
      ap (λ x. read_parts (header_of z planes) (header_bytes z planes ++ x)) (sym (append-nil (flat part_bytes ps)))
      ∙ reads_with []
      (rw (read_part_past (header_of z planes) (bytes []) (last_name (before_all planes) ps) (front + length (flat part_bytes ps)) (left_none _ _ (past [])))
      (unfold Short in tt))

  pub uncut_behind : behind (header_of z planes) (header_bytes z planes ++ (flat part_bytes ps ++ [])) (parts_at (length (header_bytes z planes)) ps)
      ≡ Ok part.Tail
  uncut_behind =
      behind_parts (header_of z planes) _ (before_all planes) front ps
      ∙ read_part_past (header_of z planes) (bytes []) (last_name (before_all planes) ps) (front + length (flat part_bytes ps)) (left_none _ _ (past []))

  one_more : (q : CodedPart) (c : ℕ) → legal_head (header_of z planes) (last_name (before_all planes) ps) q.name (length q.bits) ≡ true
      → c < length (part_bytes q)
      → read_part (header_of z planes) (bytes (take c (part_bytes q))) (last_name (before_all planes) ps) (front + length (flat part_bytes ps))
      ≡ cut_at (front + length (flat part_bytes ps)) c q
  one_more q c legal-q short =
      reads_part_cut (header_of z planes) (legal_small z planes ok l) (bytes (take c (part_bytes q))) (last_name (before_all planes) ps)
      (front + length (flat part_bytes ps)) q legal-q c short (past (take c (part_bytes q)))

  -- What is there of one more part is a tail.
  pub reads_tail : (q : CodedPart) (c : ℕ) → legal_head (header_of z planes) (last_name (before_all planes) ps) q.name (length q.bits) ≡ true
      → c < length (part_bytes q)
      → read_parts (header_of z planes) (record_bytes z planes ps ++ take c (part_bytes q))
      ≡ record { parts = parts_at (length (header_bytes z planes)) ps; ending = tail c }
  reads_tail q c legal-q short =
      ap (read_parts (header_of z planes)) (append_assoc (header_bytes z planes) (flat part_bytes ps) (take c (part_bytes q)))
      ∙ reads_with (take c (part_bytes q)) (rw (one_more q c legal-q short) (cut_short _ c q))
      ∙ ap (λ x. record { parts = parts_at front ps; ending = tail x }) (length-take-le c (part_bytes q) (omega arith))

  pub tail_behind : (q : CodedPart) (c : ℕ) → legal_head (header_of z planes) (last_name (before_all planes) ps) q.name (length q.bits) ≡ true
      → c < length (part_bytes q)
      → behind (header_of z planes) (record_bytes z planes ps ++ take c (part_bytes q)) (parts_at (length (header_bytes z planes)) ps)
      ≡ cut_at (length (header_bytes z planes) + length (flat part_bytes ps)) c q
  tail_behind q c legal-q short =
      ap (λ x. behind (header_of z planes) x (parts_at front ps)) (append_assoc (header_bytes z planes) (flat part_bytes ps) (take c (part_bytes q)))
      ∙ behind_parts (header_of z planes) (bytes (take c (part_bytes q))) (before_all planes) front ps ∙ one_more q c legal-q short

-- A record that is cut anywhere behind its header: the parts before the one that is cut, and a tail of what is there of that.
legal_split : (h : Header) (before : PartName) (ps : List CodedPart) (q : CodedPart) (later : List CodedPart)
    → LegalParts h before (ps ++ q ∷ later)
    → LegalParts h before ps × (legal_head h (last_name before ps) q.name (length q.bits) ≡ true)
unfolding LegalParts last_name
legal_split h before [] q later ok = (tt, ok.0)
legal_split h before (p ∷ ps) q later ok =
    let more : LegalParts h p.name ps × (legal_head h (last_name p.name ps) q.name (length q.bits) ≡ true)
    = legal_split h p.name ps q later ok.1 in
    ((ok.0, more.0), more.1)

pub cut-bytes : (z : Size) (planes : ℕ) (ps : List CodedPart) (q : CodedPart) (later : List CodedPart) (c : ℕ) → c ≤ length (part_bytes q)
    → take (length (record_bytes z planes ps) + c) (record_bytes z planes (ps ++ q ∷ later)) ≡ record_bytes z planes ps ++ take c (part_bytes q)
unfolding flat
cut-bytes z planes ps q later c l =
    let whole : record_bytes z planes (ps ++ q ∷ later) ≡ record_bytes z planes ps ++ (part_bytes q ++ flat part_bytes later)
    = ap (λ x. header_bytes z planes ++ x) (flat_append part_bytes ps (q ∷ later))
    ∙ sym (append_assoc (header_bytes z planes) (flat part_bytes ps) (part_bytes q ++ flat part_bytes later)) in
    ap (take (length (record_bytes z planes ps) + c)) whole
    ∙ take-append-add (record_bytes z planes ps) (part_bytes q ++ flat part_bytes later) c
    ∙ ap (λ x. record_bytes z planes ps ++ x) (take-append-le c (part_bytes q) (flat part_bytes later) l)

pub reads_cut_record : (z : Size) (planes : ℕ) → legal_size z ≡ true → planes ≤ most_planes
    → (ps : List CodedPart) (q : CodedPart) (later : List CodedPart) → LegalParts (header_of z planes) (before_all planes) (ps ++ q ∷ later)
    → (c : ℕ) → c < length (part_bytes q)
    → read_parts (header_of z planes) (take (length (record_bytes z planes ps) + c) (record_bytes z planes (ps ++ q ∷ later)))
    ≡ record { parts = parts_at (length (header_bytes z planes)) ps; ending = tail c }
reads_cut_record z planes ok l ps q later legal-all c short =
    let legal-both = legal_split (header_of z planes) (before_all planes) ps q later legal-all in
    ap (read_parts (header_of z planes)) (cut-bytes z planes ps q later c (omega arith))
    ∙ reads_tail z planes ok l ps legal-both.0 q c legal-both.1 short

pub behind_cut_record : (z : Size) (planes : ℕ) → legal_size z ≡ true → planes ≤ most_planes
    → (ps : List CodedPart) (q : CodedPart) (later : List CodedPart) → LegalParts (header_of z planes) (before_all planes) (ps ++ q ∷ later)
    → (c : ℕ) → c < length (part_bytes q)
    → behind (header_of z planes) (take (length (record_bytes z planes ps) + c) (record_bytes z planes (ps ++ q ∷ later)))
    (parts_at (length (header_bytes z planes)) ps)
    ≡ cut_at (length (header_bytes z planes) + length (flat part_bytes ps)) c q
behind_cut_record z planes ok l ps q later legal-all c short =
    let legal-both = legal_split (header_of z planes) (before_all planes) ps q later legal-all in
    ap (λ x. behind (header_of z planes) x (parts_at (length (header_bytes z planes)) ps)) (cut-bytes z planes ps q later c (omega arith))
    ∙ tail_behind z planes ok l ps legal-both.0 q c legal-both.1 short

-- What was read of each part is what was written of it: its name, its bit count, its body, all its bytes.
pub parts_map : {X : Type 0} (f : Part → X) (g : CodedPart → X) (s : List ℕ)
    → ((place : ℕ) (p : CodedPart) (rest : List ℕ) → drop place s ≡ part_bytes p ++ rest → f (part_at place p) ≡ g p)
    → (place : ℕ) (ps : List CodedPart) (rest : List ℕ) → drop place s ≡ flat part_bytes ps ++ rest → map f (parts_at place ps) ≡ map g ps
unfolding parts_at flat
parts_map f g s each place [] rest e = refl
parts_map f g s each place (p ∷ ps) rest e =
    let more : List ℕ = flat part_bytes ps ++ rest in
    let this : drop place s ≡ part_bytes p ++ more = e ∙ append_assoc (part_bytes p) (flat part_bytes ps) rest in
    ap₂ (λ x xs. x ∷ xs) (each place p more this) (parts_map f g s each (place + length (part_bytes p)) ps rest (next_stands s place p more this))

pub parts_names : (place : ℕ) (ps : List CodedPart) → map name_of (parts_at place ps) ≡ map (λ p. p.name) ps
unfolding parts_at
parts_names place [] = refl
parts_names place (p ∷ ps) = ap₂ (λ x xs. x ∷ xs) (part_name place p) (parts_names (place + length (part_bytes p)) ps)

-- Parts in order that have legal names and bit counts may stand in a record, and so may any selection of them.
pub legal_parts : (h : Header) (before : PartName) (ps : List CodedPart) → InOrder before (map (λ p. p.name) ps)
    → All (Named (top_level h) h.planes) (map (λ p. p.name) ps) → All (λ p. length p.bits ≤ most_bits h.size) ps
    → LegalParts h before ps
unfolding LegalParts InOrder All
legal_parts h before [] o n b = tt
legal_parts h before (p ∷ ps) o n b = (
  head_legal h before p.name (length p.bits) (record { named = n.0; in_order = o.0; bits_most = b.0 }),
  legal_parts h p.name ps o.1 n.1 b.1,
)

legal_earlier : (h : Header) (a b : PartName) (ps : List CodedPart) → follows a b ≡ true → LegalParts h b ps → LegalParts h a ps
unfolding LegalParts
legal_earlier h a b [] f ok = tt
legal_earlier h a b (p ∷ ps) f ok =
    let l : LegalHead h b p.name (length p.bits) = legal_head_lem h b p.name (length p.bits) ok.0 in
    (head_legal h a p.name (length p.bits) (legal_behind l (follows_follows a b p.name f l.in_order)), ok.1)

pub selection_legal : (h : Header) (t : CodedPart → Bool) (before : PartName) (ps : List CodedPart) → LegalParts h before ps
    → LegalParts h before (selection t ps)
unfolding LegalParts selection
selection_legal h t before [] ok = tt
selection_legal h t before (p ∷ ps) ok = cases (t p) (selection_legal h t p.name ps ok.1)
  where
    cases : (b : Bool) → LegalParts h p.name (selection t ps) → LegalParts h before (cond b (p ∷ selection t ps) (selection t ps))
    cases true r = (ok.0, r)
    cases false r = legal_earlier h before p.name (selection t ps) (legal_head_lem h before p.name (length p.bits) ok.0).in_order r

-- The coder's parts have the names it was to make.
pub coded_names : (F : Family) (mag : ℕ → ℕ) (neg : ℕ → Bool) (names : List PartName) (s : State)
    → map (λ p. p.name) (coded_parts F mag neg names s) ≡ names
unfolding coded_parts
coded_names F mag neg [] s = refl
coded_names F mag neg (p ∷ ps) s = ap (λ xs. p ∷ xs) (coded_names F mag neg ps (after p.level (coded F mag neg p s) s))

pub coded_legal : (h : Header) (F : Family) (mag : ℕ → ℕ) (neg : ℕ → Bool) (s : State)
    → All (λ p. length p.bits ≤ most_bits h.size) (coded_parts F mag neg (part_names (top_level h) h.planes) s)
    → LegalParts h (before_all h.planes) (coded_parts F mag neg (part_names (top_level h) h.planes) s)
coded_legal h F mag neg s few =
    let names : List PartName = part_names (top_level h) h.planes in
    let same : map (λ p. p.name) (coded_parts F mag neg names s) ≡ names = coded_names F mag neg names s in
    legal_parts h (before_all h.planes) (coded_parts F mag neg names s)
    (subst (InOrder (before_all h.planes)) (sym same) (names_in_order (top_level h) h.planes _ (omega arith)))
    (subst (All (Named (top_level h) h.planes)) (sym same) (names_named (top_level h) h.planes))
    few
