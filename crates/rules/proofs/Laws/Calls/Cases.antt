-- Each call has the outcome that its case says, and no other.
use Rattle.std.specs.Prelude.{◌≡◌, Bool, ◌&&◌, ◌≢◌, ℕ, ◌≤◌, ◌<◌, replicate, ℤ, pos, Ok, Err}
use Rattle.std.proofs.Math.Path.{refl, ap, sym, subst}
use Rattle.std.proofs.Common.{◌∙◌, true≢false, arith}
use mathlib.Core.List.{List, [], ◌∷◌, ◌++◌, map}
use Rattle.std.proofs.Math.Bool.{true, false, cond}
use Rattle.std.proofs.Math.Dec.{leb, eqb}
use Rattle.std.proofs.Math.ListN.{length}
use borrow.Author.Tests.{leb-true, leb-false, le-leb, lt-leb, eqb-true, eqb-false, eq-eqb, ne_eqb}
use Rattle.rules.specs.declared.Size.{Size}
use Rattle.rules.specs.declared.Refusal.{Refusal}
use Rattle.rules.specs.declared.Refusal.TheVariants as refusal
use Rattle.rules.specs.declared.Header.{Header}
use Rattle.rules.specs.declared.Part.{Part}
use Rattle.rules.specs.declared.Piece.TheVariants as part
use Rattle.rules.specs.Document.Pyramid.{legal_size, area, family, most_magnitude}
use Rattle.rules.specs.Document.Passes.{Course, Reader, State, PartName, start, after, decoded}
use Rattle.rules.specs.Document.Layout.{record_of, bit_at, body_of, bits_there, name_of, usable}
use Rattle.rules.specs.Document.Numbers.{read_header, Ending, tail, fault, Reading, read_parts, behind_from, behind, top_level, PartRead, HeaderRead}
use Rattle.rules.specs.Document.Calls.{Result, unless, work_for, first_over, fitted, coding, on_header, on_ending, legal_ask, served_bytes, Portion}
use Rattle.rules.specs.Document.Calls.{Progress, going, unfit, used, onward, decode_parts, used_cut, tail_onward, Picture, pictured, decoded_parts}
use Rattle.rules.specs.Document.Calls.{accepted, reached_planes, skipped_counts, decoding, portioned, serving}
use Rattle.rules.proofs.Laws.Counting.Booleans.{clash, both_left, both_right, not_test}
use Rattle.rules.proofs.Laws.Family.Sizes.{legal, size_legal}
use Rattle.rules.specs.Promises.Vocabulary.{Legal, Usable}
use Rattle.rules.proofs.Laws.Reading.Usable.{usable_every, every_usable}
use Rattle.rules.proofs.Laws.Rounding.Planes.{under_first, first_over_lem, none_over, over_first}
use Rattle.rules.proofs.Laws.Reading.Stands.{read_header_stands, header_within}
use Rattle.rules.proofs.Laws.Calls.Results.{unless_case, on_header_case, on_ending_case}
use Rattle.rules.proofs.Laws.Reading.PartCases.{failed, header_case, header_is, part_is}
use Rattle.rules.proofs.Laws.Reading.Walk.{parts_case, parts_is}
use Rattle.rules.specs.Promises.Refusals.{InRange, LegalAsk, HeaderCase, Parts, FirstUnfit, CodingCase, SIZE, LENGTH, WORK, RANGE, ROOM, CODED}
use Rattle.rules.specs.Promises.Refusals.{ServingCase, HEADER, ASK, PARTS, SERVED, DecodingCase, FIT, CUT-FIT, DECODED}
use Rattle.rules.specs.Promises.Refusals.{Walk, MORE, FAULT, Fitting, CutUsable, cut_course, TailCase, UNUSED, USED}

-- Coding.
module _ (pyramid : List ℤ) (z : Size) (room work : ℕ) where
  abbrev Codes : Result (List ℕ) → Type 0
  Codes = CodingCase pyramid z room work

  pub coding_case : CodingCase pyramid z room work (coding pyramid z room work)
  unfolding coding fitted
  coding_case =
      unless_case Codes (legal_size z) refusal.Size _ (λ e. SIZE (failed _ (size_legal z) e)) (λ e.
      let Z : Legal z = legal z e in
      unless_case Codes (eqb (length pyramid) (area z)) refusal.Length _ (λ e. LENGTH Z (eqb-false _ _ e)) (λ e.
      let L : length pyramid ≡ area z = eqb-true _ _ e in
      unless_case Codes (leb (work_for z) work) refusal.Work _ (λ e. WORK Z L (leb-false _ _ e)) (λ e.
      let K : work_for z ≤ work = leb-true _ _ e in
      unless_case Codes (eqb (first_over most_magnitude pyramid) (length pyramid)) (refusal.Range (first_over most_magnitude pyramid)) _
      (λ e. RANGE Z L K (first_over_lem most_magnitude pyramid (eqb-false _ _ e))) (λ e.
      let R : InRange most_magnitude pyramid (length pyramid) = subst (InRange most_magnitude pyramid) (eqb-true _ _ e) (under_first most_magnitude pyramid) in
      unless_case Codes (leb (length (record_of z pyramid)) room) refusal.Room _ (λ e. ROOM Z L K R (leb-false _ _ e)) (λ e.
      CODED Z L K R (leb-true _ _ e))))))

  coding_fitted : Legal z → length pyramid ≡ area z → work_for z ≤ work → InRange most_magnitude pyramid (length pyramid)
      → coding pyramid z room work ≡ fitted (record_of z pyramid) room
  unfolding coding unless
  coding_fitted Z L K R =
      let f : eqb (first_over most_magnitude pyramid) (length pyramid) ≡ true = eq-eqb _ _ (none_over most_magnitude pyramid R) in
      rw (size_legal z Z, eq-eqb (length pyramid) (area z) L, le-leb (work_for z) work K, f)

  pub coding_is : (x : Result (List ℕ)) → CodingCase pyramid z room work x → coding pyramid z room work ≡ x
  unfolding coding fitted unless
  coding_is x (SIZE n) = rw (not_test (legal_size z) (λ e. n (legal z e)))
  coding_is x (LENGTH Z n) = rw (size_legal z Z, ne_eqb (length pyramid) (area z) n)
  coding_is x (WORK Z L k) = rw (size_legal z Z, eq-eqb (length pyramid) (area z) L, lt-leb (work_for z) work k)
  coding_is x (RANGE {at = at} Z L K f) =
      let q : first_over most_magnitude pyramid ≡ at = over_first most_magnitude pyramid at f in
      let n : first_over most_magnitude pyramid ≢ length pyramid = λ e. omega (arith, f.inside) in
      rw (size_legal z Z, eq-eqb (length pyramid) (area z) L, le-leb (work_for z) work K, ne_eqb (first_over most_magnitude pyramid) (length pyramid) n, q)
  coding_is x (ROOM Z L K R l) = coding_fitted Z L K R ∙ rw (lt-leb (length (record_of z pyramid)) room l)
  coding_is x (CODED Z L K R l) = coding_fitted Z L K R ∙ rw (le-leb (length (record_of z pyramid)) room l)

-- Serving.
module _ (h : Header) (r p : ℕ) where
  ask_legal : legal_ask h r p ≡ true → LegalAsk h r p
  unfolding legal_ask
  ask_legal e =
      let a : leb 1 r && leb r (top_level h) ≡ true = both_left _ _ e in
      record {
        from1 = leb-true _ _ (both_left _ _ a);
        up_to = leb-true _ _ (both_right (leb 1 r) _ a);
        plane = leb-true _ _ (both_right (leb 1 r && leb r (top_level h)) _ e);
      }

  legal_ask_lem : LegalAsk h r p → legal_ask h r p ≡ true
  unfolding legal_ask
  legal_ask_lem l = rw (le-leb 1 r l.from1, le-leb r (top_level h) l.up_to, le-leb p h.planes l.plane)

-- A header and parts whose case is known.
module _ (s : List ℕ) where
  pub header_of_lem : (x : HeaderRead) → read_header s ≡ x → HeaderCase s x
  header_of_lem x e = subst (HeaderCase s) e (header_case s)

  pub parts_to : (h : Header) (e : Ending) → (read_parts h s).ending ≡ e → Parts h s (read_parts h s).parts e
  parts_to h e q = subst (Parts h s (read_parts h s).parts) q (parts_case h s)

  pub parts_of_lem : (h : Header) (ps : List Part) (e : Ending) → HeaderCase s (Ok h) → Parts h s ps e
      → read_parts h s ≡ record { parts = ps; ending = e }
  parts_of_lem h ps e c w = parts_is h s ps e (header_within (read_header_stands s h (header_is s _ c))) w

module _ (s : List ℕ) (r p room : ℕ) where
  abbrev Serves : Result Portion → Type 0
  Serves = ServingCase s r p room

  pub serving_case : ServingCase s r p room (serving s r p room)
  unfolding serving portioned
  serving_case =
      on_header_case Serves (read_header s) _ (λ why e. HEADER (header_of_lem s _ e)) (λ h e.
      let H : HeaderCase s (Ok h) = header_of_lem s _ e in
      unless_case Serves (legal_ask h r p) refusal.Ask _ (λ e. ASK H (failed _ (legal_ask_lem h r p) e)) (λ e.
      let A : LegalAsk h r p = ask_legal h r p e in
      on_ending_case Serves (read_parts h s).ending _ (λ why e. PARTS H A (parts_to s h _ e)) (λ t e.
      let W : Parts h s (read_parts h s).parts (tail t) = parts_to s h _ e in
      unless_case Serves (leb (length (served_bytes h s r p (read_parts h s).parts)) room) refusal.Room _ (λ e. ROOM H A W (leb-false _ _ e))
      (λ e. SERVED H A W (leb-true _ _ e)))))

  pub serving_is : (x : Result Portion) → ServingCase s r p room x → serving s r p room ≡ x
  unfolding serving portioned unless on_header on_ending
  serving_is x (HEADER c) = rw (header_is s _ c)
  serving_is x (ASK {h = h} c n) = rw (header_is s _ c, not_test (legal_ask h r p) (λ e. n (ask_legal h r p e)))
  serving_is x (PARTS {h = h} {ps = ps} {why = why} c a w) = rw (header_is s _ c, legal_ask_lem h r p a, parts_of_lem s h ps (fault why) c w)
  serving_is x (ROOM {h = h} {ps = ps} {t = t} c a w l) =
      rw (header_is s _ c, legal_ask_lem h r p a, parts_of_lem s h ps (tail t) c w, lt-leb (length (served_bytes h s r p ps)) room l)
  serving_is x (SERVED {h = h} {ps = ps} {t = t} c a w l) =
      rw (header_is s _ c, legal_ask_lem h r p a, parts_of_lem s h ps (tail t) c w, le-leb (length (served_bytes h s r p ps)) room l)

-- Decoding: the parts one after the other, up to the first that does not fit.
module _ (h : Header) (s : List ℕ) (there : List PartName) where
  abbrev usable_part : Part → Bool
  usable_part p = usable (top_level h) h.planes there (name_of p)

  abbrev course : Part → State → List ℤ → Course Reader
  course p st v = decoded (family h.size) (name_of p) (bit_at (body_of s p)) (bits_there s p) st v

  pub decode_parts_append : (ps qs : List Part) (g : Progress)
      → decode_parts h s there (ps ++ qs) g ≡ decode_parts h s there qs (decode_parts h s there ps g)
  unfolding decode_parts
  decode_parts_append [] qs g = refl
  decode_parts_append (p ∷ ps) qs g = decode_parts_append ps qs (onward h s there p g)

  pub decode_parts_unfit : (ps : List Part) (at : ℕ) → decode_parts h s there ps (unfit at) ≡ unfit at
  unfolding decode_parts onward
  decode_parts_unfit [] at = refl
  decode_parts_unfit (p ∷ ps) at = decode_parts_unfit ps at

  -- one part that is usable and does not fit
  onward_unfit : (p : Part) (st : State) (v : List ℤ) → usable_part p ≡ true → (course p st v).side.taken ≢ p.bits
      → onward h s there p (going st v) ≡ unfit p.place
  unfolding onward used
  onward_unfit p st v u n = rw (u, ne_eqb (course p st v).side.taken p.bits n)

  unfit_onward : (p : Part) (st : State) (v : List ℤ) (at : ℕ) → onward h s there p (going st v) ≡ unfit at
      → (usable_part p ≡ true) × ((course p st v).side.taken ≢ p.bits) × (p.place ≡ at)
  unfolding onward used
  unfit_onward p st v at e = cases (usable_part p) refl (eqb (course p st v).side.taken p.bits) refl e
    where
      cases : (a : Bool) → usable_part p ≡ a → (b : Bool) → eqb (course p st v).side.taken p.bits ≡ b
          → cond a (cond b (going (after p.level.0 (course p st v) st) (course p st v).side.pyramid) (unfit p.place)) (going st v)
          ≡ unfit at
          → (usable_part p ≡ true) × ((course p st v).side.taken ≢ p.bits) × (p.place ≡ at)
      cases true u true f e = clash (cc)
      cases true u false f e = (u, eqb-false _ _ f, cc)
      cases false u b f e = clash (cc)

  -- the first of several
  record Stop (ps : List Part) (st : State) (v : List ℤ) (at : ℕ) : Type 0 where
    seen : List Part
    this : Part
    later : List Part
    lists : State
    pyramid : List ℤ
    split : ps ≡ seen ++ this ∷ later
    before : decode_parts h s there seen (going st v) ≡ going lists pyramid
    stops : onward h s there this (going lists pyramid) ≡ unfit at

  first_stop : (ps : List Part) (st : State) (v : List ℤ) (at : ℕ) → decode_parts h s there ps (going st v) ≡ unfit at → Stop ps st v at
  unfolding decode_parts
  first_stop [] st v at e = clash (cc)
  first_stop (p ∷ ps) st v at e = cases (onward h s there p (going st v)) refl e (λ st' v'. first_stop ps st' v' at)
    where
      cases : (g : Progress) → onward h s there p (going st v) ≡ g → decode_parts h s there ps g ≡ unfit at
          → ((st' : State) (v' : List ℤ) → decode_parts h s there ps (going st' v') ≡ unfit at → Stop ps st' v' at)
          → Stop (p ∷ ps) st v at
      cases (unfit x) o e r =
          let stops : onward h s there p (going st v) ≡ unfit at = o ∙ sym (decode_parts_unfit ps x) ∙ e in
          record { seen = []; this = p; later = ps; lists = st; pyramid = v; split = refl; before = refl; stops = stops }
      cases (going st' v') o e r =
          let f : Stop ps st' v' at = r st' v' e in
          record {
            seen = p ∷ f.seen;
            this = f.this;
            later = f.later;
            lists = f.lists;
            pyramid = f.pyramid;
            split = ap (λ l. p ∷ l) f.split;
            before = ap (decode_parts h s there f.seen) o ∙ f.before;
            stops = f.stops;
          }

-- What stands behind the parts: a fault is met there, and a part that is cut is used where it can be.
fault_behind : (h : Header) (s : List ℕ) {before : PartName} {place : ℕ} {ps : List Part} (r : Refusal) → Walk h s before place ps (fault r)
    → behind_from h s before place ps ≡ Err r
unfolding behind_from
fault_behind h s r (MORE c w) = fault_behind h s r w
fault_behind h s r (FAULT {before = before} {place = place} c) = part_is h s before place _ c

cut_same : (p q : Part) → ◌≡◌ {A = PartRead} (Ok (part.Cut p)) (Ok (part.Cut q)) → p ≡ q
cut_same p q e = cc

module _ (h : Header) (s : List ℕ) where
  tail_fault : (there : List PartName) (x : PartRead) (g : Progress) {r : Refusal} → x ≡ Err r → tail_onward h s there x g ≡ g
  unfolding tail_onward
  tail_fault there x g e = rw e

  pub tail_unfit : (there : List PartName) (x : PartRead) (at : ℕ) → tail_onward h s there x (unfit at) ≡ unfit at
  unfolding tail_onward
  tail_unfit there (Ok (part.Part p)) at = refl
  tail_unfit there (Ok (part.Cut p)) at = refl
  tail_unfit there (Ok part.Tail) at = refl
  tail_unfit there (Err r) at = refl

  module _ (ps : List Part) (st : State) (v : List ℤ) where
    abbrev onward_tail : Progress
    onward_tail = tail_onward h s (map name_of ps) (behind h s ps) (going st v)

    tail_unused : ((p : Part) → ¬ CutUsable h s ps p) → onward_tail ≡ going st v
    unfolding tail_onward
    tail_unused n = by (behind h s ps) refl
      where
        by : (x : PartRead) → behind h s ps ≡ x → tail_onward h s (map name_of ps) x (going st v) ≡ going st v
        by (Ok (part.Part p)) e = refl
        by (Ok (part.Cut p)) e =
            let none : usable (top_level h) h.planes (map name_of ps ++ (name_of p ∷ [])) (name_of p) ≡ false
            = not_test _ (λ u. n p (record { stands = e; usable = usable_every _ _ _ _ u })) in
            rw none
        by (Ok part.Tail) e = refl
        by (Err r) e = refl

    module _ (p : Part) (u : CutUsable h s ps p) where
      cut_test : usable (top_level h) h.planes (map name_of ps ++ (name_of p ∷ [])) (name_of p) ≡ true
      cut_test = every_usable _ _ _ _ u.usable

      tail_used : bits_there s p ≤ (cut_course h s p st v).side.taken
          → onward_tail ≡ going (after p.level.0 (cut_course h s p st v) st) (cut_course h s p st v).side.pyramid
      unfolding tail_onward used_cut
      tail_used l = rw (u.stands, cut_test, le-leb (bits_there s p) (cut_course h s p st v).side.taken l)

      tail_short : (cut_course h s p st v).side.taken < bits_there s p → onward_tail ≡ unfit p.place
      unfolding tail_onward used_cut
      tail_short l = rw (u.stands, cut_test, lt-leb (bits_there s p) (cut_course h s p st v).side.taken l)

module _ (s : List ℕ) (room work : ℕ) where
  abbrev decodes : Result Picture → Type 0
  decodes = DecodingCase s room work

  abbrev begun : Header → Progress
  begun h = going (start h.size) (replicate (area h.size) (pos 0))

  module _ (h : Header) (H : HeaderCase s (Ok h)) (L : room ≡ area h.size) (K : work_for h.size ≤ work) where
    unfit_first : (ps : List Part) (at : ℕ) → decode_parts h s (map name_of ps) ps (begun h) ≡ unfit at → FirstUnfit h s ps at
    unfit_first ps at e =
        let f = first_stop h s (map name_of ps) ps _ _ at e in
        let o = unfit_onward h s (map name_of ps) f.this f.lists f.pyramid at f.stops in
        record {
          seen = f.seen;
          this = f.this;
          later = f.later;
          lists = f.lists;
          pyramid = f.pyramid;
          split = f.split;
          before = record { comes_to = f.before };
          usable = usable_every _ _ _ _ o.0;
          unfit = o.1;
          placed = o.2;
        }

    tail_case : (ps : List Part) (t : ℕ) (st : State) (v : List ℤ) → Parts h s ps (tail t) → Fitting h s ps ps st v
        → decodes (pictured h (map name_of ps) (tail t) (tail_onward h s (map name_of ps) (behind h s ps) (going st v)))
    unfolding pictured on_ending
    tail_case ps t st v w f = cases (behind h s ps) refl
      where
        unused : ((p : Part) → behind h s ps ≡ Ok (part.Cut p) → ⊥) → decodes (pictured h (map name_of ps) (tail t) (going st v))
        unused d = DECODED H L K w f (UNUSED (λ p u. d p u.stands))

        cut : (p : Part) → behind h s ps ≡ Ok (part.Cut p) → (a : Bool) → usable (top_level h) h.planes (map name_of ps ++ (name_of p ∷ [])) (name_of p) ≡ a
            → (b : Bool) → leb (bits_there s p) (cut_course h s p st v).side.taken ≡ b
            → decodes (pictured h (map name_of ps) (tail t)
            (cond a
            (cond b (going (after p.level.0 (cut_course h s p st v) st) (cut_course h s p st v).side.pyramid) (unfit p.place))
            (going st v)))
        cut p e true u true b = DECODED H L K w f (USED (record { stands = e; usable = usable_every _ _ _ _ u }) (leb-true _ _ b))
        cut p e true u false b = CUT-FIT H L K w f (record { stands = e; usable = usable_every _ _ _ _ u }) (leb-false _ _ b)
        cut p e false u b c =
            DECODED H L K w f (UNUSED (λ q i.
            let same : q ≡ p = cut_same q p (sym i.stands ∙ e) in
            let could : Usable (top_level h) h.planes (map name_of ps ++ (name_of p ∷ [])) (name_of p)
            = subst (λ x. Usable (top_level h) h.planes (map name_of ps ++ (name_of x ∷ [])) (name_of x)) same i.usable in
            true≢false (sym (every_usable _ _ _ _ could) ∙ u)))

        cases : (x : PartRead) → behind h s ps ≡ x → decodes (pictured h (map name_of ps) (tail t) (tail_onward h s (map name_of ps) x (going st v)))
        cases (Ok (part.Part p)) e = unfold tail_onward in unused (λ q i. clash (cc))
        cases (Ok (part.Cut p)) e =
            unfold tail_onward used_cut in
            cut p e (usable (top_level h) h.planes (map name_of ps ++ (name_of p ∷ [])) (name_of p)) refl
            (leb (bits_there s p) (cut_course h s p st v).side.taken) refl
        cases (Ok part.Tail) e = unfold tail_onward in unused (λ q i. clash (cc))
        cases (Err r) e = unfold tail_onward in unused (λ q i. clash (cc))

    decoded_parts_case : (r : Reading) → Parts h s r.parts r.ending → decodes (decoded_parts h s r)
    unfolding decoded_parts pictured on_ending
    decoded_parts_case r w = cases (decode_parts h s (map name_of r.parts) r.parts (begun h)) refl r.ending refl
      where
        cases : (g : Progress) → decode_parts h s (map name_of r.parts) r.parts (begun h) ≡ g → (e : Ending) → r.ending ≡ e
            → decodes (pictured h (map name_of r.parts) e (tail_onward h s (map name_of r.parts) (behind h s r.parts) g))
        cases (unfit at) e x q =
            rw (tail_unfit h s (map name_of r.parts) (behind h s r.parts) at)
            (FIT H L K w (unfit_first r.parts at e))
        cases (going st v) e (tail t) q = tail_case r.parts t st v (subst (Parts h s r.parts) q w) (record { comes_to = e })
        cases (going st v) e (fault why) q =
            let x : Parts h s r.parts (fault why) = subst (Parts h s r.parts) q w in
            rw (tail_fault h s (map name_of r.parts) (behind h s r.parts) (going st v) (fault_behind h s why x))
            (PARTS H L K x (record { comes_to = e }))

  pub decoding_case : DecodingCase s room work (decoding s room work)
  unfolding decoding
  decoding_case =
      on_header_case decodes (read_header s) _ (λ why e. HEADER (header_of_lem s _ e)) (λ h e.
      let H : HeaderCase s (Ok h) = header_of_lem s _ e in
      unless_case decodes (eqb room (area h.size)) refusal.Length _ (λ e. LENGTH H (eqb-false _ _ e)) (λ e.
      let L : room ≡ area h.size = eqb-true _ _ e in
      unless_case decodes (leb (work_for h.size) work) refusal.Work _ (λ e. WORK H L (leb-false _ _ e)) (λ e.
      decoded_parts_case h H L (leb-true _ _ e) (read_parts h s) (parts_case h s))))

  -- where the parts are read
  decoding_parts : (h : Header) (ps : List Part) (e : Ending) → HeaderCase s (Ok h) → room ≡ area h.size → work_for h.size ≤ work
      → Parts h s ps e
      → decoding s room work
      ≡ pictured h (map name_of ps) e (tail_onward h s (map name_of ps) (behind h s ps) (decode_parts h s (map name_of ps) ps (begun h)))
  unfolding decoding on_header unless decoded_parts
  decoding_parts h ps e c L K w =
      rw (header_is s _ c, eq-eqb room (area h.size) L, le-leb (work_for h.size) work K, parts_of_lem s h ps e c w)

  first_unfit : (h : Header) (ps : List Part) (at : ℕ) → FirstUnfit h s ps at → decode_parts h s (map name_of ps) ps (begun h) ≡ unfit at
  unfolding decode_parts
  first_unfit h ps at f =
      let there : List PartName = map name_of ps in
      let u : usable_part h s there f.this ≡ true = every_usable _ _ _ _ f.usable in
      ap (λ l. decode_parts h s there l (begun h)) f.split
      ∙ decode_parts_append h s there f.seen (f.this ∷ f.later) (begun h)
      ∙ ap (decode_parts h s there (f.this ∷ f.later)) f.before.comes_to
      ∙ ap (decode_parts h s there f.later) (onward_unfit h s there f.this f.lists f.pyramid u f.unfit)
      ∙ decode_parts_unfit h s there f.later f.this.place ∙ ap unfit f.placed

  pub decoding_is : (x : Result Picture) → DecodingCase s room work x → decoding s room work ≡ x
  unfolding decoding on_header unless pictured on_ending
  decoding_is x (HEADER c) = rw (header_is s _ c)
  decoding_is x (LENGTH {h = h} c n) = rw (header_is s _ c, ne_eqb room (area h.size) n)
  decoding_is x (WORK {h = h} c L k) = rw (header_is s _ c, eq-eqb room (area h.size) L, lt-leb (work_for h.size) work k)
  decoding_is x (PARTS {h = h} {ps = ps} {st = st} {v = v} {why = why} c L K w f) =
      decoding_parts h ps (fault why) c L K w
      ∙ ap (λ g. pictured h (map name_of ps) (fault why) (tail_onward h s (map name_of ps) (behind h s ps) g)) f.comes_to
      ∙ ap (pictured h (map name_of ps) (fault why)) (tail_fault h s (map name_of ps) (behind h s ps) (going st v) (fault_behind h s why w))
  decoding_is x (FIT {h = h} {ps = ps} {e = e} {at = at} c L K w f) =
      decoding_parts h ps e c L K w
      ∙ ap (λ g. pictured h (map name_of ps) e (tail_onward h s (map name_of ps) (behind h s ps) g)) (first_unfit h ps at f)
      ∙ ap (pictured h (map name_of ps) e) (tail_unfit h s (map name_of ps) (behind h s ps) at)
  decoding_is x (CUT-FIT {h = h} {ps = ps} {t = t} {st = st} {v = v} {p = p} c L K w f u l) =
      decoding_parts h ps (tail t) c L K w
      ∙ ap (λ g. pictured h (map name_of ps) (tail t) (tail_onward h s (map name_of ps) (behind h s ps) g)) f.comes_to
      ∙ ap (pictured h (map name_of ps) (tail t)) (tail_short h s ps st v p u l)
  decoding_is x (DECODED {h = h} {ps = ps} {t = t} {st = st} {v = v} c L K w f i) =
      decoding_parts h ps (tail t) c L K w
      ∙ ap (λ g. pictured h (map name_of ps) (tail t) (tail_onward h s (map name_of ps) (behind h s ps) g)) f.comes_to
      ∙ tail_is i
    where
      tail_is : {v' : List ℤ} → TailCase h s ps st v v'
          → pictured h (map name_of ps) (tail t) (tail_onward h s (map name_of ps) (behind h s ps) (going st v))
          ≡ accepted (record { pyramid = v'; tail = t; reached = reached_planes h (map name_of ps); skipped = skipped_counts h (map name_of ps) })
      tail_is (UNUSED n) = ap (pictured h (map name_of ps) (tail t)) (tail_unused h s ps st v n)
      tail_is (USED {p = p} u l) = ap (pictured h (map name_of ps) (tail t)) (tail_used h s ps st v p u l)
