-- Reading a header and a part has the outcome that its case says, and no other.
use Rattle.std.specs.Prelude.{◌≡◌, Bool, cond, not, ◌&&◌, eqb, Ok, Err}
use Rattle.std.proofs.Math.Path.{refl, sym}
use Rattle.std.proofs.Common.{ap, ◌∙◌, subst, arith}
use mathlib.Core.List.{List, [], ◌∷◌}
use Rattle.std.proofs.Math.Bool.{true, false, true≢false}
use Prim.Native.Nat.{ℕ, zero, suc, ◌+◌, ◌≤◌, ◌<◌}
use Rattle.std.proofs.Math.Dec.{leb}
use Rattle.std.proofs.Math.ListN.{length}
use borrow.Author.Tests.{leb-true, leb-false, le-leb, lt-leb, eqb-true, eqb-false, ne_eqb}
use Rattle.rules.specs.declared.Size.{Size}
use Rattle.rules.specs.declared.Refusal.TheVariants as refusal
use Rattle.rules.specs.declared.NoNumber.TheVariants.{TooManyBytes, LongForm, CutOff}
use Rattle.rules.specs.declared.Header.{Header}
use Rattle.rules.specs.declared.Part.{Part}
use Rattle.rules.specs.Document.Numbers.{PartRead, HeaderRead}
use Rattle.rules.specs.declared.Piece.TheVariants as part
use Rattle.rules.specs.Document.Pyramid.{legal_size, most_planes}
use Rattle.rules.specs.Document.Passes.{PartName}
use Rattle.rules.specs.Document.Layout.{read_number, version, bit_at, clear_from, pad_clear, body_of, name_of, Number}
use Rattle.rules.specs.Document.Numbers.{head_number, judged_header, read_sizes, read_header, part_number, legal_head, judged_part, headed, read_part}
use Rattle.rules.proofs.Laws.Counting.Booleans.{both, both_left, both_right, not_test}
use Rattle.rules.proofs.Laws.Family.Sizes.{legal, size_legal}
use Rattle.rules.proofs.Laws.Reading.Parts.{legal_head_lem, head_legal}
use Rattle.rules.proofs.Laws.Bytes.BodyBack.{pad_clear_lem}
use Rattle.rules.specs.Promises.Refusals.{LegalHeader, Unread, ends_early, fourth_goes_on, Numbers, none, next}
use Rattle.rules.specs.Promises.Refusals.{HeaderCase, HEAD, LONGFORM, VERSION, HEAD-later, LONGFORM-later, SIZE, LEGAL, HeadRead, PadSet, PartCase}
use Rattle.rules.specs.Promises.Refusals.{PART-malformed, TAIL-head, PART, CUT, PAD, WHOLE}

-- A test that fails where a statement does not hold, and passes where it does.
pub failed : {P : Type 0} (b : Bool) → (P → b ≡ true) → b ≡ false → ¬ P
failed b f e p = true≢false (sym (f p) ∙ e)

pub passed : (b : Bool) → ¬ (b ≡ false) → b ≡ true
passed true n = refl
passed false n = absurd (n refl)

-- Headers.
judged_legal : (z : Size) (planes : ℕ) → legal_size z && leb planes most_planes ≡ true → LegalHeader z planes
judged_legal z planes e =
    record { size = legal z (both_left _ _ e); few = leb-true planes most_planes (both_right (legal_size z) _ e) }

pub legal_judged : (z : Size) (planes : ℕ) → LegalHeader z planes → legal_size z && leb planes most_planes ≡ true
legal_judged z planes l = both _ _ (size_legal z l.size) (le-leb planes most_planes l.few)

head_number_case : (P : HeaderRead → Type 0) (s : List ℕ) (at : ℕ) (go : ℕ → ℕ → HeaderRead)
    → (Unread (read_number s at) → P (Err (refusal.Head at))) → (read_number s at ≡ Err LongForm → P (Err (refusal.LongForm at)))
    → ((v end : ℕ) → read_number s at ≡ Ok (v, end) → P (go v end)) → P (head_number at (read_number s at) go)
unfolding head_number
head_number_case P s at go bad long on = cases (read_number s at) refl
  where
    cases : (x : Number) → read_number s at ≡ x → P (head_number at x go)
    cases (Ok (v, end)) e = on v end e
    cases (Err TooManyBytes) e = bad (subst Unread (sym e) fourth_goes_on)
    cases (Err LongForm) e = long e
    cases (Err CutOff) e = bad (subst Unread (sym e) ends_early)

-- What a number that is no value makes of a header, whatever would come behind it.
abbrev Stops : ℕ → Number → HeaderRead → Type 0
Stops at x y = (go : ℕ → ℕ → HeaderRead) → head_number at x go ≡ y

unread_stops : (at : ℕ) {x : Number} → Unread x → Stops at x (Err (refusal.Head at))
unfolding head_number
unread_stops at ends_early go = refl
unread_stops at fourth_goes_on go = refl

long_stops : (at : ℕ) {x : Number} → x ≡ Err LongForm → Stops at x (Err (refusal.LongForm at))
unfolding head_number
long_stops at e go = rw e

judged_case : (s : List ℕ) (z : Size) (planes end : ℕ) → Numbers s 0 (version ∷ z.w ∷ z.h ∷ z.n ∷ planes ∷ []) end
    → HeaderCase s (judged_header z planes end)
unfolding judged_header
judged_case s z planes end ns = cases (legal_size z && leb planes most_planes) refl
  where
    cases : (b : Bool) → legal_size z && leb planes most_planes ≡ b
        → HeaderCase s (cond b (Ok (record { size = z; planes = planes; end = end })) (Err refusal.Size))
    cases true e = LEGAL ns (judged_legal z planes e)
    cases false e = SIZE ns (failed _ (legal_judged z planes) e)

sizes_case : (s : List ℕ) (a : ℕ) → read_number s 0 ≡ Ok (version, a) → HeaderCase s (read_sizes s a)
unfolding read_sizes
sizes_case s a r0 =
    number (next r0 none) (omega arith) (λ w b r1.
    number (next r0 (next r1 none)) (omega arith) (λ g c r2.
    number (next r0 (next r1 (next r2 none))) (omega arith) (λ n d r3.
    number (next r0 (next r1 (next r2 (next r3 none)))) (omega arith) (λ planes end r4.
    judged_case s (record { w = w; h = g; n = n }) planes end (next r0 (next r1 (next r2 (next r3 (next r4 none)))))))))
  where
    number : {vs : List ℕ} {at : ℕ} → Numbers s 0 (version ∷ vs) at → length vs < 4 → {go : ℕ → ℕ → HeaderRead}
        → ((v end : ℕ) → read_number s at ≡ Ok (v, end) → HeaderCase s (go v end)) → HeaderCase s (head_number at (read_number s at) go)
    number {at = at} ns l {go} on = head_number_case (HeaderCase s) s at go (HEAD-later ns l) (LONGFORM-later ns l) on

pub header_case : (s : List ℕ) → HeaderCase s (read_header s)
unfolding read_header
header_case s = head_number_case (HeaderCase s) s 0 _ HEAD LONGFORM (λ v a r. cases v a r (eqb v version) refl)
  where
    cases : (v a : ℕ) → read_number s 0 ≡ Ok (v, a) → (b : Bool) → eqb v version ≡ b
        → HeaderCase s (cond b (read_sizes s a) (Err refusal.Version))
    cases v a r true e = sizes_case s a (r ∙ ap (λ x. Ok (x, a)) (eqb-true v version e))
    cases v a r false e = VERSION (next r none) (eqb-false v version e)

sizes_stop : (s : List ℕ) (a : ℕ) (vs : List ℕ) (at : ℕ) (y : HeaderRead) → Numbers s a vs at → length vs < 4 → Stops at (read_number s at) y
    → read_sizes s a ≡ y
unfolding read_sizes head_number
sizes_stop s a vs at y none l stop = stop _
sizes_stop s a vs at y (next r1 none) l stop = rw r1 (stop _)
sizes_stop s a vs at y (next r1 (next r2 none)) l stop = rw (r1, r2) (stop _)
sizes_stop s a vs at y (next r1 (next r2 (next r3 none))) l stop = rw (r1, r2, r3) (stop _)
sizes_stop s a vs at y (next r1 (next r2 (next r3 (next r4 ns)))) l stop = absurd (omega arith)

pub header_is : (s : List ℕ) (x : HeaderRead) → HeaderCase s x → read_header s ≡ x
unfolding read_header read_sizes head_number judged_header
header_is s x (HEAD u) = unread_stops 0 u _
header_is s x (LONGFORM e) = long_stops 0 e _
header_is s x (VERSION {v = v} (next r none) n) = rw (r, ne_eqb v version n)
header_is s x (HEAD-later {vs = vs} {at = at} (next {b = b} r ns) l u) = rw r (sizes_stop s b vs at x ns l (unread_stops at u))
header_is s x (LONGFORM-later {vs = vs} {at = at} (next {b = b} r ns) l e) = rw r (sizes_stop s b vs at x ns l (long_stops at e))
header_is s x (SIZE {z = z} {planes = planes} (next r0 (next r1 (next r2 (next r3 (next r4 none))))) n) =
    rw (r0, r1, r2, r3, r4, not_test (legal_size z && leb planes most_planes) (λ e. n (judged_legal z planes e)))
header_is s x (LEGAL {h = h} (next r0 (next r1 (next r2 (next r3 (next r4 none))))) l) =
    rw (r0, r1, r2, r3, r4, legal_judged h.size h.planes l)

-- Parts.
clear_set : (body : List ℕ) (i m : ℕ) → clear_from body i m ≡ false → (j : ℕ) × (i ≤ j) × (j < i + m) × (bit_at body j ≡ true)
unfolding clear_from
clear_set body i zero e = absurd (true≢false e)
clear_set body i (suc m) e = cases (bit_at body i) refl e (clear_set body (suc i) m)
  where
    cases : (b : Bool) → bit_at body i ≡ b → not b && clear_from body (suc i) m ≡ false
        → (clear_from body (suc i) m ≡ false → (j : ℕ) × (suc i ≤ j) × (j < suc i + m) × (bit_at body j ≡ true))
        → (j : ℕ) × (i ≤ j) × (j < i + suc m) × (bit_at body j ≡ true)
    cases true b e r = (i, omega arith, omega arith, b)
    cases false b e r = let q = r e in (q.0, omega arith, omega arith, q.3)

module _ (s : List ℕ) (p : Part) where
  pub pad_set_lem : pad_clear (body_of s p) p.bits ≡ false → PadSet s p
  unfolding pad_clear
  pad_set_lem e =
      let q = clear_set (body_of s p) p.bits _ e in
      record { which = q.0; behind = q.1; inside = omega (arith, q.2); is_set = q.3 }

  pub pad_none : pad_clear (body_of s p) p.bits ≡ true → ¬ PadSet s p
  unfolding pad_clear
  pad_none e q = true≢false (sym q.is_set ∙ pad_clear_lem (body_of s p) p.bits _ q.which e q.behind (omega (arith, q.inside)))

part_number_case : (P : PartRead → Type 0) (place : ℕ) (s : List ℕ) (at : ℕ) (go : ℕ → ℕ → PartRead)
    → (read_number s at ≡ Err TooManyBytes → P (Err (refusal.Part place)))
    → (read_number s at ≡ Err LongForm → P (Err (refusal.LongForm place))) → (read_number s at ≡ Err CutOff → P (Ok part.Tail))
    → ((v end : ℕ) → read_number s at ≡ Ok (v, end) → P (go v end)) → P (part_number place (read_number s at) go)
unfolding part_number
part_number_case P place s at go many long cut on = cases (read_number s at) refl
  where
    cases : (x : Number) → read_number s at ≡ x → P (part_number place x go)
    cases (Ok (v, end)) e = on v end e
    cases (Err TooManyBytes) e = many e
    cases (Err LongForm) e = long e
    cases (Err CutOff) e = cut e

module _ (h : Header) (s : List ℕ) (before : PartName) (place : ℕ) where
  abbrev reads : PartRead → Type 0
  reads = PartCase h s before place

  judged_part_case : (p : Part) → HeadRead s place p → PartCase h s before place (judged_part h s before p)
  unfolding judged_part
  judged_part_case p r =
      cases (legal_head h before (name_of p) p.bits) refl (leb p.end (length s)) refl (pad_clear (body_of s p) p.bits) refl
    where
      cases : (a : Bool) → legal_head h before (name_of p) p.bits ≡ a → (b : Bool) → leb p.end (length s) ≡ b → (c : Bool)
          → pad_clear (body_of s p) p.bits ≡ c
          → reads (cond a (cond b (cond c (Ok (part.Part p)) (Err (refusal.Pad p.place))) (Ok (part.Cut p))) (Err (refusal.Part p.place)))
      cases true l true w true c = WHOLE r (legal_head_lem h before (name_of p) p.bits l) (leb-true _ _ w) (pad_none s p c)
      cases true l true w false c =
          rw r.placed (PAD r (legal_head_lem h before (name_of p) p.bits l) (leb-true _ _ w) (pad_set_lem s p c))
      cases true l false w c d = CUT r (legal_head_lem h before (name_of p) p.bits l) (leb-false _ _ w)
      cases false l b w c d = rw r.placed (PART r (failed _ (head_legal h before (name_of p) p.bits) l))

  pub part_case : PartCase h s before place (read_part h s before place)
  unfolding read_part headed
  part_case =
      number none (omega arith) (λ n a r0.
      number (next r0 none) (omega arith) (λ k b r1.
      number (next r0 (next r1 none)) (omega arith) (λ bits body r2.
      judged_part_case (headed place n k bits body) (record { numbers = next r0 (next r1 (next r2 none)); placed = refl; ends = refl }))))
    where
      number : {vs : List ℕ} {at : ℕ} → Numbers s place vs at → length vs < 3 → {go : ℕ → ℕ → PartRead}
          → ((v end : ℕ) → read_number s at ≡ Ok (v, end) → reads (go v end)) → reads (part_number place (read_number s at) go)
      number {at = at} ns l {go} on = part_number_case reads place s at go (PART-malformed ns l) (LONGFORM ns l) (TAIL-head ns l) on

  part_stops : (x : PartRead) (vs : List ℕ) (at : ℕ) → Numbers s place vs at → length vs < 3
      → ((go : ℕ → ℕ → PartRead) → part_number place (read_number s at) go ≡ x) → read_part h s before place ≡ x
  unfolding read_part part_number
  part_stops x vs at none l stop = stop _
  part_stops x vs at (next r0 none) l stop = rw r0 (stop _)
  part_stops x vs at (next r0 (next r1 none)) l stop = rw (r0, r1) (stop _)
  part_stops x vs at (next r0 (next r1 (next r2 ns))) l stop = absurd (omega arith)

  part_judged : (p : Part) → HeadRead s place p → read_part h s before place ≡ judged_part h s before p
  unfolding read_part part_number headed
  part_judged p r = numbers r.numbers
    where
      this : headed place p.plane.0 p.level.0 p.bits p.body ≡ p
      this = λ i. record { plane = p.plane; level = p.level; bits = p.bits; place = sym r.placed i; body = p.body; end = sym r.ends i }

      numbers : Numbers s place (p.plane.0 ∷ p.level.0 ∷ p.bits ∷ []) p.body → read_part h s before place ≡ judged_part h s before p
      numbers (next r0 (next r1 (next r2 none))) = rw (r0, r1, r2) (ap (judged_part h s before) this)

  pub part_is : (x : PartRead) → PartCase h s before place x → read_part h s before place ≡ x
  unfolding judged_part
  part_is x (PART-malformed {vs = vs} {at = at} ns l e) = part_stops x vs at ns l (λ go. unfold part_number in rw e)
  part_is x (LONGFORM {vs = vs} {at = at} ns l e) = part_stops x vs at ns l (λ go. unfold part_number in rw e)
  part_is x (TAIL-head {vs = vs} {at = at} ns l e) = part_stops x vs at ns l (λ go. unfold part_number in rw e)
  part_is x (PART {p = p} r n) =
      part_judged p r ∙ rw (not_test (legal_head h before (name_of p) p.bits) (λ e. n (legal_head_lem h before (name_of p) p.bits e)), r.placed)
  part_is x (CUT {p = p} r l c) =
      part_judged p r ∙ rw (head_legal h before (name_of p) p.bits l, lt-leb p.end (length s) c)
  part_is x (PAD {p = p} r l w q) =
      let set : pad_clear (body_of s p) p.bits ≡ false = not_test _ (λ e. pad_none s p e q) in
      part_judged p r ∙ rw (head_legal h before (name_of p) p.bits l, le-leb p.end (length s) w, set, r.placed)
  part_is x (WHOLE {p = p} r l w n) =
      let clear : pad_clear (body_of s p) p.bits ≡ true = passed _ (λ e. n (pad_set_lem s p e)) in
      part_judged p r ∙ rw (head_legal h before (name_of p) p.bits l, le-leb p.end (length s) w, clear)
