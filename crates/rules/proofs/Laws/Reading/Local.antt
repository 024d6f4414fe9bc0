-- Reading looks at the bytes of what it reads and no others: a number or a part that stands elsewhere, in other bytes, reads the same.
use Rattle.std.specs.Prelude.{◌≡◌, refl, List, [], ◌∷◌, ◌++◌, true, ℕ, zero, suc, ◌+◌, ◌-◌, ◌≤◌, ◌<◌, length, get_or, drop, Ok}
use Rattle.std.proofs.Math.Path.{ap}
use Rattle.std.proofs.Common.{ap₂, sym, ◌∙◌, subst, length-append, length-drop, ext_get_or, get_or-take, get_or-drop, length-take-le}
use native.Mathlib.Omega.{arith}
use Rattle.std.proofs.Math.ListN.{take, get_or-append}
use Rattle.rules.specs.declared.Header.{Header}
use Rattle.rules.specs.declared.Part.{Part}
use Rattle.rules.specs.declared.Piece.TheVariants as part
use Rattle.rules.specs.Document.Layout.{bit_at, read_number, bytes_for, body_of, name_of}
use Rattle.rules.specs.Document.Passes.{PartName}
use Rattle.rules.specs.Document.Numbers.{read_header, legal_head, read_part}
use Rattle.rules.specs.Promises.Vocabulary.{moved_to}
use Rattle.rules.proofs.Laws.Reading.Parts.{legal_head_lem}
use Rattle.rules.specs.Promises.Refusals.{groups_worth, NumberCase, VALUE, Numbers, none, next, HeaderCase, LEGAL, PartCase, WHOLE}
use Rattle.rules.proofs.Laws.Reading.NumberCases.{number_case, number_is}
use Rattle.rules.proofs.Laws.Reading.PartCases.{header_case, header_is, part_case, part_is}
use Rattle.rules.proofs.Laws.Reading.Stands.{read_number_stands}
use Rattle.rules.specs.Laws.Reading.Local.{Same}

-- The first bytes, with others behind them.
pub same_taken : (s : List ℕ) (n : ℕ) (rest : List ℕ) → n ≤ length s → Same s 0 (take n s ++ rest) 0 n
same_taken s n rest l =
    let e : length (take n s) ≡ n = length-take-le n s l in
    record {
      there = omega (arith, length-append (take n s) rest);
      bytes = λ i j.
          let x : 0 + i ≡ i = omega arith in
          rw (x, get_or-append (take n s) rest 0 i (omega arith), get_or-take n s i 0 j);
    }

-- A stretch of a stretch.
pub same_within : (s : List ℕ) (a : ℕ) (t : List ℕ) (b n k m : ℕ) → Same s a t b n → k + m ≤ n → Same s (a + k) t (b + k) m
same_within s a t b n k m e l =
    record {
      there = omega (arith, e.there);
      bytes = λ i j.
          let x : b + (k + i) ≡ b + k + i = omega arith in
          let y : a + (k + i) ≡ a + k + i = omega arith in
          subst (λ (p : ℕ). get_or t p 0 ≡ get_or s (a + k + i) 0) x
          (subst (λ (p : ℕ). get_or t (b + (k + i)) 0 ≡ get_or s p 0) y (e.bytes (k + i) (omega arith)));
    }

same_front : (s : List ℕ) (a : ℕ) (t : List ℕ) (b n k : ℕ) → Same s a t b n → k ≤ n → Same s a t b k
same_front s a t b n k e l = record { there = omega (arith, e.there); bytes = λ i j. e.bytes i (omega arith) }

-- from place c to place d of a stretch that begins at a
pub same_part : (s : List ℕ) (a : ℕ) (t : List ℕ) (b n c d : ℕ) → Same s a t b n → a ≤ c → c ≤ d → d - a ≤ n → Same s c t (b + (c - a)) (d - c)
same_part s a t b n c d e l m o =
    let x : a + (c - a) ≡ c = omega arith in
    subst (λ (i : ℕ). Same s i t (b + (c - a)) (d - c)) x (same_within s a t b n (c - a) (d - c) e (omega arith))

-- A number: the same bytes go on, and are worth the same.
groups_local : (s : List ℕ) (a : ℕ) (t : List ℕ) (b n i : ℕ) → Same s a t b n → i ≤ n → groups_worth t b i ≡ groups_worth s a i
unfolding groups_worth
groups_local s a t b n zero m l = refl
groups_local s a t b n (suc i) m l = rw (groups_local s a t b n i m (omega arith), m.bytes i (omega arith))

read_number_local : (s : List ℕ) (a : ℕ) (t : List ℕ) (b v end : ℕ) → read_number s a ≡ Ok (v, end) → Same s a t b (end - a)
    → read_number t b ≡ Ok (v, b + (end - a))
read_number_local s a t b v end e m = cases (subst (NumberCase s a) e (number_case s a)) m
  where
    cases : {v end : ℕ} → NumberCase s a (Ok (v, end)) → Same s a t b (end - a) → read_number t b ≡ Ok (v, b + (end - a))
    cases (VALUE i l g w k n) m =
        let last : get_or t (b + i) 0 ≡ get_or s (a + i) 0 = m.bytes i (omega arith) in
        let q : b + i + 1 ≡ b + (a + i + 1 - a) = omega arith in
        number_is t b _
        (VALUE i l (λ j o. rw (m.bytes j (omega arith)) (g j o)) (omega (arith, m.there)) (omega (arith, last)) (λ o z. n o (sym last ∙ z)))
        ∙ ap₂ (λ v end. Ok (v, end)) (rw (last, groups_local s a t b (a + i + 1 - a) i m (omega arith))) q

-- Several numbers.
numbers_forward : (s : List ℕ) {vs : List ℕ} {a e : ℕ} → Numbers s a vs e → a ≤ e
numbers_forward s none = omega arith
numbers_forward s (next r ns) = omega (arith, (read_number_stands s _ _ _ r).after, numbers_forward s ns)

numbers_local : (s t : List ℕ) {vs : List ℕ} {a e : ℕ} (b : ℕ) → Numbers s a vs e → Same s a t b (e - a) → Numbers t b vs (b + (e - a))
numbers_local s t b (none {a = a}) m = let q : b ≡ b + (a - a) = omega arith in subst (Numbers t b []) q none
numbers_local s t b (next {a = a} {b = c} {e = e} {v = v} {vs = vs} r ns) m =
    let l : a < c = (read_number_stands s a v c r).after in
    let f : c ≤ e = numbers_forward s ns in
    let q : b + (c - a) + (e - c) ≡ b + (e - a) = omega arith in
    next (read_number_local s a t b v c r (same_front s a t b (e - a) (c - a) m (omega arith)))
    (subst (Numbers t (b + (c - a)) vs) q
    (numbers_local s t (b + (c - a)) ns (same_part s a t b (e - a) c e m (omega arith) f (omega arith))))

-- The same stretch as a list.
pub same_stretch : (s : List ℕ) (a : ℕ) (t : List ℕ) (b n : ℕ) → Same s a t b n → a + n ≤ length s → take n (drop b t) ≡ take n (drop a s)
same_stretch s a t b n e l =
    let p : length (take n (drop b t)) ≡ n = length-take-le n (drop b t) (omega (arith, e.there, length-drop b t)) in
    let q : length (take n (drop a s)) ≡ n = length-take-le n (drop a s) (omega (arith, length-drop a s)) in
    ext_get_or 0 (take n (drop b t)) (take n (drop a s)) (p ∙ sym q)
    (λ i j.
    let k : i < n = omega arith in
    get_or-take n (drop b t) i 0 k ∙ get_or-drop b t i 0 ∙ e.bytes i k ∙ sym (get_or-take n (drop a s) i 0 k ∙ get_or-drop a s i 0))

module _ (s : List ℕ) (t : List ℕ) (b : ℕ) (p : Part) (m : Same s p.place t b (p.end - p.place)) (in_order : p.place ≤ p.body)
    (ends : p.end ≡ p.body + bytes_for p.bits) (inside : p.end ≤ length s) where
  pub moved_to_body : body_of t (moved_to b p) ≡ body_of s p
  unfolding body_of moved_to
  moved_to_body =
      let u : Same s (p.place + (p.body - p.place)) t (b + (p.body - p.place)) (bytes_for p.bits)
      = same_within s p.place t b (p.end - p.place) (p.body - p.place) (bytes_for p.bits) m (omega arith) in
      let e : p.place + (p.body - p.place) ≡ p.body = omega arith in
      same_stretch s (p.place + (p.body - p.place)) t (b + (p.body - p.place)) (bytes_for p.bits) u (omega arith)
      ∙ ap (λ (n : ℕ). take (bytes_for p.bits) (drop n s)) e

pub read_part_local : (h : Header) (s : List ℕ) (before : PartName) (place : ℕ) (p : Part) → read_part h s before place ≡ Ok (part.Part p) → (t : List ℕ)
    (b : ℕ) (earlier : PartName) → Same s place t b (p.end - place) → legal_head h earlier (name_of p) p.bits ≡ true
    → read_part h t earlier b ≡ Ok (part.Part (moved_to b p))
unfolding name_of moved_to
read_part_local h s before place p e t b earlier m l =
    part_is h t earlier b _ (cases (subst (PartCase h s before place) e (part_case h s before place)) m l)
  where
    cases : {p : Part} → PartCase h s before place (Ok (part.Part p)) → Same s place t b (p.end - place) → legal_head h earlier (name_of p) p.bits ≡ true
        → PartCase h t earlier b (Ok (part.Part (moved_to b p)))
    cases {p} (WHOLE r o w n) m l =
        let here : place ≡ p.place = sym r.placed in
        let ns : Numbers s p.place (p.plane.0 ∷ p.level.0 ∷ p.bits ∷ []) p.body = rw here at r.numbers in
        let k : Same s p.place t b (p.end - p.place) = rw here at m in
        let f : p.place ≤ p.body = numbers_forward s ns in
        let same : body_of t (moved_to b p) ≡ body_of s p = moved_to_body s t b p k f r.ends w in
        WHOLE {p = moved_to b p}
        (record {
          numbers = numbers_local s t b ns (same_front s p.place t b (p.end - p.place) (p.body - p.place) k (omega (arith, r.ends)));
          placed = refl;
          ends = omega (arith, r.ends);
        })
        (legal_head_lem h earlier (name_of p) p.bits l)
        (omega (arith, k.there))
        (λ q. n (record { which = q.which; behind = q.behind; inside = q.inside; is_set = ap (λ x. bit_at x q.which) (sym same) ∙ q.is_set }))

-- A header at the front of other bytes.
pub read_header_local : (s : List ℕ) (h : Header) → read_header s ≡ Ok h → (t : List ℕ) → Same s 0 t 0 h.end → read_header t ≡ Ok h
read_header_local s h e t m = header_is t _ (cases (subst (HeaderCase s) e (header_case s)) m)
  where
    cases : {h : Header} → HeaderCase s (Ok h) → Same s 0 t 0 h.end → HeaderCase t (Ok h)
    cases {h} (LEGAL ns l) m =
        let q : h.end - 0 ≡ h.end = omega arith in
        let o : 0 + (h.end - 0) ≡ h.end = omega arith in
        LEGAL (subst (Numbers t 0 _) o (numbers_local s t 0 ns (subst (Same s 0 t 0) (sym q) m))) l
