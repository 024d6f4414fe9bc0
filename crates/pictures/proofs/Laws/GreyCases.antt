-- Reading a grey file has the Outcome that its case says, and no other.
use Rattle.std.specs.Prelude.{◌≡◌, refl, Bool, cond, not, eqb, length, take, drop}
use Rattle.std.proofs.Math.Path.{ap, subst}
use Rattle.std.proofs.Common.{ap₂, sym, ◌∙◌, true≢false, arith, leb-true, leb-false, le-leb, eqb-true, ne_eqb}
use mathlib.Core.List.{List, [], ◌∷◌, ◌++◌, append_assoc}
use Rattle.std.proofs.Math.Bool.{true, false, and-false}
use Prim.Native.Nat.{ℕ, ◌+◌, ◌-◌, ◌*◌, ◌≤◌, ◌<◌}
use Rattle.std.proofs.Math.Dec.{leb}
use Rattle.std.proofs.lemmas.Bool.{lt-leb, eqb-false, not-true}
use Rattle.rules.specs.Document.Notation.{every}
use Rattle.rules.proofs.Laws.Counting.Booleans.{both_left, both_right, not_test}
use Rattle.pictures.specs.Document.Netpbm.{line_end, blank, hash, gap_byte, digit, begins, after_comment, after_blanks, after_gap, number}
use Rattle.pictures.specs.Document.Netpbm.{GreyHeader, no_header, header, is_p5, on_magic, on_number, last_blank, on_end, greatest_pixel, read_grey}
use Rattle.pictures.specs.Document.Netpbm.{GreyFile, not_grey, picture, pixels_there, taken, read_file}
use Rattle.pictures.specs.Laws.GreyCauses.{InLine, Gap, no_more, worth, Field, Fields, none, next, NoDigit, another_byte, in_comment, End, Magic}
use Rattle.pictures.specs.Laws.GreyCauses.{GreyCase, NOT-P5, NO-GAP, NO-DIGIT, MAXVAL, NO-END, PIXELS, PICTURE}
use Rattle.pictures.specs.Laws.GreyCauses as causes

-- Bytes.
pub digit_no_gap : (b : ℕ) → digit b ≡ true → gap_byte b ≡ false
unfolding digit gap_byte blank line_end
digit_no_gap b e =
    let l : 48 ≤ b = leb-true 48 b (both_left _ _ e) in
    rw (
      ne_eqb b 10 (λ q. omega arith),
      ne_eqb b 13 (λ q. omega arith),
      ne_eqb b 32 (λ q. omega arith),
      ne_eqb b 9 (λ q. omega arith),
      ne_eqb b 35 (λ q. omega arith),
    )

pub end_blank : (b : ℕ) → line_end b ≡ true → blank b ≡ true
unfolding blank
end_blank b e = rw e

blank_gap : (b : ℕ) → blank b ≡ true → gap_byte b ≡ true
unfolding gap_byte
blank_gap b e = rw e

pub blank_no_hash : (b : ℕ) → blank b ≡ true → eqb b hash ≡ false
unfolding blank line_end
blank_no_hash b e = not_test (eqb b hash) (λ q. true≢false (sym e ∙ ap blank (eqb-true b hash q)))

-- Gaps are passed over, up to a byte that is in none, or to the end of the bytes.
comment_passed : (c : List ℕ) → InLine c → (e : ℕ) → line_end e ≡ true → (r : List ℕ) → after_blanks true (c ++ e ∷ r) ≡ after_blanks false r
unfolding after_blanks every
comment_passed [] l e x r = ap (λ y. after_blanks (not y) r) x
comment_passed (b ∷ c) l e x r =
    ap (λ y. after_blanks y (c ++ e ∷ r)) (both_left (not (line_end b)) _ l) ∙ comment_passed c (both_right (not (line_end b)) _ l) e x r

comment_cut : (c : List ℕ) → InLine c → after_blanks true c ≡ []
unfolding after_blanks every
comment_cut [] l = refl
comment_cut (b ∷ c) l = ap (λ y. after_blanks y c) (both_left (not (line_end b)) _ l) ∙ comment_cut c (both_right (not (line_end b)) _ l)

pub gap_passed : {g : List ℕ} → Gap g → (u : List ℕ) → after_gap (g ++ u) ≡ after_gap u
unfolding after_gap after_blanks gap_byte blank line_end
gap_passed no_more u = refl
gap_passed (causes.Gap.a_blank b {g} e G) u =
    rw (blank_gap b e) (ap (λ y. after_blanks y (g ++ u)) (blank_no_hash b e) ∙ gap_passed G u)
gap_passed (causes.Gap.a_comment c {g} e l x G) u =
    ap (after_blanks true) (append_assoc c (e ∷ g) u) ∙ comment_passed c l e x (g ++ u) ∙ gap_passed G u

pub gap_ends : (u : List ℕ) → begins gap_byte u ≡ false → after_gap u ≡ u
unfolding after_gap after_blanks begins
gap_ends [] e = refl
gap_ends (b ∷ u) e = rw e

gap_begins : {g : List ℕ} → Gap g → 1 ≤ length g → (u : List ℕ) → begins gap_byte (g ++ u) ≡ true
unfolding begins gap_byte blank line_end
gap_begins no_more l u = absurd (omega arith)
gap_begins (causes.Gap.a_blank b e G) l u = blank_gap b e
gap_begins (causes.Gap.a_comment c e x y G) l u = refl

-- Digits are read up to a byte that is none.
pub number_digits : (d : List ℕ) (v : ℕ) (t : List ℕ) → every digit d ≡ true → begins digit t ≡ false
    → number v (d ++ t) ≡ record { value = worth v d; behind = t }
unfolding number worth every begins
number_digits [] v [] e n = refl
number_digits [] v (b ∷ t) e n = rw n
number_digits (b ∷ d) v t e n = rw (both_left (digit b) _ e) (number_digits d (10 * v + (b - 48)) t (both_right (digit b) _ e) n)

digits_begin : (d t : List ℕ) → 1 ≤ length d → every digit d ≡ true → begins digit (d ++ t) ≡ true
unfolding every begins
digits_begin [] t l e = absurd (omega arith)
digits_begin (b ∷ d) t l e = both_left (digit b) _ e

digits_no_gap : (u : List ℕ) → begins digit u ≡ true → begins gap_byte u ≡ false
unfolding begins
digits_no_gap [] e = refl
digits_no_gap (b ∷ u) e = digit_no_gap b e

-- A field, and what is none.
module _ (s : List ℕ) (go : ℕ → List ℕ → GreyHeader) where
  pub on_number_field : {v : ℕ} {t : List ℕ} → Field s v t → on_number s go ≡ go v t
  unfolding on_number
  on_number_field {v} {t} f =
      let u : List ℕ = f.digits ++ t in
      let d : begins digit u ≡ true = digits_begin f.digits t f.some_digit f.are_digits in
      let a : after_gap s ≡ u = ap after_gap f.split ∙ gap_passed f.is_gap u ∙ gap_ends u (digits_no_gap u d) in
      let b : begins gap_byte s ≡ true = ap (begins gap_byte) f.split ∙ gap_begins f.is_gap f.some_gap u in
      rw (b, a, d, number_digits f.digits 0 t f.are_digits f.last, f.value)

  pub on_number_no_gap : begins gap_byte s ≡ false → on_number s go ≡ no_header
  unfolding on_number
  on_number_no_gap e = rw e

comment_only : (c : List ℕ) → InLine c → after_gap (hash ∷ c) ≡ []
unfolding after_gap after_blanks gap_byte blank line_end
comment_only c l = comment_cut c l

pub on_number_no_digit : {s : List ℕ} (go : ℕ → List ℕ → GreyHeader) → NoDigit s → on_number s go ≡ no_header
unfolding on_number begins
on_number_no_digit go (another_byte {g} u G l n m) = rw (gap_passed G u, gap_ends u n, m, and-false (begins gap_byte (g ++ u)))
on_number_no_digit go (in_comment {g} c G l) =
    rw (gap_passed G (hash ∷ c), comment_only c l, and-false (begins gap_byte (g ++ hash ∷ c)))

-- How bytes begin, from outside a comment and from inside.
data Outside : List ℕ → Type 0 where
  stops : {g : List ℕ} (u : List ℕ) → Gap g → begins gap_byte u ≡ false → Outside (g ++ u)
  cut : {g : List ℕ} (c : List ℕ) → Gap g → InLine c → Outside (g ++ hash ∷ c)

data Inside : List ℕ → Type 0 where
  ended : (c : List ℕ) (e : ℕ) (r : List ℕ) → InLine c → line_end e ≡ true → Outside r → Inside (c ++ e ∷ r)
  unended : (c : List ℕ) → InLine c → Inside c

blank_first : (b : ℕ) {s : List ℕ} → blank b ≡ true → Outside s → Outside (b ∷ s)
blank_first b e (stops u G n) = stops u (causes.Gap.a_blank b e G) n
blank_first b e (cut c G l) = cut c (causes.Gap.a_blank b e G) l

comment_first : {s : List ℕ} → Inside s → Outside (hash ∷ s)
comment_first (ended c e r l x (stops {g} u G n)) =
    subst (λ y. Outside (hash ∷ y)) (append_assoc c (e ∷ g) u) (stops u (causes.Gap.a_comment c e l x G) n)
comment_first (ended c e r l x (cut {g} k G m)) =
    subst (λ y. Outside (hash ∷ y)) (append_assoc c (e ∷ g) (hash ∷ k)) (cut k (causes.Gap.a_comment c e l x G) m)
comment_first (unended c l) = cut c no_more l

line_goes_on : (b : ℕ) {s : List ℕ} → line_end b ≡ false → Inside s → Inside (b ∷ s)
unfolding every
line_goes_on b n (ended c e r l x o) = ended (b ∷ c) e r (rw n l) x o
line_goes_on b n (unended c l) = unended (b ∷ c) (rw n l)

beginning : (s : List ℕ) → Outside s × Inside s
unfolding every begins gap_byte
beginning [] = (stops [] no_more refl, unended [] refl)
beginning (b ∷ s) = (outside (blank b) refl (eqb b hash) refl (beginning s), inside (line_end b) refl (beginning s))
  where
    outside : (x : Bool) → blank b ≡ x → (y : Bool) → eqb b hash ≡ y → Outside s × Inside s → Outside (b ∷ s)
    outside true e y f r = blank_first b e r.0
    outside false e true f r = subst (λ a. Outside (a ∷ s)) (sym (eqb-true b hash f)) (comment_first r.1)
    outside false e false f r = stops (b ∷ s) no_more (rw (e, f))

    inside : (x : Bool) → line_end b ≡ x → Outside s × Inside s → Inside (b ∷ s)
    inside true e r = ended [] b s refl e r.0
    inside false e r = line_goes_on b e r.1

-- The digits that bytes begin with.
data Led : List ℕ → Type 0 where
  led : (d t : List ℕ) → every digit d ≡ true → begins digit t ≡ false → Led (d ++ t)

leading : (s : List ℕ) → Led s
unfolding every begins
leading [] = led [] [] refl refl
leading (b ∷ s) = cases (digit b) refl (leading s)
  where
    cases : (x : Bool) → digit b ≡ x → {s : List ℕ} → Led s → Led (b ∷ s)
    cases true e (led d t l n) = led (b ∷ d) t (rw e l) n
    cases false e {s} r = led [] (b ∷ s) refl e

data FieldCase : List ℕ → Type 0 where
  no_gap : {s : List ℕ} → begins gap_byte s ≡ false → FieldCase s
  no_digit : {s : List ℕ} → NoDigit s → FieldCase s
  a_field : {s : List ℕ} (v : ℕ) (t : List ℕ) → Field s v t → FieldCase s

behind_gap : {g : List ℕ} (u : List ℕ) → Gap g → 1 ≤ length g → begins gap_byte u ≡ false → FieldCase (g ++ u)
behind_gap {g} u G l n = cases (leading u) n
  where
    cases : {u : List ℕ} → Led u → begins gap_byte u ≡ false → FieldCase (g ++ u)
    cases (led [] t e m) n = no_digit (another_byte t G l n m)
    cases (led (b ∷ d) t e m) n =
        a_field (worth 0 (b ∷ d)) t
        (record { gap = g; digits = b ∷ d; split = refl; is_gap = G; some_gap = l; are_digits = e; some_digit = omega arith; value = refl; last = m })

field_case : (s : List ℕ) → FieldCase s
field_case s = cases (beginning s).0
  where
    gapped : {g : List ℕ} (u : List ℕ) → Gap g → begins gap_byte u ≡ false → FieldCase (g ++ u)
    gapped u no_more n = no_gap n
    gapped u (causes.Gap.a_blank b e G) n = behind_gap u (causes.Gap.a_blank b e G) (omega arith) n
    gapped u (causes.Gap.a_comment c e l x G) n = behind_gap u (causes.Gap.a_comment c e l x G) (omega arith) n

    cases : {s : List ℕ} → Outside s → FieldCase s
    cases (stops u G n) = gapped u G n
    cases (cut c G l) = no_digit (in_comment c G l)

-- What comes of a field, for whatever is claimed of a header.
on_number_case : (P : GreyHeader → Type 0) (s : List ℕ) (go : ℕ → List ℕ → GreyHeader) → (begins gap_byte s ≡ false → P no_header)
    → (NoDigit s → P no_header) → ((v : ℕ) (t : List ℕ) → Field s v t → P (go v t)) → P (on_number s go)
on_number_case P s go ungapped undigited some = cases (field_case s)
  where
    cases : FieldCase s → P (on_number s go)
    cases (no_gap n) = rw (on_number_no_gap s go n) (ungapped n)
    cases (no_digit n) = rw (on_number_no_digit go n) (undigited n)
    cases (a_field v t f) = rw (on_number_field s go f) (some v t f)

-- The end of a header.
comment_behind : (c : List ℕ) → InLine c → (e : ℕ) → line_end e ≡ true → (p : List ℕ) → after_comment (c ++ e ∷ p) ≡ e ∷ p
unfolding after_comment every
comment_behind [] l e x p = rw x
comment_behind (b ∷ c) l e x p = rw (not-true (line_end b) (both_left _ _ l)) (comment_behind c (both_right (not (line_end b)) _ l) e x p)

comment_behind_none : (c : List ℕ) → InLine c → after_comment c ≡ []
unfolding after_comment every
comment_behind_none [] l = refl
comment_behind_none (b ∷ c) l = rw (not-true (line_end b) (both_left _ _ l)) (comment_behind_none c (both_right (not (line_end b)) _ l))

end_last : {e p : List ℕ} → End e p → (b : ℕ) × (blank b ≡ true) × (last_blank e ≡ b ∷ p)
unfolding last_blank begins after_comment line_end
end_last (causes.End.a_blank b p x) = (b, x, rw (blank_no_hash b x))
end_last (causes.End.a_comment c e p l x) = (e, end_blank e x, comment_behind c l e x p)

pub on_end_is : {e p : List ℕ} (go : List ℕ → GreyHeader) → End e p → on_end e go ≡ go p
unfolding on_end begins
on_end_is go E = let l = end_last E in rw (l.2, l.1)

data EndCase : List ℕ → Type 0 where
  ends : {e : List ℕ} (p : List ℕ) → End e p → EndCase e
  never : (e : List ℕ) → begins blank (last_blank e) ≡ false → EndCase e

comment_ends : {s : List ℕ} → Inside s → EndCase (hash ∷ s)
unfolding last_blank begins after_comment line_end
comment_ends (ended c e r l x o) = ends r (causes.End.a_comment c e r l x)
comment_ends (unended c l) = never (hash ∷ c) (rw (comment_behind_none c l))

end_case : (e : List ℕ) → EndCase e
unfolding last_blank begins
end_case [] = never [] refl
end_case (b ∷ s) = cases (eqb b hash) refl (blank b) refl
  where
    cases : (x : Bool) → eqb b hash ≡ x → (y : Bool) → blank b ≡ y → EndCase (b ∷ s)
    cases true e y f = subst (λ a. EndCase (a ∷ s)) (sym (eqb-true b hash e)) (comment_ends (beginning s).1)
    cases false e true f = ends s (causes.End.a_blank b s f)
    cases false e false f = never (b ∷ s) (rw (e, f))

ends_blank : {e p : List ℕ} → End e p → begins blank (last_blank e) ≡ true
unfolding begins
ends_blank E = let l = end_last E in rw (l.2, l.1)

on_end_case : (P : GreyHeader → Type 0) (e : List ℕ) (go : List ℕ → GreyHeader) → (((p : List ℕ) → ¬ End e p) → P no_header)
    → ((p : List ℕ) → End e p → P (go p)) → P (on_end e go)
unfolding on_end
on_end_case P e go no_end some = cases (end_case e)
  where
    cases : EndCase e → P (on_end e go)
    cases (ends p E) = rw (on_end_is go E) (some p E)
    cases (never x n) = rw n (no_end (λ p E. true≢false (sym (ends_blank E) ∙ n)))

pub on_end_none : (e : List ℕ) (go : List ℕ → GreyHeader) → ((p : List ℕ) → ¬ End e p) → on_end e go ≡ no_header
on_end_none e go n = on_end_case (λ x. x ≡ no_header) e go (λ m. refl) (λ p E. absurd (n p E))

-- "'P' '5'"
magic : (s : List ℕ) → is_p5 s ≡ true → Magic s (drop 2 s)
unfolding is_p5
magic [] e = absurd (true≢false (sym e))
magic (a ∷ []) e = absurd (true≢false (sym (both_right (eqb a 80) false e)))
magic (a ∷ b ∷ s) e = ap₂ (λ x y. x ∷ y ∷ s) (eqb-true a 80 (both_left _ _ e)) (eqb-true b 53 (both_right (eqb a 80) _ e))

magic_told : {s t : List ℕ} → Magic s t → is_p5 s ≡ true
unfolding is_p5
magic_told m = rw m

pub on_magic_is : {s t : List ℕ} (go : List ℕ → GreyHeader) → Magic s t → on_magic s go ≡ go t
unfolding on_magic is_p5
on_magic_is go m = rw m

on_magic_case : (P : GreyHeader → Type 0) (s : List ℕ) (go : List ℕ → GreyHeader) → (((t : List ℕ) → ¬ Magic s t) → P no_header)
    → ((t : List ℕ) → Magic s t → P (go t)) → P (on_magic s go)
unfolding on_magic
on_magic_case P s go other some = cases (is_p5 s) refl
  where
    cases : (x : Bool) → is_p5 s ≡ x → P (cond x (go (drop 2 s)) no_header)
    cases true e = some (drop 2 s) (magic s e)
    cases false e = other (λ t m. true≢false (sym (magic_told m) ∙ e))

on_magic_none : (s : List ℕ) (go : List ℕ → GreyHeader) → ((t : List ℕ) → ¬ Magic s t) → on_magic s go ≡ no_header
on_magic_none s go n = on_magic_case (λ x. x ≡ no_header) s go (λ m. refl) (λ t m. absurd (n t m))

-- A file.
module _ (s : List ℕ) where
  abbrev Outcome : GreyHeader → Type 0
  Outcome x = GreyCase s (taken x)

  behind_fields : {t e : List ℕ} {w h m : ℕ} → Magic s t → Fields t (w ∷ h ∷ m ∷ []) e → (x : Bool) → eqb m greatest_pixel ≡ x
      → Outcome (cond x (on_end e (λ p. header w h p)) no_header)
  unfolding taken pixels_there
  behind_fields M F false e = MAXVAL M F (eqb-false _ _ e)
  behind_fields {t} {e} {w} {h} {m} M F true q =
      let G : Fields t (w ∷ h ∷ greatest_pixel ∷ []) e = subst (λ x. Fields t (w ∷ h ∷ x ∷ []) e) (eqb-true m greatest_pixel q) F in
      on_end_case Outcome e (λ p. header w h p) (λ n. NO-END M G n) (λ p E. pixels E G (leb (w * h) (length p)) refl)
    where
      pixels : {p : List ℕ} → End e p → Fields t (w ∷ h ∷ greatest_pixel ∷ []) e → (x : Bool) → leb (w * h) (length p) ≡ x
          → GreyCase s (cond x (picture w h (take (w * h) p)) not_grey)
      pixels E G true l = PICTURE M G E (leb-true _ _ l)
      pixels E G false l = PIXELS M G E (leb-false _ _ l)

  pub grey_case : GreyCase s (read_file s)
  unfolding read_file read_grey taken
  grey_case =
      on_magic_case Outcome s _ (λ n. NOT-P5 n) (λ t M.
      on_number_case Outcome t _ (λ n. NO-GAP M none (omega arith) n) (λ n. NO-DIGIT M none (omega arith) n) (λ w a F.
      on_number_case Outcome a _ (λ n. NO-GAP M (next F none) (omega arith) n) (λ n. NO-DIGIT M (next F none) (omega arith) n) (λ h b G.
      on_number_case Outcome b _ (λ n. NO-GAP M (next F (next G none)) (omega arith) n) (λ n. NO-DIGIT M (next F (next G none)) (omega arith) n)
      (λ m e H. behind_fields M (next F (next G (next H none))) (eqb m greatest_pixel) refl))))

  abbrev header_behind_p5 : List ℕ → GreyHeader
  header_behind_p5 t =
      on_number t (λ w a.
      on_number a (λ h b.
      on_number b (λ m e.
      cond (eqb m greatest_pixel) (on_end e (λ p. header w h p)) no_header)))

  read_magic : {t : List ℕ} → Magic s t → read_grey s ≡ header_behind_p5 t
  unfolding read_grey
  read_magic M = on_magic_is _ M

  read_other : ((t : List ℕ) → ¬ Magic s t) → read_grey s ≡ no_header
  unfolding read_grey
  read_other n = on_magic_none s _ n

  -- up to a number that is none, and up to the third number
  read_stuck : {t vs u : List ℕ} → Fields t vs u → length vs < 3 → ((go : ℕ → List ℕ → GreyHeader) → on_number u go ≡ no_header)
      → header_behind_p5 t ≡ no_header
  read_stuck none l stuck = stuck _
  read_stuck (next F none) l stuck = on_number_field _ _ F ∙ stuck _
  read_stuck (next F (next G none)) l stuck = on_number_field _ _ F ∙ on_number_field _ _ G ∙ stuck _
  read_stuck (next F (next G (next H r))) l stuck = absurd (omega arith)

  read_three : {t e : List ℕ} {w h m : ℕ} → Fields t (w ∷ h ∷ m ∷ []) e
      → header_behind_p5 t ≡ cond (eqb m greatest_pixel) (on_end e (λ p. header w h p)) no_header
  read_three (next F (next G (next H none))) = on_number_field _ _ F ∙ on_number_field _ _ G ∙ on_number_field _ _ H

  pub read_header_lem : {t e p : List ℕ} {w h : ℕ} → Magic s t → Fields t (w ∷ h ∷ greatest_pixel ∷ []) e → End e p → read_grey s ≡ header w h p
  read_header_lem M F E = read_magic M ∙ read_three F ∙ on_end_is _ E

  unread : read_grey s ≡ no_header → read_file s ≡ not_grey
  unfolding read_file taken
  unread e = ap taken e

  pub grey_is : (x : GreyFile) → GreyCase s x → read_file s ≡ x
  unfolding read_file taken pixels_there
  grey_is x (NOT-P5 n) = unread (read_other n)
  grey_is x (NO-GAP {u = u} M F l n) = unread (read_magic M ∙ read_stuck F l (λ go. on_number_no_gap u go n))
  grey_is x (NO-DIGIT M F l n) = unread (read_magic M ∙ read_stuck F l (λ go. on_number_no_digit go n))
  grey_is x (MAXVAL {m = m} M F n) = unread (read_magic M ∙ read_three F ∙ rw (ne_eqb m greatest_pixel n))
  grey_is x (NO-END {e = e} M F n) = unread (read_magic M ∙ read_three F ∙ on_end_none e _ n)
  grey_is x (PIXELS {p = p} {w = w} {h = h} M F E l) = ap taken (read_header_lem M F E) ∙ rw (lt-leb (w * h) (length p) l)
  grey_is x (PICTURE {p = p} {w = w} {h = h} M F E l) = ap taken (read_header_lem M F E) ∙ rw (le-leb (w * h) (length p) l)
