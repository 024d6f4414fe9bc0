-- Files written are read back, whatever stands behind their pixels; and what stands behind the pixels of any file makes no difference.
use Rattle.std.specs.Prelude.{◌≡◌, refl, List, [], ◌∷◌, ◌++◌, true, false, cond, ℕ, zero, suc, ◌+◌, ◌-◌, ◌*◌, ◌/◌, ◌%◌, ◌≤◌, ◌<◌, ltb, length, take, drop}
use Rattle.std.proofs.Common.{ap, sym, ◌∙◌, subst, append_assoc, arith, length-append, take-append-drop, length-take-le, le-leb, lt-ltb, le-ltb}
use Rattle.std.proofs.Math.Decide.{dec_lt}
use Rattle.std.proofs.lemmas.List.{take-append-le}
use Rattle.std.proofs.Math.Seq.{take-append_seam}
use Rattle.rules.specs.declared.Size.{Size}
use Rattle.rules.specs.Document.Notation.{every}
use Rattle.rules.specs.Document.Pyramid.{area}
use Rattle.rules.proofs.Laws.Counting.Booleans.{clash, every_append}
use Rattle.pictures.specs.Document.Netpbm.{line_end, blank, hash, digit, begins, greatest_pixel, read_grey, header, GreyFile, picture}
use Rattle.pictures.specs.Document.Netpbm.{pixels_there, taken, read_file, digits_up_to, decimal, grey_lines, grey_file}
use Rattle.pictures.specs.Laws.GreyCauses.{Gap, no_more, worth, Field, Fields, none, next, End, Magic, GreyCase}
use Rattle.pictures.specs.Laws.GreyCauses.{NOT-P5, NO-GAP, NO-DIGIT, MAXVAL, NO-END, PIXELS, PICTURE}
use Rattle.pictures.specs.Laws.GreyCauses as causes
use Rattle.pictures.proofs.Laws.GreyCases.{grey_case, grey_is, read_header_lem}
use Rattle.pictures.specs.Laws.GreyFiles.{IsPicture}

-- The digits of a number: the last one, and those before it.
digits_enough : (m n v : ℕ) → v < m → v < n → digits_up_to m v ≡ digits_up_to n v
unfolding digits_up_to
digits_enough zero n v l k = absurd (omega arith)
digits_enough (suc m) zero v l k = absurd (omega arith)
digits_enough (suc m) (suc n) v l k = cases (dec_lt v 10) (digits_enough m n (v / 10))
  where
    cases : Dec (v < 10) → (v / 10 < m → v / 10 < n → digits_up_to m (v / 10) ≡ digits_up_to n (v / 10))
        → cond (ltb v 10) ((48 + v) ∷ []) (digits_up_to m (v / 10) ++ ((48 + v % 10) ∷ []))
        ≡ cond (ltb v 10) ((48 + v) ∷ []) (digits_up_to n (v / 10) ++ ((48 + v % 10) ∷ []))
    cases (yes u) r = rw (lt-ltb v 10 u)
    cases (no u) r = ap (λ x. cond (ltb v 10) ((48 + v) ∷ []) (x ++ ((48 + v % 10) ∷ []))) (r (omega arith) (omega arith))

pub decimal_last : (v : ℕ) → v < 10 → decimal v ≡ (48 + v) ∷ []
unfolding decimal digits_up_to
decimal_last v l = rw (lt-ltb v 10 l)

pub decimal_next : (v : ℕ) → 10 ≤ v → decimal v ≡ decimal (v / 10) ++ ((48 + v % 10) ∷ [])
unfolding decimal digits_up_to
decimal_next v l =
    rw (le-ltb v 10 l) (ap (λ x. x ++ ((48 + v % 10) ∷ [])) (digits_enough v (suc (v / 10)) (v / 10) (omega arith) (omega arith)))

-- What holds of a digit, and of a number where it holds of the number without its last digit, holds of every number.
module _ (P : ℕ → Type 0) (one : (v : ℕ) → v < 10 → P v) (more : (v : ℕ) → 10 ≤ v → P (v / 10) → P v) where
  by_digits_under : (m v : ℕ) → v < m → P v
  by_digits_under zero v l = absurd (omega arith)
  by_digits_under (suc m) v l =
      elim (dec_lt v 10) [
        | yes u ↦ one v u
        | no u ↦ more v (omega arith) (by_digits_under m (v / 10) (omega arith))
      ]

  pub by_digits : (v : ℕ) → P v
  by_digits v = by_digits_under (suc v) v (omega arith)

digit_is : (k : ℕ) → k < 10 → digit (48 + k) ≡ true
unfolding digit
digit_is k l = rw (le-leb 48 (48 + k) (omega arith), le-leb (48 + k) 57 (omega arith))

pub decimal_digits : (v : ℕ) → every digit (decimal v) ≡ true
unfolding every
decimal_digits =
    by_digits (λ v. every digit (decimal v) ≡ true)
    (λ v l. rw (decimal_last v l, digit_is v l))
    (λ v l r. rw (decimal_next v l, every_append digit (decimal (v / 10)) ((48 + v % 10) ∷ []), r, digit_is (v % 10) (omega arith)))

worth_append : (v : ℕ) (d e : List ℕ) → worth v (d ++ e) ≡ worth (worth v d) e
unfolding worth
worth_append v [] e = refl
worth_append v (b ∷ d) e = worth_append (10 * v + (b - 48)) d e

pub decimal_worth : (v : ℕ) → worth 0 (decimal v) ≡ v
unfolding worth
decimal_worth =
    by_digits (λ v. worth 0 (decimal v) ≡ v)
    (λ v l. rw (decimal_last v l) (omega arith))
    (λ v l r. rw (decimal_next v l, worth_append 0 (decimal (v / 10)) ((48 + v % 10) ∷ []), r) (omega arith))

pub decimal_some : (v : ℕ) → 1 ≤ length (decimal v)
decimal_some =
    by_digits (λ v. 1 ≤ length (decimal v))
    (λ v l. rw (decimal_last v l) (omega arith))
    (λ v l r. rw (decimal_next v l, length-append (decimal (v / 10)) ((48 + v % 10) ∷ [])) (omega arith))

-- The lines in front of the pixels.
decimal_field : (b v : ℕ) (t : List ℕ) → blank b ≡ true → begins digit t ≡ false → Field (b ∷ decimal v ++ t) v t
decimal_field b v t e n =
    record {
      gap = b ∷ [];
      digits = decimal v;
      split = refl;
      is_gap = causes.Gap.a_blank b e no_more;
      some_gap = omega arith;
      are_digits = decimal_digits v;
      some_digit = decimal_some v;
      value = decimal_worth v;
      last = n;
    }

pub lines_read : (z : Size) (p : List ℕ) → read_grey (grey_lines z ++ p) ≡ header z.w z.h p
unfolding grey_lines blank line_end digit begins decimal digits_up_to
lines_read z p =
    read_header_lem (grey_lines z ++ p) magic (next width (next height (next greatest none))) (causes.End.a_blank 10 p refl)
  where
    behind_height : List ℕ
    behind_height = 10 ∷ 50 ∷ 53 ∷ 53 ∷ 10 ∷ p

    behind_width : List ℕ
    behind_width = 32 ∷ decimal z.h ++ behind_height

    magic : Magic (grey_lines z ++ p) (10 ∷ decimal z.w ++ behind_width)
    magic = simp append_assoc

    width : Field (10 ∷ decimal z.w ++ behind_width) z.w behind_width
    width = decimal_field 10 z.w behind_width refl refl

    height : Field behind_width z.h behind_height
    height = decimal_field 32 z.h behind_height refl refl

    greatest : Field behind_height greatest_pixel (10 ∷ p)
    greatest = decimal_field 10 greatest_pixel (10 ∷ p) refl refl

-- A file as it is written is read back, whatever stands behind its pixels.
pub read_grey_written : (z : Size) (pixels rest : List ℕ) → length pixels ≡ area z
    → read_file (grey_file z pixels ++ rest) ≡ picture z.w z.h pixels
unfolding read_file taken pixels_there grey_file
read_grey_written z pixels rest l =
    let e : read_grey (grey_lines z ++ pixels ++ rest) ≡ header z.w z.h (pixels ++ rest) =
    ap read_grey (append_assoc (grey_lines z) pixels rest) ∙ lines_read z (pixels ++ rest) in
    let k : area z ≤ length (pixels ++ rest) = omega (arith, length-append pixels rest) in
    ap taken e ∙ rw (le-leb (area z) (length (pixels ++ rest)) k)
    (ap (picture z.w z.h) (rw (← l) (take-append_seam pixels rest)))

-- What is behind a header stands at its end.
field_behind : {s t : List ℕ} {v : ℕ} → Field s v t → (f : List ℕ) × (s ≡ f ++ t)
field_behind {t = t} F = (F.gap ++ F.digits, F.split ∙ sym (append_assoc F.gap F.digits t))

fields_behind : {s e vs : List ℕ} → Fields s vs e → (f : List ℕ) × (s ≡ f ++ e)
fields_behind none = ([], refl)
fields_behind {e = e} (next F r) =
    let a = field_behind F in
    let b = fields_behind r in
    (a.0 ++ b.0, a.1 ∙ ap (λ x. a.0 ++ x) b.1 ∙ sym (append_assoc a.0 b.0 e))

end_behind : {e p : List ℕ} → End e p → (f : List ℕ) × (e ≡ f ++ p)
end_behind (causes.End.a_blank b p x) = (b ∷ [], refl)
end_behind (causes.End.a_comment c e p l x) = (hash ∷ c ++ e ∷ [], ap (λ x. hash ∷ x) (sym (append_assoc c (e ∷ []) p)))

-- The same with more bytes at the end, as long as no number is the last there was.
end_some : {e p : List ℕ} → End e p → 1 ≤ length e
end_some (causes.End.a_blank b p x) = omega arith
end_some (causes.End.a_comment c e p l x) = omega arith

field_some : {s t : List ℕ} {v : ℕ} → Field s v t → 1 ≤ length s
field_some {t = t} F = omega (arith, F.some_gap, ap length F.split, length-append F.gap (F.digits ++ t))

fields_some : {s e vs : List ℕ} → Fields s vs e → 1 ≤ length e → 1 ≤ length s
fields_some none l = l
fields_some (next F r) l = field_some F

begins_same : (t more : List ℕ) → 1 ≤ length t → begins digit (t ++ more) ≡ begins digit t
unfolding begins
begins_same [] more l = absurd (omega arith)
begins_same (b ∷ t) more l = refl

module _ (more : List ℕ) where
  field_more : {s t : List ℕ} {v : ℕ} → 1 ≤ length t → Field s v t → Field (s ++ more) v (t ++ more)
  field_more {s} {t} l F =
      record {
        gap = F.gap;
        digits = F.digits;
        split = ap (λ x. x ++ more) F.split ∙ append_assoc F.gap (F.digits ++ t) more ∙ ap (λ x. F.gap ++ x) (append_assoc F.digits t more);
        is_gap = F.is_gap;
        some_gap = F.some_gap;
        are_digits = F.are_digits;
        some_digit = F.some_digit;
        value = F.value;
        last = begins_same t more l ∙ F.last;
      }

  fields_more : {s e vs : List ℕ} → 1 ≤ length e → Fields s vs e → Fields (s ++ more) vs (e ++ more)
  fields_more l none = none
  fields_more l (next F r) = next (field_more (fields_some r l) F) (fields_more l r)

  end_more : {e p : List ℕ} → End e p → End (e ++ more) (p ++ more)
  end_more (causes.End.a_blank b p x) = causes.End.a_blank b (p ++ more) x
  end_more (causes.End.a_comment c e p l x) =
      subst (λ y. End (hash ∷ y) (p ++ more)) (sym (append_assoc c (e ∷ p) more)) (causes.End.a_comment c e (p ++ more) l x)

is_picture : {s t e p : List ℕ} {w h : ℕ} → Magic s t → Fields t (w ∷ h ∷ greatest_pixel ∷ []) e → End e p → w * h ≤ length p
    → IsPicture s w h (take (w * h) p)
is_picture {s} {t} {e} {p} {w} {h} M F E l =
    let f = fields_behind F in
    let g = end_behind E in
    record {
      front = 80 ∷ 53 ∷ f.0 ++ g.0;
      rest = drop (w * h) p;
      split =
          M ∙ ap (λ x. 80 ∷ 53 ∷ x) (f.1 ∙ ap (λ x. f.0 ++ x) g.1 ∙ sym (append_assoc f.0 g.0 p))
          ∙ ap (λ x. 80 ∷ 53 ∷ f.0 ++ g.0 ++ x) (sym (take-append-drop (w * h) p));
      all_there = length-take-le (w * h) p l;
      with_more = λ more.
          grey_is (s ++ more) _
          (PICTURE (ap (λ x. x ++ more) M) (fields_more more (end_some E) F) (end_more more E) (omega (arith, length-append p more)))
          ∙ ap (picture w h) (take-append-le (w * h) p more l);
    }

picture_same : {w h w' h' : ℕ} {p p' : List ℕ} {s : List ℕ} → picture w h p ≡ picture w' h' p' → IsPicture s w h p → IsPicture s w' h' p'
picture_same {w} {h} {w'} {h'} {p} {p'} {s} e i =
    let a : w ≡ w' = cc in
    let b : h ≡ h' = cc in
    let c : p ≡ p' = cc in
    subst (λ x. IsPicture s w' h' x) c (subst (λ x. IsPicture s w' x p) b (subst (λ x. IsPicture s x h p) a i))

pub read_picture : (s : List ℕ) {w h : ℕ} {pixels : List ℕ} → read_file s ≡ picture w h pixels → IsPicture s w h pixels
read_picture s {w} {h} {pixels} e = cases (grey_case s) e
  where
    cases : {x : GreyFile} → GreyCase s x → x ≡ picture w h pixels → IsPicture s w h pixels
    cases (NOT-P5 n) q = clash (cc)
    cases (NO-GAP M F l n) q = clash (cc)
    cases (NO-DIGIT M F l n) q = clash (cc)
    cases (MAXVAL M F n) q = clash (cc)
    cases (NO-END M F n) q = clash (cc)
    cases (PIXELS M F E l) q = clash (cc)
    cases (PICTURE M F E l) q = picture_same q (is_picture M F E l)

-- What stands behind the pixels doesn't matter.
pub read_grey_front : (s more : List ℕ) {w h : ℕ} {pixels : List ℕ} → read_file s ≡ picture w h pixels
    → read_file (s ++ more) ≡ picture w h pixels
read_grey_front s more e = (read_picture s e).with_more more
