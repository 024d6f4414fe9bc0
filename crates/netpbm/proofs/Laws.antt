-- Reading from the front: what each step makes of what is left.
use mathlib.Core.Path.{◌≡◌, refl, ap, sym, ◌∙◌, subst}
use mathlib.Core.List.{List, [], ◌∷◌, ◌++◌}
use mathlib.Core.Bool.{Bool, true, false, cond, not, and-false}
use Prim.Native.Nat.{ℕ, suc, ◌+◌, ◌-◌, ◌*◌, ◌≤◌, ◌<◌}
use native.Mathlib.Nat.{mul-le-mul, mul_comm}
use native.Mathlib.Omega.{arith}
use native.Mathlib.Decide.{dec_le}
use lib.Dec.{leb, eqb}
use lib.ListN.{length, get_or, take, drop, length-append}
use borrow.Author.Tests.{leb-true, leb-false, eq-eqb, ne_eqb}
use Rattle.std.specs.Prelude.{Option, Some, None, ◌&&◌}
use Rattle.std.specs.Cmp.Lexicographic.{pointwise}
use Rattle.std.proofs.lemmas.List.{append_assoc, take_all, take-append-drop}
use Rattle.pictures.specs.declared.Picture.{Picture}
use Rattle.pictures.specs.Document.Netpbm.{line_end, blank, hash, gap_byte, digit, begins, after_comment, after_blanks, after_gap}
use Rattle.pictures.specs.Document.Netpbm.{number, GreyHeader, no_header}
use Rattle.pictures.specs.Document.Netpbm.{header, is_p5, on_magic, on_number, last_blank, on_end, greatest_pixel, read_grey, greatest_told, told}
use Rattle.pictures.specs.Laws.GreyCauses.{no_more}
use Rattle.pictures.specs.Laws.GreyCauses.Gap.{a_blank}
use Rattle.pictures.proofs.Laws.GreyCases.{end_blank, gap_passed}
use Rattle.netpbm.specs.Told.{Tells, no_header_lem, too_short, all_there}
use Rattle.netpbm.specs.Rests.{Rest, ToldOf, Missing, EndTold}

comment_in_gap : (s : List ℕ) → after_blanks true s ≡ after_gap (after_comment s)
unfolding after_gap after_blanks after_comment gap_byte blank
comment_in_gap [] = refl
comment_in_gap (b ∷ s) = cases (line_end b) refl (comment_in_gap s)
  where
    cases : (x : Bool) → line_end b ≡ x → after_blanks true s ≡ after_gap (after_comment s)
        → after_blanks (not x) s ≡ after_gap (cond x (b ∷ s) (after_comment s))
    cases true e r = sym (gap_passed (a_blank b (end_blank b e) no_more) s)
    cases false e r = r

-- What stands first, and what is behind it.
module _ (s : List ℕ) where
  abbrev pub behind : List ℕ
  behind = take (length s - 1) (drop 1 s)

  pub first_and_behind : 1 ≤ length s → s ≡ get_or s 0 0 ∷ behind
  first_and_behind l = by s l
    where
      by : (s : List ℕ) → 1 ≤ length s → s ≡ get_or s 0 0 ∷ take (length s - 1) (drop 1 s)
      by [] l = absurd (omega arith)
      by (b ∷ t) l = ap (λ u. b ∷ u) (sym (take_all (suc (length t) - 1) t (omega arith)))

  pub none_left : length s < 1 → s ≡ []
  none_left l = by s l
    where
      by : (s : List ℕ) → length s < 1 → s ≡ []
      by [] l = refl
      by (b ∷ t) l = absurd (omega arith)

  module _ (l : 1 ≤ length s) {x : Bool} where
    pub comment_on : x ≡ line_end (get_or s 0 0) → x ≡ false → after_comment behind ≡ after_comment s
    unfolding after_comment
    comment_on e n = sym (ap after_comment (first_and_behind l) ∙ rw (sym e ∙ n))

    pub comment_ends : x ≡ line_end (get_or s 0 0) → x ≡ true → s ≡ after_comment s
    unfolding after_comment
    comment_ends e y = first_and_behind l ∙ sym (ap after_comment (first_and_behind l) ∙ rw (sym e ∙ y))

    pub gap_ends : x ≡ gap_byte (get_or s 0 0) → x ≡ false → s ≡ after_gap s
    unfolding after_gap after_blanks
    gap_ends e n = first_and_behind l ∙ sym (ap after_gap (first_and_behind l) ∙ rw (sym e ∙ n))

    gap_on : x ≡ gap_byte (get_or s 0 0) → x ≡ true → after_gap s ≡ after_blanks (eqb (get_or s 0 0) hash) behind
    unfolding after_gap after_blanks
    gap_on e y = ap after_gap (first_and_behind l) ∙ rw (sym e ∙ y)

    pub gap_blank : x ≡ gap_byte (get_or s 0 0) → x ≡ true → ¬ (get_or s 0 0 ≡ hash) → after_gap behind ≡ after_gap s
    unfolding after_gap
    gap_blank e y n = sym (gap_on e y ∙ ap (λ z. after_blanks z behind) (ne_eqb (get_or s 0 0) hash n))

    pub gap_comment : x ≡ gap_byte (get_or s 0 0) → x ≡ true → get_or s 0 0 ≡ hash → {t : List ℕ} → t ≡ after_comment behind → after_gap t ≡ after_gap s
    gap_comment e y h m =
        ap after_gap m
        ∙ sym (gap_on e y ∙ ap (λ z. after_blanks z behind) (eq-eqb (get_or s 0 0) hash h) ∙ comment_in_gap behind)

pub comment_none : (s : List ℕ) → length s < 1 → s ≡ after_comment s
unfolding after_comment
comment_none s l = none_left s l ∙ sym (ap after_comment (none_left s l))

pub gap_none : (s : List ℕ) → length s < 1 → s ≡ after_gap s
unfolding after_gap after_blanks
gap_none s l = none_left s l ∙ sym (ap after_gap (none_left s l))

told_digit : (v d : ℕ) → told (10 * told v + d) ≡ told (10 * v + d)
unfolding told
told_digit v d = omega arith

-- Digits passed: what they are worth, which may be more than can be told, and what is left.
pub record Counting (s : List ℕ) (value : ℕ) (left : List ℕ) : Type 0 where
  pub worth : ℕ
  pub tells : value ≡ told worth
  pub same : number worth left ≡ number 0 s

pub counting_begins : {s : List ℕ} → Counting s 0 s
unfolding told
counting_begins = record { worth = 0; tells = refl; same = refl }

pub counting_on : {s left : List ℕ} {value d next : ℕ} {x : Bool} → Counting s value left → 1 ≤ length left → x ≡ digit (get_or left 0 0) → x ≡ true
    → d ≡ get_or left 0 0 - 48 → next ≡ told (10 * value + d) → Counting s next (behind left)
unfolding number
counting_on {left = left} {value = value} c l e y f n =
    let b : ℕ = get_or left 0 0 in
    record {
      worth = 10 * c.worth + (b - 48);
      tells = n ∙ ap (λ z. told (10 * value + z)) f ∙ ap (λ z. told (10 * z + (b - 48))) c.tells ∙ told_digit c.worth (b - 48);
      same = sym (ap (number c.worth) (first_and_behind left l) ∙ rw (sym e ∙ y)) ∙ c.same;
    }

counting_stops : {s left : List ℕ} {value : ℕ} (c : Counting s value left) → number c.worth left ≡ record { value = c.worth; behind = left }
    → (value ≡ told (number 0 s).value) × (left ≡ (number 0 s).behind)
counting_stops c e = let q = sym e ∙ c.same in (c.tells ∙ ap (λ r. told r.value) q, ap (λ r. r.behind) q)

pub counting_ends : {s left : List ℕ} {value : ℕ} {x : Bool} → Counting s value left → 1 ≤ length left → x ≡ digit (get_or left 0 0) → x ≡ false
    → (value ≡ told (number 0 s).value) × (left ≡ (number 0 s).behind)
unfolding number
counting_ends {left = left} c l e n =
    let v : ℕ = c.worth in
    counting_stops c
    (ap (number v) (first_and_behind left l) ∙ (rw (sym e ∙ n)) ∙ ap (λ t. record { value = v; behind = t }) (sym (first_and_behind left l)))

pub counting_out : {s left : List ℕ} {value : ℕ} → Counting s value left → length left < 1
    → (value ≡ told (number 0 s).value) × (left ≡ (number 0 s).behind)
unfolding number
counting_out {left = left} c l =
    let v : ℕ = c.worth in
    counting_stops c (ap (number v) (none_left left l) ∙ ap (λ t. record { value = v; behind = t }) (sym (none_left left l)))

-- What each reader leaves is a rest.
rest_all : (s : List ℕ) → Rest s s
rest_all s = record { front = []; split = refl }

rest_on : {s t : List ℕ} (b : ℕ) → Rest s t → Rest (b ∷ s) t
rest_on b r = record { front = b ∷ r.front; split = ap (λ l. b ∷ l) r.split }

pub rest_dropped_front : (n : ℕ) (s : List ℕ) {t : List ℕ} → t ≡ drop n s → Rest s t
rest_dropped_front n s e = record { front = take n s; split = sym (take-append-drop n s) ∙ ap (λ l. take n s ++ l) (sym e) }

pub rest_further : {s t u : List ℕ} → Rest s t → Rest t u → Rest s u
rest_further {u = u} p q =
    record { front = p.front ++ q.front; split = p.split ∙ ap (λ l. p.front ++ l) q.split ∙ sym (append_assoc p.front q.front u) }

rest_behind : {s t : List ℕ} {b : ℕ} → Rest s (b ∷ t) → Rest s t
rest_behind {t = t} {b = b} r = record { front = r.front ++ (b ∷ []); split = r.split ∙ sym (append_assoc r.front (b ∷ []) t) }

rest_comment : (s : List ℕ) → Rest s (after_comment s)
unfolding after_comment
rest_comment [] = rest_all []
rest_comment (b ∷ s) = by (line_end b) (rest_comment s)
  where
    by : (x : Bool) → Rest s (after_comment s) → Rest (b ∷ s) (cond x (b ∷ s) (after_comment s))
    by true r = rest_all (b ∷ s)
    by false r = rest_on b r

rest_blanks : (inside : Bool) (s : List ℕ) → Rest s (after_blanks inside s)
unfolding after_blanks
rest_blanks inside [] = rest_all []
rest_blanks true (b ∷ s) = rest_on b (rest_blanks (not (line_end b)) s)
rest_blanks false (b ∷ s) = by (gap_byte b) (rest_blanks (eqb b hash) s)
  where
    by : (x : Bool) → Rest s (after_blanks (eqb b hash) s) → Rest (b ∷ s) (cond x (after_blanks (eqb b hash) s) (b ∷ s))
    by true r = rest_on b r
    by false r = rest_all (b ∷ s)

rest_digits : (v : ℕ) (s : List ℕ) → Rest s (number v s).behind
unfolding number
rest_digits v [] = rest_all []
rest_digits v (b ∷ s) = by (digit b) (rest_digits (10 * v + (b - 48)) s)
  where
    by : (x : Bool) → Rest s (number (10 * v + (b - 48)) s).behind
        → Rest (b ∷ s) (cond x (number (10 * v + (b - 48)) s) (record { value = v; behind = b ∷ s })).behind
    by true r = rest_on b r
    by false r = rest_all (b ∷ s)

rest_blank : (s : List ℕ) → Rest s (last_blank s)
unfolding last_blank
rest_blank s = by (begins (λ b. eqb b hash) s)
  where
    by : (x : Bool) → Rest s (cond x (after_comment s) s)
    by true = rest_comment s
    by false = rest_all s

rest_length : {s t : List ℕ} → Rest s t → length t ≤ length s
rest_length {t = t} r = omega (arith, ap length r.split, length-append r.front t)

pub comment_shorter : (s : List ℕ) → 1 ≤ length s → {t : List ℕ} → t ≡ after_comment (behind s) → length t < length s
comment_shorter s l m = omega (arith, ap length m, rest_length (rest_comment (behind s)), ap length (first_and_behind s l))

drop_front : (front s : List ℕ) → drop (length front) (front ++ s) ≡ s
drop_front [] s = refl
drop_front (b ∷ front) s = drop_front front s

rest_dropped : {s t : List ℕ} → Rest s t → drop (length s - length t) s ≡ t
rest_dropped {s} {t} r =
    let many : length s - length t ≡ length r.front = omega (arith, ap length r.split, length-append r.front t) in
    rw (many, r.split) (drop_front r.front t)

-- A byte past the end is in no gap, no digit and no blank.
no_gap_byte : gap_byte 0 ≡ false
unfolding gap_byte blank line_end
no_gap_byte = refl

no_digit_byte : digit 0 ≡ false
unfolding digit
no_digit_byte = refl

begins_first : (t : ℕ → Bool) → t 0 ≡ false → (s : List ℕ) → begins t s ≡ t (get_or s 0 0)
unfolding begins
begins_first t z [] = sym z
begins_first t z (b ∷ s) = refl

-- A number.
module _ (s : List ℕ) {a : Bool} {first : ℕ} (q : first ≡ get_or s 0 0) (f : a ≡ gap_byte first) where
  begins_gap : begins gap_byte s ≡ a
  begins_gap = begins_first gap_byte no_gap_byte s ∙ ap gap_byte (sym q) ∙ sym f

  pub no_gap : a ≡ false → Missing s
  unfolding on_number
  no_gap n = record { reads = λ go. rw (begins_gap ∙ n) }

  module _ {digits : List ℕ} {byte : ℕ} {b : Bool} (m : digits ≡ after_gap s) (r : byte ≡ get_or digits 0 0) (e : b ≡ digit byte) where
    begins_digit : begins digit (after_gap s) ≡ b
    begins_digit = ap (begins digit) (sym m) ∙ begins_first digit no_digit_byte digits ∙ ap digit (sym r) ∙ sym e

    pub no_digit : b ≡ false → Missing s
    unfolding on_number
    no_digit n = record { reads = λ go. rw (begins_digit ∙ n, and-false (begins gap_byte s)) }

    pub number_read : {value : ℕ} {behind : List ℕ} → a ≡ true → b ≡ true → (value ≡ told (number 0 digits).value) × (behind ≡ (number 0 digits).behind)
        → ToldOf s value behind
    unfolding on_number after_gap
    number_read y o d =
        record {
          worth = (number 0 digits).value;
          tells = d.0;
          rest = rw (d.1, m) (rest_further (rest_blanks false s) (rest_digits 0 (after_gap s)));
          reads = λ go. rw (begins_gap ∙ y, begins_digit ∙ o, d.1, m);
        }

-- The end of a header.
pub last_comment : (s : List ℕ) {t : List ℕ} {byte : ℕ} → byte ≡ get_or s 0 0 → byte ≡ hash → t ≡ after_comment s → t ≡ last_blank s
unfolding last_blank
last_comment s {t} {byte} e h m = m ∙ sym (rw (begins_first (λ b. eqb b hash) refl s ∙ ap (λ x. eqb x hash) (sym e) ∙ eq-eqb byte hash h))

pub last_here : (s : List ℕ) {byte : ℕ} → byte ≡ get_or s 0 0 → ¬ (byte ≡ hash) → s ≡ last_blank s
unfolding last_blank
last_here s {byte} e n = sym (rw (begins_first (λ b. eqb b hash) refl s ∙ ap (λ x. eqb x hash) (sym e) ∙ ne_eqb byte hash n))

-- a product with a number that can't be told is over every number that can
over_told : (w h n : ℕ) → n < greatest_told → greatest_told < w → told w * told h ≤ n → told h ≡ 0
unfolding told
over_told w h n l o k = cases (dec_le (told h) 0)
  where
    cases : Dec (told h ≤ 0) → told h ≡ 0
    cases (yes z) = omega arith
    cases (no z) =
        let m : greatest_told * 1 ≤ told w * told h = mul-le-mul {n₁ = greatest_told} {m₁ = 1} {n₂ = told w} {m₂ = told h} (omega arith) (omega arith) in
        absurd (omega arith)

told_product : (w h n : ℕ) → n < greatest_told → told w * told h ≤ n → w * h ≤ n
unfolding told
told_product w h n l k = cases (dec_le w greatest_told) (dec_le h greatest_told)
  where
    cases : Dec (w ≤ greatest_told) → Dec (h ≤ greatest_told) → w * h ≤ n
    cases (yes a) (yes b) =
        let p : told w ≡ w = omega arith in
        let q : told h ≡ h = omega arith in
        rw (← p, ← q) k
    cases (no a) b =
        let z : told h ≡ 0 = over_told w h n l (omega arith) k in
        let y : h ≡ 0 = omega arith in
        rw y (omega arith)
    cases (yes a) (no b) =
        let z : told w ≡ 0 = over_told h w n l (omega arith) (rw (mul_comm (told h) (told w)) k) in
        let y : w ≡ 0 = omega arith in
        rw y (omega arith)

module _ (file s : List ℕ) (width height : ℕ) {last : List ℕ} (e : last ≡ last_blank s) where
  pub end_cut : length last < 1 → EndTold file width height s None
  unfolding on_end begins
  end_cut l w h p q = let none = sym e ∙ none_left last l in rw none no_header_lem

  module _ (l : 1 ≤ length last) {a : Bool} (f : a ≡ blank (get_or last 0 0)) where
    whole : last_blank s ≡ get_or last 0 0 ∷ behind last
    whole = sym e ∙ first_and_behind last l

    pub end_missing : a ≡ false → EndTold file width height s None
    unfolding on_end begins
    end_missing n w h p q = rw (whole, sym f ∙ n) no_header_lem

    module _ (r : Rest file s) where
      pixels_rest : Rest file (behind last)
      pixels_rest = rest_behind (rest_further r (subst (λ t. Rest s t) whole (rest_blank s)))

      pub pixels_within : length (behind last) ≤ length file
      pixels_within = rest_length pixels_rest

      module _ (y : a ≡ true) {x : Bool} (g : x ≡ leb (width * height) (length (behind last))) where
        abbrev at : ℕ
        at = length file - length (behind last)

        found : (w h : ℕ) → on_end s (λ e. header w h e) ≡ header w h (drop at file)
        unfolding on_end begins
        found w h = rw (whole, sym f ∙ y) (ap (header w h) (sym (rest_dropped pixels_rest)))

        pub end_all : x ≡ true → length (behind last) < greatest_told → EndTold file width height s (Some (record { w = width; h = height; at = at }))
        end_all t u w h p q =
            let many : length file - at ≡ length (behind last) = omega (arith, pixels_within) in
            let k : told w * told h ≤ length (behind last) = rw (← p, ← q) (leb-true _ _ (sym g ∙ t)) in
            rw (found w h, p, q) (all_there {w = w} {h = h} {at = at} (omega arith) (rw many (told_product w h _ u k)))

        pub end_short : x ≡ false → EndTold file width height s None
        unfolding told
        end_short t w h p q =
            let k : length (behind last) < told w * told h = rw (← p, ← q) (leb-false _ _ (sym g ∙ t)) in
            let m : told w * told h ≤ w * h = mul-le-mul {n₁ = told w} {m₁ = told h} {n₂ = w} {m₂ = h} (omega arith) (omega arith) in
            rw (found w h) (too_short {w = w} {h = h} {at = at} (omega arith) (omega (arith, pixels_within)))

both_true : (x : Bool) → x && true ≡ x
both_true true = refl
both_true false = refl

-- The whole header.
pub p5 : (s : List ℕ) {x : Bool} → pointwise eqb (take 2 s) (80 ∷ 53 ∷ []) ≡ x → is_p5 s ≡ x
unfolding is_p5
p5 [] e = e
p5 (a ∷ []) e = e
p5 (a ∷ b ∷ s) e = ap (λ x. eqb a 80 && x) (sym (both_true (eqb b 53))) ∙ e

abbrev on_greatest : ℕ → ℕ → ℕ → List ℕ → GreyHeader
on_greatest w h greatest d = cond (eqb greatest greatest_pixel) (on_end d (λ e. header w h e)) no_header

abbrev from_height : ℕ → List ℕ → GreyHeader
from_height w b = on_number b (λ h c. on_number c (on_greatest w h))

missing_told : {file s : List ℕ} → Missing s → (go : ℕ → List ℕ → GreyHeader) → Tells file (on_number s go) None
missing_told n go = rw (n.reads go) no_header_lem

module _ (s : List ℕ) where
  pub not_p5 : is_p5 s ≡ false → Tells s (read_grey s) None
  unfolding read_grey on_magic
  not_p5 n = rw n no_header_lem

  module _ (y : is_p5 s ≡ true) {sides : List ℕ} (d : sides ≡ drop 2 s) (split : Rest s sides) where
    behind_p5 : {r : Option Picture} → Tells s (on_number sides from_height) r → Tells s (read_grey s) r
    unfolding read_grey on_magic
    behind_p5 t = rw (y, ← d) t

    pub no_width : Missing sides → Tells s (read_grey s) None
    no_width n = behind_p5 (missing_told n from_height)

    module _ {width : ℕ} {b : List ℕ} (W : ToldOf sides width b) where
      pub no_height : Missing b → Tells s (read_grey s) None
      no_height n = behind_p5 (rw (W.reads from_height) (missing_told n _))

      module _ {height : ℕ} {c : List ℕ} (H : ToldOf b height c) where
        behind_height : {r : Option Picture} → Tells s (on_number c (on_greatest W.worth H.worth)) r → Tells s (read_grey s) r
        behind_height t = behind_p5 (rw (W.reads from_height, H.reads (λ h c. on_number c (on_greatest W.worth h))) t)

        pub no_greatest : Missing c → Tells s (read_grey s) None
        no_greatest n = behind_height (missing_told n _)

        module _ {greatest : ℕ} {e : List ℕ} (G : ToldOf c greatest e) where
          pub rest_of_file : Rest s e
          rest_of_file = rest_further split (rest_further W.rest (rest_further H.rest G.rest))

          pub greatest_wrong : ¬ (greatest ≡ greatest_pixel) → Tells s (read_grey s) None
          unfolding told
          greatest_wrong n =
              let other : ¬ (G.worth ≡ greatest_pixel) = λ x. n (omega (arith, G.tells)) in
              behind_height (rw (G.reads (on_greatest W.worth H.worth), ne_eqb G.worth greatest_pixel other) no_header_lem)

          pub greatest_right : greatest ≡ greatest_pixel → {r : Option Picture} → EndTold s width height e r → Tells s (read_grey s) r
          unfolding told
          greatest_right n t =
              let v : G.worth ≡ greatest_pixel = omega (arith, G.tells) in
              behind_height
              (rw (G.reads (on_greatest W.worth H.worth), eq-eqb G.worth greatest_pixel v) (t W.worth H.worth W.tells H.tells))
