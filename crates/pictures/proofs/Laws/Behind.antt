-- What is read of a file is a part of it: the bytes behind a header are the file less its front, and pixels are W x H bytes of these.
use Rattle.std.specs.Prelude.{◌≡◌, refl, List, [], ◌∷◌, Bool, true, false, cond, not, ◌&&◌, ℕ, suc, ◌+◌, ◌-◌, ◌*◌, ◌<◌, leb, length, get_or, take, drop}
use Rattle.std.proofs.Common.{ap, ap₂, sym, ◌∙◌, subst, arith, length-take, get_or-take, get_or-drop, drop-drop, length-take-le, leb-true}
use Rattle.std.proofs.Math.Decide.{dec_lt}
use Rattle.std.proofs.Math.Dec.{eqb}
use Rattle.std.proofs.Math.ListN.{get_or-eq_default}
use Rattle.pictures.specs.Document.Netpbm.{line_end, blank, hash, gap_byte, digit, begins, after_comment, after_blanks, after_gap, Digits, number}
use Rattle.pictures.specs.Document.Netpbm.{GreyHeader, no_header, header, is_p5, on_magic, on_number, last_blank, on_end, greatest_pixel, read_grey}
use Rattle.pictures.specs.Document.Netpbm.{not_grey, picture, pixels_there, taken, read_file}
use Rattle.pictures.specs.Laws.Behind.{Bytes, Pixels}

-- e is s less its first bytes
abbrev Behind : List ℕ → List ℕ → Type 0
Behind s e = (n : ℕ) × (e ≡ drop n s)

behind_cons : {b : ℕ} {s e : List ℕ} → Behind s e → Behind (b ∷ s) e
behind_cons (n, e) = (suc n, e)

behind_bytes : (s e : List ℕ) → Behind s e → Bytes s → Bytes e
behind_bytes s e (n, a) h q = subst (λ y. get_or y q 0 < 256) (sym a) (subst (λ y. y < 256) (sym (get_or-drop n s q 0)) (h (n + q)))

behind_on : {s t e : List ℕ} → Behind s t → Behind t e → Behind s e
behind_on {s} (m, a) (n, b) = (m + n, b ∙ ap (drop n) a ∙ drop-drop n m s)

behind_cond : (b : Bool) {s x y : List ℕ} → Behind s x → Behind s y → Behind s (cond b x y)
behind_cond true x y = x
behind_cond false x y = y

comment_behind : (s : List ℕ) → Behind s (after_comment s)
unfolding after_comment
comment_behind [] = (0, refl)
comment_behind (b ∷ s) = behind_cond (line_end b) (0, refl) (behind_cons (comment_behind s))

blanks_behind : (s : List ℕ) (inside : Bool) → Behind s (after_blanks inside s)
unfolding after_blanks
blanks_behind [] inside = (0, refl)
blanks_behind (b ∷ s) true = behind_cons (blanks_behind s (not (line_end b)))
blanks_behind (b ∷ s) false = behind_cond (gap_byte b) (behind_cons (blanks_behind s (eqb b hash))) (0, refl)

behind_digits : (d : Bool) (x y : Digits) {s : List ℕ} → Behind s x.behind → Behind s y.behind → Behind s (cond d x y).behind
behind_digits true x y a b = a
behind_digits false x y a b = b

number_behind : (s : List ℕ) (v : ℕ) → Behind s (number v s).behind
unfolding number
number_behind [] v = (0, refl)
number_behind (b ∷ s) v = behind_digits (digit b) _ _ (behind_cons (number_behind s (10 * v + (b - 48)))) (0, refl)

-- A header that was read from somewhere in s on.
data Within (s : List ℕ) : GreyHeader → Type 0 where
  nothing : Within s no_header
  header_read : {w h : ℕ} {e : List ℕ} → Behind s e → Within s (header w h e)

within_cond : (s : List ℕ) (b : Bool) (x : GreyHeader) → Within s x → Within s (cond b x no_header)
within_cond s true x i = i
within_cond s false x i = nothing

module _ (s : List ℕ) where
  within_number : (t : List ℕ) (go : ℕ → List ℕ → GreyHeader) → Behind s t → ((v : ℕ) (u : List ℕ) → Behind s u → Within s (go v u))
      → Within s (on_number t go)
  unfolding on_number after_gap
  within_number t go b on =
      within_cond s (begins gap_byte t && begins digit (after_gap t)) _
      (on _ _ (behind_on b (behind_on (blanks_behind t false) (number_behind (after_gap t) 0))))

  within_end : (t : List ℕ) (w h : ℕ) → Behind s t → Within s (on_end t (header w h))
  unfolding on_end last_blank
  within_end t w h b =
      within_cond s (begins blank (last_blank t)) _
      (header_read (behind_on b (behind_on (behind_cond (begins (λ b. eqb b hash) t) (comment_behind t) (0, refl)) (1, refl))))

  header_within : Within s (read_grey s)
  unfolding read_grey on_magic
  header_within =
      within_cond s (is_p5 s) _
      (within_number (drop 2 s) _ (2, refl) (λ w b B.
      within_number b _ B (λ h c C.
      within_number c _ C (λ greatest d D.
      within_cond s (eqb greatest greatest_pixel) _ (within_end d w h D)))))

take_bytes : (n : ℕ) (s : List ℕ) → Bytes s → Bytes (take n s)
take_bytes n s b q = by (dec_lt q n)
  where
    by : Dec (q < n) → get_or (take n s) q 0 < 256
    by (yes l) = subst (λ y. y < 256) (sym (get_or-take n s q 0 l)) (b q)
    by (no l) =
        subst (λ y. y < 256) (sym (get_or-eq_default (take n s) 0 {n = q} (omega (arith, length-take n s)))) (omega arith)

picture_of_lem : {w h w' h' : ℕ} {p p' : List ℕ} → picture w h p ≡ picture w' h' p' → (w ≡ w') × (h ≡ h') × (p ≡ p')
picture_of_lem e = (cc, cc, cc)

pixels_read : (s : List ℕ) (x : GreyHeader) → Within s x → (w h : ℕ) (pixels : List ℕ) → taken x ≡ picture w h pixels → Pixels s w h pixels
unfolding taken pixels_there
pixels_read s x nothing w h pixels e = absurd (let z : ◌≡◌ {A = ℕ} 0 1 = cc in omega arith)
pixels_read s x (header_read {w = v} {h = u} {e = r} b) w h pixels e = by (leb (v * u) (length r)) refl e
  where
    by : (t : Bool) → leb (v * u) (length r) ≡ t → cond t (picture v u (take (v * u) r)) not_grey ≡ picture w h pixels → Pixels s w h pixels
    by true l e =
        let same = picture_of_lem e in
        record {
          whole = ap length (sym same.2) ∙ length-take-le (v * u) r (leb-true _ _ l) ∙ ap₂ ◌*◌ same.0 same.1;
          bytes = λ a. subst Bytes same.2 (take_bytes (v * u) r (behind_bytes s r b a));
        }
    by false l e = absurd (let z : ◌≡◌ {A = ℕ} 0 1 = cc in omega arith)

pub file_pixels : (s : List ℕ) (w h : ℕ) (pixels : List ℕ) → read_file s ≡ picture w h pixels → Pixels s w h pixels
unfolding read_file
file_pixels s w h pixels e = pixels_read s (read_grey s) (header_within s) w h pixels e
