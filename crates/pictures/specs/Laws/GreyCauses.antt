-- The grammar of grey files as statements: in which case a file is refused, and which picture it is where it is one. "13 GREY (not a P5
-- header, wrong maxval, header or pixels cut short), place 0." Nothing here follows a recursion over the file.
use Rattle.std.specs.Prelude.{◌≡◌, List, [], ◌∷◌, ◌++◌, true, false, not, ◌≢◌, ℕ, ◌+◌, ◌-◌, ◌*◌, ◌≤◌, ◌<◌, length, take}
use Rattle.rules.specs.Document.Notation.{every}
use Rattle.pictures.specs.Document.Netpbm.{line_end, blank, hash, gap_byte, digit, begins, greatest_pixel, GreyFile, not_grey, picture}

-- no byte of these ends a line
abbrev pub InLine : List ℕ → Type 0
InLine c = every (λ b. not (line_end b)) c ≡ true

-- Blanks and comments, any number of them: a comment stands with the line end behind it.
pub data Gap : List ℕ → Type 0 where
  no_more : Gap []
  a_blank : (b : ℕ) {g : List ℕ} → blank b ≡ true → Gap g → Gap (b ∷ g)
  a_comment : (c : List ℕ) {g : List ℕ} (e : ℕ) → InLine c → line_end e ≡ true → Gap g → Gap (hash ∷ c ++ e ∷ g)

-- what digits are worth, with v before them
unfoldable pub worth : ℕ → List ℕ → ℕ
worth v [] = v
worth v (b ∷ d) = worth (10 * v + (b - 48)) d

-- The bytes s are a gap, a number of this value, and t behind it.
pub record Field (s : List ℕ) (v : ℕ) (t : List ℕ) : Type 0 where
  pub gap : List ℕ
  pub digits : List ℕ
  pub split : s ≡ gap ++ (digits ++ t)
  pub is_gap : Gap gap
  pub some_gap : 1 ≤ length gap
  pub are_digits : every digit digits ≡ true
  pub some_digit : 1 ≤ length digits
  pub value : worth 0 digits ≡ v
  pub last : begins digit t ≡ false

-- Such numbers, one behind the other; then e.
pub data Fields : List ℕ → List ℕ → List ℕ → Type 0 where
  none : {e : List ℕ} → Fields e [] e
  next : {s t e vs : List ℕ} {v : ℕ} → Field s v t → Fields t vs e → Fields s (v ∷ vs) e

-- A gap, and no digit behind it; or bytes that end inside a comment.
pub data NoDigit : List ℕ → Type 0 where
  another_byte : {g : List ℕ} (u : List ℕ) → Gap g → 1 ≤ length g → begins gap_byte u ≡ false → begins digit u ≡ false → NoDigit (g ++ u)
  in_comment : {g : List ℕ} (c : List ℕ) → Gap g → InLine c → NoDigit (g ++ hash ∷ c)

-- The end of a header, and p behind it.
pub data End : List ℕ → List ℕ → Type 0 where
  a_blank : (b : ℕ) (p : List ℕ) → blank b ≡ true → End (b ∷ p) p
  a_comment : (c : List ℕ) (e : ℕ) (p : List ℕ) → InLine c → line_end e ≡ true → End (hash ∷ c ++ e ∷ p) p

abbrev pub Magic : List ℕ → List ℕ → Type 0
Magic s t = s ≡ 80 ∷ 53 ∷ t

pub data GreyCase (s : List ℕ) : GreyFile → Type 0 where
  NOT-P5 : ((t : List ℕ) → ¬ Magic s t) → GreyCase s not_grey
  NO-GAP : {t vs u : List ℕ} → Magic s t → Fields t vs u → length vs < 3 → begins gap_byte u ≡ false → GreyCase s not_grey
  NO-DIGIT : {t vs u : List ℕ} → Magic s t → Fields t vs u → length vs < 3 → NoDigit u → GreyCase s not_grey
  MAXVAL : {t e : List ℕ} {w h m : ℕ} → Magic s t → Fields t (w ∷ h ∷ m ∷ []) e → m ≢ greatest_pixel → GreyCase s not_grey
  NO-END : {t e : List ℕ} {w h : ℕ} → Magic s t → Fields t (w ∷ h ∷ greatest_pixel ∷ []) e → ((p : List ℕ) → ¬ End e p) → GreyCase s not_grey
  PIXELS : {t e p : List ℕ} {w h : ℕ} → Magic s t → Fields t (w ∷ h ∷ greatest_pixel ∷ []) e → End e p → length p < w * h → GreyCase s not_grey
  PICTURE : {t e p : List ℕ} {w h : ℕ} → Magic s t → Fields t (w ∷ h ∷ greatest_pixel ∷ []) e → End e p → w * h ≤ length p
      → GreyCase s (picture w h (take (w * h) p))
