-- Document 02, W3: "binary Netpbm grey files (P5, maxval 255)", read and written. "The header reader takes comments and any blanks Netpbm
-- allows; bytes after the pixels are ignored."
--
--   file      'P' '5' gap width gap height gap maxval end pixels rest
--   gap       one or more of: a blank; a comment
--   blank     space, TAB, LF, CR
--   comment   '#' and all bytes up to the next LF or CR, which isn't part of it: it is a blank
--   number    one or more digits; leading zeros don't matter
--   end       one blank; or a comment and then the LF or CR that ended it, which is that blank
--   pixels    width x height bytes, row by row
--   rest      anything, not looked at
--
-- Each reader takes the bytes that are left and goes by recursion on them.
use Rattle.std.specs.Prelude.{List, [], ◌∷◌, ◌++◌, Bool, true, false, cond, not, ◌&&◌, ◌||◌, ℕ, zero, suc, ◌+◌, ◌-◌, ◌*◌, ◌/◌, ◌%◌, min, leb, ltb}
use Rattle.std.specs.Prelude.{eqb, length, get_or, take, drop}
use Rattle.rules.specs.declared.Size.{Size}

unfoldable pub line_end : ℕ → Bool
line_end b = eqb b 10 || eqb b 13

unfoldable pub blank : ℕ → Bool
blank b = line_end b || eqb b 32 || eqb b 9

abbrev pub hash : ℕ
hash = 35

unfoldable pub gap_byte : ℕ → Bool
gap_byte b = blank b || eqb b hash

unfoldable pub digit : ℕ → Bool
digit b = leb 48 b && leb b 57

-- there is a first byte, and it passes the test
unfoldable pub begins : (ℕ → Bool) → List ℕ → Bool
begins t [] = false
begins t (b ∷ s) = t b

-- "a comment: '#' and all bytes up to the next LF or CR": from these on
unfoldable pub after_comment : List ℕ → List ℕ
after_comment [] = []
after_comment (b ∷ s) = cond (line_end b) (b ∷ s) (after_comment s)

-- "a gap: one or more of: a blank; a comment": what is behind all of them, from inside a comment or from outside
unfoldable pub after_blanks : Bool → List ℕ → List ℕ
after_blanks inside [] = []
after_blanks true (b ∷ s) = after_blanks (not (line_end b)) s
after_blanks false (b ∷ s) = cond (gap_byte b) (after_blanks (eqb b hash) s) (b ∷ s)

unfoldable pub after_gap : List ℕ → List ℕ
after_gap s = after_blanks false s

-- "a number: one or more digits": its value, with v before these digits, and what is behind them
pub record Digits : Type 0 where
  pub value : ℕ
  pub behind : List ℕ

unfoldable pub number : ℕ → List ℕ → Digits
number v [] = record { value = v; behind = [] }
number v (b ∷ s) = cond (digit b) (number (10 * v + (b - 48)) s) (record { value = v; behind = b ∷ s })

-- What is read of a header: nothing, or width, height and the bytes behind it.
pub data GreyHeader : Type 0 where
  no_header : GreyHeader
  header : ℕ → ℕ → List ℕ → GreyHeader

-- "'P' '5'"
unfoldable pub is_p5 : List ℕ → Bool
is_p5 s = eqb (get_or s 0 0) 80 && eqb (get_or s 1 0) 53

unfoldable pub on_magic : List ℕ → (List ℕ → GreyHeader) → GreyHeader
on_magic s go = cond (is_p5 s) (go (drop 2 s)) no_header

-- "a gap", and behind it "one or more digits"
unfoldable pub on_number : List ℕ → (ℕ → List ℕ → GreyHeader) → GreyHeader
on_number s go =
    cond (begins gap_byte s && begins digit (after_gap s)) (go (number 0 (after_gap s)).value (number 0 (after_gap s)).behind) no_header

-- "one blank; or a comment and then the LF or CR that ended it, which is that blank"
unfoldable pub last_blank : List ℕ → List ℕ
last_blank s = cond (begins (λ b. eqb b hash) s) (after_comment s) s

unfoldable pub on_end : List ℕ → (List ℕ → GreyHeader) → GreyHeader
on_end s go = cond (begins blank (last_blank s)) (go (drop 1 (last_blank s))) no_header

abbrev pub greatest_pixel : ℕ
greatest_pixel = 255

unfoldable pub read_grey : List ℕ → GreyHeader
read_grey s =
    on_magic s (λ a.
    on_number a (λ w b.
    on_number b (λ h c.
    on_number c (λ greatest d.
    cond (eqb greatest greatest_pixel) (on_end d (λ e. header w h e)) no_header))))

-- "13 GREY (not a P5 header, wrong maxval, header or pixels cut short)": otherwise width, height and the pixels. The pixels are counted by
-- width and height as the file tells them, whether they are legal or not.
pub data GreyFile : Type 0 where
  not_grey : GreyFile
  picture : ℕ → ℕ → List ℕ → GreyFile

unfoldable pub pixels_there : ℕ → ℕ → List ℕ → Bool
pixels_there w h s = leb (w * h) (length s)

unfoldable pub taken : GreyHeader → GreyFile
taken no_header = not_grey
taken (header w h s) = cond (pixels_there w h s) (picture w h (take (w * h) s)) not_grey

unfoldable pub read_file : List ℕ → GreyFile
read_file s = taken (read_grey s)

-- A number of a file, however many digits it has, as it is told by one of 64 bits: the lesser of it and 2^64 - 1.
abbrev pub greatest_told : ℕ
greatest_told = 18446744073709551615

unfoldable pub told : ℕ → ℕ
told v = min v greatest_told

-- The digits of a number, none in front that is 0. The first number bounds how many they are; one more than the number is enough.
unfoldable pub digits_up_to : ℕ → ℕ → List ℕ
digits_up_to zero v = []
digits_up_to (suc m) v = cond (ltb v 10) ((48 + v) ∷ []) (digits_up_to m (v / 10) ++ ((48 + v % 10) ∷ []))

unfoldable pub decimal : ℕ → List ℕ
decimal v = digits_up_to (suc v) v

-- "The file written has the lines P5, width and height with one space, 255, then the pixels."
unfoldable pub grey_lines : Size → List ℕ
grey_lines z = 80 ∷ 53 ∷ 10 ∷ decimal z.w ++ 32 ∷ decimal z.h ++ 10 ∷ 50 ∷ 53 ∷ 53 ∷ 10 ∷ []

unfoldable pub grey_file : Size → List ℕ → List ℕ
grey_file z pixels = grey_lines z ++ pixels
