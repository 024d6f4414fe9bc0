-- Grey files as they are met, read and written: one table, and one claim about all its rows, by computation.
use Rattle.std.specs.Prelude.{List, [], ◌∷◌, ◌++◌, map, ℕ, take, replicate}
use Prim.Native.Char.{code}
use Prim.Native.String as string
use Rattle.rules.specs.Document.Passes.{from}
use Rattle.rules.specs.Promises.Cases.{four}
use Rattle.pictures.specs.Document.Netpbm.{line_end, blank, gap_byte, digit, begins, after_comment, after_blanks, after_gap, number, is_p5, on_magic, on_number}
use Rattle.pictures.specs.Document.Netpbm.{last_blank, on_end, read_grey, GreyFile, not_grey, picture, pixels_there, taken, read_file}
use Rattle.pictures.specs.Document.Netpbm.{digits_up_to, decimal, grey_lines, grey_file}
use Rattle.pictures.specs.Laws.PictureCases.{pixels}

unfoldable pub opens_bytes : Unit {0}
unfolding line_end blank gap_byte digit begins after_comment after_blanks after_gap number
opens_bytes = tt

unfoldable pub opens_header : Unit {0}
unfolding is_p5 on_magic on_number last_blank on_end read_grey
opens_header = tt

unfoldable pub opens_file : Unit {0}
unfolding opens_bytes opens_header pixels_there taken read_file digits_up_to decimal grey_lines grey_file
opens_file = tt

-- the bytes of a text
unfoldable pub text : string.String → List ℕ
text string.[] = []
text (string.◌∷◌ c s) = code c ∷ text s

-- What a row may speak of.
pub data Shown : Type 0 where
  bytes : List ℕ → Shown
  read : GreyFile → Shown
  reads : List GreyFile → Shown

pub record Row : Type 0 where
  pub given : Shown
  pub stated : Shown

infixl 5 ◌is◌
abbrev pub ◌is◌ : Shown → Shown → Row
◌is◌ x y = record { given = x; stated = y }

-- a header with sixteen pixels behind it
abbrev pub headed : string.String → Shown
headed s = read (read_file (text s ++ pixels))

abbrev pub alone : string.String → Shown
alone s = read (read_file (text s))

unfoldable pub table : List Row
table =
    -- as it is written, and with other blanks and comments
    (headed "P5\n4 4\n255\n" is read (picture 4 4 pixels))
    ∷ (headed "P5 # c\n4\t4 0255\r" is read (picture 4 4 pixels))
    ∷ (headed "P5#\n#12 12\n4 4\n255 " is read (picture 4 4 pixels))
    ∷ (headed "P5\r\n4 4\r\n255\r" is read (picture 4 4 pixels))
    -- a comment may touch a number, and ends a header with the line end behind it; of a line end of two bytes the second is a pixel
    ∷ (headed "P5\n4#c\n4\n255#c\n" is read (picture 4 4 pixels))
    ∷ (headed "P5#c\r4 4\n255#c\r" is read (picture 4 4 pixels))
    ∷ (headed "P5\n4 4\n255\r\n" is read (picture 4 4 (take 16 (10 ∷ pixels))))
    -- what is behind the pixels is not looked at
    ∷ (read (read_file (text "P5\n4 4\n255\n" ++ pixels ++ text "P5\n4 4\n255\n")) is read (picture 4 4 pixels))
    -- a pixel too few; other formats; no gap; another maxval; cut short; a sign; VT
    ∷ (read (read_file (text "P5\n4 4\n255\n" ++ take 15 pixels)) is read not_grey)
    ∷ (headed "P2\n4 4\n255\n" is read not_grey)
    ∷ (headed "P54 4 255\n" is read not_grey)
    ∷ (headed "P5\n4 4\n254\n" is read not_grey)
    ∷ (headed "P5\n4 4\n65535\n" is read not_grey)
    ∷ (alone "P5\n4 4\n255" is read not_grey)
    ∷ (headed "P5\n4 -4\n255\n" is read not_grey)
    ∷ (headed "P5\n4\u{b}4\n255\n" is read not_grey)
    ∷ (alone "" is read not_grey)
    ∷ (alone "P" is read not_grey)
    ∷ (alone "P5" is read not_grey)
    ∷ (alone "P5\n#" is read not_grey)
    -- pixels are counted by what the file tells, legal or not
    ∷ (headed "P5\n5 5\n255\n" is read not_grey)
    ∷ (headed "P5\n3 5\n255\n" is read (picture 3 5 (take 15 pixels)))
    ∷ (alone "P5\n0 5\n255\n" is read (picture 0 5 []))
    ∷ (headed "P5\n12345678901234567890123 1\n255\n" is read not_grey)
    ∷ (alone "P5\n12345678901234567890123 0\n255\n" is read (picture 12345678901234567890123 0 []))
    -- each front of a file that lacks a pixel
    ∷ (reads (map (λ n. read_file (take n (grey_file four pixels))) (from 0 27)) is reads (replicate 27 not_grey))
    -- the file written, and numbers as they stand in it
    ∷ (bytes (grey_file four pixels) is bytes (text "P5\n4 4\n255\n" ++ pixels))
    ∷ (bytes (decimal 0 ++ decimal 9 ++ decimal 10 ++ decimal 100 ++ decimal 512) is bytes (text "0910100512"))
    ∷ []
