-- Document 02, W3: what the way in, from a grey file to a pyramid, and the way back answer and leave in the memory lent to them, for every
-- input. `Result`, `unless`, `fitted` and `filled` are document 01's (rules, Calls).
use Rattle.std.specs.Prelude.{◌≡◌, List, [], ◌∷◌, map, Bool, true, cond, ℕ, suc, min, leb, ltb, eqb, length, replicate, ℤ, pos, negsuc}
use Rattle.rules.specs.declared.Size.{Size}
use Rattle.rules.specs.declared.Refusal.TheVariants as refusal
use Rattle.rules.specs.Document.Notation.{zeros}
use Rattle.rules.specs.Document.Pyramid.{legal_size, area}
use Rattle.rules.specs.Document.Numbers.{Verdict, Accepted, Refused, verdict_number, verdict_place}
use Rattle.rules.specs.Document.Calls.{Result, refused, accepted, unless, work_for, first_over, filled, returned, reported, lent_out}
use Rattle.pictures.specs.Document.Lifting.{pyramid_of, picture_of}
use Rattle.pictures.specs.Document.Netpbm.{greatest_pixel, GreyFile, not_grey, picture, read_file, told, grey_file}

-- "We want the path from such a file to a pyramid." "Refusals: 13 GREY .., place 0, before 1; then 1, 2, 3": the pyramid that is lent has to
-- have W x H numbers.
pub record GreyPyramid : Type 0 where
  pub size : Size
  pub pyramid : List ℤ

unfoldable pub on_picture : {X : Type 0} → GreyFile → (ℕ → ℕ → List ℕ → Result X) → Result X
on_picture not_grey go = refused refusal.Grey
on_picture (picture w h pixels) go = go w h pixels

unfoldable pub lifted : Size → List ℕ → ℕ → ℕ → Result GreyPyramid
lifted z pixels room work =
    unless (legal_size z) refusal.Size
    (unless (eqb room (area z)) refusal.Length
    (unless (leb (work_for z) work) refusal.Work
    (accepted (record { size = z; pyramid = pyramid_of z pixels }))))

unfoldable pub grey_in : List ℕ → ℕ → ℕ → ℕ → Result GreyPyramid
grey_in file n room work = on_picture (read_file file) (λ w h pixels. lifted (record { w = w; h = h; n = n }) pixels room work)

-- "Going back, a decoded pyramid that isn't whole may give pixels outside 0 to 255; these are set to the nearer end, and coding's answer
-- gains the number of such pixels."
unfoldable pub clip : ℤ → ℕ
clip (pos v) = min v greatest_pixel
clip (negsuc v) = 0

unfoldable pub outside : ℤ → Bool
outside (pos v) = ltb greatest_pixel v
outside (negsuc v) = true

unfoldable pub clipped_in : List ℤ → ℕ
clipped_in [] = 0
clipped_in (v ∷ vs) = cond (outside v) (suc (clipped_in vs)) (clipped_in vs)

-- "Going back, 4 for a magnitude over 131,071; last 5."
abbrev pub most_decoded : ℕ
most_decoded = 131071

pub record GreyPrint : Type 0 where
  pub file : List ℕ
  pub clipped : ℕ

unfoldable pub print_of : Size → List ℤ → GreyPrint
print_of z numbers = record { file = grey_file z (map clip numbers); clipped = clipped_in numbers }

unfoldable pub printed : GreyPrint → ℕ → Result GreyPrint
printed x room = unless (leb (length x.file) room) refusal.Room (accepted x)

unfoldable pub grey_out : List ℤ → Size → ℕ → ℕ → Result GreyPrint
grey_out pyramid z room work =
    unless (legal_size z) refusal.Size
    (unless (eqb (length pyramid) (area z)) refusal.Length
    (unless (leb (work_for z) work) refusal.Work
    (unless (eqb (first_over most_decoded pyramid) (length pyramid)) (refusal.Range (first_over most_decoded pyramid))
    (printed (print_of z (picture_of z pyramid)) room))))

-- "The way in answers number, place, W, H." Coding's answer is number, place, length; the way back's gains the number of pixels that were set
-- to the nearer end. As document 01 says: "Refused: output slice all 0." "For bytes, all after the result 0." "A refusal has 0 in all but
-- number and place."
pub record GreyRead : Type 0 where
  pub verdict : Verdict
  pub w : ℕ
  pub h : ℕ

pub record GreyWritten : Type 0 where
  pub verdict : Verdict
  pub length : ℕ
  pub clipped : ℕ

unfoldable pub grey_in_out : ℕ → Result GreyPyramid → List ℤ
grey_in_out room (refused r) = replicate room (pos 0)
grey_in_out room (accepted x) = x.pyramid

unfoldable pub grey_in_answer : Result GreyPyramid → GreyRead
grey_in_answer (refused r) = record { verdict = Refused r; w = 0; h = 0 }
grey_in_answer (accepted x) = record { verdict = Accepted; w = x.size.w; h = x.size.h }

unfoldable pub grey_out_out : ℕ → Result GreyPrint → List ℕ
grey_out_out room (refused r) = zeros room
grey_out_out room (accepted x) = filled room x.file

unfoldable pub grey_out_answer : Result GreyPrint → GreyWritten
grey_out_answer (refused r) = record { verdict = Refused r; length = 0; clipped = 0 }
grey_out_answer (accepted x) = record { verdict = Accepted; length = length x.file; clipped = x.clipped }

-- How large the picture in a file is, so that a caller knows what to lend: 13 just where the way in answers 13, else W and H as the file
-- tells them, legal or not.
unfoldable pub grey_size : GreyFile → GreyRead
grey_size not_grey = record { verdict = Refused refusal.Grey; w = 0; h = 0 }
grey_size (picture w h pixels) = record { verdict = Accepted; w = told w; h = told h }

-- The public routines; ' marks what lent memory holds after the call.
pub record GreyIn (file : List ℕ) (n : ℕ) (out : List ℤ) (work : List ℕ) (answer : GreyRead) (out' : List ℤ) (work' : List ℕ) : Type 0 where
  pub answers : answer ≡ grey_in_answer (grey_in file n (length out) (length work))
  pub writes : out' ≡ grey_in_out (length out) (grey_in file n (length out) (length work))
  pub clears : work' ≡ zeros (length work)

pub record GreyOut (pyramid : List ℤ) (z : Size) (out work : List ℕ) (answer : GreyWritten) (out' work' : List ℕ) : Type 0 where
  pub answers : answer ≡ grey_out_answer (grey_out pyramid z (length out) (length work))
  pub writes : out' ≡ grey_out_out (length out) (grey_out pyramid z (length out) (length work))
  pub clears : work' ≡ zeros (length work)

pub record GreySize (file : List ℕ) (answer : GreyRead) : Type 0 where
  pub answers : answer ≡ grey_size (read_file file)

-- The exports: each answer has four numbers, at the front of the slice that is lent for it.
unfoldable pub grey_read_numbers : GreyRead → List ℕ
grey_read_numbers a = verdict_number a.verdict ∷ verdict_place a.verdict ∷ a.w ∷ a.h ∷ []

unfoldable pub grey_written_numbers : GreyWritten → List ℕ
grey_written_numbers a = verdict_number a.verdict ∷ verdict_place a.verdict ∷ a.length ∷ a.clipped ∷ []

abbrev pub grey_places : ℕ
grey_places = 4

pub record AfsGreyIn (file : List ℕ) (n : ℕ) (out : List ℤ) (work answer : List ℕ) (number : ℕ) (out' : List ℤ) (work' answer' : List ℕ) : Type 0 where
  pub returns : number ≡ returned grey_places answer (grey_read_numbers (grey_in_answer (grey_in file n (length out) (length work))))
  pub reports : answer' ≡ reported grey_places answer (grey_read_numbers (grey_in_answer (grey_in file n (length out) (length work))))
  pub writes :
      out' ≡ lent_out grey_places answer (grey_in_out (length out) (grey_in file n (length out) (length work))) (replicate (length out) (pos 0))
  pub clears : work' ≡ zeros (length work)

pub record AfsGreyOut (pyramid : List ℤ) (z : Size) (out work answer : List ℕ) (number : ℕ) (out' work' answer' : List ℕ) : Type 0 where
  pub returns : number ≡ returned grey_places answer (grey_written_numbers (grey_out_answer (grey_out pyramid z (length out) (length work))))
  pub reports : answer' ≡ reported grey_places answer (grey_written_numbers (grey_out_answer (grey_out pyramid z (length out) (length work))))
  pub writes : out' ≡ lent_out grey_places answer (grey_out_out (length out) (grey_out pyramid z (length out) (length work))) (zeros (length out))
  pub clears : work' ≡ zeros (length work)

pub record AfsGreySize (file answer : List ℕ) (number : ℕ) (answer' : List ℕ) : Type 0 where
  pub returns : number ≡ returned grey_places answer (grey_read_numbers (grey_size (read_file file)))
  pub reports : answer' ≡ reported grey_places answer (grey_read_numbers (grey_size (read_file file)))
