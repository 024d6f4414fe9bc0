-- From a picture's file to a picture's file: the theorem of W3, said of what the calls leave in the memory lent to them. The pyramid is what stands
-- in the output of the way in, the record what stands in the coder's, and what is promised is said of the output and the answer of the way back.
use Rattle.std.specs.Prelude.{◌≡◌, List, ◌++◌, ℕ, ◌-◌, ◌≤◌, length, take, ℤ}
use Rattle.std.proofs.Math.ListN.{get_or}
use Rattle.rules.specs.declared.Size.{Size}
use Rattle.rules.specs.Document.Notation.{zeros}
use Rattle.rules.specs.Document.Pyramid.{area}
use Rattle.rules.specs.Document.Calls.{work_for, code_places, AfsCode, decode_places, AfsDecode}
use Rattle.rules.specs.Promises.Vocabulary.{Codable, Stated, enough_room}
use Rattle.pictures.specs.Document.Lifting.{pyramid_of}
use Rattle.pictures.specs.Document.Netpbm.{picture, read_file, grey_file}
use Rattle.pictures.specs.Document.Calls.{grey_places, AfsGreyIn, AfsGreyOut}
use Rattle.pictures.specs.Laws.Behind.{Bytes}
use Rattle.pictures.specs.Laws.GreyRefusals.{sized}

-- Of the way in, where it came back with number 0: the file is a picture of the size that is told, W x H bytes are its pixels, and the output is the
-- pyramid of these; coding takes it.
pub record Pictured (file : List ℕ) (z : Size) (pixels : List ℕ) (pyramid : List ℤ) : Type 0 where
  pub reads : read_file file ≡ picture z.w z.h pixels
  pub whole : length pixels ≡ area z
  pub bytes : Bytes pixels
  pub its_pyramid : pyramid ≡ pyramid_of z pixels
  pub codable : Codable z pyramid

-- Of the way back: at the front of the output stands the file of these pixels, as long as is told, the rest is 0, and no pixel was set to another value.
pub record Printed (z : Size) (pixels : List ℕ) (number len clipped : ℕ) (out out' work work' : List ℕ) : Type 0 where
  pub accepts : number ≡ 0
  pub writes : out' ≡ grey_file z pixels ++ zeros (length out - length (grey_file z pixels))
  pub tells : len ≡ length (grey_file z pixels)
  pub unclipped : clipped ≡ 0
  pub clears : work' ≡ zeros (length work)

-- The size that the way in tells, for the decompositions that were asked for.
abbrev pub size_told : List ℕ → ℕ → Size
size_told told n = sized (get_or told 2 0) (get_or told 3 0) n

-- THE THEOREM, `from_picture_to_picture`, for any file of bytes and for buffers whatever they held.
pub record FromPictureToPicture : Type 0 where
  pub taken : {file : List ℕ} {n : ℕ} {out out' : List ℤ} {work told work' told' : List ℕ} → Bytes file
      → AfsGreyIn file n out work told 0 out' work' told' → (pixels : List ℕ) × Pictured file (size_told told' n) pixels out'
  -- What was taken is coded: with room that is always enough, a workspace and places for an answer the number is 0.
  pub coded : {file : List ℕ} {z : Size} {pixels : List ℕ} {pyramid : List ℤ} {out work answer : List ℕ} {number : ℕ} {out' work' answer' : List ℕ}
      → Pictured file z pixels pyramid → AfsCode pyramid z out work answer number out' work' answer'
      → enough_room z ≤ length out → work_for z ≤ length work → code_places ≤ length answer → number ≡ 0
  -- The pyramid of a picture is printed as the file of its pixels.
  pub printed : {file : List ℕ} {z : Size} {pixels : List ℕ} {pyramid : List ℤ} {out work answer : List ℕ} {number : ℕ} {out' work' answer' : List ℕ}
      → Pictured file z pixels pyramid → AfsGreyOut pyramid z out work answer number out' work' answer'
      → length (grey_file z pixels) ≤ length out → work_for z ≤ length work → grey_places ≤ length answer
      → Printed z pixels number (get_or answer' 2 0) (get_or answer' 3 0) out out' work work'
  -- Taken, coded, decoded whole and printed: the file of the same pixels.
  pub whole : {file : List ℕ} {n : ℕ} {pyramid pyramid' : List ℤ} {w₁ told w₁' told' out w₂ note out' w₂' note' : List ℕ} {print print' : List ℤ}
      {w₃ seen w₃' seen' paper w₄ count paper' w₄' count' : List ℕ} {number₃ number₄ : ℕ}
      → Bytes file → AfsGreyIn file n pyramid w₁ told 0 pyramid' w₁' told'
      → AfsCode pyramid' (size_told told' n) out w₂ note 0 out' w₂' note'
      → AfsDecode (take (get_or note' 2 0) out') print w₃ seen number₃ print' w₃' seen'
      → Stated (size_told told' n) (length print) (length w₃) → decode_places ≤ length seen
      → AfsGreyOut print' (size_told told' n) paper w₄ count number₄ paper' w₄' count'
      → work_for (size_told told' n) ≤ length w₄ → grey_places ≤ length count
      → (pixels : List ℕ) × Pictured file (size_told told' n) pixels pyramid' × (number₃ ≡ 0) × (print' ≡ pyramid')
      × (length (grey_file (size_told told' n) pixels) ≤ length paper
      → Printed (size_told told' n) pixels number₄ (get_or count' 2 0) (get_or count' 3 0) paper paper' w₄ w₄')
