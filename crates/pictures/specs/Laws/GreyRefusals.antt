-- Document 02's order of refusals for grey pictures, as statements: the way in and the way back come back with a number and place exactly where
-- the case of that refusal holds, with 0 exactly where they accept, and leave in memory what document 01 says. A case asks for its cause, and
-- that no cause before it in the order holds. GreyCase, in GreyCauses, has the causes of 13.
use Rattle.std.specs.Prelude.{◌≡◌, List, [], ◌∷◌, ◌≢◌, ℕ, ◌≤◌, ◌<◌, ℤ}
use Rattle.std.proofs.Math.ListN.{length}
use Rattle.rules.specs.declared.Size.{Size}
use Rattle.rules.specs.declared.Refusal.TheVariants as refusal
use Rattle.rules.specs.Document.Pyramid.{area}
use Rattle.rules.specs.Document.Calls.{Result, refused, accepted, work_for}
use Rattle.rules.specs.Promises.Vocabulary.{Legal}
use Rattle.rules.specs.Promises.Refusals.{InRange, FirstOver}
use Rattle.pictures.specs.Document.Lifting.{pyramid_of, picture_of}
use Rattle.pictures.specs.Document.Netpbm.{not_grey, picture}
use Rattle.pictures.specs.Document.Calls.{GreyPyramid, most_decoded, GreyPrint, print_of}
use Rattle.pictures.specs.Laws.GreyCauses.{GreyCase}

-- "13 GREY (..), place 0, before 1; then 1, 2, 3."
abbrev pub sized : ℕ → ℕ → ℕ → Size
sized w h n = record { w = w; h = h; n = n }

pub data GreyInCase (file : List ℕ) (n room work : ℕ) : Result GreyPyramid → Type 0 where
  GREY : GreyCase file not_grey → GreyInCase file n room work (refused refusal.Grey)
  SIZE : {w h : ℕ} {pixels : List ℕ} → GreyCase file (picture w h pixels) → ¬ Legal (sized w h n)
      → GreyInCase file n room work (refused refusal.Size)
  LENGTH : {w h : ℕ} {pixels : List ℕ} → GreyCase file (picture w h pixels) → Legal (sized w h n) → room ≢ area (sized w h n)
      → GreyInCase file n room work (refused refusal.Length)
  WORK : {w h : ℕ} {pixels : List ℕ} → GreyCase file (picture w h pixels) → Legal (sized w h n) → room ≡ area (sized w h n)
      → work < work_for (sized w h n) → GreyInCase file n room work (refused refusal.Work)
  LIFTED : {w h : ℕ} {pixels : List ℕ} → GreyCase file (picture w h pixels) → Legal (sized w h n) → room ≡ area (sized w h n)
      → work_for (sized w h n) ≤ work
      → GreyInCase file n room work (accepted (record { size = sized w h n; pyramid = pyramid_of (sized w h n) pixels }))

-- "Then 1, 2, 3 and, going back, 4 for a magnitude over 131,071; last 5."
pub data GreyOutCase (pyramid : List ℤ) (z : Size) (room work : ℕ) : Result GreyPrint → Type 0 where
  SIZE : ¬ Legal z → GreyOutCase pyramid z room work (refused refusal.Size)
  LENGTH : Legal z → length pyramid ≢ area z → GreyOutCase pyramid z room work (refused refusal.Length)
  WORK : Legal z → length pyramid ≡ area z → work < work_for z → GreyOutCase pyramid z room work (refused refusal.Work)
  RANGE : {at : ℕ} → Legal z → length pyramid ≡ area z → work_for z ≤ work → FirstOver most_decoded pyramid at
      → GreyOutCase pyramid z room work (refused (refusal.Range at))
  ROOM : Legal z → length pyramid ≡ area z → work_for z ≤ work → InRange most_decoded pyramid (length pyramid)
      → room < length (print_of z (picture_of z pyramid)).file → GreyOutCase pyramid z room work (refused refusal.Room)
  PRINTED : Legal z → length pyramid ≡ area z → work_for z ≤ work → InRange most_decoded pyramid (length pyramid)
      → length (print_of z (picture_of z pyramid)).file ≤ room → GreyOutCase pyramid z room work (accepted (print_of z (picture_of z pyramid)))

abbrev pub grey_in_numbers : List ℕ
grey_in_numbers = 0 ∷ 1 ∷ 2 ∷ 3 ∷ 13 ∷ []

abbrev pub grey_out_numbers : List ℕ
grey_out_numbers = 0 ∷ 1 ∷ 2 ∷ 3 ∷ 4 ∷ 5 ∷ []
