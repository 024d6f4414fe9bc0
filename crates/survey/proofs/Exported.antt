-- What follows of the export `afs_survey`: an answer slice too short or long enough, determinacy and isolation, what decoding is to be lent; and what
-- worked bytes give.
use Rattle.std.specs.Prelude.{◌≡◌, refl, List, [], ◌∷◌, ◌++◌, map, ℕ, ◌-◌, ◌≤◌, ◌<◌, length, take, Result, Ok, Err}
use Rattle.std.proofs.Common.{sym, ap, ◌∙◌, arith}
use Rattle.std.proofs.Math.Bool.{true, false}
use Rattle.std.proofs.Math.Dec.{leb}
use borrow.Author.Tests.{le-leb, lt-leb, eq-eqb}
use Rattle.rules.specs.declared.Refusal.{Refusal}
use Rattle.rules.specs.Document.Notation.{zeros}
use Rattle.rules.specs.Document.Numbers.{Accepted}
use Rattle.rules.specs.Document.Pyramid.{area}
use Rattle.rules.specs.Document.Numbers.{verdict_number, read_parts}
use Rattle.rules.specs.Document.Calls.{work_for, on_header, unless, decoded_parts, decoding, filled, returned, reported}
use Rattle.rules.specs.Promises.Cases.{thirty, without12, opens_example, opens_pyramid, opens_bytes, opens_record, opens_reading}
use Rattle.rules.proofs.Promises.Handed.{refused_once, accepted_refused, refused_accepted}
use Rattle.survey.proofs.AsServing.{survey_header}
use Rattle.survey.specs.declared.Contents.{Contents}
use Rattle.survey.specs.Surveyed.{Survey, as_survey, survey_of, survey_numbers, survey_places, AfsSurvey}

module _ {s answer : List ℕ} {number : ℕ} {answer' : List ℕ} (x : AfsSurvey s answer number answer') where
  pub afs_survey_short : length answer < survey_places → (number ≡ 5) × (answer' ≡ zeros (length answer))
  unfolding returned reported
  afs_survey_short l =
      let e : leb survey_places (length answer) ≡ false = lt-leb survey_places (length answer) l in
      (x.returns ∙ rw e, x.reports ∙ rw e)

  pub afs_survey_surveys : survey_places ≤ length answer
      → (number ≡ verdict_number (survey_of s).verdict) × (answer' ≡ survey_numbers (survey_of s) ++ zeros (length answer - survey_places))
  unfolding returned reported filled survey_numbers
  afs_survey_surveys l =
      let e : leb survey_places (length answer) ≡ true = le-leb survey_places (length answer) l in
      (x.returns ∙ rw e, x.reports ∙ rw e)

pub afs_survey_isolated : {s answer₁ answer₂ : List ℕ} {n₁ n₂ : ℕ} {answer₁' answer₂' : List ℕ}
    → AfsSurvey s answer₁ n₁ answer₁' → AfsSurvey s answer₂ n₂ answer₂' → length answer₁ ≡ length answer₂ → (n₁ ≡ n₂) × (answer₁' ≡ answer₂')
unfolding returned reported
afs_survey_isolated x y l = (x.returns ∙ rw l (sym y.returns), x.reports ∙ rw l (sym y.reports))

pub afs_survey_determined : {s answer : List ℕ} {n₁ n₂ : ℕ} {answer₁' answer₂' : List ℕ}
    → AfsSurvey s answer n₁ answer₁' → AfsSurvey s answer n₂ answer₂' → (n₁ ≡ n₂) × (answer₁' ≡ answer₂')
afs_survey_determined x y = afs_survey_isolated x y refl

-- What a survey tells is what decoding is to be lent: with an output of W x H and a workspace of 4 x W x H it is refused for neither, and comes to
-- the parts.
pub survey_lends : (s : List ℕ) (work : ℕ) → (survey_of s).verdict ≡ Accepted → work_for (survey_of s).header.size ≤ work
    → decoding s (area (survey_of s).header.size) work ≡ decoded_parts (survey_of s).header s (read_parts (survey_of s).header s)
unfolding decoding on_header unless
survey_lends s work e l =
    let z = (survey_of s).header.size in
    rw (survey_header s e, eq-eqb (area z) (area z) refl, le-leb (work_for z) work l)

-- What the routine hands back is one, too: where two are the same survey, they are the same.
pub as_survey_once : (x y : Result Contents Refusal) → as_survey x ≡ as_survey y → x ≡ y
unfolding as_survey
as_survey_once (Ok m) (Ok n) e = ap (λ (a : Survey). Ok (record { header = a.header; parts = a.parts; tail = a.tail })) e
as_survey_once (Ok m) (Err q) e = absurd (omega (arith, accepted_refused (ap (λ a. a.verdict) e)))
as_survey_once (Err r) (Ok n) e = absurd (omega (arith, refused_accepted (ap (λ a. a.verdict) e)))
as_survey_once (Err r) (Err q) e = ap Err (refused_once (ap (λ a. a.verdict) e))

-- The document's record: in full; part (1,2) lost; its first 29 bytes; its first 4. An all zero pyramid's. A version that is not 1.
pub surveyed_cases : map (λ s. survey_numbers (survey_of s))
    (thirty ∷ without12 ∷ take 29 thirty ∷ take 4 thirty ∷ (1 ∷ 4 ∷ 4 ∷ 1 ∷ 0 ∷ []) ∷ (2 ∷ 4 ∷ 4 ∷ 1 ∷ 0 ∷ []) ∷ [])
    ≡ (0 ∷ 0 ∷ 4 ∷ 4 ∷ 1 ∷ 3 ∷ 6 ∷ 0 ∷ [])
    ∷ (0 ∷ 0 ∷ 4 ∷ 4 ∷ 1 ∷ 3 ∷ 5 ∷ 0 ∷ [])
    ∷ (0 ∷ 0 ∷ 4 ∷ 4 ∷ 1 ∷ 3 ∷ 5 ∷ 4 ∷ [])
    ∷ (6 ∷ 4 ∷ 0 ∷ 0 ∷ 0 ∷ 0 ∷ 0 ∷ 0 ∷ [])
    ∷ (0 ∷ 0 ∷ 4 ∷ 4 ∷ 1 ∷ 0 ∷ 0 ∷ 0 ∷ [])
    ∷ (7 ∷ 0 ∷ 0 ∷ 0 ∷ 0 ∷ 0 ∷ 0 ∷ 0 ∷ [])
    ∷ []
unfolding survey_numbers survey_of opens_example opens_pyramid opens_bytes opens_record opens_reading
surveyed_cases = refl
