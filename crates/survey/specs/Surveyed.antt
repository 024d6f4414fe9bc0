-- What a survey says: the header, the number of whole parts and the tail of a record that serving accepts, or its refusal.
use Rattle.std.specs.Prelude.{◌≡◌, List, [], ◌∷◌, cond, ℕ, leb, length, Result, Ok, Err}
use Rattle.rules.specs.declared.Refusal.{Refusal}
use Rattle.rules.specs.declared.Refusal.TheVariants as refusal
use Rattle.rules.specs.declared.Header.{Header}
use Rattle.rules.specs.Document.Numbers.{Verdict, Accepted, Refused, HeaderRead, PartRead}
use Rattle.rules.specs.Document.Numbers.{verdict_number, verdict_place, Ending, tail, fault, Reading, read_header, read_parts}
use Rattle.rules.specs.Document.Calls.{returned, reported}
use Rattle.record.specs.declared.walk.Cursor.{Cursor}
use Rattle.record.specs.Walk.{next_of}
use Rattle.survey.specs.declared.Contents.{Contents}

pub record Survey : Type 0 where
  pub verdict : Verdict
  pub header : Header
  pub parts : ℕ
  pub tail : ℕ

abbrev pub refused_with : Refusal → Survey
refused_with r = record { verdict = Refused r; header = record { size = record { w = 0; h = 0; n = 0 }; planes = 0; end = 0 }; parts = 0; tail = 0 }

-- What a routine hands back, as a survey.
unfoldable pub as_survey : Result Contents Refusal → Survey
as_survey (Ok x) = record { verdict = Accepted; header = x.header; parts = x.parts; tail = x.tail }
as_survey (Err r) = refused_with r

abbrev pub ended_with : Header → ℕ → Ending → Survey
ended_with h n (tail t) = record { verdict = Accepted; header = h; parts = n; tail = t }
ended_with h n (fault r) = refused_with r

abbrev pub walked_with : Header → Reading → Survey
walked_with h r = ended_with h (length r.parts) r.ending

abbrev pub headed_with : List ℕ → HeaderRead → Survey
headed_with s (Ok h) = walked_with h (read_parts h s)
headed_with s (Err r) = refused_with r

unfoldable pub survey_of : List ℕ → Survey
survey_of s = headed_with s (read_header s)

-- "The program partlist reads a record of at most 16,384 bytes", "for longer input refused 5 0".
abbrev pub longest : ℕ
longest = 16384

unfoldable pub listed_of : List ℕ → Survey
listed_of s = cond (leb (length s) longest) (survey_of s) (refused_with refusal.Room)

-- What stands at a cursor in a record; without a legal header its refusal.
abbrev pub part_behind : List ℕ → Cursor → HeaderRead → PartRead
part_behind s c (Ok h) = next_of h s c
part_behind s c (Err r) = Err r

unfoldable pub part_at : List ℕ → Cursor → PartRead
part_at s c = part_behind s c (read_header s)

-- What the export `afs_survey` answers and leaves, beside Calls.AfsServe and its like: number, place, W, H, N, planes, whole parts, tail length, by
-- the same rules for an answer slice. It is lent no output.
unfoldable pub survey_numbers : Survey → List ℕ
survey_numbers a =
    let z = a.header.size in
    verdict_number a.verdict ∷ verdict_place a.verdict ∷ z.w ∷ z.h ∷ z.n ∷ a.header.planes ∷ a.parts ∷ a.tail ∷ []

abbrev pub survey_places : ℕ
survey_places = 8

pub record AfsSurvey (s answer : List ℕ) (number : ℕ) (answer' : List ℕ) : Type 0 where
  pub returns : number ≡ returned survey_places answer (survey_numbers (survey_of s))
  pub reports : answer' ≡ reported survey_places answer (survey_numbers (survey_of s))
