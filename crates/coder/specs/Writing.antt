-- The stages of writing a record, and what each function of the coder makes of them: its contracts.
use Rattle.std.specs.Prelude.{◌≡◌, List, [], ◌∷◌, Bool, true, cond, ℕ, ◌+◌, ◌*◌, ◌^◌, ◌≤◌, ◌<◌, leb, eqb, length, get_or, ℤ, ⊤, Ok, Err}
use Rattle.std.specs.Prelude.{Result as Returned}
use Rattle.std.proofs.lemmas.List.Edits.{sets}
use Rattle.rules.specs.declared.Size.{Size}
use Rattle.rules.specs.declared.Plane.{Plane}
use Rattle.rules.specs.declared.Level.{Level}
use Rattle.rules.specs.declared.Refusal.{Refusal}
use Rattle.rules.specs.declared.Refusal.TheVariants as refusal
use Rattle.rules.specs.Document.Notation.{flat}
use Rattle.rules.specs.Document.Pyramid.{legal_size, area, levels, most_magnitude, magnitude, negative, most_planes}
use Rattle.rules.specs.Document.Passes.{Course, State, after, PartName, coded}
use Rattle.rules.specs.Document.Layout.{part_bytes, coded_parts}
use Rattle.rules.specs.Document.Calls.{Result, refused, work_for, first_over, code_out, code_answer}
use Rattle.rules.specs.Document.Answers.{as_coded}
use Rattle.trees.specs.Family.{coefficient_of, trees}
use Rattle.trees.specs.Sound.{TreeSound}
use Rattle.stretches.specs.Workspace.{Holds}
use Rattle.lists.specs.declared.Role.TheVariants.{Codes}
use Rattle.parts.specs.declared.Counts.{Counts}
use Rattle.parts.specs.Standing.{state_of, Marks}
use Rattle.record.specs.Write.{place_most}
use Rattle.coder.specs.declared.Progress.{Progress}

-- The outcome x of a call before what was lent is cleared, by what is handed back: its bytes stand in the output, or it is refused.
abbrev pub Answered : Result (List ℕ) → List ℕ → Returned ℕ Refusal → List ℕ → Type 0
Answered x out (Ok n) out' = (as_coded (Ok n) ≡ code_answer x) × (out' ≡ code_out (length out) x)
Answered x out (Err r) out' = x ≡ refused r

-- What the input alone is refused for, in document 01's order: 1, 2, 3, 4.
unfoldable pub judged_input : List ℤ → Size → ℕ → Returned ⊤ Refusal
judged_input pyramid z work =
    cond (legal_size z)
    (cond (eqb (length pyramid) (area z))
    (cond (leb (work_for z) work)
    (cond (eqb (first_over most_magnitude pyramid) (length pyramid)) (Ok tt) (Err (refusal.Range (first_over most_magnitude pyramid))))
    (Err refusal.Work))
    (Err refusal.Length))
    (Err refusal.Size)

-- an input that is in order
pub record Given (pyramid : List ℤ) (z : Size) (work : List ℕ) : Type 0 where
  pub legal : legal_size z ≡ true
  pub whole : length pyramid ≡ area z
  pub room : work_for z ≤ length work
  pub range : first_over most_magnitude pyramid ≡ length pyramid

-- A workspace that holds a pyramid, and lists with LIP's entries marked.
pub record Holding (z : Size) (work : List ℕ) (counts : Counts) : Type 0 where
  pub legal : legal_size z ≡ true
  pub room : work_for z ≤ length work
  pub pyramid : List ℤ
  pub holds : Holds z pyramid work
  pub marks : Marks Codes z work counts

-- No header and no part has more bytes; no part begins behind this place.
abbrev pub header_most : ℕ
header_most = 20

abbrev pub bytes_most : ℕ
bytes_most = 2 ^ 32

-- How far a record is written: the lists, the output, and the place of the next part.
pub record Stage : Type 0 where
  pub lists : State
  pub out : List ℕ
  pub place : ℕ

abbrev pub stage_of : Size → List ℕ → Progress → List ℕ → Stage
stage_of z work p out = record { lists = state_of z work p.counts; out = out; place = p.place }

module _ (pyramid : List ℤ) (z : Size) where
  abbrev pub course_of : PartName → State → Course (List Bool)
  course_of p s = coded (trees z) (λ x. magnitude pyramid (coefficient_of z x)) (λ x. negative pyramid (coefficient_of z x)) p s

  unfoldable pub bytes_of : PartName → State → List ℕ
  bytes_of p s = part_bytes (record { name = p; bits = (course_of p s).side })

  abbrev pub bytes_of_parts : List PartName → State → List ℕ
  bytes_of_parts ps s =
      flat part_bytes (coded_parts (trees z) (λ x. magnitude pyramid (coefficient_of z x)) (λ x. negative pyramid (coefficient_of z x)) ps s)

  -- one part written, and several
  unfoldable pub onward : PartName → Stage → Stage
  onward p x =
      record {
        lists = after p.level (course_of p x.lists) x.lists;
        out = sets x.out x.place (bytes_of p x.lists);
        place = x.place + length (bytes_of p x.lists);
      }

  unfoldable pub through : List PartName → Stage → Stage
  through [] x = x
  through (p ∷ ps) x = through ps (onward p x)

-- 0 from a place on
abbrev pub Clear : List ℕ → ℕ → Type 0
Clear out place = (j : ℕ) → place ≤ j → get_or out j 0 ≡ 0

-- What holds between parts, with m parts still to write: the lists are sound, the output is 0 from the place on, and the place stays small.
pub record Going (z : Size) (m : ℕ) (x : Stage) : Type 0 where
  pub sound : TreeSound z x.lists
  pub clear : Clear x.out x.place
  pub near : x.place + bytes_most * m ≤ place_most

-- A part is due at the stage x.
pub record Due (z : Size) (n : Plane) (k : Level) (work : List ℕ) (counts : Counts) (x : Stage) : Type 0 where
  pub holding : Holding z work counts
  pub plane : n.0 < most_planes
  pub coarser : 1 ≤ k.0
  pub level : k.0 ≤ levels z
  pub going : Going z 1 x

-- The parts `ps` are written: of every pyramid that the workspace holds, and holds as before.
pub record Reached (z : Size) (ps : List PartName) (work : List ℕ) (x : Stage) (p : Progress) (work' out' : List ℕ) : Type 0 where
  pub same : length work' ≡ length work
  pub stage : (v : List ℤ) → Holds z v work → stage_of z work' p out' ≡ through v z ps x
  pub holds : (v : List ℤ) → Holds z v work → Holds z v work'
  pub marks : Marks Codes z work' p.counts

-- Bytes stored from a place on, as many as there is room for, and the place after them.
pub record Stored (out : List ℕ) (at : ℕ) (bytes : List ℕ) (end : ℕ) (out' : List ℕ) : Type 0 where
  pub place : end ≡ at + length bytes
  pub stores : out' ≡ sets out at bytes
