-- What the way in and the way back decide, and what each of their steps leaves.
use Rattle.std.specs.Prelude.{◌≡◌, true, cond, List, ℕ, ◌≤◌, leb, eqb, length, ℤ, Result, Ok, Err, IfOk}
use Rattle.rules.specs.declared.Size.{Size}
use Rattle.rules.specs.declared.Refusal.{Refusal}
use Rattle.rules.specs.declared.Refusal.TheVariants as refusal
use Rattle.rules.specs.Document.Pyramid.{legal_size, area}
use Rattle.rules.specs.Document.Calls.{work_for, first_over}
use Rattle.pictures.specs.declared.Sides.{Sides}
use Rattle.pictures.specs.declared.Printed.{Printed}
use Rattle.pictures.specs.Document.Answers.{as_grey_read, as_grey_written}
use Rattle.pictures.specs.Document.Calls.{most_decoded, grey_in, grey_in_answer, grey_in_out, grey_out, grey_out_answer, grey_out_out}

abbrev pub Judged : Type 0
Judged = Result (Unit {0}) Refusal

-- What input and workspace are refused for.
unfoldable pub judged_in : Size → ℕ → ℕ → Judged
judged_in z room work =
    cond (legal_size z)
    (cond (eqb room (area z)) (cond (leb (work_for z) work) (Ok tt) (Err refusal.Work)) (Err refusal.Length))
    (Err refusal.Size)

unfoldable pub unless_over : List ℤ → Judged → Judged
unless_over pyramid (Err r) = Err r
unless_over pyramid (Ok _) =
    cond (eqb (first_over most_decoded pyramid) (length pyramid)) (Ok tt) (Err (refusal.Range (first_over most_decoded pyramid)))

unfoldable pub judged_out : List ℤ → Size → ℕ → Judged
judged_out pyramid z work = unless_over pyramid (judged_in z (length pyramid) work)

-- A size, a pyramid and a workspace that were judged.
pub record Fits (z : Size) (room work : ℕ) : Type 0 where
  pub legal : legal_size z ≡ true
  pub exact : room ≡ area z
  pub enough : work_for z ≤ work

-- A pyramid that may be printed.
pub record Printing (pyramid : List ℤ) (z : Size) (work : List ℕ) : Type 0 where
  pub fits : Fits z (length pyramid) (length work)
  pub range : first_over most_decoded pyramid ≡ length pyramid

-- The way in and the way back, before what was lent is cleared.
abbrev pub Read : Type 0
Read = Result Sides Refusal

abbrev pub Written : Type 0
Written = Result Printed Refusal

pub record WayIn (file : List ℕ) (n : ℕ) (out : List ℤ) (work : List ℕ) (answer : Read) (out' : List ℤ) : Type 0 where
  pub answers : as_grey_read answer ≡ grey_in_answer (grey_in file n (length out) (length work))
  pub writes : IfOk answer (λ _. out' ≡ grey_in_out (length out) (grey_in file n (length out) (length work)))

pub record WayBack (pyramid : List ℤ) (z : Size) (out work : List ℕ) (answer : Written) (out' : List ℕ) : Type 0 where
  pub answers : as_grey_written answer ≡ grey_out_answer (grey_out pyramid z (length out) (length work))
  pub writes : IfOk answer (λ _. out' ≡ grey_out_out (length out) (grey_out pyramid z (length out) (length work)))
