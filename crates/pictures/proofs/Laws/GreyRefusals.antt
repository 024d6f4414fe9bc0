-- Document 02's order of refusals for grey pictures, as statements: the way in and the way back come back with a number and place exactly where
-- the case of that refusal holds, with 0 exactly where they accept, and leave in memory what document 01 says. A case asks for its cause, and
-- that no cause before it in the order holds. GreyCase, in GreyCauses, has the causes of 13.
use Rattle.std.specs.Prelude.{◌≡◌, List, ◌++◌, ◌≢◌, ◌↔◌, ℕ, ◌-◌, ◌≤◌, ◌<◌, replicate, ℤ, pos}
use Rattle.std.proofs.Math.Path.{refl, ap, subst}
use Rattle.std.proofs.Common.{sym, ◌∙◌, arith}
use Rattle.std.proofs.Math.Bool.{true, false}
use Rattle.std.proofs.Math.Dec.{leb, eqb}
use Rattle.std.proofs.Math.ListN.{length}
use borrow.Author.Tests.{leb-true, leb-false, le-leb, lt-leb, eqb-true, eqb-false, eq-eqb, ne_eqb}
use Rattle.rules.specs.declared.Size.{Size}
use Rattle.rules.specs.declared.Refusal.TheVariants as refusal
use Rattle.rules.specs.Document.Numbers.{Accepted}
use Rattle.rules.specs.Document.Notation.{any, zeros}
use Rattle.rules.specs.Document.Pyramid.{legal_size, area}
use Rattle.rules.specs.Document.Numbers.{verdict_number}
use Rattle.rules.specs.Document.Calls.{Result, refused, accepted, unless, work_for, first_over, filled, returned, reported, lent_out}
use Rattle.rules.proofs.Laws.Counting.Booleans.{not_test}
use Rattle.rules.proofs.Laws.Family.Sizes.{legal, size_legal}
use Rattle.rules.specs.Promises.Vocabulary.{Legal, among, Exactly}
use Rattle.rules.proofs.Laws.Rounding.Planes.{under_first, first_over_lem, none_over, over_first}
use Rattle.rules.proofs.Laws.Calls.Results.{unless_case}
use Rattle.rules.proofs.Laws.Reading.PartCases.{failed}
use Rattle.rules.specs.Promises.Refusals.{InRange}
use Rattle.rules.specs.Laws.Calls.Refused.{verdict_of}
use Rattle.rules.proofs.Laws.Calls.Refused.{exactly}
use Rattle.pictures.specs.Document.Calls.{GreyRead}
use Rattle.pictures.specs.Document.Calls.{GreyWritten}
use Rattle.pictures.specs.Document.Lifting.{picture_of}
use Rattle.pictures.specs.Document.Netpbm.{GreyFile, not_grey, picture, read_file, told}
use Rattle.pictures.specs.Document.Calls.{GreyPyramid, on_picture, lifted, grey_in, most_decoded, GreyPrint, print_of, printed, grey_out}
use Rattle.pictures.specs.Document.Calls.{grey_in_out, grey_in_answer, grey_out_out, grey_out_answer, grey_size, GreyIn, GreyOut, GreySize}
use Rattle.pictures.specs.Document.Calls.{grey_read_numbers, grey_written_numbers, grey_places, AfsGreyIn, AfsGreyOut, AfsGreySize}
use Rattle.pictures.specs.Laws.GreyCauses.{GreyCase}
use Rattle.pictures.proofs.Laws.GreyCases.{grey_case, grey_is}
use Rattle.pictures.specs.Laws.GreyRefusals.{sized, GreyInCase, GREY, SIZE, LENGTH, WORK, LIFTED, GreyOutCase, RANGE, ROOM, PRINTED, grey_in_numbers}
use Rattle.pictures.specs.Laws.GreyRefusals.{grey_out_numbers}

-- Each way has the outcome that its case says, and no other.
module _ (file : List ℕ) (n room work : ℕ) where
  abbrev Takes : Result GreyPyramid → Type 0
  Takes = GreyInCase file n room work

  lifted_case : (w h : ℕ) (pixels : List ℕ) → GreyCase file (picture w h pixels) → Takes (lifted (sized w h n) pixels room work)
  unfolding lifted
  lifted_case w h pixels c =
      let z : Size = sized w h n in
      unless_case Takes (legal_size z) refusal.Size _ (λ e. SIZE c (failed _ (size_legal z) e)) (λ e.
      let Z : Legal z = legal z e in
      unless_case Takes (eqb room (area z)) refusal.Length _ (λ e. LENGTH c Z (eqb-false _ _ e)) (λ e.
      let L : room ≡ area z = eqb-true _ _ e in
      unless_case Takes (leb (work_for z) work) refusal.Work _ (λ e. WORK c Z L (leb-false _ _ e)) (λ e. LIFTED c Z L (leb-true _ _ e))))

  picture_case : (x : GreyFile) → GreyCase file x → Takes (on_picture x (λ w h pixels. lifted (sized w h n) pixels room work))
  unfolding on_picture
  picture_case not_grey c = GREY c
  picture_case (picture w h pixels) c = lifted_case w h pixels c

  pub grey_in_case : GreyInCase file n room work (grey_in file n room work)
  unfolding grey_in
  grey_in_case = picture_case (read_file file) (grey_case file)

  pub grey_in_is : (x : Result GreyPyramid) → GreyInCase file n room work x → grey_in file n room work ≡ x
  unfolding grey_in on_picture lifted unless
  grey_in_is x (GREY c) = rw (grey_is file not_grey c)
  grey_in_is x (SIZE {w = w} {h = h} {pixels = p} c isnt) =
      rw (grey_is file (picture w h p) c, not_test (legal_size (sized w h n)) (λ e. isnt (legal (sized w h n) e)))
  grey_in_is x (LENGTH {w = w} {h = h} {pixels = p} c Z isnt) =
      rw (grey_is file (picture w h p) c, size_legal (sized w h n) Z, ne_eqb room (area (sized w h n)) isnt)
  grey_in_is x (WORK {w = w} {h = h} {pixels = p} c Z L k) =
      rw (grey_is file (picture w h p) c, size_legal (sized w h n) Z, eq-eqb room (area (sized w h n)) L, lt-leb (work_for (sized w h n)) work k)
  grey_in_is x (LIFTED {w = w} {h = h} {pixels = p} c Z L K) =
      rw (grey_is file (picture w h p) c, size_legal (sized w h n) Z, eq-eqb room (area (sized w h n)) L, le-leb (work_for (sized w h n)) work K)

  grey_in_gives : {y : Result GreyPyramid} → Takes y → among grey_in_numbers (verdict_number (verdict_of y))
  unfolding verdict_of any
  grey_in_gives (GREY c) = refl
  grey_in_gives (SIZE c isnt) = refl
  grey_in_gives (LENGTH c Z isnt) = refl
  grey_in_gives (WORK c Z L k) = refl
  grey_in_gives (LIFTED c Z L K) = refl

module _ (pyramid : List ℤ) (z : Size) (room work : ℕ) where
  abbrev Prints : Result GreyPrint → Type 0
  Prints = GreyOutCase pyramid z room work

  pub grey_out_case : GreyOutCase pyramid z room work (grey_out pyramid z room work)
  unfolding grey_out printed
  grey_out_case =
      unless_case Prints (legal_size z) refusal.Size _ (λ e. SIZE (failed _ (size_legal z) e)) (λ e.
      let Z : Legal z = legal z e in
      unless_case Prints (eqb (length pyramid) (area z)) refusal.Length _ (λ e. LENGTH Z (eqb-false _ _ e)) (λ e.
      let L : length pyramid ≡ area z = eqb-true _ _ e in
      unless_case Prints (leb (work_for z) work) refusal.Work _ (λ e. WORK Z L (leb-false _ _ e)) (λ e.
      let K : work_for z ≤ work = leb-true _ _ e in
      unless_case Prints (eqb (first_over most_decoded pyramid) (length pyramid)) (refusal.Range (first_over most_decoded pyramid)) _
      (λ e. RANGE Z L K (first_over_lem most_decoded pyramid (eqb-false _ _ e))) (λ e.
      let R : InRange most_decoded pyramid (length pyramid)
      = subst (InRange most_decoded pyramid) (eqb-true _ _ e) (under_first most_decoded pyramid) in
      unless_case Prints (leb (length (print_of z (picture_of z pyramid)).file) room) refusal.Room _ (λ e. ROOM Z L K R (leb-false _ _ e))
      (λ e. PRINTED Z L K R (leb-true _ _ e))))))

  grey_out_printed : Legal z → length pyramid ≡ area z → work_for z ≤ work → InRange most_decoded pyramid (length pyramid)
      → grey_out pyramid z room work ≡ printed (print_of z (picture_of z pyramid)) room
  unfolding grey_out unless
  grey_out_printed Z L K R =
      let f : eqb (first_over most_decoded pyramid) (length pyramid) ≡ true = eq-eqb _ _ (none_over most_decoded pyramid R) in
      rw (size_legal z Z, eq-eqb (length pyramid) (area z) L, le-leb (work_for z) work K, f)

  pub grey_out_is : (x : Result GreyPrint) → GreyOutCase pyramid z room work x → grey_out pyramid z room work ≡ x
  unfolding grey_out printed unless
  grey_out_is x (SIZE isnt) = rw (not_test (legal_size z) (λ e. isnt (legal z e)))
  grey_out_is x (LENGTH Z isnt) = rw (size_legal z Z, ne_eqb (length pyramid) (area z) isnt)
  grey_out_is x (WORK Z L k) = rw (size_legal z Z, eq-eqb (length pyramid) (area z) L, lt-leb (work_for z) work k)
  grey_out_is x (RANGE {at = at} Z L K f) =
      let q : first_over most_decoded pyramid ≡ at = over_first most_decoded pyramid at f in
      let isnt : first_over most_decoded pyramid ≢ length pyramid = λ e. omega (arith, f.inside) in
      rw (
        size_legal z Z,
        eq-eqb (length pyramid) (area z) L,
        le-leb (work_for z) work K,
        ne_eqb (first_over most_decoded pyramid) (length pyramid) isnt,
        q,
      )
  grey_out_is x (ROOM Z L K R l) = grey_out_printed Z L K R ∙ rw (lt-leb (length (print_of z (picture_of z pyramid)).file) room l)
  grey_out_is x (PRINTED Z L K R l) = grey_out_printed Z L K R ∙ rw (le-leb (length (print_of z (picture_of z pyramid)).file) room l)

  grey_out_gives : {y : Result GreyPrint} → Prints y → among grey_out_numbers (verdict_number (verdict_of y))
  unfolding verdict_of any
  grey_out_gives (SIZE isnt) = refl
  grey_out_gives (LENGTH Z isnt) = refl
  grey_out_gives (WORK Z L k) = refl
  grey_out_gives (RANGE Z L K f) = refl
  grey_out_gives (ROOM Z L K R l) = refl
  grey_out_gives (PRINTED Z L K R l) = refl

-- The promises. "Refused: output slice all 0. Accepted: number and place 0 .." "A refusal has 0 in all but number and place. Workspace: all 0
-- after every call."
pub grey_in_refused : {file : List ℕ} {n : ℕ} {out : List ℤ} {work : List ℕ} {answer : GreyRead} {out' : List ℤ} {work' : List ℕ}
    → GreyIn file n out work answer out' work'
    → Exactly (GreyInCase file n (length out) (length work)) grey_in_numbers answer.verdict
    ((answer.w ≡ 0) × (answer.h ≡ 0) × (out' ≡ replicate (length out) (pos 0)) × (work' ≡ zeros (length work)))
    (λ x. (answer.w ≡ x.size.w) × (answer.h ≡ x.size.h) × (out' ≡ x.pyramid) × (work' ≡ zeros (length work)))
unfolding grey_in_answer grey_in_out verdict_of
grey_in_refused {file = file} {n = n} {out = out} {work = work} {answer = answer} {out' = out'} x =
    let y : Result GreyPyramid = grey_in file n (length out) (length work) in
    let c : GreyInCase file n (length out) (length work) y = grey_in_case file n (length out) (length work) in
    exactly (GreyInCase file n (length out) (length work)) y c (grey_in_is file n (length out) (length work)) grey_in_numbers
    (grey_in_gives file n (length out) (length work) c) answer.verdict (ap (λ a. a.verdict) x.answers ∙ verdict y)
    _ (λ r e. let a = x.answers ∙ ap grey_in_answer e in (ap (λ a. a.w) a, ap (λ a. a.h) a, written e, x.clears))
    _ (λ q e. let a = x.answers ∙ ap grey_in_answer e in (ap (λ a. a.w) a, ap (λ a. a.h) a, written e, x.clears))
  where
    written : {y : Result GreyPyramid} → grey_in file n (length out) (length work) ≡ y → out' ≡ grey_in_out (length out) y
    written e = x.writes ∙ ap (grey_in_out (length out)) e

    verdict : (y : Result GreyPyramid) → (grey_in_answer y).verdict ≡ verdict_of y
    verdict (refused r) = refl
    verdict (accepted x) = refl

pub grey_out_refused : {pyramid : List ℤ} {z : Size} {out work : List ℕ} {answer : GreyWritten} {out' work' : List ℕ}
    → GreyOut pyramid z out work answer out' work'
    → Exactly (GreyOutCase pyramid z (length out) (length work)) grey_out_numbers answer.verdict
    ((answer.length ≡ 0) × (answer.clipped ≡ 0) × (out' ≡ zeros (length out)) × (work' ≡ zeros (length work)))
    (λ x. (answer.length ≡ length x.file) × (answer.clipped ≡ x.clipped) × (out' ≡ x.file ++ zeros (length out - length x.file))
    × (work' ≡ zeros (length work)))
unfolding grey_out_answer grey_out_out filled verdict_of
grey_out_refused {pyramid = pyramid} {z = z} {out = out} {work = work} {answer = answer} {out' = out'} x =
    let y : Result GreyPrint = grey_out pyramid z (length out) (length work) in
    let c : GreyOutCase pyramid z (length out) (length work) y = grey_out_case pyramid z (length out) (length work) in
    exactly (GreyOutCase pyramid z (length out) (length work)) y c (grey_out_is pyramid z (length out) (length work)) grey_out_numbers
    (grey_out_gives pyramid z (length out) (length work) c) answer.verdict (ap (λ a. a.verdict) x.answers ∙ verdict y)
    _ (λ r e. let a = x.answers ∙ ap grey_out_answer e in (ap (λ a. a.length) a, ap (λ a. a.clipped) a, written e, x.clears))
    _ (λ q e. let a = x.answers ∙ ap grey_out_answer e in (ap (λ a. a.length) a, ap (λ a. a.clipped) a, written e, x.clears))
  where
    written : {y : Result GreyPrint} → grey_out pyramid z (length out) (length work) ≡ y → out' ≡ grey_out_out (length out) y
    written e = x.writes ∙ ap (grey_out_out (length out)) e

    verdict : (y : Result GreyPrint) → (grey_out_answer y).verdict ≡ verdict_of y
    verdict (refused r) = refl
    verdict (accepted x) = refl

-- A file's size: 13 just where the way in answers 13, whatever that is lent; else the two numbers that the file tells.
size_told_lem : {file : List ℕ} (y : GreyFile) → GreyCase file y → verdict_number (grey_size y).verdict ≡ 13 → GreyCase file not_grey
unfolding grey_size
size_told_lem not_grey c e = c
size_told_lem (picture w h pixels) c e = absurd (omega arith)

module _ {file : List ℕ} {answer : GreyRead} (x : GreySize file answer) where
  pub grey_size_refused : (verdict_number answer.verdict ≡ 13) ↔ GreyCase file not_grey
  unfolding grey_size
  grey_size_refused = (
    λ e. size_told_lem (read_file file) (grey_case file) (sym (ap (λ a. verdict_number a.verdict) x.answers) ∙ e),
    λ c. ap (λ a. verdict_number a.verdict) (x.answers ∙ ap grey_size (grey_is file not_grey c)),
  )

  pub grey_size_accepted : {w h : ℕ} {pixels : List ℕ} → GreyCase file (picture w h pixels)
      → (answer.verdict ≡ Accepted) × (answer.w ≡ told w) × (answer.h ≡ told h)
  unfolding grey_size
  grey_size_accepted {w} {h} {pixels} c =
      let e = x.answers ∙ ap grey_size (grey_is file (picture w h pixels) c) in
      (ap (λ a. a.verdict) e, ap (λ a. a.w) e, ap (λ a. a.h) e)

-- The exports. "A slice shorter than the answer gives 5 before any other check, with that slice and the output all 0." In one that is long
-- enough stands the routine's answer, the rest 0, and its number is returned.
module _ {file : List ℕ} {n : ℕ} {out : List ℤ} {work answer : List ℕ} {number : ℕ} {out' : List ℤ} {work' answer' : List ℕ}
    (x : AfsGreyIn file n out work answer number out' work' answer') where
  pub afs_grey_in_short : length answer < grey_places
      → (number ≡ 5) × (out' ≡ replicate (length out) (pos 0)) × (work' ≡ zeros (length work)) × (answer' ≡ zeros (length answer))
  unfolding returned reported lent_out
  afs_grey_in_short l =
      let e : leb grey_places (length answer) ≡ false = lt-leb grey_places (length answer) l in
      (x.returns ∙ rw e, x.writes ∙ rw e, x.clears, x.reports ∙ rw e)

  pub afs_grey_in_takes : grey_places ≤ length answer
      → (a : GreyRead) × GreyIn file n out work a out' work' × (number ≡ verdict_number a.verdict)
      × (answer' ≡ grey_read_numbers a ++ zeros (length answer - grey_places))
  unfolding returned reported lent_out filled grey_read_numbers
  afs_grey_in_takes l =
      let e : leb grey_places (length answer) ≡ true = le-leb grey_places (length answer) l in
      let a : GreyRead = grey_in_answer (grey_in file n (length out) (length work)) in
      (a, record { answers = refl; writes = x.writes ∙ rw e; clears = x.clears }, x.returns ∙ rw e, x.reports ∙ rw e)

module _ {pyramid : List ℤ} {z : Size} {out work answer : List ℕ} {number : ℕ} {out' work' answer' : List ℕ}
    (x : AfsGreyOut pyramid z out work answer number out' work' answer') where
  pub afs_grey_out_short : length answer < grey_places
      → (number ≡ 5) × (out' ≡ zeros (length out)) × (work' ≡ zeros (length work)) × (answer' ≡ zeros (length answer))
  unfolding returned reported lent_out
  afs_grey_out_short l =
      let e : leb grey_places (length answer) ≡ false = lt-leb grey_places (length answer) l in
      (x.returns ∙ rw e, x.writes ∙ rw e, x.clears, x.reports ∙ rw e)

  pub afs_grey_out_prints : grey_places ≤ length answer
      → (a : GreyWritten) × GreyOut pyramid z out work a out' work' × (number ≡ verdict_number a.verdict)
      × (answer' ≡ grey_written_numbers a ++ zeros (length answer - grey_places))
  unfolding returned reported lent_out filled grey_written_numbers
  afs_grey_out_prints l =
      let e : leb grey_places (length answer) ≡ true = le-leb grey_places (length answer) l in
      let a : GreyWritten = grey_out_answer (grey_out pyramid z (length out) (length work)) in
      (a, record { answers = refl; writes = x.writes ∙ rw e; clears = x.clears }, x.returns ∙ rw e, x.reports ∙ rw e)

module _ {file answer : List ℕ} {number : ℕ} {answer' : List ℕ} (x : AfsGreySize file answer number answer') where
  pub afs_grey_size_short : length answer < grey_places → (number ≡ 5) × (answer' ≡ zeros (length answer))
  unfolding returned reported
  afs_grey_size_short l =
      let e : leb grey_places (length answer) ≡ false = lt-leb grey_places (length answer) l in
      (x.returns ∙ rw e, x.reports ∙ rw e)

  pub afs_grey_size_tells : grey_places ≤ length answer
      → (a : GreyRead) × GreySize file a × (number ≡ verdict_number a.verdict)
      × (answer' ≡ grey_read_numbers a ++ zeros (length answer - grey_places))
  unfolding returned reported filled grey_read_numbers
  afs_grey_size_tells l =
      let e : leb grey_places (length answer) ≡ true = le-leb grey_places (length answer) l in
      (grey_size (read_file file), record { answers = refl }, x.returns ∙ rw e, x.reports ∙ rw e)
