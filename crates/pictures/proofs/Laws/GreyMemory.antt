-- From a picture's file to a picture's file: the theorem of W3, said of what the calls leave in the memory lent to them. The pyramid is what stands
-- in the output of the way in, the record what stands in the coder's, and what is promised is said of the output and the answer of the way back.
use Rattle.std.specs.Prelude.{◌≡◌, refl, List, ℕ, ◌≤◌, length, ℤ}
use Rattle.std.proofs.Math.Path.{ap, subst}
use Rattle.std.proofs.Common.{sym, ◌∙◌, arith}
use Rattle.std.proofs.Math.Decide.{dec_le}
use Rattle.std.proofs.Math.ListN.{get_or}
use Rattle.rules.specs.declared.Size.{Size}
use Rattle.rules.specs.Document.Numbers.{Accepted}
use Rattle.rules.specs.Document.Numbers.{verdict_number}
use Rattle.rules.specs.Document.Calls.{Result, refused, accepted, work_for, filled, code_places, AfsCode}
use Rattle.rules.proofs.Laws.Calls.Results.{number_accepts}
use Rattle.rules.specs.Promises.Vocabulary.{Codable, enough_room}
use Rattle.rules.proofs.Laws.Calls.Exports.{afs_code_codes}
use Rattle.rules.proofs.Laws.Bytes.Room.{coding_accepts}
use Rattle.rules.proofs.Promises.Memory.{from_memory_to_memory}
use Rattle.pictures.specs.Document.Calls.{GreyRead}
use Rattle.pictures.specs.Document.Lifting.{pyramid_of}
use Rattle.pictures.specs.Document.Netpbm.{grey_file}
use Rattle.pictures.specs.Document.Calls.{GreyPyramid, grey_in, grey_out, grey_in_answer, grey_in_out, grey_out_answer, grey_out_out}
use Rattle.pictures.specs.Document.Calls.{GreyIn, grey_read_numbers, grey_written_numbers, grey_places, AfsGreyIn, AfsGreyOut}
use Rattle.pictures.specs.Laws.Behind.{Bytes}
use Rattle.pictures.specs.Laws.GreyRefusals.{sized}
use Rattle.pictures.proofs.Laws.GreyRefusals.{afs_grey_in_short, afs_grey_in_takes, afs_grey_out_prints}
use Rattle.pictures.specs.Laws.GreyReturns.{Taken}
use Rattle.pictures.proofs.Laws.GreyReturns.{grey_in_takes, taken_codable, grey_out_prints}
use Rattle.pictures.specs.Laws.GreyMemory.{Pictured, Printed, size_told, FromPictureToPicture}

-- A result that was accepted, by what the routine left.
told_in : (y : Result GreyPyramid) → (grey_in_answer y).verdict ≡ Accepted → (x : GreyPyramid) × (y ≡ accepted x)
unfolding grey_in_answer
told_in (refused r) e = absurd (let z : ◌≡◌ {A = ℕ} 0 1 = cc in omega arith)
told_in (accepted x) e = (x, refl)

pictured : {file : List ℕ} {n : ℕ} {out : List ℤ} {work : List ℕ} {answer : GreyRead} {out' : List ℤ} {work' : List ℕ} → Bytes file
    → GreyIn file n out work answer out' work' → answer.verdict ≡ Accepted
    → (pixels : List ℕ) × Pictured file (sized answer.w answer.h n) pixels out'
unfolding grey_in_answer grey_in_out
pictured {file} {n} {out} {work} {answer} {out'} b g e =
    let y = told_in (grey_in file n (length out) (length work)) (sym (ap (λ a. a.verdict) g.answers) ∙ e) in
    let x : GreyPyramid = y.0 in
    let told = g.answers ∙ ap grey_in_answer y.1 in
    let t = grey_in_takes file n (length out) (length work) x y.1 in
    let took : Taken file n x t.0 = t.1 in
    let size : x.size ≡ sized answer.w answer.h n
    = λ i. record { w = sym (ap (λ a. a.w) told) i; h = sym (ap (λ a. a.h) told) i; n = took.asked i } in
    let left : x.pyramid ≡ out' = sym (g.writes ∙ ap (grey_in_out (length out)) y.1) in (
      t.0,
      subst (λ v. Pictured file v t.0 out') size (subst (Pictured file x.size t.0) left
          (record {
            reads = took.reads;
            whole = took.whole;
            bytes = took.bytes b;
            its_pyramid = took.pyramid_is;
            codable = taken_codable took b;
          })),
    )

-- The exports: each does what its routine does, and its answer stands in the slice lent for it.
pictured_told : {file : List ℕ} {n : ℕ} {out out' : List ℤ} {work told work' told' : List ℕ} → Bytes file
    → AfsGreyIn file n out work told 0 out' work' told' → (pixels : List ℕ) × Pictured file (size_told told' n) pixels out'
unfolding grey_read_numbers
pictured_told {file} {n} {out} {out'} {told = told} {told' = told'} b g = by (dec_le grey_places (length told))
  where
    by : Dec (grey_places ≤ length told) → (pixels : List ℕ) × Pictured file (size_told told' n) pixels out'
    by (no l) = absurd (omega (arith, (afs_grey_in_short g (omega arith)).0))
    by (yes l) =
        let c = afs_grey_in_takes g l in
        subst (λ a. (pixels : List ℕ) × Pictured file (size_told a n) pixels out') (sym c.3)
        (pictured b c.1 (number_accepts c.0.verdict (sym c.2)))

module _ {file : List ℕ} {z : Size} {pixels : List ℕ} {pyramid : List ℤ} (p : Pictured file z pixels pyramid) where
  pictured_coded : {out work answer : List ℕ} {number : ℕ} {out' work' answer' : List ℕ}
      → AfsCode pyramid z out work answer number out' work' answer'
      → enough_room z ≤ length out → work_for z ≤ length work → code_places ≤ length answer → number ≡ 0
  pictured_coded c room space places =
      let a = afs_code_codes c places in
      a.2 ∙ ap verdict_number (coding_accepts a.1 p.codable room space)

  pictured_printed : {out work answer : List ℕ} {number : ℕ} {out' work' answer' : List ℕ}
      → AfsGreyOut pyramid z out work answer number out' work' answer'
      → length (grey_file z pixels) ≤ length out → work_for z ≤ length work → grey_places ≤ length answer
      → Printed z pixels number (get_or answer' 2 0) (get_or answer' 3 0) out out' work work'
  unfolding grey_out_answer grey_out_out grey_written_numbers filled
  pictured_printed {out} {work} {answer} {number} {out'} {work'} {answer'} g room space places =
      let a = afs_grey_out_prints g places in
      let c : Codable z (pyramid_of z pixels) = subst (Codable z) p.its_pyramid p.codable in
      let e = ap (λ v. grey_out v z (length out) (length work)) p.its_pyramid
      ∙ grey_out_prints z pixels p.whole p.bytes c (length out) (length work) room space in
      let told = a.1.answers ∙ ap grey_out_answer e in
      record {
        accepts = a.2 ∙ ap (λ v. verdict_number v.verdict) told;
        writes = a.1.writes ∙ ap (grey_out_out (length out)) e;
        tells = ap (λ v. get_or v 2 0) a.3 ∙ ap (λ v. v.length) told;
        unclipped = ap (λ v. get_or v 3 0) a.3 ∙ ap (λ v. v.clipped) told;
        clears = a.1.clears;
      }

pictured_same : {file : List ℕ} {z : Size} {pixels : List ℕ} {v u : List ℤ} → Pictured file z pixels v → u ≡ v → Pictured file z pixels u
pictured_same {file} {z} {pixels} p e = subst (Pictured file z pixels) (sym e) p

pub from_picture_to_picture : FromPictureToPicture
from_picture_to_picture =
    record {
      taken = pictured_told;
      coded = λ p c. pictured_coded p c;
      printed = λ p g. pictured_printed p g;
      whole = λ b i c d sizes places o space told.
          let p = pictured_told b i in
          let back = from_memory_to_memory.whole c d sizes places in (
            p.0,
            p.1,
            back.0,
            back.1,
            λ room. pictured_printed (pictured_same p.1 back.1) o room space told,
          );
    }
