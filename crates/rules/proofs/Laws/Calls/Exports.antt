-- Demand 1 for the exports, for Promises/One: what an export leaves is what its routine leaves, with the routine's answer written to the slice lent for it.
use Rattle.std.specs.Prelude.{◌≡◌, refl, List, ◌++◌, ℕ, ◌-◌, ◌≤◌, ◌<◌, length, replicate, ℤ, pos}
use Rattle.std.proofs.Common.{◌∙◌}
use Rattle.std.proofs.Math.Bool.{true, false}
use Rattle.std.proofs.Math.Dec.{leb}
use borrow.Author.Tests.{le-leb, lt-leb}
use Rattle.rules.specs.declared.Size.{Size}
use Rattle.rules.specs.Document.Notation.{zeros}
use Rattle.rules.specs.Document.Passes.{from}
use Rattle.rules.specs.Document.Numbers.{verdict_number}
use Rattle.rules.specs.Document.Calls.{coding, serving, decoding, filled, code_answer, serve_answer, decode_answer, Coding, Serving, Decoding}
use Rattle.rules.specs.Document.Calls.{code_numbers, serve_numbers, decode_numbers, code_places, serve_places, decode_places, returned, reported}
use Rattle.rules.specs.Document.Calls.{lent_out, AfsCode, AfsServe, AfsDecode, Decoded, Served, Coded}
use Rattle.rules.proofs.Promises.Cases.{cases_hold}

-- "A slice shorter than the answer gives 5 before any other check, with that slice and the output all 0." In one that is long
-- enough stands the routine's answer, the rest 0, and its number is returned.
module _ {pyramid : List ℤ} {z : Size} {out work answer : List ℕ} {number : ℕ} {out' work' answer' : List ℕ}
    (x : AfsCode pyramid z out work answer number out' work' answer') where
  pub afs_code_short : length answer < code_places
      → (number ≡ 5) × (out' ≡ zeros (length out)) × (work' ≡ zeros (length work)) × (answer' ≡ zeros (length answer))
  unfolding returned reported lent_out
  afs_code_short l =
      let e : leb code_places (length answer) ≡ false = lt-leb code_places (length answer) l in
      (x.returns ∙ rw e, x.writes ∙ rw e, x.clears, x.reports ∙ rw e)

  pub afs_code_codes : code_places ≤ length answer
      → (a : Coded) × Coding pyramid z out work a out' work' × (number ≡ verdict_number a.verdict)
      × (answer' ≡ code_numbers a ++ zeros (length answer - code_places))
  unfolding returned reported lent_out filled code_numbers
  afs_code_codes l =
      let e : leb code_places (length answer) ≡ true = le-leb code_places (length answer) l in
      let a : Coded = code_answer (coding pyramid z (length out) (length work)) in
      (a, record { answers = refl; writes = x.writes ∙ rw e; clears = x.clears }, x.returns ∙ rw e, x.reports ∙ rw e)

module _ {s : List ℕ} {r p : ℕ} {out answer : List ℕ} {number : ℕ} {out' answer' : List ℕ}
    (x : AfsServe s r p out answer number out' answer') where
  pub afs_serve_short : length answer < serve_places → (number ≡ 5) × (out' ≡ zeros (length out)) × (answer' ≡ zeros (length answer))
  unfolding returned reported lent_out
  afs_serve_short l =
      let e : leb serve_places (length answer) ≡ false = lt-leb serve_places (length answer) l in
      (x.returns ∙ rw e, x.writes ∙ rw e, x.reports ∙ rw e)

  pub afs_serve_serves : serve_places ≤ length answer
      → (a : Served) × Serving s r p out a out' × (number ≡ verdict_number a.verdict)
      × (answer' ≡ serve_numbers a ++ zeros (length answer - serve_places))
  unfolding returned reported lent_out filled serve_numbers
  afs_serve_serves l =
      let e : leb serve_places (length answer) ≡ true = le-leb serve_places (length answer) l in
      (serve_answer (serving s r p (length out)), record { answers = refl; writes = x.writes ∙ rw e }, x.returns ∙ rw e, x.reports ∙ rw e)

module _ {s : List ℕ} {out : List ℤ} {work answer : List ℕ} {number : ℕ} {out' : List ℤ} {work' answer' : List ℕ}
    (x : AfsDecode s out work answer number out' work' answer') where
  pub afs_decode_short : length answer < decode_places
      → (number ≡ 5) × (out' ≡ replicate (length out) (pos 0)) × (work' ≡ zeros (length work)) × (answer' ≡ zeros (length answer))
  unfolding returned reported lent_out
  afs_decode_short l =
      let e : leb decode_places (length answer) ≡ false = lt-leb decode_places (length answer) l in
      (x.returns ∙ rw e, x.writes ∙ rw e, x.clears, x.reports ∙ rw e)

  pub afs_decode_decodes : decode_places ≤ length answer
      → (a : Decoded) × Decoding s out work a out' work' × (number ≡ verdict_number a.verdict)
      × (answer' ≡ decode_numbers a ++ zeros (length answer - decode_places))
  unfolding returned reported lent_out filled decode_numbers from
  afs_decode_decodes l =
      let e : leb decode_places (length answer) ≡ true = le-leb decode_places (length answer) l in
      let a : Decoded = decode_answer (decoding s (length out) (length work)) in
      (a, record { answers = refl; writes = x.writes ∙ rw e; clears = x.clears }, x.returns ∙ rw e, x.reports ∙ rw e)
