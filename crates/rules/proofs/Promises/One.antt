-- Demand 1: a call comes back with a number and place exactly where the case of that refusal holds for it (Refusals has the cases, one a row of
-- document 01's table), with 0 exactly where it is accepted; and what it leaves in the memory lent to it is what document 01 says.
use Rattle.std.specs.Prelude.{◌≡◌, List, ◌++◌, ◌≢◌, ℕ, ◌-◌, ◌<◌, ◌≤◌, length, replicate, ℤ, pos}
use Rattle.rules.specs.declared.Size.{Size}
use Rattle.rules.specs.Document.Notation.{zeros}
use Rattle.rules.specs.Document.Layout.{record_of}
use Rattle.rules.specs.Document.Numbers.{verdict_number, Accepted}
use Rattle.rules.specs.Document.Calls.{Coding, Serving, Decoding, level_places, AfsCode, code_places, code_numbers, AfsServe, serve_places, serve_numbers}
use Rattle.rules.specs.Document.Calls.{AfsDecode, decode_places, decode_numbers, work_for, Decoded, Served, Coded}
use Rattle.rules.specs.Promises.Vocabulary.{Exactly, coding_numbers, serving_numbers, decoding_numbers, Codable, enough_room}
use Rattle.rules.specs.Promises.Refusals.{CodingCase, ServingCase, DecodingCase}
use Rattle.rules.proofs.Laws.Calls.Refused as laws
use Rattle.rules.proofs.Laws.Calls.Exports as exports
use Rattle.rules.proofs.Laws.Bytes.Room as rooms

-- "Refused: output slice all 0. Accepted: number and place 0, every coefficient written; for bytes, all after the result 0." "A refusal has 0
-- in all but number and place. Workspace: all 0 after every call."
pub coding_refused : {pyramid : List ℤ} {z : Size} {out work : List ℕ} {answer : Coded} {out' work' : List ℕ}
    → Coding pyramid z out work answer out' work'
    → Exactly (CodingCase pyramid z (length out) (length work)) coding_numbers answer.verdict
    ((answer.length ≡ 0) × (out' ≡ zeros (length out)) × (work' ≡ zeros (length work)))
    (λ bytes. (answer.length ≡ length bytes) × (out' ≡ bytes ++ zeros (length out - length bytes)) × (work' ≡ zeros (length work)))
coding_refused = laws.coding_refused

pub serving_refused : {s : List ℕ} {r p : ℕ} {out : List ℕ} {answer : Served} {out' : List ℕ} → Serving s r p out answer out'
    → Exactly (ServingCase s r p (length out)) serving_numbers answer.verdict
    ((answer.length ≡ 0) × (answer.tail ≡ 0) × (out' ≡ zeros (length out)))
    (λ x. (answer.length ≡ length x.bytes) × (answer.tail ≡ x.tail) × (out' ≡ x.bytes ++ zeros (length out - length x.bytes)))
serving_refused = laws.serving_refused

pub decoding_refused : {s : List ℕ} {out : List ℤ} {work : List ℕ} {answer : Decoded} {out' : List ℤ} {work' : List ℕ}
    → Decoding s out work answer out' work'
    → Exactly (DecodingCase s (length out) (length work)) decoding_numbers answer.verdict
    ((answer.tail ≡ 0) × (answer.reached ≡ replicate level_places (record { 0 = 0 })) × (answer.skipped ≡ zeros level_places)
    × (out' ≡ replicate (length out) (pos 0)) × (work' ≡ zeros (length work)))
    (λ x. (answer.tail ≡ x.tail) × (answer.reached ≡ x.reached) × (answer.skipped ≡ x.skipped) × (out' ≡ x.pyramid)
    × (work' ≡ zeros (length work)))
decoding_refused = laws.decoding_refused

-- "A slice shorter than the answer gives 5 before any other check, with that slice and the output all 0." In one that is long
-- enough stands the routine's answer, the rest 0, and its number is returned.
module _ {pyramid : List ℤ} {z : Size} {out work answer : List ℕ} {number : ℕ} {out' work' answer' : List ℕ}
    (x : AfsCode pyramid z out work answer number out' work' answer') where
  pub afs_code_short : length answer < code_places
      → (number ≡ 5) × (out' ≡ zeros (length out)) × (work' ≡ zeros (length work)) × (answer' ≡ zeros (length answer))
  afs_code_short = exports.afs_code_short x

  pub afs_code_codes : code_places ≤ length answer
      → (a : Coded) × Coding pyramid z out work a out' work' × (number ≡ verdict_number a.verdict)
      × (answer' ≡ code_numbers a ++ zeros (length answer - code_places))
  afs_code_codes = exports.afs_code_codes x

module _ {s : List ℕ} {r p : ℕ} {out answer : List ℕ} {number : ℕ} {out' answer' : List ℕ}
    (x : AfsServe s r p out answer number out' answer') where
  pub afs_serve_short : length answer < serve_places → (number ≡ 5) × (out' ≡ zeros (length out)) × (answer' ≡ zeros (length answer))
  afs_serve_short = exports.afs_serve_short x

  pub afs_serve_serves : serve_places ≤ length answer
      → (a : Served) × Serving s r p out a out' × (number ≡ verdict_number a.verdict)
      × (answer' ≡ serve_numbers a ++ zeros (length answer - serve_places))
  afs_serve_serves = exports.afs_serve_serves x

module _ {s : List ℕ} {out : List ℤ} {work answer : List ℕ} {number : ℕ} {out' : List ℤ} {work' answer' : List ℕ}
    (x : AfsDecode s out work answer number out' work' answer') where
  pub afs_decode_short : length answer < decode_places
      → (number ≡ 5) × (out' ≡ replicate (length out) (pos 0)) × (work' ≡ zeros (length work)) × (answer' ≡ zeros (length answer))
  afs_decode_short = exports.afs_decode_short x

  pub afs_decode_decodes : decode_places ≤ length answer
      → (a : Decoded) × Decoding s out work a out' work' × (number ≡ verdict_number a.verdict)
      × (answer' ≡ decode_numbers a ++ zeros (length answer - decode_places))
  afs_decode_decodes = exports.afs_decode_decodes x

-- Room: 6 x W x H + 640 bytes are always enough for a record, so with them coding never answers 5, and what it takes it codes.
pub record_room : {z : Size} {pyramid : List ℤ} → Codable z pyramid → length (record_of z pyramid) ≤ enough_room z
record_room = rooms.record_room

pub coding_room : {pyramid : List ℤ} {z : Size} {out work : List ℕ} {answer : Coded} {out' work' : List ℕ}
    → Coding pyramid z out work answer out' work' → enough_room z ≤ length out → verdict_number answer.verdict ≢ 5
coding_room = rooms.coding_room

pub afs_code_room : {pyramid : List ℤ} {z : Size} {out work answer : List ℕ} {number : ℕ} {out' work' answer' : List ℕ}
    → AfsCode pyramid z out work answer number out' work' answer' → enough_room z ≤ length out → code_places ≤ length answer → number ≢ 5
afs_code_room = rooms.afs_code_room

pub coding_accepts : {pyramid : List ℤ} {z : Size} {out work : List ℕ} {answer : Coded} {out' work' : List ℕ}
    → Coding pyramid z out work answer out' work' → Codable z pyramid → enough_room z ≤ length out → work_for z ≤ length work → answer.verdict ≡ Accepted
coding_accepts = rooms.coding_accepts
