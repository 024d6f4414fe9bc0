-- From memory to memory: demands 2 and 3, said of what the calls leave in the memory lent to them and of nothing else. The record is what stands
-- in the coder's output, its first answer'[2] bytes; what arrives of it is made from these bytes; and what is promised is said of the output, the
-- answer and the workspace that decoding leaves. Vocabulary has the words: Selected, Recorded, Serves, Decodes.
use Rattle.std.specs.Prelude.{◌≡◌, List, ℕ, ◌≤◌, take, get_or, length, ℤ}
use Rattle.rules.specs.declared.Size.{Size}
use Rattle.rules.specs.Document.Calls.{Decoded, Served, Coded}
use Rattle.rules.specs.Document.Notation.{zeros}
use Rattle.rules.specs.Document.Pyramid.{levels}
use Rattle.rules.specs.Document.Layout.{planes_in, earlier_planes_in, record_with}
use Rattle.rules.specs.Document.Numbers.{verdict_number, verdict_place, Accepted}
use Rattle.rules.specs.Document.Calls.{AfsCode, work_for, code_places, AfsDecode, decode_places, AfsServe, serve_places, Coding, Decoding, Serving}
use Rattle.rules.specs.Promises.Vocabulary.{Recorded, Codable, enough_room, Selected, Stated, Decodes, names, whole_parts, cut_bytes, planes_told}
use Rattle.rules.specs.Promises.Vocabulary.{Serves, cut_parts, planes_answered, counts_told, counts_answered}

-- THE THEOREM, `from_memory_to_memory`, for any pyramid and size and for buffers whatever they held. That coding and serving came back with
-- number 0 is all that is supposed of them; of decoding not even that, but buffers of the stated sizes.
pub record FromMemoryToMemory : Type 0 where
  -- Coded: at the front of the output stands the record. And what coding takes, with room enough, it codes.
  pub coded : {pyramid : List ℤ} {z : Size} {out work answer out' work' answer' : List ℕ} → AfsCode pyramid z out work answer 0 out' work' answer'
      → Recorded z (planes_in pyramid) pyramid (take (get_or answer' 2 0) out') × (get_or answer' 2 0 ≤ length out')
  pub codes : {pyramid : List ℤ} {z : Size} {out work answer : List ℕ} {number : ℕ} {out' work' answer' : List ℕ}
      → AfsCode pyramid z out work answer number out' work' answer' → Codable z pyramid → enough_room z ≤ length out → work_for z ≤ length work
      → code_places ≤ length answer → number ≡ 0
  -- Coded, any selection of what stands in the coder's output, cut anywhere, and decoded.
  pub decoded : {pyramid : List ℤ} {z : Size} {out work answer out' work' answer' s scratch told : List ℕ} {print print' : List ℤ} {number : ℕ}
      {scratch' told' : List ℕ} → AfsCode pyramid z out work answer 0 out' work' answer' → (x : Selected (take (get_or answer' 2 0) out') s)
      → AfsDecode s print scratch told number print' scratch' told' → Stated z (length print) (length scratch) → decode_places ≤ length told
      → Decodes z (planes_in pyramid) pyramid (names (whole_parts x)) (names (cut_parts x)) (cut_bytes x)
      number (get_or told' 1 0) (get_or told' 2 0) (planes_told told')
      (counts_told told') print' scratch scratch'
  -- The same of what was stored: of any record, of either count.
  pub earlier : {pyramid : List ℤ} {z : Size} → Codable z pyramid
      → Recorded z (earlier_planes_in pyramid) pyramid (record_with z (earlier_planes_in pyramid) pyramid)
  pub stored : {pyramid : List ℤ} {z : Size} {planes : ℕ} {bytes s scratch told : List ℕ} {print print' : List ℤ} {number : ℕ}
      {scratch' told' : List ℕ} → Recorded z planes pyramid bytes → (x : Selected bytes s)
      → AfsDecode s print scratch told number print' scratch' told' → Stated z (length print) (length scratch) → decode_places ≤ length told
      → Decodes z planes pyramid (names (whole_parts x)) (names (cut_parts x)) (cut_bytes x)
      number (get_or told' 1 0) (get_or told' 2 0) (planes_told told') (counts_told told')
      print' scratch scratch'
  -- What is served of a selection is a selection, and with a legal request and room enough it is served; and a selection of a selection is one as
  -- well, of the same parts. So any number of both may lie between coding and decoding.
  pub served : {pyramid : List ℤ} {z : Size} {out work answer out' work' answer' s : List ℕ} {r p : ℕ} {sent note sent' note' : List ℕ}
      → AfsCode pyramid z out work answer 0 out' work' answer' → (x : Selected (take (get_or answer' 2 0) out') s)
      → AfsServe s r p sent note 0 sent' note' → Serves x r p (take (get_or note' 2 0) sent') (get_or note' 3 0) × (get_or note' 2 0 ≤ length sent')
  pub serves : {pyramid : List ℤ} {z : Size} {out work answer out' work' answer' s : List ℕ} {r p : ℕ} {sent note : List ℕ} {number : ℕ}
      {sent' note' : List ℕ} → AfsCode pyramid z out work answer 0 out' work' answer' → Selected (take (get_or answer' 2 0) out') s
      → AfsServe s r p sent note number sent' note' → 1 ≤ r → r ≤ levels z → p ≤ planes_in pyramid → length s ≤ length sent
      → serve_places ≤ length note → number ≡ 0
  pub selected : {pyramid : List ℤ} {z : Size} {out work answer out' work' answer' s t : List ℕ}
      → AfsCode pyramid z out work answer 0 out' work' answer' → Selected (take (get_or answer' 2 0) out') s → (y : Selected s t)
      → (again : Selected (take (get_or answer' 2 0) out') t) × (whole_parts again ≡ whole_parts y) × (cut_bytes again ≡ cut_bytes y)
      × (cut_parts again ≡ cut_parts y)
  -- Coded, served from whatever arrived, and decoded from whatever arrived of that.
  pub served_decoded : {pyramid : List ℤ} {z : Size} {out work answer out' work' answer' s : List ℕ} {r p : ℕ} {sent note sent' note' t scratch told : List ℕ}
      {print print' : List ℤ} {number : ℕ} {scratch' told' : List ℕ}
      → AfsCode pyramid z out work answer 0 out' work' answer' → Selected (take (get_or answer' 2 0) out') s
      → AfsServe s r p sent note 0 sent' note' → (y : Selected (take (get_or note' 2 0) sent') t)
      → AfsDecode t print scratch told number print' scratch' told' → Stated z (length print) (length scratch) → decode_places ≤ length told
      → Decodes z (planes_in pyramid) pyramid (names (whole_parts y)) (names (cut_parts y)) (cut_bytes y)
      number (get_or told' 1 0) (get_or told' 2 0) (planes_told told')
      (counts_told told') print' scratch scratch'
  -- Coded, or stored, and decoded, with nothing left out and nothing cut: the pyramid, and 0 in every place of the answer.
  pub stored_whole : {pyramid : List ℤ} {z : Size} {planes : ℕ} {bytes scratch told : List ℕ} {print print' : List ℤ} {number : ℕ}
      {scratch' told' : List ℕ} → Recorded z planes pyramid bytes → AfsDecode bytes print scratch told number print' scratch' told'
      → Stated z (length print) (length scratch) → decode_places ≤ length told
      → (number ≡ 0) × (print' ≡ pyramid) × (told' ≡ zeros (length told)) × (scratch' ≡ zeros (length scratch))
  pub whole : {pyramid : List ℤ} {z : Size} {out work answer out' work' answer' scratch told : List ℕ} {print print' : List ℤ} {number : ℕ}
      {scratch' told' : List ℕ} → AfsCode pyramid z out work answer 0 out' work' answer'
      → AfsDecode (take (get_or answer' 2 0) out') print scratch told number print' scratch' told' → Stated z (length print) (length scratch)
      → decode_places ≤ length told
      → (number ≡ 0) × (print' ≡ pyramid) × (told' ≡ zeros (length told)) × (scratch' ≡ zeros (length scratch))

-- The same of the routines, `from_routine_to_routine`.
pub record FromRoutineToRoutine : Type 0 where
  pub coded : {pyramid : List ℤ} {z : Size} {out work : List ℕ} {answer : Coded} {out' work' : List ℕ} → Coding pyramid z out work answer out' work'
      → answer.verdict ≡ Accepted → Recorded z (planes_in pyramid) pyramid (take answer.length out') × (answer.length ≤ length out')
  pub codes : {pyramid : List ℤ} {z : Size} {out work : List ℕ} {answer : Coded} {out' work' : List ℕ} → Coding pyramid z out work answer out' work'
      → Codable z pyramid → enough_room z ≤ length out → work_for z ≤ length work → answer.verdict ≡ Accepted
  pub decoded : {pyramid : List ℤ} {z : Size} {out work : List ℕ} {answer : Coded} {out' work' s scratch : List ℕ} {print print' : List ℤ}
      {told : Decoded} {scratch' : List ℕ} → Coding pyramid z out work answer out' work' → answer.verdict ≡ Accepted
      → (x : Selected (take answer.length out') s) → Decoding s print scratch told print' scratch' → Stated z (length print) (length scratch)
      → Decodes z (planes_in pyramid) pyramid (names (whole_parts x)) (names (cut_parts x)) (cut_bytes x)
      (verdict_number told.verdict) (verdict_place told.verdict) told.tail
      (planes_answered told) (counts_answered told) print' scratch scratch'
  pub served : {pyramid : List ℤ} {z : Size} {out work : List ℕ} {answer : Coded} {out' work' s : List ℕ} {r p : ℕ} {sent : List ℕ} {note : Served}
      {sent' : List ℕ} → Coding pyramid z out work answer out' work' → answer.verdict ≡ Accepted → (x : Selected (take answer.length out') s)
      → Serving s r p sent note sent' → note.verdict ≡ Accepted → Serves x r p (take note.length sent') note.tail × (note.length ≤ length sent')
  pub serves : {pyramid : List ℤ} {z : Size} {out work : List ℕ} {answer : Coded} {out' work' s : List ℕ} {r p : ℕ} {sent : List ℕ} {note : Served}
      {sent' : List ℕ} → Coding pyramid z out work answer out' work' → answer.verdict ≡ Accepted → Selected (take answer.length out') s
      → Serving s r p sent note sent' → 1 ≤ r → r ≤ levels z → p ≤ planes_in pyramid → length s ≤ length sent → note.verdict ≡ Accepted
  pub selected : {pyramid : List ℤ} {z : Size} {out work : List ℕ} {answer : Coded} {out' work' s t : List ℕ}
      → Coding pyramid z out work answer out' work' → answer.verdict ≡ Accepted → Selected (take answer.length out') s → (y : Selected s t)
      → (again : Selected (take answer.length out') t) × (whole_parts again ≡ whole_parts y) × (cut_bytes again ≡ cut_bytes y) × (cut_parts again ≡ cut_parts y)
  pub served_decoded : {pyramid : List ℤ} {z : Size} {out work : List ℕ} {answer : Coded} {out' work' s : List ℕ} {r p : ℕ} {sent : List ℕ}
      {note : Served} {sent' t scratch : List ℕ} {print print' : List ℤ} {told : Decoded} {scratch' : List ℕ}
      → Coding pyramid z out work answer out' work' → answer.verdict ≡ Accepted → Selected (take answer.length out') s
      → Serving s r p sent note sent' → note.verdict ≡ Accepted → (y : Selected (take note.length sent') t)
      → Decoding t print scratch told print' scratch' → Stated z (length print) (length scratch)
      → Decodes z (planes_in pyramid) pyramid (names (whole_parts y)) (names (cut_parts y)) (cut_bytes y)
      (verdict_number told.verdict) (verdict_place told.verdict) told.tail
      (planes_answered told) (counts_answered told) print' scratch scratch'
  pub whole : {pyramid : List ℤ} {z : Size} {out work : List ℕ} {answer : Coded} {out' work' scratch : List ℕ} {print print' : List ℤ}
      {told : Decoded} {scratch' : List ℕ} → Coding pyramid z out work answer out' work' → answer.verdict ≡ Accepted
      → Decoding (take answer.length out') print scratch told print' scratch' → Stated z (length print) (length scratch)
      → (told.verdict ≡ Accepted) × (print' ≡ pyramid) × (told.tail ≡ 0) × ((k : ℕ) → planes_answered told k ≡ 0)
      × ((k : ℕ) → counts_answered told k ≡ 0) × (scratch' ≡ zeros (length scratch))
