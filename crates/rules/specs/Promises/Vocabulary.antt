-- The words that the promises use beside those of Document, in reading order: definitions only.
--
--   Legal z                     a size that coding takes, as a statement; Side n x: a side of it
--   at n k                      the name of part (n, k): plane n, level k
--   Named top planes p          a part of that name may stand in a record of so many levels and planes
--   present there p             a part of that name is among those there
--   LegalHead h before p bits   the head of a part that may follow the part `before` behind header h
--   Usable top planes there p   every part that part p needs is there
--
--   Codable z pyramid           what coding takes
--   Stated z room work          an output and a workspace of the sizes that decoding states
--   enough_room z                room that is always enough for a record
--   PlaneCount pyramid planes   so many planes are enough for the pyramid, and a record may have them
--
--   selection t xs              those of xs that pass the test t
--   names ps, kept keep ps      the names of parts; of the parts those that a test of their names keeps
--   asked r p                   the test that serving for level r and plane p makes
--   record_bytes z planes ps     the bytes of a header and the parts ps behind it
--   whole_in n ps, tail_in n ps   of parts cut behind n bytes: those that are whole, and the bytes of one more
--   cut_in n ps                  that one, if its head is there
--   arrived z planes ps n       the bytes of such a record, cut n bytes behind its header
--
--   header_of z planes           the header that is written for a size and a number of planes, as it is read
--   part_at place p, parts_at     a part as it is read at a place, and parts from a place on
--   ReadsAs z planes ps cut s   the bytes s read as the parts ps behind that header, and a tail of `cut` bytes
--
--   toward_zero m x              x rounded toward zero to a multiple of 2^m
--   Near m printed recorded     less than 2^m apart, no greater, and of one sign unless 0 is printed
--   RoundedAt part k m n        of level k, which reached plane m, a coefficient may be rounded at plane n
--   Rounded z planes .. result  decoding gave the recorded pyramid, rounded level by level
--   NoWorse earlier later       of two pyramids: no magnitude of the second is smaller, and no sign another
--   most_decoded                 the greatest magnitude that is ever decoded
--
--   among own n                 n is one of these numbers; coding_numbers and so on: those that each routine may give
--   Exactly Case own ..         a number and a place are given exactly where the case of that refusal holds
--
--   IsServed s r p x            serving s for level r and plane p gave x: its header and just the parts that are wanted
--   Again, AgainLent, AgainTold what serving twice gives beside serving once: of results, of the routine, of the export
--
--   Selected s t                t is a selection of the parts of the record in the bytes s, cut somewhere
--   whole_parts x, cut_bytes x    what arrived of it whole, and the bytes of a part that was cut; cut_parts x: that part
--   Recorded, Serves, Decodes   what is promised of coding, of serving and of decoding, of lent memory
use Rattle.std.specs.Prelude.{◌≡◌, List, [], ◌∷◌, map, ◌++◌, Bool, true, cond, ◌&&◌, false, ◌⊎◌, ◌↔◌, ℕ, ◌≤◌, ◌%◌, ◌^◌, ◌+◌, ◌/◌, ◌*◌, suc, ◌<◌, ◌-◌, Ok}
use Rattle.std.specs.Prelude.{max, zero, leb, eqb, length, take, drop, get_or, ℤ, nat_abs, ◌-ℤ◌, pos}
use Rattle.rules.specs.declared.Size.{Size}
use Rattle.rules.specs.declared.Refusal.{Refusal}
use Rattle.rules.specs.declared.Refusal.TheVariants as refusal
use Rattle.rules.specs.Document.Numbers.{Accepted, Refused, Verdict, read_header}
use Rattle.rules.specs.declared.Header.{Header}
use Rattle.rules.specs.declared.Part.{Part}
use Rattle.rules.specs.Document.Notation.{any, count, flat, zeros}
use Rattle.rules.specs.Document.Pyramid.{least_side, greatest_side, most_decompositions, legal_size, area, most_magnitude, magnitude, most_planes, below0}
use Rattle.rules.specs.Document.Pyramid.{negative, levels, level_of}
use Rattle.rules.specs.Document.Passes.{PartName, signed, part_names}
use Rattle.rules.specs.Document.Layout.{same_name, CodedPart, header_bytes, part_bytes, number_bytes, reached, whole_of, bit_at, name_of, body_of, record_with}
use Rattle.rules.specs.Document.Layout.{parts_with}
use Rattle.rules.specs.Document.Numbers.{top_level, follows, most_bits, headed, read_parts, tail, verdict_number, refusal_number, verdict_place, refusal_place}
use Rattle.rules.specs.Document.Calls.{first_over, work_for, Result, Picture, accepted, level_places, plane_in, refused, Portion, legal_ask, serving}
use Rattle.rules.specs.Document.Calls.{portioned, Serving, serve_places, AfsServe, skipped_parts, count_in, Decoded, Served}

-- SIZES AND PARTS

-- "Width W and height H are 4 to 512, both multiples of 2^(N+1)." So a side halves exactly, down to the LL band and once more.
pub record Side (n x : ℕ) : Type 0 where
  pub least : least_side ≤ x
  pub most : x ≤ greatest_side
  pub multiple : x % 2 ^ (n + 1) ≡ 0
  pub half : (k : ℕ) → k ≤ n → x / 2 ^ k ≡ 2 * (x / 2 ^ suc k)

-- "N, the decomposition count, is 1 to 5", and both sides are as said.
pub record Legal (z : Size) : Type 0 where
  pub some : 1 ≤ z.n
  pub few : z.n ≤ most_decompositions
  pub width : Side z.n z.w
  pub height : Side z.n z.h

-- part (n, k)
abbrev pub at : ℕ → ℕ → PartName
at n k = record { plane = n; level = k }

-- A part that a record of so many levels and planes may have.
pub record Named (top planes : ℕ) (p : PartName) : Type 0 where
  pub under : p.plane < planes
  pub from1 : 1 ≤ p.level
  pub up_to : p.level ≤ top

-- a part of that name is among those there
unfoldable pub present : List PartName → PartName → Bool
present there p = any (same_name p) there

-- what the head of a part must be
pub record LegalHead (h : Header) (before p : PartName) (bits : ℕ) : Type 0 where
  pub named : Named (top_level h) h.planes p
  pub in_order : follows before p ≡ true
  pub bits_most : bits ≤ most_bits h.size

-- "Part (n, k) is usable if every part (n', k') with n' >= n and k' >= k is present whole."
abbrev pub Usable : ℕ → ℕ → List PartName → PartName → Type 0
Usable top planes there p = (q : PartName) → Named top planes q → p.plane ≤ q.plane → p.level ≤ q.level → present there q ≡ true

-- WHAT CODING TAKES, AND WHAT IS LENT

-- What coding takes: a legal size, and a pyramid of that size with no magnitude over 65,535.
pub record Codable (z : Size) (pyramid : List ℤ) : Type 0 where
  pub legal_size_lem : legal_size z ≡ true
  pub sized : length pyramid ≡ area z
  pub in_range : first_over most_magnitude pyramid ≡ length pyramid

-- "Buffers of the stated sizes", for decoding.
pub record Stated (z : Size) (room work : ℕ) : Type 0 where
  pub whole : room ≡ area z
  pub enough : work_for z ≤ work

-- room that is always enough for a record: 6 x W x H + 640 bytes
abbrev pub enough_room : Size → ℕ
enough_room z = 6 * area z + 640

-- All that demand 3 asks of a record's number of planes: every magnitude is below 2^planes, and a record may have as many. The coder's count is
-- one, and so is the earlier one.
pub record PlaneCount (pyramid : List ℤ) (planes : ℕ) : Type 0 where
  pub enough : (q : ℕ) → magnitude pyramid q < 2 ^ planes
  pub few : planes ≤ most_planes

-- WHAT ARRIVES OF A RECORD

-- those that pass a test, in order
unfoldable pub selection : {X : Type 0} → (X → Bool) → List X → List X
selection t [] = []
selection t (x ∷ xs) = cond (t x) (x ∷ selection t xs) (selection t xs)

-- the names of parts
abbrev pub names : List CodedPart → List PartName
names ps = map (λ p. p.name) ps

-- Of parts those that a test of their names keeps: the others are lost, or were not served.
abbrev pub kept : (PartName → Bool) → List CodedPart → List CodedPart
kept keep ps = selection (λ p. keep p.name) ps

-- what serving for level r and plane p keeps
abbrev pub asked : ℕ → ℕ → PartName → Bool
asked r p x = leb r x.level && leb p x.plane

-- The bytes of a header and parts behind it.
abbrev pub record_bytes : Size → ℕ → List CodedPart → List ℕ
record_bytes z planes ps = header_bytes z planes ++ flat part_bytes ps

-- Of parts one behind the other, cut behind n bytes: those that are whole.
unfoldable pub whole_in : ℕ → List CodedPart → List CodedPart
whole_in n [] = []
whole_in n (p ∷ ps) = cond (leb (length (part_bytes p)) n) (p ∷ whole_in (n - length (part_bytes p)) ps) []

-- And how many bytes there are of one more.
unfoldable pub tail_in : ℕ → List CodedPart → ℕ
tail_in n [] = 0
tail_in n (p ∷ ps) = cond (leb (length (part_bytes p)) n) (tail_in (n - length (part_bytes p)) ps) n

-- the head of a part: its plane, its level and its bit count
abbrev pub head_bytes : CodedPart → List ℕ
head_bytes p = flat number_bytes (p.name.plane ∷ p.name.level ∷ length p.bits ∷ [])

-- And the part that is cut, if its head is there.
unfoldable pub cut_in : ℕ → List CodedPart → List CodedPart
cut_in n [] = []
cut_in n (p ∷ ps) = cond (leb (length (part_bytes p)) n) (cut_in (n - length (part_bytes p)) ps) (cond (leb (length (head_bytes p)) n) (p ∷ []) [])

-- A record of the parts ps, cut n bytes behind its header; not cut at all if it has no more.
unfoldable pub arrived : Size → ℕ → List CodedPart → ℕ → List ℕ
arrived z planes ps n = take (length (header_bytes z planes) + n) (record_bytes z planes ps)

-- HOW IT READS

-- The header that is written for a size and a number of planes.
abbrev pub header_of : Size → ℕ → Header
header_of z planes = record { size = z; planes = planes; end = length (header_bytes z planes) }

-- A part as it is read at a place.
unfoldable pub part_at : ℕ → CodedPart → Part
part_at place p = headed place p.name.plane p.name.level (length p.bits) (place + length (head_bytes p))

-- Parts one behind the other, as they are read from a place on.
unfoldable pub parts_at : ℕ → List CodedPart → List Part
parts_at place [] = []
parts_at place (p ∷ ps) = part_at place p ∷ parts_at (place + length (part_bytes p)) ps

-- Bytes that read as the parts ps behind a header, and a tail of so many bytes.
pub record ReadsAs (z : Size) (planes : ℕ) (ps : List CodedPart) (cut : ℕ) (bytes : List ℕ) : Type 0 where
  pub rest : List ℕ
  pub stand : bytes ≡ header_bytes z planes ++ (flat part_bytes ps ++ rest)
  pub left : length rest ≡ cut
  pub parts_read : read_parts (header_of z planes) bytes ≡ record { parts = parts_at (length (header_bytes z planes)) ps; ending = tail cut }

-- WHAT IS DECODED OF IT

-- A magnitude, rounded toward zero to a multiple of 2^m.
unfoldable pub toward_zero : ℕ → ℕ → ℕ
toward_zero m x = x / 2 ^ m * 2 ^ m

-- What is printed is near what was recorded: less than 2^m away, of no greater magnitude, and of the same sign unless it is 0.
pub record Near (m : ℕ) (printed recorded : ℤ) : Type 0 where
  pub distance : nat_abs (printed -ℤ recorded) < 2 ^ m
  pub no_greater : nat_abs printed ≤ nat_abs recorded
  pub sign : (printed ≡ pos 0) ⊎ (below0 printed ≡ below0 recorded)

-- The plane at which a coefficient of level k is rounded, m being the one that its level reached: that one, or the next below it where the level's
-- part of that plane is the one that was cut.
pub data RoundedAt (part : List PartName) (k m : ℕ) : ℕ → Type 0 where
  at_reached : RoundedAt part k m m
  at_cut : {n : ℕ} → m ≡ suc n → present part (at n k) ≡ true → RoundedAt part k m n

-- What decoding gives where of a record just the parts `there` arrived whole, and so many bytes of one more, which is `part` if its head is there.
pub record Rounded (z : Size) (planes : ℕ) (pyramid : List ℤ) (there part : List PartName) (cut : ℕ) (result : Result Picture) : Type 0 where
  -- It is accepted.
  pub picture : Picture
  pub accepts : result ≡ accepted picture
  -- Every coefficient is written: its sign, and its magnitude rounded toward zero to a multiple of 2^m, m being the reached plane of its
  -- level, or the one below it where that is the plane of the part that was cut; 0 where that gives 0.
  pub sized : length picture.pyramid ≡ area z
  pub plane : ℕ → ℕ
  pub rounds : (q : ℕ) → q < area z → RoundedAt part (level_of z q) (reached (levels z) planes there (level_of z q)) (plane q)
  pub values : (q : ℕ) → q < area z
      → get_or picture.pyramid q (pos 0) ≡ signed (negative pyramid q) (toward_zero (plane q) (magnitude pyramid q))
  -- The same, as a pyramid is read: by magnitude, and by sign where there is one.
  pub magnitudes : (q : ℕ) → q < area z → magnitude picture.pyramid q ≡ toward_zero (plane q) (magnitude pyramid q)
  pub signs : (q : ℕ) → q < area z → 1 ≤ magnitude picture.pyramid q → negative picture.pyramid q ≡ negative pyramid q
  -- The reached plane is reported for each level, level 1 first, and 0 beyond level N + 1.
  pub six : length picture.reached ≡ level_places
  pub reports : (k : ℕ) → 1 ≤ k → k ≤ levels z → plane_in picture.reached (k - 1) ≡ reached (levels z) planes there k
  pub beyond : (k : ℕ) → levels z < k → plane_in picture.reached (k - 1) ≡ 0
  -- So are the parts of each level that are there and not usable: so many that with the used ones, one for each plane from that one on, they are all of
  -- the level that are there. Beyond level N + 1 there are none.
  pub six_counts : length picture.skipped ≡ level_places
  pub skips : (k : ℕ) → 1 ≤ k → k ≤ levels z → count_in picture.skipped (k - 1) ≡ skipped_parts (header_of z planes) there k
  pub used_and_skipped : (k : ℕ) → 1 ≤ k → k ≤ levels z
      → count_in picture.skipped (k - 1) + (planes - plane_in picture.reached (k - 1)) ≡ count (λ x. eqb x.level k) there
  pub skips_beyond : (k : ℕ) → levels z < k → count_in picture.skipped (k - 1) ≡ 0
  -- The tail's length is that of the part that is cut.
  pub tail : picture.tail ≡ cut

-- A pyramid that came of more bytes is no worse: no magnitude falls and no sign turns.
pub record NoWorse (earlier later : List ℤ) : Type 0 where
  pub magnitudes : (q : ℕ) → magnitude earlier q ≤ magnitude later q
  pub signs : (q : ℕ) → 1 ≤ magnitude earlier q → negative earlier q ≡ negative later q

-- the greatest magnitude that is decoded, whatever the bytes
abbrev pub most_decoded : ℕ
most_decoded = 131071

-- WHAT A CALL COMES BACK WITH

-- one of these numbers
abbrev pub among : List ℕ → ℕ → Type 0
among own n = any (eqb n) own ≡ true

-- "Coding: 1, 2, 3, 4, 5", and 0 where it accepts.
abbrev pub coding_numbers : List ℕ
coding_numbers = 0 ∷ 1 ∷ 2 ∷ 3 ∷ 4 ∷ 5 ∷ []

-- Serving gives those of reading and of its request, and 5.
abbrev pub serving_numbers : List ℕ
serving_numbers = 0 ∷ 1 ∷ 5 ∷ 6 ∷ 7 ∷ 8 ∷ 9 ∷ 11 ∷ 12 ∷ []

-- Decoding gives those of reading and of what is lent, and 10.
abbrev pub decoding_numbers : List ℕ
decoding_numbers = 0 ∷ 1 ∷ 2 ∷ 3 ∷ 6 ∷ 7 ∷ 8 ∷ 9 ∷ 10 ∷ 12 ∷ []

-- What is promised of a verdict, where each result has its case: the numbers the call may give are `own`; a refusal leaves Refusing, and
-- acceptance of x leaves Accepting x.
pub record Exactly {X : Type 0} (Case : Result X → Type 0) (own : List ℕ) (verdict : Verdict) (Refusing : Type 0)
    (Accepting : X → Type 0) : Type 0 where
  pub refuses : (r : Refusal) → ((verdict_number verdict ≡ refusal_number r) × (verdict_place verdict ≡ refusal_place r)) ↔ Case (refused r)
  pub accepts : ((verdict_number verdict ≡ 0) × (verdict_place verdict ≡ 0)) ↔ ((x : X) × Case (accepted x))
  pub gives : among own (verdict_number verdict)
  pub refusing : (r : Refusal) → Case (refused r) → Refusing
  pub accepting : (x : X) → Case (accepted x) → Accepting x

-- WHAT IS SERVED, OF ANY RECORD

-- the parts with level ≥ r and plane ≥ p
abbrev pub wanted : ℕ → ℕ → Part → Bool
wanted r p x = leb r x.level.0 && leb p x.plane.0

-- a part at another place
unfoldable pub moved_to : ℕ → Part → Part
moved_to b p =
    record { plane = p.plane; level = p.level; bits = p.bits; place = b; body = b + (p.body - p.place); end = b + (p.end - p.place) }

-- parts one behind the other, from a place on
unfoldable pub placed_from : ℕ → List Part → List Part
placed_from b [] = []
placed_from b (p ∷ ps) = moved_to b p ∷ placed_from (b + (p.end - p.place)) ps

-- What was served, and of what.
pub record IsServed (s : List ℕ) (r p : ℕ) (x : Portion) : Type 0 where
  pub head : Header
  pub read : read_header s ≡ Ok head
  pub asked : legal_ask head r p ≡ true
  pub ending : (read_parts head s).ending ≡ tail x.tail
  pub bytes : x.bytes ≡ take head.end s ++ flat (whole_of s) (selection (wanted r p) (read_parts head s).parts)

-- What is promised, of a record s that serving for (r1, p1) made x of, and of a second request (r2, p2).
pub record Again (s : List ℕ) (r1 p1 : ℕ) (x : Portion) (r2 p2 : ℕ) : Type 0 where
  -- What was served has the header of the record: a request is legal for both or for neither, and if not, the second serving is refused with 11.
  pub head : Header
  pub of_record : read_header s ≡ Ok head
  pub of_served : read_header x.bytes ≡ Ok head
  pub unasked : legal_ask head r2 p2 ≡ false → (room : ℕ) → serving x.bytes r2 p2 room ≡ refused refusal.Ask
  -- Where it is, both ways come to the same bytes, and to 5 where there is no room for these. The second serving tells no tail, serving once that
  -- of the record.
  pub bytes : List ℕ
  pub twice : legal_ask head r2 p2 ≡ true → (room : ℕ) → serving x.bytes r2 p2 room ≡ portioned bytes 0 room
  pub once : legal_ask head r2 p2 ≡ true → (room : ℕ) → serving s (max r1 r2) (max p1 p2) room ≡ portioned bytes x.tail room

-- The same of the routine. Where its result is these bytes and this tail, it leaves in an output with so much room:
pub record Leaves (bytes : List ℕ) (tail room : ℕ) (answer : Served) (out' : List ℕ) : Type 0 where
  pub fits : length bytes ≤ room
      → (answer ≡ record { verdict = Accepted; length = length bytes; tail = tail }) × (out' ≡ bytes ++ zeros (room - length bytes))
  pub short : room < length bytes → (answer ≡ record { verdict = Refused refusal.Room; length = 0; tail = 0 }) × (out' ≡ zeros room)

-- Served for (r1, p1) the record s gave an answer and an output; what stands in that output, as long as the answer says, is served again.
pub record AgainLent (s : List ℕ) (r1 p1 : ℕ) (answer : Served) (out' : List ℕ) (r2 p2 : ℕ) : Type 0 where
  pub bytes : List ℕ
  pub twice : {lent : List ℕ} {a : Served} {lent' : List ℕ} → Serving (take answer.length out') r2 p2 lent a lent'
      → Leaves bytes 0 (length lent) a lent'
  pub once : {lent : List ℕ} {a : Served} {lent' : List ℕ} → Serving s (max r1 r2) (max p1 p2) lent a lent'
      → Leaves bytes answer.tail (length lent) a lent'

-- The same of the export: the number that it returns, the answer that it writes and the output.
pub record Told (bytes : List ℕ) (tail : ℕ) (out answer : List ℕ) (number : ℕ) (out' answer' : List ℕ) : Type 0 where
  pub fits : length bytes ≤ length out
      → (number ≡ 0) × (answer' ≡ (0 ∷ 0 ∷ length bytes ∷ tail ∷ []) ++ zeros (length answer - serve_places))
      × (out' ≡ bytes ++ zeros (length out - length bytes))
  pub short : length out < length bytes
      → (number ≡ 5) × (answer' ≡ (5 ∷ 0 ∷ 0 ∷ 0 ∷ []) ++ zeros (length answer - serve_places)) × (out' ≡ zeros (length out))

-- Served so for (r1, p1) the record s gave an output and an answer; what stands in that output, as long as the answer says, is served again.
pub record AgainTold (s : List ℕ) (r1 p1 : ℕ) (out' answer' : List ℕ) (r2 p2 : ℕ) : Type 0 where
  pub bytes : List ℕ
  pub twice : {lent told : List ℕ} {n : ℕ} {lent' told' : List ℕ} → serve_places ≤ length told
      → AfsServe (take (get_or answer' 2 0) out') r2 p2 lent told n lent' told' → Told bytes 0 lent told n lent' told'
  pub once : {lent told : List ℕ} {n : ℕ} {lent' told' : List ℕ} → serve_places ≤ length told
      → AfsServe s (max r1 r2) (max p1 p2) lent told n lent' told' → Told bytes (get_or answer' 3 0) lent told n lent' told'

-- WHAT STANDS IN LENT MEMORY

-- the first bits of a body
unfoldable pub bits_from : List ℕ → ℕ → ℕ → List Bool
bits_from body i zero = []
bits_from body i (suc m) = bit_at body i ∷ bits_from body (suc i) m

-- The parts that stand in some bytes, as document 01 reads them behind a header: name and bits of each.
unfoldable pub parts_in : Header → List ℕ → List CodedPart
parts_in h bytes = map (λ p. record { name = name_of p; bits = bits_from (body_of bytes p) 0 p.bits }) (read_parts h bytes).parts

-- the bytes of a part if a test keeps it
unfoldable pub kept_in : (PartName → Bool) → List ℕ → Part → List ℕ
kept_in keep bytes p = cond (keep (name_of p)) (whole_of bytes p) []

-- s is a selection of the parts of the record that stands in `bytes`, cut somewhere: the header, and behind it, in order and unaltered, those
-- parts that some test keeps; of all this the header and some number of bytes more.
pub record Selected (bytes s : List ℕ) : Type 0 where
  pub head : Header
  pub read : read_header bytes ≡ Ok head
  pub keep : PartName → Bool
  pub more : ℕ
  pub made : s ≡ take (head.end + more) (take head.end bytes ++ flat (kept_in keep bytes) (read_parts head bytes).parts)

module _ {bytes s : List ℕ} (x : Selected bytes s) where
  -- the parts that arrived whole, and how many bytes there are of one that was cut
  abbrev pub whole_parts : List CodedPart
  whole_parts = whole_in x.more (kept x.keep (parts_in x.head bytes))

  abbrev pub cut_parts : List CodedPart
  cut_parts = cut_in x.more (kept x.keep (parts_in x.head bytes))

  abbrev pub cut_bytes : ℕ
  cut_bytes = tail_in x.more (kept x.keep (parts_in x.head bytes))

-- Of coding: in these bytes stands the record of the pyramid for so many planes, bit for bit; its header can be read, and behind it every part of
-- every plane and level. The planes are those that the coder counts, or as many as the earlier count gave.
pub record Recorded (z : Size) (planes : ℕ) (pyramid : List ℤ) (bytes : List ℕ) : Type 0 where
  pub codable : Codable z pyramid
  pub count : PlaneCount pyramid planes
  pub its_bytes : bytes ≡ record_with z planes pyramid
  pub its_header : read_header bytes ≡ Ok (header_of z planes)
  pub its_parts : parts_in (header_of z planes) bytes ≡ parts_with z planes pyramid
  pub every_part : names (parts_in (header_of z planes) bytes) ≡ part_names (levels z) planes

-- Of serving s for level r and plane p, where s was itself a selection x of what stands in `bytes`: what is served is one too, of just the parts
-- that arrived whole and were asked for, none of them cut; and the tail that is told is what s had of a part that was cut.
pub record Serves {bytes s : List ℕ} (x : Selected bytes s) (r p : ℕ) (served : List ℕ) (tail : ℕ) : Type 0 where
  pub again : Selected bytes served
  pub parts : whole_parts again ≡ kept (asked r p) (whole_parts x)
  pub uncut : cut_bytes again ≡ 0
  pub told : tail ≡ cut_bytes x

-- Of decoding, where the parts `there` arrived whole and `cut` bytes of one more, which is `part` if its head is there. It came back with a number
-- and a place, and told a tail and, for each level k, `plane k` and `skip k`; out' and work' are the output and the workspace that it left.
pub record Decodes (z : Size) (planes : ℕ) (pyramid : List ℤ) (there part : List PartName) (cut : ℕ) (number place tail : ℕ) (plane skip : ℕ → ℕ)
    (out' : List ℤ) (work work' : List ℕ) : Type 0 where
  -- It is accepted.
  pub accepts : number ≡ 0
  pub nowhere : place ≡ 0
  -- Every coefficient is written: the recorded one's sign, and its magnitude rounded toward zero to a multiple of 2^m, m being the plane that is
  -- told for its level, or the one below it where that is the plane of the part that was cut.
  pub sized : length out' ≡ area z
  pub rounded_at : ℕ → ℕ
  pub rounds : (q : ℕ) → q < area z → RoundedAt part (level_of z q) (plane (level_of z q)) (rounded_at q)
  pub values : (q : ℕ) → q < area z → get_or out' q (pos 0) ≡ signed (negative pyramid q) (toward_zero (rounded_at q) (magnitude pyramid q))
  -- So with the plane m that is told for its level what is printed is less than 2^m away from what was recorded, of no greater magnitude, and of
  -- the same sign unless it is 0.
  pub near : (q : ℕ) → q < area z → Near (plane (level_of z q)) (get_or out' q (pos 0)) (get_or pyramid q (pos 0))
  -- That m is the lowest plane whose part of the level is usable, the number of planes if none is; beyond level N + 1 it is 0.
  pub reports : (k : ℕ) → 1 ≤ k → k ≤ levels z → plane k ≡ reached (levels z) planes there k
  pub beyond : (k : ℕ) → levels z < k → plane k ≡ 0
  -- So what was lost shows: a part (n, k) of the record that did not arrive whole makes the plane told for level k greater than n, and that of
  -- every finer level too.
  pub shows : (n k : ℕ) → Named (levels z) planes (at n k) → present there (at n k) ≡ false → (j : ℕ) → 1 ≤ j → j ≤ k → n < plane j
  -- The parts of the level that arrived whole and are not usable are counted: with the used ones, one for each plane from m on, they are all of
  -- the level that arrived. Beyond level N + 1 there are none.
  pub skips : (k : ℕ) → 1 ≤ k → k ≤ levels z → skip k ≡ skipped_parts (header_of z planes) there k
  pub used_and_skipped : (k : ℕ) → 1 ≤ k → k ≤ levels z → skip k + (planes - plane k) ≡ count (λ x. eqb x.level k) there
  pub skips_beyond : (k : ℕ) → levels z < k → skip k ≡ 0
  -- The tail is what arrived of the part that was cut, and the workspace is all 0.
  pub tails : tail ≡ cut
  pub clears : work' ≡ zeros (length work)

-- The planes that an export tells, level 1 first, behind number, place and tail; and the counts of skipped parts behind them.
abbrev pub planes_told : List ℕ → ℕ → ℕ
planes_told told k = get_or (take level_places (drop 3 told)) (k - 1) 0

abbrev pub counts_told : List ℕ → ℕ → ℕ
counts_told told k = get_or (take level_places (drop (3 + level_places) told)) (k - 1) 0

-- And those that the routine tells.
abbrev pub planes_answered : Decoded → ℕ → ℕ
planes_answered told k = plane_in told.reached (k - 1)

abbrev pub counts_answered : Decoded → ℕ → ℕ
counts_answered told k = count_in told.skipped (k - 1)
