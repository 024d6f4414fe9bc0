-- What each call answers and what it leaves in the memory lent to it, for every input: document 01's "Order", "Refused" and "Accepted".
use Rattle.std.specs.Prelude.{◌≡◌, List, [], ◌∷◌, ◌++◌, map, Bool, true, false, cond, not, ◌&&◌, ℕ, ◌+◌, ◌-◌, ◌*◌, leb, ltb, eqb, length, get_or}
use Rattle.std.specs.Prelude.{take, replicate, ℤ, pos, Ok, Err}
use Rattle.rules.specs.declared.Size.{Size}
use Rattle.rules.specs.declared.Plane.{Plane}
use Rattle.rules.specs.declared.Refusal.{Refusal}
use Rattle.rules.specs.declared.Refusal.TheVariants as refusal
use Rattle.rules.specs.declared.Header.{Header}
use Rattle.rules.specs.declared.Part.{Part}
use Rattle.rules.specs.declared.Piece.TheVariants as part
use Rattle.rules.specs.Document.Notation.{count, flat, lowest, zeros}
use Rattle.rules.specs.Document.Pyramid.{legal_size, area, family, most_magnitude, magnitude}
use Rattle.rules.specs.Document.Passes.{Course, Reader, State, PartName, start, after, from, decoded}
use Rattle.rules.specs.Document.Layout.{record_of, bit_at, body_of, whole_of, bits_there, name_of, usable, reached}
use Rattle.rules.specs.Document.Numbers.{refusal_number, verdict_number, verdict_place, read_header, Ending, tail, fault, Reading, read_parts}
use Rattle.rules.specs.Document.Numbers.{behind, top_level, Verdict, Accepted, Refused, HeaderRead, PartRead}

-- A call is refused, or accepted with its result. `unless test r x` is x where the test holds, and refused with r where it does not.
pub data Result (X : Type 0) : Type 0 where
  refused : Refusal → Result X
  accepted : X → Result X

unfoldable pub unless : {X : Type 0} → Bool → Refusal → Result X → Result X
unless true r x = x
unless false r x = refused r

-- "3 WORK: workspace under 4 x W x H 32-bit numbers"
abbrev pub work_for : Size → ℕ
work_for z = 4 * area z

-- "4 RANGE: a magnitude over 65,535: first such index". Document 02 has another limit for grey pictures.
unfoldable pub first_over : ℕ → List ℤ → ℕ
first_over most pyramid = lowest (λ q. ltb most (magnitude pyramid q)) (length pyramid)

-- "Coding: 1, 2, 3, 4, 5."
unfoldable pub fitted : List ℕ → ℕ → Result (List ℕ)
fitted bytes room = unless (leb (length bytes) room) refusal.Room (accepted bytes)

unfoldable pub coding : List ℤ → Size → ℕ → ℕ → Result (List ℕ)
coding pyramid z room work =
    unless (legal_size z) refusal.Size
    (unless (eqb (length pyramid) (area z)) refusal.Length
    (unless (leb (work_for z) work) refusal.Work
    (unless (eqb (first_over most_magnitude pyramid) (length pyramid)) (refusal.Range (first_over most_magnitude pyramid))
    (fitted (record_of z pyramid) room))))

-- Reading begins with the header.
unfoldable pub on_header : {X : Type 0} → HeaderRead → (Header → Result X) → Result X
on_header (Ok h) go = go h
on_header (Err r) go = refused r

unfoldable pub on_ending : {X : Type 0} → Ending → (ℕ → Result X) → Result X
on_ending (tail t) go = go t
on_ending (fault r) go = refused r

-- "Serving takes a record, a level r (1 to N+1) and a plane p (0 to planes). It writes the header and the parts with level >= r and plane
-- >= p, unaltered." "Serving: 11, the parts, at the very end 5."
unfoldable pub legal_ask : Header → ℕ → ℕ → Bool
legal_ask h r p = leb 1 r && leb r (top_level h) && leb p h.planes

unfoldable pub kept_of : List ℕ → ℕ → ℕ → Part → List ℕ
kept_of s r p x = cond (leb r x.level.0 && leb p x.plane.0) (whole_of s x) []

unfoldable pub served_bytes : Header → List ℕ → ℕ → ℕ → List Part → List ℕ
served_bytes h s r p parts = take h.end s ++ flat (kept_of s r p) parts

pub record Portion : Type 0 where
  pub bytes : List ℕ
  pub tail : ℕ

unfoldable pub portioned : List ℕ → ℕ → ℕ → Result Portion
portioned bytes t room = unless (leb (length bytes) room) refusal.Room (accepted (record { bytes = bytes; tail = t }))

unfoldable pub serving : List ℕ → ℕ → ℕ → ℕ → Result Portion
serving s r p room =
    on_header (read_header s) (λ h.
    unless (legal_ask h r p) refusal.Ask
    (on_ending (read_parts h s).ending (λ t. portioned (served_bytes h s r p (read_parts h s).parts) t room)))

-- "Parts that are not usable are walked over, not decoded." "10 FIT: a usable part's bits run out or are left over": the pass takes more or
-- fewer bits than there are. "The first part at fault decides."
pub data Progress : Type 0 where
  going : State → List ℤ → Progress
  unfit : ℕ → Progress

unfoldable pub used : Part → State → Course Reader → Progress
used p st c = cond (eqb c.side.taken p.bits) (going (after p.level.0 c st) c.side.pyramid) (unfit p.place)

module _ (h : Header) (s : List ℕ) (there : List PartName) where
  unfoldable pub onward : Part → Progress → Progress
  onward p (unfit at) = unfit at
  onward p (going st v) =
      cond (usable (top_level h) h.planes there (name_of p))
      (used p st (decoded (family h.size) (name_of p) (bit_at (body_of s p)) (bits_there s p) st v))
      (going st v)

  unfoldable pub decode_parts : List Part → Progress → Progress
  decode_parts [] g = g
  decode_parts (p ∷ ps) g = decode_parts ps (onward p g)

  -- W1: "The tail should be decoded as far as its bits go where its head is whole, passes every test of number 8, and the part would be usable."
  -- "10 also where the walk of such a part ends before the bits of its present body bytes do; padding of an incomplete body isn't looked at."
  unfoldable pub used_cut : Part → State → Course Reader → Progress
  used_cut p st c = cond (leb (bits_there s p) c.side.taken) (going (after p.level.0 c st) c.side.pyramid) (unfit p.place)

  unfoldable pub tail_onward : PartRead → Progress → Progress
  tail_onward (Ok (part.Cut p)) (going st v) =
      cond (usable (top_level h) h.planes (there ++ (name_of p ∷ [])) (name_of p))
      (used_cut p st (decoded (family h.size) (name_of p) (bit_at (body_of s p)) (bits_there s p) st v))
      (going st v)
  tail_onward (Ok (part.Cut p)) (unfit at) = unfit at
  tail_onward (Ok (part.Part p)) g = g
  tail_onward (Ok part.Tail) g = g
  tail_onward (Err r) g = g

-- "Then decoding: 2, 3 and the parts." "Decoding: number, place, tail length and six reached planes, level 1 first, 0 beyond level N+1."
pub record Picture : Type 0 where
  pub pyramid : List ℤ
  pub tail : ℕ
  pub reached : List Plane
  pub skipped : List ℕ

abbrev pub level_places : ℕ
level_places = 6

unfoldable pub reached_plane : Header → List PartName → ℕ → Plane
reached_plane h there k = record { 0 = cond (leb k (top_level h)) (reached (top_level h) h.planes there k) 0 }

unfoldable pub reached_planes : Header → List PartName → List Plane
reached_planes h there = map (reached_plane h there) (from 1 level_places)

-- W8: "the number of its parts that were present whole and not usable, by 01's definition of usable", for each level.
unfoldable pub skipped_parts : Header → List PartName → ℕ → ℕ
skipped_parts h there k = count (λ x. eqb x.level k && not (usable (top_level h) h.planes there x)) there

unfoldable pub skipped_counts : Header → List PartName → List ℕ
skipped_counts h there = map (skipped_parts h there) (from 1 level_places)

unfoldable pub pictured : Header → List PartName → Ending → Progress → Result Picture
pictured h there e (unfit at) = refused (refusal.Fit at)
pictured h there e (going st v) =
    on_ending e (λ t. accepted (record { pyramid = v; tail = t; reached = reached_planes h there; skipped = skipped_counts h there }))

unfoldable pub decoded_parts : Header → List ℕ → Reading → Result Picture
decoded_parts h s r =
    pictured h (map name_of r.parts) r.ending
    (tail_onward h s (map name_of r.parts) (behind h s r.parts)
    (decode_parts h s (map name_of r.parts) r.parts (going (start h.size) (replicate (area h.size) (pos 0)))))

unfoldable pub decoding : List ℕ → ℕ → ℕ → Result Picture
decoding s room work =
    on_header (read_header s) (λ h.
    unless (eqb room (area h.size)) refusal.Length
    (unless (leb (work_for h.size) work) refusal.Work
    (decoded_parts h s (read_parts h s))))

-- The answers of coding, serving and decoding.
pub record Coded : Type 0 where
  pub verdict : Verdict
  pub length : ℕ

pub record Served : Type 0 where
  pub verdict : Verdict
  pub length : ℕ
  pub tail : ℕ

pub record Decoded : Type 0 where
  pub verdict : Verdict
  pub tail : ℕ
  pub reached : List Plane
  pub skipped : List ℕ

-- "Refused: output slice all 0." "For bytes, all after the result 0." "A refusal has 0 in all but number and place."
unfoldable pub filled : ℕ → List ℕ → List ℕ
filled room bytes = bytes ++ zeros (room - length bytes)

unfoldable pub code_out : ℕ → Result (List ℕ) → List ℕ
code_out room (refused r) = zeros room
code_out room (accepted bytes) = filled room bytes

unfoldable pub code_answer : Result (List ℕ) → Coded
code_answer (refused r) = record { verdict = Refused r; length = 0 }
code_answer (accepted bytes) = record { verdict = Accepted; length = length bytes }

unfoldable pub serve_out : ℕ → Result Portion → List ℕ
serve_out room (refused r) = zeros room
serve_out room (accepted x) = filled room x.bytes

unfoldable pub serve_answer : Result Portion → Served
serve_answer (refused r) = record { verdict = Refused r; length = 0; tail = 0 }
serve_answer (accepted x) = record { verdict = Accepted; length = length x.bytes; tail = x.tail }

unfoldable pub decode_out : ℕ → Result Picture → List ℤ
decode_out room (refused r) = replicate room (pos 0)
decode_out room (accepted x) = x.pyramid

unfoldable pub decode_answer : Result Picture → Decoded
decode_answer (refused r) =
    record { verdict = Refused r; tail = 0; reached = replicate level_places (record { 0 = 0 }); skipped = zeros level_places }
decode_answer (accepted x) = record { verdict = Accepted; tail = x.tail; reached = x.reached; skipped = x.skipped }

-- The public routines. An output or workspace is named twice: what it held before the call, and what it holds after ('). "Workspace: all 0
-- after every call. The input is only read."
pub record Coding (pyramid : List ℤ) (z : Size) (out work : List ℕ) (answer : Coded) (out' work' : List ℕ) : Type 0 where
  pub answers : answer ≡ code_answer (coding pyramid z (length out) (length work))
  pub writes : out' ≡ code_out (length out) (coding pyramid z (length out) (length work))
  pub clears : work' ≡ zeros (length work)

pub record Serving (s : List ℕ) (r p : ℕ) (out : List ℕ) (answer : Served) (out' : List ℕ) : Type 0 where
  pub answers : answer ≡ serve_answer (serving s r p (length out))
  pub writes : out' ≡ serve_out (length out) (serving s r p (length out))

pub record Decoding (s : List ℕ) (out : List ℤ) (work : List ℕ) (answer : Decoded) (out' : List ℤ) (work' : List ℕ) : Type 0 where
  pub answers : answer ≡ decode_answer (decoding s (length out) (length work))
  pub writes : out' ≡ decode_out (length out) (decoding s (length out) (length work))
  pub clears : work' ≡ zeros (length work)

-- "Coding answers number, place, length; serving also the tail length; decoding number, place, tail length and six reached planes." W8: and the
-- counts of skipped parts behind them.
unfoldable pub code_numbers : Coded → List ℕ
code_numbers a = verdict_number a.verdict ∷ verdict_place a.verdict ∷ a.length ∷ []

unfoldable pub serve_numbers : Served → List ℕ
serve_numbers a = verdict_number a.verdict ∷ verdict_place a.verdict ∷ a.length ∷ a.tail ∷ []

unfoldable pub plane_in : List Plane → ℕ → ℕ
plane_in planes i = (get_or planes i (record { 0 = 0 })).0

unfoldable pub count_in : List ℕ → ℕ → ℕ
count_in counts i = get_or counts i 0

unfoldable pub decode_numbers : Decoded → List ℕ
decode_numbers a =
    verdict_number a.verdict ∷ verdict_place a.verdict ∷ a.tail
    ∷ map (plane_in a.reached) (from 0 level_places) ++ map (count_in a.skipped) (from 0 level_places)

-- "An exported call writes its answer, in the order told below, to the front of a lent slice of 64-bit numbers, the rest 0, and returns the
-- first of them. A slice shorter than the answer gives 5 before any other check, with that slice and the output all 0."
abbrev pub code_places : ℕ
code_places = 3

abbrev pub serve_places : ℕ
serve_places = 4

abbrev pub decode_places : ℕ
decode_places = 3 + 2 * level_places

unfoldable pub returned : ℕ → List ℕ → List ℕ → ℕ
returned places answer numbers = cond (leb places (length answer)) (get_or numbers 0 0) (refusal_number refusal.Room)

unfoldable pub reported : ℕ → List ℕ → List ℕ → List ℕ
reported places answer numbers = cond (leb places (length answer)) (filled (length answer) numbers) (zeros (length answer))

unfoldable pub lent_out : {X : Type 0} → ℕ → List ℕ → X → X → X
lent_out places answer out cleared = cond (leb places (length answer)) out cleared

-- The exports: `number` is what the call returns.
pub record AfsCode (pyramid : List ℤ) (z : Size) (out work answer : List ℕ) (number : ℕ) (out' work' answer' : List ℕ) : Type 0 where
  pub returns : number ≡ returned code_places answer (code_numbers (code_answer (coding pyramid z (length out) (length work))))
  pub reports : answer' ≡ reported code_places answer (code_numbers (code_answer (coding pyramid z (length out) (length work))))
  pub writes : out' ≡ lent_out code_places answer (code_out (length out) (coding pyramid z (length out) (length work))) (zeros (length out))
  pub clears : work' ≡ zeros (length work)

pub record AfsServe (s : List ℕ) (r p : ℕ) (out answer : List ℕ) (number : ℕ) (out' answer' : List ℕ) : Type 0 where
  pub returns : number ≡ returned serve_places answer (serve_numbers (serve_answer (serving s r p (length out))))
  pub reports : answer' ≡ reported serve_places answer (serve_numbers (serve_answer (serving s r p (length out))))
  pub writes : out' ≡ lent_out serve_places answer (serve_out (length out) (serving s r p (length out))) (zeros (length out))

pub record AfsDecode (s : List ℕ) (out : List ℤ) (work answer : List ℕ) (number : ℕ) (out' : List ℤ) (work' answer' : List ℕ) : Type 0 where
  pub returns : number ≡ returned decode_places answer (decode_numbers (decode_answer (decoding s (length out) (length work))))
  pub reports : answer' ≡ reported decode_places answer (decode_numbers (decode_answer (decoding s (length out) (length work))))
  pub writes :
      out' ≡ lent_out decode_places answer (decode_out (length out) (decoding s (length out) (length work))) (replicate (length out) (pos 0))
  pub clears : work' ≡ zeros (length work)
