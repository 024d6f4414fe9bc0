-- Document 01's table and order as statements: which outcome each call has in which case, and so each step of reading a record. A case is
-- named as its row of the table. What it asks for is the row's cause, and that no cause before it in the order holds.
use Rattle.std.specs.Prelude.{◌≡◌, List, [], ◌∷◌, ◌++◌, map, true, ◌≢◌, ℕ, zero, suc, ◌+◌, ◌-◌, ◌*◌, ◌^◌, ◌≤◌, ◌<◌, length, get_or, replicate, ℤ, pos, Ok, Err}
use Rattle.rules.specs.declared.Size.{Size}
use Rattle.rules.specs.declared.Refusal.{Refusal}
use Rattle.rules.specs.declared.Refusal.TheVariants as refusal
use Rattle.rules.specs.declared.NoNumber.TheVariants.{TooManyBytes, LongForm, CutOff}
use Rattle.rules.specs.declared.Header.{Header}
use Rattle.rules.specs.declared.Part.{Part}
use Rattle.rules.specs.declared.Piece.TheVariants as part
use Rattle.rules.specs.Document.Pyramid.{area, family, most_magnitude, magnitude, most_planes}
use Rattle.rules.specs.Document.Passes.{Course, State, PartName, start, Reader, decoded}
use Rattle.rules.specs.Document.Layout.{read_number, version, bytes_for, record_of, bit_at, body_of, bits_there, name_of, Number}
use Rattle.rules.specs.Document.Numbers.{Ending, tail, fault, behind, top_level, PartRead, HeaderRead}
use Rattle.rules.specs.Document.Calls.{Result, refused, accepted, work_for, served_bytes, Portion, going, decode_parts, Picture, reached_planes, skipped_counts}
use Rattle.rules.specs.Promises.Vocabulary.{Legal, LegalHead, Usable}

-- 1 SIZE of a header: "W, H, N or planes not legal".
pub record LegalHeader (z : Size) (planes : ℕ) : Type 0 where
  pub size : Legal z
  pub few : planes ≤ most_planes

-- 4 RANGE: "a magnitude over 65,535: first such index", or over another limit.
abbrev pub InRange : ℕ → List ℤ → ℕ → Type 0
InRange most pyramid m = (i : ℕ) → i < m → magnitude pyramid i ≤ most

pub record FirstOver (most : ℕ) (pyramid : List ℤ) (at : ℕ) : Type 0 where
  pub inside : at < length pyramid
  pub over : most < magnitude pyramid at
  pub first : InRange most pyramid at

-- 11 ASK: "r or p not legal".
pub record LegalAsk (h : Header) (r p : ℕ) : Type 0 where
  pub from1 : 1 ≤ r
  pub up_to : r ≤ top_level h
  pub plane : p ≤ h.planes

-- "Numbers are groups of seven bits, lowest group first; a set top bit says that another byte follows. At most four bytes; shortest form
-- only. A number is malformed if its fourth byte has the top bit set, or if it has several bytes and the last is 0." The first i bytes of
-- the number at an offset say that another follows, and are worth this much.
abbrev pub GoesOn : List ℕ → ℕ → ℕ → Type 0
GoesOn s at i = (j : ℕ) → j < i → 128 ≤ get_or s (at + j) 0

unfoldable pub groups_worth : List ℕ → ℕ → ℕ → ℕ
groups_worth s at zero = 0
groups_worth s at (suc i) = groups_worth s at i + (get_or s (at + i) 0 - 128) * 128 ^ i

pub data NumberCase (s : List ℕ) (at : ℕ) : Number → Type 0 where
  CUT-OFF : (i : ℕ) → i < 4 → GoesOn s at i → length s ≤ at + i → NumberCase s at (Err CutOff)
  FOURTH-goes-on : GoesOn s at 4 → NumberCase s at (Err TooManyBytes)
  LAST-is-0 : (i : ℕ) → 1 ≤ i → i < 4 → GoesOn s at i → at + i < length s → get_or s (at + i) 0 ≡ 0 → NumberCase s at (Err LongForm)
  VALUE : (i : ℕ) → i < 4 → GoesOn s at i → at + i < length s → get_or s (at + i) 0 < 128 → (1 ≤ i → get_or s (at + i) 0 ≢ 0)
      → NumberCase s at (Ok (groups_worth s at i + get_or s (at + i) 0 * 128 ^ i, at + i + 1))

-- A number that was read and is no value, though it is not in long form: the bytes end early, or it has too many.
pub data Unread : Number → Type 0 where
  ends_early : Unread (Err CutOff)
  fourth_goes_on : Unread (Err TooManyBytes)

-- From offset a on, numbers of these values stand one behind the other, up to offset e.
pub data Numbers (s : List ℕ) : ℕ → List ℕ → ℕ → Type 0 where
  none : {a : ℕ} → Numbers s a [] a
  next : {a b e v : ℕ} {vs : List ℕ} → read_number s a ≡ Ok (v, b) → Numbers s b vs e → Numbers s a (v ∷ vs) e

-- "Any reading: version number (6, then 7), the four others (6), then 1." W2: "12 LONGFORM (several bytes, the last 0), in the places of 6 or 8
-- wherever that was the cause, same reported place; 6 and 8 keep the rest."
pub data HeaderCase (s : List ℕ) : HeaderRead → Type 0 where
  HEAD : Unread (read_number s 0) → HeaderCase s (Err (refusal.Head 0))
  LONGFORM : read_number s 0 ≡ Err LongForm → HeaderCase s (Err (refusal.LongForm 0))
  VERSION : {v a : ℕ} → Numbers s 0 (v ∷ []) a → v ≢ version → HeaderCase s (Err refusal.Version)
  HEAD-later : {vs : List ℕ} {at : ℕ} → Numbers s 0 (version ∷ vs) at → length vs < 4 → Unread (read_number s at)
      → HeaderCase s (Err (refusal.Head at))
  LONGFORM-later : {vs : List ℕ} {at : ℕ} → Numbers s 0 (version ∷ vs) at → length vs < 4 → read_number s at ≡ Err LongForm
      → HeaderCase s (Err (refusal.LongForm at))
  SIZE : {z : Size} {planes end : ℕ} → Numbers s 0 (version ∷ z.w ∷ z.h ∷ z.n ∷ planes ∷ []) end → ¬ LegalHeader z planes
      → HeaderCase s (Err refusal.Size)
  LEGAL : {h : Header} → Numbers s 0 (version ∷ h.size.w ∷ h.size.h ∷ h.size.n ∷ h.planes ∷ []) h.end
      → LegalHeader h.size h.planes → HeaderCase s (Ok h)

-- The head of a part was read at a place: its three numbers, and where its body and the next part begin.
pub record HeadRead (s : List ℕ) (place : ℕ) (p : Part) : Type 0 where
  pub numbers : Numbers s place (p.plane.0 ∷ p.level.0 ∷ p.bits ∷ []) p.body
  pub placed : p.place ≡ place
  pub ends : p.end ≡ p.body + bytes_for p.bits

-- 9 PAD: "a padding bit set".
pub record PadSet (s : List ℕ) (p : Part) : Type 0 where
  pub which : ℕ
  pub behind : p.bits ≤ which
  pub inside : which < 8 * bytes_for p.bits
  pub is_set : bit_at (body_of s p) which ≡ true

-- "Within a part: its three numbers in turn, each being a value, malformed (8) or cut off (tail), the first that isn't a value deciding; the
-- other causes of 8; body incomplete (tail); 9." `LegalHead` has the other causes of 8: "plane not under planes; level not 1 to N+1; not
-- after the part before it in the order; bit count over 4 x W x H".
pub data PartCase (h : Header) (s : List ℕ) (before : PartName) (place : ℕ) : PartRead → Type 0 where
  PART-malformed : {vs : List ℕ} {at : ℕ} → Numbers s place vs at → length vs < 3 → read_number s at ≡ Err TooManyBytes
      → PartCase h s before place (Err (refusal.Part place))
  LONGFORM : {vs : List ℕ} {at : ℕ} → Numbers s place vs at → length vs < 3 → read_number s at ≡ Err LongForm
      → PartCase h s before place (Err (refusal.LongForm place))
  TAIL-head : {vs : List ℕ} {at : ℕ} → Numbers s place vs at → length vs < 3 → read_number s at ≡ Err CutOff → PartCase h s before place (Ok part.Tail)
  PART : {p : Part} → HeadRead s place p → ¬ LegalHead h before (name_of p) p.bits
      → PartCase h s before place (Err (refusal.Part place))
  CUT : {p : Part} → HeadRead s place p → LegalHead h before (name_of p) p.bits → length s < p.end → PartCase h s before place (Ok (part.Cut p))
  PAD : {p : Part} → HeadRead s place p → LegalHead h before (name_of p) p.bits → p.end ≤ length s → PadSet s p
      → PartCase h s before place (Err (refusal.Pad place))
  WHOLE : {p : Part} → HeadRead s place p → LegalHead h before (name_of p) p.bits → p.end ≤ length s → ¬ PadSet s p
      → PartCase h s before place (Ok (part.Part p))

-- "The first part at fault decides": the parts that stand whole from a place on, the part before it being `before`, and what comes behind
-- them.
pub data Walk (h : Header) (s : List ℕ) : PartName → ℕ → List Part → Ending → Type 0 where
  MORE : {before : PartName} {place : ℕ} {p : Part} {ps : List Part} {e : Ending} → PartCase h s before place (Ok (part.Part p))
      → Walk h s (name_of p) p.end ps e → Walk h s before place (p ∷ ps) e
  TAIL : {before : PartName} {place : ℕ} → PartCase h s before place (Ok part.Tail) → Walk h s before place [] (tail (length s - place))
  CUT : {before : PartName} {place : ℕ} {p : Part} → PartCase h s before place (Ok (part.Cut p)) → Walk h s before place [] (tail (length s - place))
  FAULT : {before : PartName} {place : ℕ} {r : Refusal} → PartCase h s before place (Err r) → Walk h s before place [] (fault r)

abbrev pub Parts : Header → List ℕ → List Part → Ending → Type 0
Parts h s = Walk h s (record { plane = h.planes; level = 0 }) h.end

-- "Coding: 1, 2, 3, 4, 5."
pub data CodingCase (pyramid : List ℤ) (z : Size) (room work : ℕ) : Result (List ℕ) → Type 0 where
  SIZE : ¬ Legal z → CodingCase pyramid z room work (refused refusal.Size)
  LENGTH : Legal z → length pyramid ≢ area z → CodingCase pyramid z room work (refused refusal.Length)
  WORK : Legal z → length pyramid ≡ area z → work < work_for z → CodingCase pyramid z room work (refused refusal.Work)
  RANGE : {at : ℕ} → Legal z → length pyramid ≡ area z → work_for z ≤ work → FirstOver most_magnitude pyramid at
      → CodingCase pyramid z room work (refused (refusal.Range at))
  ROOM : Legal z → length pyramid ≡ area z → work_for z ≤ work → InRange most_magnitude pyramid (length pyramid) → room < length (record_of z pyramid)
      → CodingCase pyramid z room work (refused refusal.Room)
  CODED : Legal z → length pyramid ≡ area z → work_for z ≤ work → InRange most_magnitude pyramid (length pyramid) → length (record_of z pyramid) ≤ room
      → CodingCase pyramid z room work (accepted (record_of z pyramid))

-- "Serving: 11, the parts, at the very end 5." "Serving checks dropped parts too, never for 10." HEADER is 6, 12, 7 or 1, as HeaderCase
-- says, and PARTS is 8, 12 or 9, as PartCase says.
pub data ServingCase (s : List ℕ) (r p room : ℕ) : Result Portion → Type 0 where
  HEADER : {why : Refusal} → HeaderCase s (Err why) → ServingCase s r p room (refused why)
  ASK : {h : Header} → HeaderCase s (Ok h) → ¬ LegalAsk h r p → ServingCase s r p room (refused refusal.Ask)
  PARTS : {h : Header} {ps : List Part} {why : Refusal} → HeaderCase s (Ok h) → LegalAsk h r p → Parts h s ps (fault why)
      → ServingCase s r p room (refused why)
  ROOM : {h : Header} {ps : List Part} {t : ℕ} → HeaderCase s (Ok h) → LegalAsk h r p → Parts h s ps (tail t)
      → room < length (served_bytes h s r p ps) → ServingCase s r p room (refused refusal.Room)
  SERVED : {h : Header} {ps : List Part} {t : ℕ} → HeaderCase s (Ok h) → LegalAsk h r p → Parts h s ps (tail t)
      → length (served_bytes h s r p ps) ≤ room → ServingCase s r p room (accepted (record { bytes = served_bytes h s r p ps; tail = t }))

-- Decoding these parts, of those that are there, comes to the lists st and the pyramid v: each usable one takes just its bits.
pub record Fitting (h : Header) (s : List ℕ) (there ps : List Part) (st : State) (v : List ℤ) : Type 0 where
  pub comes_to : decode_parts h s (map name_of there) ps (going (start h.size) (replicate (area h.size) (pos 0))) ≡ going st v

-- 10 FIT: "a usable part's bits run out or are left over: offset of the part". Of the parts ps that are there it is the first such.
pub record FirstUnfit (h : Header) (s : List ℕ) (ps : List Part) (at : ℕ) : Type 0 where
  pub seen : List Part
  pub this : Part
  pub later : List Part
  pub lists : State
  pub pyramid : List ℤ
  pub split : ps ≡ seen ++ this ∷ later
  pub before : Fitting h s ps seen lists pyramid
  pub usable : Usable (top_level h) h.planes (map name_of ps) (name_of this)
  pub unfit : (decoded (family h.size) (name_of this) (bit_at (body_of s this)) (bits_there s this) lists pyramid).side.taken ≢ this.bits
  pub placed : this.place ≡ at

-- W1: "The tail should be decoded as far as its bits go where its head is whole, passes every test of number 8, and the part would be usable."
-- Behind the parts ps stands such a part.
pub record CutUsable (h : Header) (s : List ℕ) (ps : List Part) (p : Part) : Type 0 where
  pub stands : behind h s ps ≡ Ok (part.Cut p)
  pub usable : Usable (top_level h) h.planes (map name_of ps ++ (name_of p ∷ [])) (name_of p)

-- What it comes to, from the lists st and the pyramid v.
abbrev pub cut_course : Header → List ℕ → Part → State → List ℤ → Course Reader
cut_course h s p st v = decoded (family h.size) (name_of p) (bit_at (body_of s p)) (bits_there s p) st v

pub data TailCase (h : Header) (s : List ℕ) (ps : List Part) (st : State) (v : List ℤ) : List ℤ → Type 0 where
  UNUSED : ((p : Part) → ¬ CutUsable h s ps p) → TailCase h s ps st v v
  USED : {p : Part} → CutUsable h s ps p → bits_there s p ≤ (cut_course h s p st v).side.taken → TailCase h s ps st v (cut_course h s p st v).side.pyramid

-- "Then decoding: 2, 3 and the parts." "The first part at fault decides." HEADER and PARTS are as in serving; the parts before one at fault
-- fit. CUT-FIT is W1's "10 also where the walk of such a part ends before the bits of its present body bytes do".
pub data DecodingCase (s : List ℕ) (room work : ℕ) : Result Picture → Type 0 where
  HEADER : {why : Refusal} → HeaderCase s (Err why) → DecodingCase s room work (refused why)
  LENGTH : {h : Header} → HeaderCase s (Ok h) → room ≢ area h.size → DecodingCase s room work (refused refusal.Length)
  WORK : {h : Header} → HeaderCase s (Ok h) → room ≡ area h.size → work < work_for h.size
      → DecodingCase s room work (refused refusal.Work)
  PARTS : {h : Header} {ps : List Part} {st : State} {v : List ℤ} {why : Refusal} → HeaderCase s (Ok h) → room ≡ area h.size
      → work_for h.size ≤ work → Parts h s ps (fault why) → Fitting h s ps ps st v → DecodingCase s room work (refused why)
  FIT : {h : Header} {ps : List Part} {e : Ending} {at : ℕ} → HeaderCase s (Ok h) → room ≡ area h.size → work_for h.size ≤ work
      → Parts h s ps e → FirstUnfit h s ps at → DecodingCase s room work (refused (refusal.Fit at))
  CUT-FIT : {h : Header} {ps : List Part} {t : ℕ} {st : State} {v : List ℤ} {p : Part} → HeaderCase s (Ok h) → room ≡ area h.size
      → work_for h.size ≤ work → Parts h s ps (tail t) → Fitting h s ps ps st v → CutUsable h s ps p
      → (cut_course h s p st v).side.taken < bits_there s p → DecodingCase s room work (refused (refusal.Fit p.place))
  DECODED : {h : Header} {ps : List Part} {t : ℕ} {st : State} {v w : List ℤ} → HeaderCase s (Ok h) → room ≡ area h.size
      → work_for h.size ≤ work → Parts h s ps (tail t) → Fitting h s ps ps st v → TailCase h s ps st v w
      → DecodingCase s room work (accepted (record {
        pyramid = w;
        tail = t;
        reached = reached_planes h (map name_of ps);
        skipped = skipped_counts h (map name_of ps);
      }))
