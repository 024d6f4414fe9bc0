-- Document 01, "Numbers that a call may come back with": the table, and reading a record in its order of refusals.
use Rattle.std.specs.Prelude.{List, [], ◌∷◌, Bool, cond, ◌&&◌, ◌||◌, ℕ, zero, suc, ◌+◌, ◌-◌, ◌*◌, leb, ltb, eqb, length, Result, Ok, Err}
use Rattle.rules.specs.declared.Size.{Size}
use Rattle.rules.specs.declared.Refusal.{Refusal}
use Rattle.rules.specs.declared.Refusal.TheVariants as refusal
use Rattle.rules.specs.declared.NoNumber.TheVariants.{TooManyBytes, LongForm, CutOff}
use Rattle.rules.specs.declared.Header.{Header}
use Rattle.rules.specs.declared.Part.{Part}
use Rattle.rules.specs.declared.Piece.{Piece}
use Rattle.rules.specs.declared.Piece.TheVariants as part
use Rattle.rules.specs.Document.Pyramid.{most_area, legal_size, area, levels, most_planes}
use Rattle.rules.specs.Document.Passes.{PartName}
use Rattle.rules.specs.Document.Layout.{Number, read_number, version, bytes_for, pad_clear, body_of, name_of}

-- The table's first and last columns.
abbrev pub refusal_number : Refusal → ℕ
refusal_number refusal.Size = 1
refusal_number refusal.Length = 2
refusal_number refusal.Work = 3
refusal_number (refusal.Range i) = 4
refusal_number refusal.Room = 5
refusal_number (refusal.Head i) = 6
refusal_number refusal.Version = 7
refusal_number (refusal.Part i) = 8
refusal_number (refusal.Pad i) = 9
refusal_number (refusal.Fit i) = 10
refusal_number refusal.Ask = 11
refusal_number (refusal.LongForm i) = 12
refusal_number refusal.Grey = 13
refusal_number refusal.Mixed = 14
refusal_number (refusal.Clash i) = 15

abbrev pub refusal_place : Refusal → ℕ
refusal_place refusal.Size = 0
refusal_place refusal.Length = 0
refusal_place refusal.Work = 0
refusal_place (refusal.Range i) = i
refusal_place refusal.Room = 0
refusal_place (refusal.Head i) = i
refusal_place refusal.Version = 0
refusal_place (refusal.Part i) = i
refusal_place (refusal.Pad i) = i
refusal_place (refusal.Fit i) = i
refusal_place refusal.Ask = 0
refusal_place (refusal.LongForm i) = i
refusal_place refusal.Grey = 0
refusal_place refusal.Mixed = 0
refusal_place (refusal.Clash i) = i

-- What a call comes back with.
pub data Verdict : Type 0 where
  Accepted : Verdict
  Refused : Refusal → Verdict

abbrev pub verdict_number : Verdict → ℕ
verdict_number Accepted = 0
verdict_number (Refused r) = refusal_number r

abbrev pub verdict_place : Verdict → ℕ
verdict_place Accepted = 0
verdict_place (Refused r) = refusal_place r

-- A header read, or what is refused; and what stands at a place of a record, or what is refused there.
abbrev pub HeaderRead : Type 0
HeaderRead = Result Header Refusal

abbrev pub PartRead : Type 0
PartRead = Result Piece Refusal

-- "Any reading: version number (6, then 7), the four others (6), then 1." 6 HEAD is given where the header ends early or a number in it is
-- malformed, with the offset of that number. W2: "12 LONGFORM (several bytes, the last 0), in the places of 6 or 8 wherever that was the cause,
-- same reported place; 6 and 8 keep the rest."
unfoldable pub head_number : ℕ → Number → (ℕ → ℕ → HeaderRead) → HeaderRead
head_number at (Ok (v, end)) go = go v end
head_number at (Err TooManyBytes) go = Err (refusal.Head at)
head_number at (Err LongForm) go = Err (refusal.LongForm at)
head_number at (Err CutOff) go = Err (refusal.Head at)

unfoldable pub judged_header : Size → ℕ → ℕ → HeaderRead
judged_header z planes end =
    cond (legal_size z && leb planes most_planes)
    (Ok (record { size = z; planes = planes; end = end }))
    (Err refusal.Size)

unfoldable pub read_sizes : List ℕ → ℕ → HeaderRead
read_sizes s a =
    head_number a (read_number s a) (λ w b.
    head_number b (read_number s b) (λ h c.
    head_number c (read_number s c) (λ n d.
    head_number d (read_number s d) (λ planes end.
    judged_header (record { w = w; h = h; n = n }) planes end))))

unfoldable pub read_header : List ℕ → HeaderRead
read_header s = head_number 0 (read_number s 0) (λ v a. cond (eqb v version) (read_sizes s a) (Err refusal.Version))

-- the greatest level that a part of this header may have
abbrev pub top_level : Header → ℕ
top_level h = levels h.size

abbrev pub most_bits : Size → ℕ
most_bits z = 4 * area z

-- no part of any record has more bits
abbrev pub part_most : ℕ
part_most = 4 * most_area

-- "Within a part: its three numbers in turn, each being a value, malformed (8) or cut off (tail), the first that isn't a value deciding";
-- 12, as W2 says, where its last byte is 0
unfoldable pub part_number : ℕ → Number → (ℕ → ℕ → PartRead) → PartRead
part_number place (Ok (v, end)) go = go v end
part_number place (Err TooManyBytes) go = Err (refusal.Part place)
part_number place (Err LongForm) go = Err (refusal.LongForm place)
part_number place (Err CutOff) go = Ok part.Tail

-- "the other causes of 8": "plane not under planes; level not 1 to N+1; not after the part before it in the order; bit count over
-- 4 x W x H"
unfoldable pub follows : PartName → PartName → Bool
follows before p = ltb p.plane before.plane || eqb p.plane before.plane && ltb p.level before.level

unfoldable pub legal_head : Header → PartName → PartName → ℕ → Bool
legal_head h before p bits =
    ltb p.plane h.planes && leb 1 p.level && leb p.level (top_level h) && follows before p && leb bits (most_bits h.size)

-- "body incomplete (tail); 9". Of a part whose body is incomplete W1 uses what is there.
unfoldable pub judged_part : Header → List ℕ → PartName → Part → PartRead
judged_part h s before p =
    cond (legal_head h before (name_of p) p.bits)
    (cond (leb p.end (length s))
    (cond (pad_clear (body_of s p) p.bits) (Ok (part.Part p)) (Err (refusal.Pad p.place)))
    (Ok (part.Cut p)))
    (Err (refusal.Part p.place))

unfoldable pub headed : ℕ → ℕ → ℕ → ℕ → ℕ → Part
headed place n k bits body =
    record { plane = record { 0 = n }; level = record { 0 = k }; bits = bits; place = place; body = body; end = body + bytes_for bits }

unfoldable pub read_part : Header → List ℕ → PartName → ℕ → PartRead
read_part h s before place =
    part_number place (read_number s place) (λ n a.
    part_number place (read_number s a) (λ k b.
    part_number place (read_number s b) (λ bits body.
    judged_part h s before (headed place n k bits body))))

-- "If the bytes end inside a part, its head or its body, what is there of that part is the tail." The parts that are whole, and what comes
-- after them: a tail of so many bytes, or the fault of the first part at fault.
pub data Ending : Type 0 where
  tail : ℕ → Ending
  fault : Refusal → Ending

pub record Reading : Type 0 where
  pub parts : List Part
  pub ending : Ending

unfoldable pub go_on : List ℕ → ℕ → PartRead → (Part → Reading) → Reading
go_on s place (Ok (part.Part p)) next = record { parts = p ∷ (next p).parts; ending = (next p).ending }
go_on s place (Ok (part.Cut p)) next = record { parts = []; ending = tail (length s - place) }
go_on s place (Ok part.Tail) next = record { parts = []; ending = tail (length s - place) }
go_on s place (Err r) next = record { parts = []; ending = fault r }

-- The first number bounds the parts; the record's length is enough.
unfoldable pub read_from : ℕ → Header → List ℕ → PartName → ℕ → Reading
read_from zero h s before place = record { parts = []; ending = tail (length s - place) }
read_from (suc m) h s before place = go_on s place (read_part h s before place) (λ p. read_from m h s (name_of p) p.end)

unfoldable pub read_parts : Header → List ℕ → Reading
read_parts h s = read_from (length s) h s (record { plane = h.planes; level = 0 }) h.end

-- What stands behind parts that were read.
unfoldable pub behind_from : Header → List ℕ → PartName → ℕ → List Part → PartRead
behind_from h s before place [] = read_part h s before place
behind_from h s before place (p ∷ ps) = behind_from h s (name_of p) p.end ps

abbrev pub behind : Header → List ℕ → List Part → PartRead
behind h s parts = behind_from h s (record { plane = h.planes; level = 0 }) h.end parts
