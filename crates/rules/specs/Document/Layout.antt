-- Document 01, "Record layout": bytes of numbers, parts and records, and which parts of a record are usable.
use Rattle.std.specs.Prelude.{List, [], ◌∷◌, ◌++◌, Bool, true, false, cond, not, ◌&&◌, ◌||◌, ℕ, zero, suc, ◌+◌, ◌-◌, ◌*◌, ◌/◌, ◌%◌, ◌^◌, min, leb}
use Rattle.std.specs.Prelude.{ltb, eqb, length, get_or, take, drop, ℤ, nat_abs, Result, Ok, Err}
use Rattle.rules.specs.declared.Size.{Size}
use Rattle.rules.specs.declared.NoNumber.{NoNumber}
use Rattle.rules.specs.declared.NoNumber.TheVariants.{TooManyBytes, LongForm, CutOff}
use Rattle.rules.specs.declared.Part.{Part}
use Rattle.rules.specs.Document.Notation.{any, every, flat, greatest, lowest}
use Rattle.rules.specs.Document.Pyramid.{Family, family, levels, magnitude, negative, earlier_planes_of, planes_of}
use Rattle.rules.specs.Document.Passes.{State, start, after, PartName, part_names, coded}

-- "Numbers are groups of seven bits, lowest group first; a set top bit says that another byte follows. At most four bytes; shortest form
-- only."
unfoldable pub groups : ℕ → ℕ → List ℕ
groups zero v = v ∷ []
groups (suc more) v = cond (ltb v 128) (v ∷ []) ((v % 128 + 128) ∷ groups more (v / 128))

unfoldable pub number_bytes : ℕ → List ℕ
number_bytes v = groups 3 v

-- A number read: its value and the place after it, or why there is none.
abbrev pub Number : Type 0
Number = Result (ℕ × ℕ) NoNumber

-- "A number is malformed if its fourth byte has the top bit set, or if it has several bytes and the last is 0." Of a number that begins
-- further back: how many bytes it may still have, where the next one stands and what it is worth, and the value so far.
unfoldable pub number_from : ℕ → List ℕ → ℕ → ℕ → ℕ → Number
number_from zero s at worth v = Err TooManyBytes
number_from (suc more) s at worth v =
    cond (leb (length s) at) (Err CutOff)
    (cond (leb 128 (get_or s at 0)) (number_from more s (at + 1) (worth * 128) (v + (get_or s at 0 - 128) * worth))
    (cond (ltb 1 worth && eqb (get_or s at 0) 0) (Err LongForm)
    (Ok (v + get_or s at 0 * worth, at + 1))))

unfoldable pub read_number : List ℕ → ℕ → Number
read_number s at = number_from 4 s at 1 0

-- "The body has the bits packed most significant bit first in whole bytes, the last padded with 0 bits."
abbrev pub bytes_for : ℕ → ℕ
bytes_for bits = (bits + 7) / 8

abbrev pub bit_number : Bool → ℕ
bit_number true = 1
bit_number false = 0

unfoldable pub eight_bits : List Bool → ℕ → ℕ → ℕ
eight_bits bits i zero = 0
eight_bits bits i (suc m) = bit_number (get_or bits i false) * 2 ^ m + eight_bits bits (suc i) m

unfoldable pub pack_from : List Bool → ℕ → ℕ → List ℕ
pack_from bits i zero = []
pack_from bits i (suc m) = eight_bits bits i 8 ∷ pack_from bits (i + 8) m

unfoldable pub packed : List Bool → List ℕ
packed bits = pack_from bits 0 (bytes_for (length bits))

unfoldable pub bit_at : List ℕ → ℕ → Bool
bit_at body i = eqb (get_or body (i / 8) 0 / 2 ^ (7 - i % 8) % 2) 1

-- the padding of a body of so many bits is 0
unfoldable pub clear_from : List ℕ → ℕ → ℕ → Bool
clear_from body i zero = true
clear_from body i (suc m) = not (bit_at body i) && clear_from body (suc i) m

unfoldable pub pad_clear : List ℕ → ℕ → Bool
pad_clear body bits = clear_from body bits (8 * bytes_for bits - bits)

-- "Header: version (1), W, H, N, planes (0 to 17). Then parts: plane, level, bit count, body."
abbrev pub version : ℕ
version = 1

unfoldable pub header_bytes : Size → ℕ → List ℕ
header_bytes z planes = flat number_bytes (version ∷ z.w ∷ z.h ∷ z.n ∷ planes ∷ [])

pub record CodedPart : Type 0 where
  pub name : PartName
  pub bits : List Bool

unfoldable pub part_bytes : CodedPart → List ℕ
part_bytes p = flat number_bytes (p.name.plane ∷ p.name.level ∷ length p.bits ∷ []) ++ packed p.bits

-- "The coder writes every part, those of 0 bits too, planes downward and levels downward in a plane."
module _ (F : Family) (mag : ℕ → ℕ) (neg : ℕ → Bool) where
  unfoldable pub coded_parts : List PartName → State → List CodedPart
  coded_parts [] s = []
  coded_parts (p ∷ ps) s =
      let c = coded F mag neg p s in
      record { name = p; bits = c.side } ∷ coded_parts ps (after p.level c s)

-- for so many planes, and for those that the coder counts: the earlier count gave records too
abbrev pub parts_with : Size → ℕ → List ℤ → List CodedPart
parts_with z planes pyramid = coded_parts (family z) (magnitude pyramid) (negative pyramid) (part_names (levels z) planes) (start z)

abbrev pub record_with : Size → ℕ → List ℤ → List ℕ
record_with z planes pyramid = header_bytes z planes ++ flat part_bytes (parts_with z planes pyramid)

unfoldable pub planes_in : List ℤ → ℕ
planes_in pyramid = planes_of (greatest nat_abs pyramid)

unfoldable pub earlier_planes_in : List ℤ → ℕ
earlier_planes_in pyramid = earlier_planes_of (greatest nat_abs pyramid)

unfoldable pub parts_of : Size → List ℤ → List CodedPart
parts_of z pyramid = parts_with z (planes_in pyramid) pyramid

unfoldable pub record_of : Size → List ℤ → List ℕ
record_of z pyramid = record_with z (planes_in pyramid) pyramid

-- The bytes of a part that was read, and its body: "the portion of the caller's record that holds it".
unfoldable pub whole_of : List ℕ → Part → List ℕ
whole_of s p = take (p.end - p.place) (drop p.place s)

unfoldable pub body_of : List ℕ → Part → List ℕ
body_of s p = take (bytes_for p.bits) (drop p.body s)

-- How many of its bits are there: W1's "the bits of its present body bytes", and of a whole part all of them.
unfoldable pub bits_there : List ℕ → Part → ℕ
bits_there s p = min p.bits (8 * length (body_of s p))

-- "Part (n, k) is usable if every part (n', k') with n' >= n and k' >= k is present whole."
unfoldable pub name_of : Part → PartName
name_of p = record { plane = p.plane.0; level = p.level.0 }

unfoldable pub same_name : PartName → PartName → Bool
same_name a b = eqb a.plane b.plane && eqb a.level b.level

unfoldable pub needs : PartName → PartName → Bool
needs a b = leb a.plane b.plane && leb a.level b.level

module _ (top planes : ℕ) (there : List PartName) where
  unfoldable pub usable : PartName → Bool
  usable p = every (λ q. not (needs p q) || any (same_name q) there) (part_names top planes)

  -- "Reached plane of level k: the lowest plane whose level k part is usable, or the number of planes if none is."
  unfoldable pub reached : ℕ → ℕ
  reached k = lowest (λ n. usable (record { plane = n; level = k })) planes
