-- From stage to stage: one part and several, what they leave to do, and what all of them make.
use mathlib.Core.Path.{◌≡◌, refl, sym, ap, ◌∙◌}
use mathlib.Core.List.{List, [], ◌∷◌, ◌++◌}
use mathlib.Core.Bool.{Bool, true}
use Prim.Native.Nat.{ℕ, zero, suc, ◌+◌, ◌≤◌, ◌<◌}
use native.Mathlib.Omega.{arith}
use native.Mathlib.Nat.{zero-add, suc-add}
use lib.ListN.{length, length-append}
use lib.IntN.{ℤ}
use lib.Seq.{sets, length-sets}
use Rattle.rules.specs.declared.Size.{Size}
use Rattle.rules.specs.Document.Notation.{flat}
use Rattle.rules.specs.Document.Pyramid.{legal_size, area, levels, magnitude, negative, most_planes}
use Rattle.rules.specs.Document.Passes.{State, PartName, parts_of_plane}
use Rattle.rules.specs.Document.Layout.{packed, part_bytes, coded_parts}
use Rattle.rules.specs.Document.Numbers.{most_bits, part_most}
use Rattle.rules.proofs.Laws.Counting.Sums.{from_length}
use Rattle.rules.proofs.Laws.Family.Sizes.{legal, area_bound}
use Rattle.rules.specs.Laws.State.Parts.{OfLevel}
use Rattle.rules.proofs.Laws.State.Parts.{coded_sound, coded_bits}
use Rattle.rules.proofs.Laws.Bytes.Numbers.{number_bytes_length}
use Rattle.rules.proofs.Laws.Bytes.BodyBack.{packed_length}
use Rattle.trees.specs.Family.{coefficient_of}
use Rattle.trees.proofs.Lawful.{trees_lawful}
use Rattle.trees.specs.Sound.{TreeSound}
use Rattle.memory.specs.Stores.{sets_append, get_d_sets_behind}
use Rattle.record.specs.Write.{head_of, head_of_length}
use Rattle.coder.specs.Writing.{Stage, course_of, bytes_of, bytes_of_parts, onward, through, bytes_most, Going}

module _ (pyramid : List ℤ) (z : Size) where
  -- A part's bytes: head, then body.
  pub bytes_of_head : (p : PartName) (s : State)
      → bytes_of pyramid z p s
      ≡ head_of p.plane p.level (length (course_of pyramid z p s).side) ++ packed (course_of pyramid z p s).side
  unfolding bytes_of part_bytes
  bytes_of_head p s = refl

  -- All parts in turn write what they write together.
  pub through_out : (ps : List PartName) (x : Stage)
      → (through pyramid z ps x).out ≡ sets x.out x.place (bytes_of_parts pyramid z ps x.lists)
  unfolding through onward bytes_of coded_parts flat
  through_out [] x = refl
  through_out (p ∷ ps) x =
      through_out ps (onward pyramid z p x) ∙ sym (sets_append x.out x.place (bytes_of pyramid z p x.lists) _)

  pub through_place : (ps : List PartName) (x : Stage)
      → (through pyramid z ps x).place ≡ x.place + length (bytes_of_parts pyramid z ps x.lists)
  unfolding through onward bytes_of coded_parts flat
  through_place [] x = omega arith
  through_place (p ∷ ps) x =
      let next : Stage = onward pyramid z p x in
      omega (arith, through_place ps next, length-append (bytes_of pyramid z p x.lists) (bytes_of_parts pyramid z ps next.lists))

  pub through_append : (ps qs : List PartName) (x : Stage) → through pyramid z (ps ++ qs) x ≡ through pyramid z qs (through pyramid z ps x)
  unfolding through
  through_append [] qs x = refl
  through_append (p ∷ ps) qs x = through_append ps qs (onward pyramid z p x)

  pub through_length : (ps : List PartName) (x : Stage) → length (through pyramid z ps x).out ≡ length x.out
  through_length ps x = ap length (through_out ps x) ∙ length-sets x.out x.place (bytes_of_parts pyramid z ps x.lists)

  module _ (l : legal_size z ≡ true) where
    -- A part has at most part_most bits, and at most bytes_most bytes.
    pub bits_few : (p : PartName) (s : State) → OfLevel (levels z) p → TreeSound z s
        → (length (course_of pyramid z p s).side ≤ most_bits z) × (most_bits z ≤ part_most)
    bits_few p s o h =
        omega (
          arith,
          coded_bits (trees_lawful z (legal z l)) h o (λ x. magnitude pyramid (coefficient_of z x)) (λ x. negative pyramid (coefficient_of z x)),
          from_length 0 (area z),
          area_bound z l,
        )

    bytes_few : (p : PartName) (s : State) → OfLevel (levels z) p → p.plane < 128 → p.level < 128 → TreeSound z s
        → length (bytes_of pyramid z p s) ≤ bytes_most
    bytes_few p s o a b h =
        let bits : List Bool = (course_of pyramid z p s).side in
        omega (
          arith,
          ap length (bytes_of_head p s),
          length-append (head_of p.plane p.level (length bits)) (packed bits),
          head_of_length p.plane p.level (length bits) a b,
          number_bytes_length (length bits),
          packed_length bits,
          bits_few p s o h,
        )

    -- One part on, and a plane.
    pub going_onward : {m : ℕ} {x : Stage} → Going z (suc m) x → (p : PartName) → OfLevel (levels z) p → p.plane < most_planes
        → Going z m (onward pyramid z p x)
    unfolding onward
    going_onward {m} {x} g p o a =
        let few = (legal z l).few in
        record {
          sound = coded_sound (trees_lawful z (legal z l)) g.sound o _ _;
          clear = λ j h. get_d_sets_behind x.out x.place (bytes_of pyramid z p x.lists) j 0 h ∙ g.clear j (omega arith);
          near = omega (arith, g.near, bytes_few p x.lists o (omega arith) (omega (arith, o.up_to)) g.sound);
        }

    pub going_plane : {m : ℕ} (n k : ℕ) → n < most_planes → k ≤ levels z → (x : Stage) → Going z (k + m) x
        → Going z m (through pyramid z (parts_of_plane n k) x)
    unfolding through parts_of_plane
    going_plane n zero a b x g = rw zero-add at g
    going_plane {m} n (suc k) a b x g =
        let p : PartName = record { plane = n; level = suc k } in
        going_plane n k a (omega arith) (onward pyramid z p x)
        (going_onward (rw suc-add at g) p (record { from1 = omega arith; up_to = b }) a)

pub going_fewer : {z : Size} {m : ℕ} {x : Stage} (fewer : ℕ) → fewer ≤ m → Going z m x → Going z fewer x
going_fewer fewer h g = record { sound = g.sound; clear = g.clear; near = omega (arith, g.near) }
