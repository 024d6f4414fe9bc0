-- What each turn of the loops that read and write a number keeps, and what it comes to at the end.
use Rattle.std.specs.Prelude.{Err}
use mathlib.Core.Path.{◌≡◌, refl, sym, ap, ◌∙◌}
use mathlib.Core.List.{List}
use Prim.Native.Nat.{ℕ, suc, ◌+◌, ◌-◌, ◌*◌, ◌/◌, ◌%◌, ◌^◌, ◌≤◌, ◌<◌}
use native.Mathlib.Omega.{arith}
use native.Mathlib.Numerals.{add-one}
use lib.ListN.{length, get_or, set, length-set}
use lib.Seq.{sets}
use lib.Pow.{pow_mono, pow-add}
use Rattle.rules.specs.declared.NoNumber.TheVariants.{TooManyBytes, CutOff}
use Rattle.rules.specs.Document.Layout.{groups, number_bytes, number_from, read_number}
use Rattle.rules.specs.Laws.Bytes.Numbers.{too_large}
use Rattle.rules.proofs.Laws.Bytes.Numbers.{groups_last, groups_next, number_bytes_last, number_bytes_next, number_bytes_length}
use Rattle.rules.proofs.Laws.Bytes.Numbers.{number_from_cut, number_from_last, number_from_next}
use Rattle.numbers.specs.LastByte.{last_byte}

-- Of a number that began at `at`, `read` bytes with a top bit set are read, the next one stands at `place`.
pub record Reading (s : List ℕ) (at place worth value read : ℕ) : Type 0 where
  pub same : number_from (4 - read) s place worth value ≡ read_number s at
  pub worth_is : worth ≡ 2 ^ (7 * read)
  pub below : value < worth

module _ {s : List ℕ} {at : ℕ} where
  pub reading_begins : Reading s at at 1 0 0
  unfolding read_number
  reading_begins = record { same = refl; worth_is = refl; below = omega arith }

  module _ {place worth value read : ℕ} (r : Reading s at place worth value read) where
    pub reading_none : 4 ≤ read → Err TooManyBytes ≡ read_number s at
    unfolding number_from
    reading_none h = let z : 4 - read ≡ 0 = omega arith in rw z at r.same

    module _ (h : read < 4) where
      left : ℕ
      left = 3 - read

      from_more : number_from (suc left) s place worth value ≡ read_number s at
      unfolding left
      from_more = let e : suc (3 - read) ≡ 4 - read = omega arith in rw e r.same

      pub reading_worth : worth * 128 ≤ too_large
      reading_worth = let e : worth ≤ 2 ^ 21 = rw r.worth_is (pow_mono {i = 7 * read} {j = 21} (omega arith)) in omega arith

      pub reading_cut : length s ≤ place → Err CutOff ≡ read_number s at
      reading_cut g = sym (number_from_cut left s place worth value g) ∙ from_more

      module _ (i : place < length s) {byte : ℕ} (e : byte ≡ get_or s place 0) where
        pub reading_last : byte < 128 → last_byte value worth byte (place + 1) ≡ read_number s at
        reading_last g = rw e (sym (number_from_last left s place worth value i (omega arith)) ∙ from_more)

        pub reading_next : {next : ℕ} → 128 ≤ byte → (next ≡ value + (byte - 128) * worth) × (next < worth * 128)
            → Reading s at (place + 1) (worth * 128) next (read + 1)
        unfolding left
        reading_next {next} g n =
            let d : 7 * read + 7 ≡ 7 * (read + 1) = omega arith in
            let f : 3 - read ≡ 4 - (read + 1) = omega arith in
            record {
              same = rw (← f, n.0, e) (sym (number_from_next (3 - read) s place worth value i (omega arith)) ∙ from_more);
              worth_is = ap (λ x. x * 128) r.worth_is ∙ sym (pow-add 2 (7 * read) 7) ∙ ap (λ x. 2 ^ x) d;
              below = n.1;
            }

-- How many bytes a number takes.
module _ (v : ℕ) where
  count_last : (more : ℕ) → v < 128 → 1 ≡ length (groups more v)
  count_last more h = sym (ap length (groups_last more v h))

  count_next : (more n : ℕ) → 128 ≤ v → n ≡ length (groups more (v / 128)) → suc n ≡ length (groups (suc more) v)
  count_next more n h e = ap suc e ∙ sym (ap length (groups_next more v h))

module _ (v : ℕ) where
  pub takes_one : v < 128 → 1 ≡ length (number_bytes v)
  unfolding number_bytes
  takes_one h = count_last v 3 h

  pub takes_two : 128 ≤ v → v < 16384 → 2 ≡ length (number_bytes v)
  unfolding number_bytes
  takes_two h g = count_next v 2 1 h (count_last (v / 128) 2 (omega arith))

  pub takes_three : 16384 ≤ v → v < 2097152 → 3 ≡ length (number_bytes v)
  unfolding number_bytes
  takes_three h g = count_next v 2 2 (omega arith) (count_next (v / 128) 1 1 (omega arith) (count_last (v / 128 / 128) 1 (omega arith)))

  pub takes_four : 2097152 ≤ v → 4 ≡ length (number_bytes v)
  unfolding number_bytes groups
  takes_four h =
      count_next v 2 3 (omega arith)
      (count_next (v / 128) 1 2 (omega arith) (count_next (v / 128 / 128) 0 1 (omega arith) refl))

-- What is left to write of a number that began at `at` of the list d.
pub record Writing (d : List ℕ) (at value : ℕ) (out : List ℕ) (place rest : ℕ) : Type 0 where
  pub fits : rest < 2 ^ 28
  pub same : length out ≡ length d
  pub ends : place + length (number_bytes rest) ≡ at + length (number_bytes value)
  pub list : sets out place (number_bytes rest) ≡ sets d at (number_bytes value)

module _ {d : List ℕ} {at value : ℕ} where
  module _ {out : List ℕ} {place rest : ℕ} (w : Writing d at value out place rest) where
    pub writing_place : place ≤ at + 3
    writing_place = omega (arith, number_bytes_length value, number_bytes_length rest)

    module _ {stored : List ℕ} where
      pub writing_next : stored ≡ set out place (rest % 128 + 128) → 128 ≤ rest → Writing d at value stored (place + 1) (rest / 128)
      writing_next s h =
          let e = number_bytes_next rest h w.fits in
          record {
            fits = omega arith;
            same = ap length s ∙ length-set out place (rest % 128 + 128) ∙ w.same;
            ends = omega (arith, w.ends, ap length e);
            list = rw (s, add-one) (ap (sets out place) (sym e) ∙ w.list);
          }

      pub writing_last : stored ≡ set out place rest → rest < 128
          → (place + 1 ≡ at + length (number_bytes value)) × (stored ≡ sets d at (number_bytes value))
      writing_last s h =
          let e = number_bytes_last rest h in
          (omega (arith, w.ends, ap length e), s ∙ ap (sets out place) (sym e) ∙ w.list)
