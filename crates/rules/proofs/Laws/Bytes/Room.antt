-- Room that is always enough for a record, as the header and the tool of the archive tell. A part takes at most 11 bits for every 4 coefficients of
-- its level, so the parts of a plane take at most 11/4 x W x H bits, and those of 17 planes 187/32 x W x H bytes, less than 6 x W x H. There are at
-- most 17 x 6 = 102 parts; a part's head has at most 1 + 1 + 3 bytes and its padding 7 bits; the header has at most 1 + 2 + 2 + 1 + 1 bytes: that is
-- 102 x 47/8 + 7 bytes, 607 at most.
use Rattle.std.specs.Prelude.{◌≡◌, refl, ◌≢◌, ℤ}
use Rattle.std.proofs.Math.Path.{ap}
use Rattle.std.proofs.Common.{sym, ◌∙◌, subst}
use mathlib.Core.List.{List, [], ◌∷◌}
use Prim.Native.Nat.{ℕ, zero, suc, ◌+◌, ◌*◌, ◌≤◌, ◌<◌}
use native.Mathlib.Omega.{arith}
use Rattle.std.proofs.Math.Nat.{suc-mul, mul-le-mul, mul-le-mul_right}
use Rattle.std.proofs.Math.ListN.{length, length-append, length-map}
use Rattle.rules.specs.declared.Size.{Size}
use Rattle.rules.specs.Document.Notation.{flat}
use Rattle.rules.specs.Document.Pyramid.{area, levels, most_planes, most_magnitude, magnitude, negative}
use Rattle.rules.specs.Document.Passes.{PartName, parts_of_plane, part_names, start}
use Rattle.rules.specs.Document.Layout.{number_bytes, version, header_bytes, CodedPart, part_bytes, planes_in, parts_of, record_of}
use Rattle.rules.specs.Document.Numbers.{verdict_number, Accepted}
use Rattle.rules.specs.Document.Calls.{Result, accepted, work_for, coding, code_answer, Coding, code_places, AfsCode, Coded}
use Rattle.rules.specs.Laws.Counting.Sums.{sum, All}
use Rattle.rules.proofs.Laws.Counting.Sums.{all_then, all_both, map_all, sum_append, sum-map, sum_plus, sum_times, sum_le, sum_one, all_of}
use Rattle.rules.specs.Laws.Family.Sizes.{level_start, level_size}
use Rattle.rules.proofs.Laws.Family.Sizes.{legal, size_legal, area_bound, span_whole, level_start_fine, level_end_start, level_size_end}
use Rattle.rules.specs.Promises.Vocabulary.{Legal, Named, Codable, enough_room}
use Rattle.rules.proofs.Laws.Rounding.Planes.{none_over}
use Rattle.rules.specs.Promises.Refusals.{CodingCase, SIZE, LENGTH, WORK, RANGE, ROOM, CODED}
use Rattle.rules.proofs.Laws.Calls.Cases.{coding_case}
use Rattle.rules.proofs.Laws.Calls.Exports.{afs_code_codes}
use Rattle.rules.proofs.Laws.Offspring.Lawful.{lawful}
use Rattle.rules.proofs.Laws.Offspring.Counts.{level_count_lem}
use Rattle.rules.proofs.Laws.Bytes.Numbers.{number_bytes_one, number_bytes_two, number_bytes_three}
use Rattle.rules.proofs.Laws.Reading.Parts.{names_named}
use Rattle.rules.proofs.Laws.State.Parts.{part_names_levels, coded_parts_taken}
use Rattle.rules.proofs.Laws.State.Record.{start_sound, parts_of_bits}
use Rattle.rules.proofs.Laws.Bytes.PartBack.{part_length}
use Rattle.rules.proofs.Laws.Calls.Arrived.{this_count, codable_coded}
use Rattle.rules.proofs.Laws.Calls.Whole.{demand2_names}

flat_length : {X Y : Type 0} (f : X → List Y) (xs : List X) → length (flat f xs) ≡ sum (λ x. length (f x)) xs
unfolding flat sum
flat_length f [] = refl
flat_length f (x ∷ xs) = omega (arith, length-append (f x) (flat f xs), flat_length f xs)

-- The parts of a plane, level by level, hold the coefficients of the pyramid once; and so many planes, so many times.
module _ (z : Size) (Z : Legal z) where
  levels_hold : (n k : ℕ) → k ≤ levels z → sum (λ p. level_size z p.level) (parts_of_plane n k) + level_start z k ≡ area z
  unfolding sum parts_of_plane
  levels_hold n zero l = omega (arith, level_start_fine z 0 (omega arith), span_whole z)
  levels_hold n (suc k) l =
      omega (arith, levels_hold n k (omega arith), level_size_end z Z (suc k) (omega arith) l, level_end_start z k (omega arith))

  planes_hold : (planes : ℕ) → sum (λ p. level_size z p.level) (part_names (levels z) planes) ≤ planes * area z
  unfolding sum part_names
  planes_hold zero = omega arith
  planes_hold (suc n) =
      omega (
        arith,
        sum_append (λ p. level_size z p.level) (parts_of_plane n (levels z)) (part_names (levels z) n),
        levels_hold n (levels z) (omega arith),
        planes_hold n,
        suc-mul n (area z),
      )

levels_long : (n k : ℕ) → length (parts_of_plane n k) ≡ k
unfolding parts_of_plane
levels_long n zero = refl
levels_long n (suc k) = ap suc (levels_long n k)

names_long : (top planes : ℕ) → length (part_names top planes) ≡ planes * top
unfolding part_names
names_long top zero = omega arith
names_long top (suc n) =
    omega (arith, length-append (parts_of_plane n top) (part_names top n), levels_long n top, names_long top n, suc-mul n top)

-- The header is 7 bytes at most. A part of b bits is 5 bytes and b / 8 at most, and 7 / 8 for the padding.
module _ (z : Size) (Z : Legal z) (planes : ℕ) (few : planes ≤ most_planes) where
  header_room : length (header_bytes z planes) ≤ 7
  unfolding header_bytes sum
  header_room =
      omega (
        arith,
        flat_length number_bytes (version ∷ z.w ∷ z.h ∷ z.n ∷ planes ∷ []),
        number_bytes_one version (omega arith),
        number_bytes_two z.w (omega (arith, Z.width.most)),
        number_bytes_two z.h (omega (arith, Z.height.most)),
        number_bytes_one z.n (omega (arith, Z.few)),
        number_bytes_one planes (omega arith),
      )

  part_room : (p : CodedPart) → Named (levels z) planes p.name → length p.bits < 128 * 128 * 128
      → 8 * length (part_bytes p) ≤ length p.bits + 47
  unfolding sum
  part_room p n b =
      omega (
        arith,
        part_length p,
        flat_length number_bytes (p.name.plane ∷ p.name.level ∷ length p.bits ∷ []),
        number_bytes_one p.name.plane (omega (arith, n.under)),
        number_bytes_one p.name.level (omega (arith, n.up_to, Z.few)),
        number_bytes_three (length p.bits) b,
      )

module _ {z : Size} {pyramid : List ℤ} (c : Codable z pyramid) where
  abbrev Z : Legal z
  Z = legal z c.legal_size_lem

  abbrev planes : ℕ
  planes = planes_in pyramid

  parts_named : All (λ p. Named (levels z) planes p.name) (parts_of z pyramid)
  unfolding parts_of
  parts_named =
      map_all (Named (levels z) planes) (λ p. p.name) (parts_of z pyramid)
      (subst (All (Named (levels z) planes)) (sym (demand2_names z planes pyramid)) (names_named (levels z) planes))

  parts_taken : All (λ p. 4 * length p.bits ≤ 11 * level_size z p.name.level) (parts_of z pyramid)
  unfolding parts_of
  parts_taken =
      all_then _ _ (parts_of z pyramid)
      (λ p t. omega (arith, t.0, level_count_lem z p.name.level t.1.from1 t.1.up_to))
      (all_both _ _ (parts_of z pyramid)
      (coded_parts_taken (lawful z Z) (magnitude pyramid) (negative pyramid) (part_names (levels z) planes) (part_names_levels (levels z) planes)
      (start z) (start_sound z Z))
      parts_named)

  -- one part, in thirty-seconds of a byte: what its level has of coefficients, and what it takes besides
  each_room : All (λ p. 32 * length (part_bytes p) ≤ 11 * level_size z p.name.level + 188) (parts_of z pyramid)
  each_room =
      all_then _ _ (parts_of z pyramid)
      (λ p t. let b : length p.bits < 128 * 128 * 128 = omega (arith, t.1.1, area_bound z c.legal_size_lem) in
      omega (arith, t.0, part_room z Z planes (this_count c).few p t.1.0 b))
      (all_both _ _ (parts_of z pyramid) parts_taken (all_both _ _ (parts_of z pyramid) parts_named (parts_of_bits z Z pyramid)))

  -- all parts: 11/32 of a byte for each coefficient of each plane, and 188/32 of a byte for each part
  parts_room : 32 * length (flat part_bytes (parts_of z pyramid)) ≤ 11 * (planes * area z) + 188 * (planes * levels z)
  unfolding parts_of
  parts_room =
      let ps : List CodedPart = parts_of z pyramid in
      let n : PartName → ℕ = λ q. level_size z q.level in
      omega (
        arith,
        flat_length part_bytes ps,
        sum_times 32 (λ p. length (part_bytes p)) ps,
        sum_le (λ p. 32 * length (part_bytes p)) (λ p. 11 * n p.name + 188) ps each_room,
        sum_plus (λ p. 11 * n p.name) (λ p. 188) ps,
        sum_times 11 (λ p. n p.name) ps,
        sum_times 188 (λ p. 1) ps,
        sum_one (λ p. 1) ps (all_of _ ps (λ p. refl)),
        sum-map n (λ p. p.name) ps,
        ap (sum n) (demand2_names z planes pyramid),
        planes_hold z Z planes,
        length-map ps (λ p. p.name),
        ap length (demand2_names z planes pyramid),
        names_long (levels z) planes,
      )

  -- The record of a pyramid that coding takes is never longer.
  pub record_room : length (record_of z pyramid) ≤ enough_room z
  unfolding record_of parts_of
  record_room =
      omega (
        arith,
        length-append (header_bytes z planes) (flat part_bytes (parts_of z pyramid)),
        header_room z Z planes (this_count c).few,
        parts_room,
        mul-le-mul_right {m = planes} {n = most_planes} (area z) (this_count c).few,
        mul-le-mul {n₁ = planes} {m₁ = levels z} {n₂ = most_planes} {m₂ = 6} (this_count c).few (omega (arith, Z.few)),
      )

-- So with that much room coding never answers 5, whatever the pyramid and the size; nor does its export, with places for its answer.
room_found : {pyramid : List ℤ} {z : Size} {room work : ℕ} {y : Result (List ℕ)} → enough_room z ≤ room → CodingCase pyramid z room work y
    → verdict_number (code_answer y).verdict ≢ 5
unfolding code_answer
room_found l (SIZE n) = λ e. omega arith
room_found l (LENGTH Z n) = λ e. omega arith
room_found l (WORK Z L k) = λ e. omega arith
room_found l (RANGE Z L K f) = λ e. omega arith
room_found {pyramid} {z} l (ROOM Z L K R s) =
    λ e. omega (arith, record_room (record { legal_size_lem = size_legal z Z; sized = L; in_range = none_over most_magnitude pyramid R }))
room_found l (CODED Z L K R s) = λ e. omega arith

pub coding_room : {pyramid : List ℤ} {z : Size} {out work : List ℕ} {answer : Coded} {out' work' : List ℕ}
    → Coding pyramid z out work answer out' work' → enough_room z ≤ length out → verdict_number answer.verdict ≢ 5
coding_room {pyramid} {z} {out} {work} x l = rw x.answers (room_found l (coding_case pyramid z (length out) (length work)))

pub afs_code_room : {pyramid : List ℤ} {z : Size} {out work answer : List ℕ} {number : ℕ} {out' work' answer' : List ℕ}
    → AfsCode pyramid z out work answer number out' work' answer' → enough_room z ≤ length out → code_places ≤ length answer → number ≢ 5
afs_code_room x l places = let a = afs_code_codes x places in rw a.2 (coding_room a.1 l)

-- And what it takes it codes.
pub coding_accepts : {pyramid : List ℤ} {z : Size} {out work : List ℕ} {answer : Coded} {out' work' : List ℕ}
    → Coding pyramid z out work answer out' work' → Codable z pyramid → enough_room z ≤ length out → work_for z ≤ length work → answer.verdict ≡ Accepted
unfolding code_answer
coding_accepts {pyramid} {z} {out} {work} x c room enough =
    let fits : length (record_of z pyramid) ≤ length out = omega (arith, record_room c) in
    let coded : coding pyramid z (length out) (length work) ≡ accepted (record_of z pyramid) = codable_coded c (length out) (length work) fits enough in
    ap (λ a. a.verdict) x.answers ∙ ap (λ y. (code_answer y).verdict) coded
