-- A level handed to the loops over its blocks, and the band to those over its rows: what they ask, and what they leave.
use mathlib.Core.Path.{◌≡◌, refl, sym, ap, ap₂, subst, ◌∙◌}
use mathlib.Core.Logic.{inl, inr}
use mathlib.Core.List.{List}
use Prim.Native.Nat.{ℕ, suc, ◌+◌, ◌*◌, ◌/◌, ◌%◌, ◌^◌, ◌≤◌, ◌<◌}
use native.Mathlib.Omega.{arith}
use native.Mathlib.Nat.{mul-le-mul}
use native.Mathlib.Numerals.{add-one}
use lib.ListN.{length, get_or}
use lib.IntN.{ℤ, pos}
use lib.Pow.{shr_le}
use Rattle.rules.specs.declared.Size.{Size}
use mathlib.Core.Bool.{true}
use Rattle.rules.specs.Document.Pyramid.{legal_size, area, levels, index}
use Rattle.rules.specs.Promises.Vocabulary.{Legal}
use Rattle.rules.specs.Laws.Family.Sizes.{span, level_start, level_size}
use Rattle.rules.proofs.Laws.Family.Sizes.{legal, level_size_top, level_size_fine, span_quarter}
use Rattle.rules.specs.Laws.Offspring.Block.{half_rows, half_columns}
use Rattle.trees.specs.Places.{band_width, raster_of}
use Rattle.trees.specs.Run.{number_of}
use Rattle.coefficients.specs.Words.{worded, value_of}
use Rattle.stretches.specs.Cut.{maxima_from}
use Rattle.stretches.specs.Levels.{words_from, blocks_from, level_before, level_blocks, stretch_room}
use Rattle.placing.specs.Stores.{Put, Apart, Under, corner_of, rank_of}
use Rattle.placing.specs.Placing.{Roomy, Given, BlocksOf, LevelPlaced, LevelCopied, LevelLaid}
use Rattle.placing.proofs.Stores.{put_none, band_stored}
use Rattle.placing.proofs.Blocks.{Storing, Laying, Grouping, grouping_none, corner_in}
use Rattle.placing.proofs.Grid.{raster_root}
use Rattle.placing.proofs.Levels.{level_placed, blocks_under, blocks_next, words_copied, values_laid, corners_in, places_under, level_apart, band_apart}
use Rattle.placing.proofs.Levels.{band_laid, band_copied}
use Rattle.placing.proofs.Band.{across, down, across_half, down_half, raster_row, numbers_apart, number_under}
use Rattle.placing.proofs.Band.{wide, least, all, rows, columns}

-- places under one bound are under a larger
under_larger : {m n from l : ℕ} {s : List ℕ} → Under m n s from → m ≤ l → Under l n s from
under_larger U h = record { under = λ b k. omega (arith, U.under b k) }

-- where a level's words and blocks lie
module _ (z : Size) (Z : Legal z) (k : ℕ) (a : 1 ≤ k) (b : k ≤ levels z) where
  words_room : words_from z k + 4 * (level_size z k / 4) ≤ blocks_from z k
  unfolding blocks_from maxima_from
  words_room = omega (arith, level_blocks z Z k a b)

  blocks_end : blocks_from z k + level_size z k / 4 ≡ 4 * level_start z k + 4 * level_size z k
  unfolding blocks_from maxima_from
  blocks_end = let w = level_blocks z Z k a b in omega arith

  blocks_begin : 4 * level_start z k ≤ blocks_from z k
  unfolding blocks_from
  blocks_begin = omega arith

  blocks_room : blocks_from z k + level_size z k / 4 ≤ 4 * area z
  blocks_room = omega (arith, blocks_end, stretch_room z Z k a b)

pub level_room : (z : Size) (k : ℕ) → (legal_size z ≡ true) × (1 ≤ k) × (k ≤ levels z) → 4 * level_start z k + 4 * level_size z k ≤ 2 ^ 20
level_room z k p = omega (arith, stretch_room z (legal z p.0) k p.1 p.2, all z p.0)

-- The blocks of a level from those of the next coarser one.
abbrev Coarser : Size → ℕ → List ℕ → Type 0
Coarser z k work = Roomy z work × (1 ≤ k) × (k < z.n) × BlocksOf z (k + 1) work

module _ {z : Size} {k : ℕ} {work : List ℕ} (p : Coarser z k work) {n from to : ℕ} (e : n ≡ level_size z (k + 1))
    (f : (from ≡ blocks_from z (k + 1)) × (from < 2 ^ 32)) (t : (to ≡ blocks_from z k) × (to < 2 ^ 32)) where
  Z : Legal z
  Z = legal z p.0.legal

  next : k + 1 ≡ suc k
  next = add-one k

  size : level_size z (k + 1) ≡ level_size z (suc k)
  size = ap (level_size z) next

  place : blocks_from z (k + 1) ≡ blocks_from z (suc k)
  place = ap (blocks_from z) next

  blocks : BlocksOf z (suc k) work
  blocks = subst (λ (j : ℕ). BlocksOf z j work) next p.3

  pub level_begun : Storing (λ p f. 2 * corner_of z.w p f) from (n / 4) to work 0 work
  level_begun =
      let q : n / 4 ≡ level_size z (suc k) / 4 = ap (λ (x : ℕ). x / 4) (e ∙ size) in
      let g : from ≡ blocks_from z (suc k) = f.0 ∙ place in
      let small : area z ≤ 262144 = all z p.0.legal in
      let ends = blocks_end z Z (suc k) (omega arith) (omega (arith, p.2)) in
      let before : from + n / 4 ≤ to =
      omega (
        arith,
        ends,
        blocks_begin z Z k p.1 (omega (arith, p.2)),
        level_before z Z (suc k) k p.1 (omega arith) (omega (arith, p.2)),
      ) in
      let room : to + 4 * (n / 4) ≤ length work =
      omega (arith, blocks_next z Z k p.1 p.2, blocks_room z Z k p.1 (omega (arith, p.2)), p.0.room, t.0) in
      record {
        read = omega arith;
        room = room;
        beside = inl before;
        places =
            subst (λ (x : ℕ). Under (2 ^ 20) (n / 4) work x) (sym g)
            (under_larger (places_under z Z (suc k) (omega arith) p.2 blocks q) (omega arith));
        stored = put_none refl;
      }

  pub level_under : {work' : List ℕ}
      → Put 0 (λ u. to + u) (4 * (n / 4)) (λ u. 2 * corner_of z.w (get_or work (from + u / 4) 0) (u % 4)) work work' → LevelPlaced z k work work'
  level_under {work'} H =
      blocks_under z Z k p.1 p.2 blocks (ap (λ (x : ℕ). x / 4) (e ∙ size))
      (subst (λ (x : ℕ). Put 0 (λ u. x + u) (4 * (n / 4)) (λ u. 2 * corner_of z.w (get_or work (blocks_from z (suc k) + u / 4) 0) (u % 4)) work work') t.0
      (subst (λ (x : ℕ). Put 0 (λ u. to + u) (4 * (n / 4)) (λ u. 2 * corner_of z.w (get_or work (x + u / 4) 0) (u % 4)) work work') (f.0 ∙ place) H))

-- The blocks of level N, from the groups.
module _ {z : Size} {work : List ℕ} (p : Roomy z work) {to : ℕ} (t : (to ≡ blocks_from z z.n) × (to < 2 ^ 32)) where
  roots : level_size z z.n / 4 ≡ 3 * (down z * across z)
  unfolding span
  roots =
      let L : Legal z = legal z p.legal in
      let s : level_size z z.n ≡ 4 * (3 * (half_rows z * half_columns z)) =
      omega (arith, level_size_fine z L z.n L.some (omega arith), span_quarter z L z.n (omega arith)) in
      omega (arith, ap₂ (λ (x y : ℕ). x * y) (down_half z) (across_half z))

  pub roots_begun : Grouping to (down z) (across z) z.w work 0 work
  roots_begun =
      let L : Legal z = legal z p.legal in
      grouping_none (omega (arith, roots, blocks_room z L z.n L.some (omega arith), p.room, t.0)) (rows z p.legal) (columns z p.legal) (wide z p.legal)

  pub roots_placed : {work' : List ℕ}
      → Put 0 (λ u. to + u) (3 * (down z * across z))
      (λ u. rank_of (2 * across z) (2 * down z * z.w) (2 * (u / 3 / across z) * z.w + 2 * (u / 3 % across z)) (u % 3)) work work'
      → LevelPlaced z z.n work work'
  roots_placed {work'} H =
      let L : Legal z = legal z p.legal in
      level_placed z L z.n L.some (omega arith)
      (subst (λ (x : ℕ). Put 0 (λ u. x + u) (3 * (down z * across z))
      (λ u. rank_of (2 * across z) (2 * down z * z.w) (2 * (u / 3 / across z) * z.w + 2 * (u / 3 % across z)) (u % 3)) work work') t.0 H)
      (sym roots)
      (λ u h.
      ap₂ (λ (c d : ℕ). rank_of (2 * c) (2 * d * z.w) (2 * (u / 3 / c) * z.w + 2 * (u / 3 % c)) (u % 3)) (across_half z) (down_half z)
      ∙ sym (raster_root z u))

-- The words of a level.
abbrev Copying : List ℤ → Size → ℕ → List ℕ → Type 0
Copying v z k work = Given v z work × (1 ≤ k) × (k ≤ z.n) × BlocksOf z k work

module _ {v : List ℤ} {z : Size} {k : ℕ} {work : List ℕ} (p : Copying v z k work) {n from to : ℕ} (e : n ≡ level_size z k) (f : from ≡ blocks_from z k)
    (t : to ≡ words_from z k) where
  pub copy_begun : Storing (λ q f. worded (get_or v (corner_of z.w q f) (pos 0))) from (n / 4) to work 0 work
  copy_begun =
      let R = p.0.roomy in
      let L : Legal z = legal z R.legal in
      let q : n / 4 ≡ level_size z k / 4 = ap (λ (x : ℕ). x / 4) e in
      let behind : to + 4 * (n / 4) ≤ from = omega (arith, words_room z L k p.1 (omega (arith, p.2))) in
      let read : from + n / 4 ≤ length work = omega (arith, blocks_room z L k p.1 (omega (arith, p.2)), R.room) in
      record {
        read = read;
        room = omega arith;
        beside = inr behind;
        places =
            subst (λ (x : ℕ). Under (2 ^ 20) (n / 4) work x) (sym f)
            (under_larger (places_under z L k p.1 p.2 p.3 q) (omega (arith, all z R.legal)));
        stored = put_none refl;
      }

  pub level_words : {work' : List ℕ}
      → Put 0 (λ u. to + u) (4 * (n / 4)) (λ u. worded (get_or v (corner_of z.w (get_or work (from + u / 4) 0) (u % 4)) (pos 0))) work work'
      → LevelCopied v z k work work'
  level_words {work'} H =
      words_copied z (legal z p.0.roomy.legal) k p.1 p.2 p.3 (ap (λ (x : ℕ). x / 4) e)
      (subst (λ (x : ℕ). Put 0 (λ u. x + u) (4 * (n / 4)) (λ u. worded (get_or v (corner_in z.w work (blocks_from z k) u) (pos 0))) work work') t
      (subst (λ (x : ℕ). Put 0 (λ u. to + u) (4 * (n / 4)) (λ u. worded (get_or v (corner_in z.w work x u) (pos 0))) work work') f H))

-- The values of a level.
abbrev LayingLevel : Size → ℕ → List ℕ → List ℤ → Type 0
LayingLevel z k work out = Roomy z work × (length out ≡ area z) × (1 ≤ k) × (k ≤ z.n) × BlocksOf z k work

module _ {z : Size} {k : ℕ} {work : List ℕ} (out : List ℤ) (p : LayingLevel z k work out) {n from words : ℕ} (e : n ≡ level_size z k)
    (f : from ≡ blocks_from z k) (t : words ≡ words_from z k) where
  pub lay_begun : Laying z.w work from (n / 4) words out 0 out
  lay_begun =
      let R = p.0 in
      let L : Legal z = legal z R.legal in
      let q : n / 4 ≡ level_size z k / 4 = ap (λ (x : ℕ). x / 4) e in
      record {
        read = omega (arith, blocks_room z L k p.2 (omega (arith, p.3)), R.room);
        before = omega (arith, words_room z L k p.2 (omega (arith, p.3)));
        wide = omega (arith, least z R.legal);
        apart =
            subst (λ (x : ℕ). Apart (corner_in z.w work x) (4 * (n / 4)) (length out)) (sym f)
            (subst (λ (m : ℕ). Apart (corner_in z.w work (blocks_from z k)) (4 * (n / 4)) m) (sym p.1) (corners_in z L k p.2 p.3 p.4 q));
        laid = put_none refl;
      }

  pub level_values : {out' : List ℤ}
      → Put (pos 0) (corner_in z.w work from) (4 * (n / 4)) (λ u. value_of (get_or work (words + u) 0)) out out' → LevelLaid z k work out out'
  level_values {out'} H =
      values_laid z (legal z p.0.legal) k p.2 p.3 p.4 (ap (λ (x : ℕ). x / 4) e)
      (subst (λ (x : ℕ). Put (pos 0) (corner_in z.w work (blocks_from z k)) (4 * (n / 4)) (λ u. value_of (get_or work (x + u) 0)) out out') t
      (subst (λ (x : ℕ). Put (pos 0) (corner_in z.w work x) (4 * (n / 4)) (λ u. value_of (get_or work (words + u) 0)) out out') f H))

-- The band, row by row.
abbrev pub band_rows : Size → ℕ
band_rows z = z.h / 2 ^ z.n

module _ (z : Size) (Z : Legal z) where
  pub band_size : band_rows z * band_width z ≡ level_size z (levels z)
  unfolding span
  band_size = sym (level_size_top z Z)

-- A row of it: its numbers, and its places.
module _ {z : Size} {work : List ℕ} (R : Roomy z work) {i : ℕ} (h : i < band_rows z) where
  pub row_numbers : Apart (λ j. number_of z (index z i j)) (band_width z) (length work)
  row_numbers = numbers_apart z (legal z R.legal) i h (length work) (omega (arith, R.room))

  pub number_inside : {j x : ℕ} (work₁ : List ℕ) → length work₁ ≡ length work → j < band_width z → x ≡ number_of z (index z i j) → x < length work₁
  number_inside {j} work₁ s l e = omega (arith, number_under z (legal z R.legal) i j h l, R.room)

  pub row_inside : i * z.w + band_width z ≤ area z
  row_inside =
      let n : suc i * z.w ≤ z.h * z.w = mul-le-mul (omega (arith, shr_le z.h z.n)) (omega arith) in
      omega (arith, shr_le z.w z.n)

abbrev pub CopyingBand : List ℤ → Size → List ℕ → ℕ → List ℕ → Type 0
CopyingBand v z work i work₁ =
    Put 0 (λ t. number_of z (raster_of z (levels z) t)) (i * band_width z) (λ t. worded (get_or v (raster_of z (levels z) t) (pos 0))) work work₁

module _ {v : List ℤ} {z : Size} {work : List ℕ} (G : Given v z work) {i : ℕ} {work₁ : List ℕ} (B : CopyingBand v z work i work₁) where
  pub band_row_copied : i < band_rows z → {work₂ : List ℕ}
      → Put 0 (λ j. number_of z (index z i j)) (band_width z) (λ j. worded (get_or v (index z i j) (pos 0))) work₁ work₂ → CopyingBand v z work (i + 1) work₂
  band_row_copied l K =
      let L : Legal z = legal z G.roomy.legal in
      band_stored (band_rows z) (band_width z) i
      (subst (λ (n : ℕ). Apart (λ t. number_of z (raster_of z (levels z) t)) n (length work)) (sym (band_size z L))
      (band_apart z L (omega (arith, G.roomy.room))))
      l B K (λ j h. ap (number_of z) (raster_row z i j h)) (λ j h. ap (λ (q : ℕ). worded (get_or v q (pos 0))) (raster_row z i j h))

  pub band_rows_copied : i ≡ band_rows z → LevelCopied v z (levels z) work work₁
  band_rows_copied h =
      let L : Legal z = legal z G.roomy.legal in band_copied z L (ap (λ (x : ℕ). x * band_width z) h ∙ band_size z L) B

abbrev pub LayingBand : Size → List ℕ → List ℤ → ℕ → List ℤ → Type 0
LayingBand z work out i out₁ =
    Put (pos 0) (raster_of z (levels z)) (i * band_width z) (λ t. value_of (get_or work (number_of z (raster_of z (levels z) t)) 0)) out out₁

module _ {z : Size} {work : List ℕ} {out : List ℤ} (p : Roomy z work × (length out ≡ area z)) {i : ℕ} {out₁ : List ℤ} (B : LayingBand z work out i out₁) where
  pub band_row_laid : i < band_rows z → {out₂ : List ℤ}
      → Put (pos 0) (index z i) (band_width z) (λ j. value_of (get_or work (number_of z (index z i j)) 0)) out₁ out₂ → LayingBand z work out (i + 1) out₂
  band_row_laid l K =
      let L : Legal z = legal z p.0.legal in
      band_stored (band_rows z) (band_width z) i
      (subst (λ (n : ℕ). Apart (raster_of z (levels z)) n (length out)) (sym (band_size z L))
      (subst (λ (m : ℕ). Apart (raster_of z (levels z)) (level_size z (levels z)) m) (sym p.1) (level_apart z L (levels z) (omega arith) (omega arith))))
      l B K (λ j h. raster_row z i j h) (λ j h. ap (λ (q : ℕ). value_of (get_or work (number_of z q) 0)) (raster_row z i j h))

  pub band_rows_laid : i ≡ band_rows z → LevelLaid z (levels z) work out out₁
  band_rows_laid h =
      let L : Legal z = legal z p.0.legal in band_laid z L (ap (λ (x : ℕ). x * band_width z) h ∙ band_size z L) B
