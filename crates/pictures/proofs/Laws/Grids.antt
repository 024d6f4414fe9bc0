-- A picture written out and read back is the picture: list_of and grid_of, and what of a picture a turn looks at.
use Rattle.std.specs.Prelude.{◌≡◌, List, map, length, get_or, ℤ}
use Rattle.std.proofs.Math.Path.{ap, sym}
use Rattle.std.proofs.Common.{ap₂, ◌∙◌, arith, mul_comm}
use Prim.Native.Nat.{ℕ, zero, suc, ◌+◌, ◌*◌, ◌/◌, ◌^◌, ◌≤◌, ◌<◌}
use Rattle.std.proofs.Math.Arith.{digits_lt}
use Rattle.std.proofs.lemmas.Nat.{shr_le}
use Rattle.std.proofs.Math.ListN.{length-map, get_or-map}
use Rattle.std.proofs.Math.Seq.{ext_get_or}
use Rattle.std.proofs.Math.IntN.{pos}
use Rattle.rules.specs.declared.Size.{Size}
use Rattle.rules.specs.Document.Pyramid.{area, row, column}
use Rattle.rules.specs.Document.Passes.{from}
use Rattle.rules.proofs.Laws.Counting.Sums.{from_length}
use Rattle.rules.specs.Promises.Vocabulary.{Legal}
use Rattle.rules.proofs.Laws.Offspring.Level.{column_lt, row_lt}
use Rattle.rules.proofs.Laws.Offspring.Block.{row_index, column_index, index_place}
use Rattle.rules.proofs.Laws.Rounding.Run.{map_from}
use Rattle.pictures.specs.Document.Lifting.{Line, Grid, split, joined, along_rows, along_columns, columns_split, rows_joined}
use Rattle.pictures.specs.Document.Lifting.{turn, turn_back, forward, back, grey_of, grid_of, list_of, pyramid_of, picture_of}
use Rattle.pictures.specs.Laws.Reversible.{Looks}
use Rattle.pictures.proofs.Laws.Reversible.{split_same, joined_same, by_block, rows_inside}
use Rattle.pictures.proofs.Laws.Reversible.{rows_outside, columns_inside, columns_outside, even_rows, even_columns, back_forward}
use Rattle.pictures.specs.Laws.Grids.{Same}

module _ (z : Size) (g : Grid) where
  pub list_length : length (list_of z g) ≡ area z
  unfolding list_of
  list_length = length-map (from 0 (area z)) (λ q. g (row z q) (column z q)) ∙ from_length 0 (area z)

  pub list_at : (q : ℕ) → q < area z → get_or (list_of z g) q (pos 0) ≡ g (row z q) (column z q)
  unfolding list_of
  list_at q h = map_from (λ q. g (row z q) (column z q)) (pos 0) 0 (area z) q h ∙ ap (λ q. g (row z q) (column z q)) (omega arith)

  pub list_grid : (i j : ℕ) → i < z.h → j < z.w → get_or (list_of z g) (i * z.w + j) (pos 0) ≡ g i j
  list_grid i j a b =
      list_at (i * z.w + j) (omega (arith, digits_lt a b, mul_comm z.h z.w)) ∙ ap₂ g (row_index z i j b) (column_index z i j b)

-- Pyramid and picture, by row and column.
module _ (z : Size) where
  pub pyramid_length : (pixels : List ℕ) → length (pyramid_of z pixels) ≡ area z
  unfolding pyramid_of
  pyramid_length pixels = list_length z (forward z z.n (grey_of z.w pixels))

  pub picture_length : (pyramid : List ℤ) → length (picture_of z pyramid) ≡ area z
  unfolding picture_of
  picture_length pyramid = list_length z (back z z.n (grid_of z.w pyramid))

pub grid_list : (z : Size) (g : Grid) → Same z.h z.w (grid_of z.w (list_of z g)) g
unfolding grid_of
grid_list z g = list_grid z g

pub list_same : (z : Size) → Legal z → (g g' : Grid) → Same z.h z.w g g' → list_of z g ≡ list_of z g'
list_same z Z g g' s =
    ext_get_or (pos 0) (list_of z g) (list_of z g') (list_length z g ∙ sym (list_length z g'))
    (λ q l.
    let h : q < area z = omega (arith, list_length z g) in
    list_at z g q h ∙ s (row z q) (column z q) (row_lt z Z q h) (column_lt z Z q) ∙ sym (list_at z g' q h))

-- What is outside of a picture doesn't matter to a turn.
module _ (f : ℕ → Line → Line) (looks : Looks f) (H W h w : ℕ) (g g' : Grid) (s : Same H W g g') where
  rows_same : w ≤ W → w ≡ 2 * (w / 2) → Same H W (along_rows f h w g) (along_rows f h w g')
  rows_same l e i j a b =
      by_block h w i j
      (λ p q.
      rows_inside f h w g i j p q
      ∙ looks (w / 2) (g i) (g' i) (λ k m. s i k a (omega arith)) j (omega arith)
      ∙ sym (rows_inside f h w g' i j p q))
      (λ o. rows_outside f h w g i j o ∙ s i j a b ∙ sym (rows_outside f h w g' i j o))

  columns_same : h ≤ H → h ≡ 2 * (h / 2) → Same H W (along_columns f h w g) (along_columns f h w g')
  columns_same l e i j a b =
      by_block h w i j
      (λ p q.
      columns_inside f h w g i j p q
      ∙ looks (h / 2) (λ r. g r j) (λ r. g' r j) (λ k m. s k j (omega arith) b) i (omega arith)
      ∙ sym (columns_inside f h w g' i j p q))
      (λ o. columns_outside f h w g i j o ∙ s i j a b ∙ sym (columns_outside f h w g' i j o))

-- In its block a turn is each column split and each row of that; back, each row joined and each column of that.
module _ (z : Size) (Z : Legal z) (l : ℕ) (n : l ≤ z.n) (g : Grid) (i j : ℕ) (a : i < z.h / 2 ^ l) (b : j < z.w / 2 ^ l) where
  pub turn_at : turn z l g i j ≡ split (z.w / 2 ^ l / 2) (λ c. split (z.h / 2 ^ l / 2) (λ r. g r c) i) j
  unfolding turn
  turn_at =
      let h : ℕ = z.h / 2 ^ l in
      let w : ℕ = z.w / 2 ^ l in
      let e : w ≡ 2 * (w / 2) = even_columns z Z l n in
      rows_inside split h w (columns_split h w g) i j a b
      ∙ split_same (w / 2) (columns_split h w g i) (λ c. split (h / 2) (λ r. g r c) i)
      (λ c m. columns_inside split h w g i c a (omega arith)) j (omega arith)

  pub turn_back_at : turn_back z l g i j ≡ joined (z.h / 2 ^ l / 2) (λ r. joined (z.w / 2 ^ l / 2) (g r) j) i
  unfolding turn_back
  turn_back_at =
      let h : ℕ = z.h / 2 ^ l in
      let w : ℕ = z.w / 2 ^ l in
      let e : h ≡ 2 * (h / 2) = even_rows z Z l n in
      columns_inside joined h w (rows_joined h w g) i j a b
      ∙ joined_same (h / 2) (λ r. rows_joined h w g r j) (λ r. joined (w / 2) (g r) j)
      (λ r m. rows_inside joined h w g r j (omega arith) b) i (omega arith)

module _ (z : Size) (Z : Legal z) where
  pub turn_back_same : (l : ℕ) → l ≤ z.n → (g g' : Grid) → Same z.h z.w g g' → Same z.h z.w (turn_back z l g) (turn_back z l g')
  unfolding turn_back
  turn_back_same l a g g' s =
      let h : ℕ = z.h / 2 ^ l in
      let w : ℕ = z.w / 2 ^ l in
      columns_same joined joined_same z.h z.w h w (rows_joined h w g) (rows_joined h w g')
      (rows_same joined joined_same z.h z.w h w g g' s (shr_le z.w l) (even_columns z Z l a)) (shr_le z.h l) (even_rows z Z l a)

  pub back_same : (l : ℕ) → l ≤ z.n → (g g' : Grid) → Same z.h z.w g g' → Same z.h z.w (back z l g) (back z l g')
  unfolding back
  back_same zero a g g' s = s
  back_same (suc l) a g g' s = back_same l (omega arith) (turn_back z l g) (turn_back z l g') (turn_back_same l (omega arith) g g' s)

  -- grey_of
  pub grey_list : (pixels : List ℕ) → length pixels ≡ area z → list_of z (grey_of z.w pixels) ≡ map pos pixels
  unfolding grey_of
  grey_list pixels e =
      ext_get_or (pos 0) (list_of z (grey_of z.w pixels)) (map pos pixels)
      (list_length z (grey_of z.w pixels) ∙ sym e ∙ sym (length-map pixels pos))
      (λ q l.
      list_at z (grey_of z.w pixels) q (omega (arith, list_length z (grey_of z.w pixels)))
      ∙ ap (λ n. pos (get_or pixels n 0)) (index_place z q)
      ∙ sym (get_or-map pos pixels q 0))

  -- The pyramid of a picture gives back its pixels, every one.
  pub pixels_return : (pixels : List ℕ) → length pixels ≡ area z → picture_of z (pyramid_of z pixels) ≡ map pos pixels
  unfolding picture_of pyramid_of
  pixels_return pixels e =
      let f : Grid = forward z z.n (grey_of z.w pixels) in
      list_same z Z (back z z.n (grid_of z.w (list_of z f))) (back z z.n f)
      (back_same z.n (omega arith) (grid_of z.w (list_of z f)) f (grid_list z f))
      ∙ ap (list_of z) (back_forward z Z z.n (omega arith) (grey_of z.w pixels))
      ∙ grey_list pixels e
