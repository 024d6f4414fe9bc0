-- How far a printed pixel may be from the recorded one: the theorems of Distance.
use Rattle.std.specs.Prelude.{◌≡◌, refl, List, length, get_or, ℤ, pos}
use Rattle.std.proofs.Common.{ap₂, sym, ◌∙◌, pow-suc, mul_comm, pow_pos, shr-shr, lt-ltb}
use Prim.Native.Nat.{ℕ, zero, suc, ◌+◌, ◌-◌, ◌*◌, ◌/◌, ◌%◌, ◌^◌, ◌≤◌, ◌<◌}
use native.Mathlib.Omega.{arith}
use Rattle.std.proofs.Math.Nat.{div-one}
use Rattle.std.proofs.Math.Arith.{digits_lt}
use Rattle.std.proofs.Math.Pow.{shr_le, field}
use Rattle.rules.specs.declared.Size.{Size}
use Rattle.rules.specs.Document.Pyramid.{area, index, row, column, magnitude, levels, level_of}
use Rattle.rules.proofs.Laws.Family.Sizes.{side_falls, side_some}
use Rattle.rules.specs.Promises.Vocabulary.{Side, Legal}
use Rattle.rules.specs.Laws.Offspring.Level.{Within}
use Rattle.rules.proofs.Laws.Offspring.Level.{within_over, outside_level, level_most, row_lt, column_lt}
use Rattle.rules.proofs.Laws.Offspring.Block.{row_index, column_index}
use Rattle.pictures.specs.Document.Lifting.{Grid, turn_back, back, grid_of, list_of, picture_of}
use Rattle.pictures.proofs.Laws.Grids.{list_length, list_at, grid_list, back_same}
use Rattle.pictures.specs.Laws.Turns.{back_most, returned}
use Rattle.pictures.proofs.Laws.Turns.{turn_back_outside, back_bands, returned_back, returned_unturned}
use Rattle.pictures.specs.Laws.Room.{most_turns, most_back}
use Rattle.pictures.specs.Laws.Distance.{Nearby, share, shares, farthest, halved, top_left, small_picture, Pyramids}
use Rattle.pictures.specs.Laws.NearBlocks.{joined_far, Blocks}
use Rattle.pictures.proofs.Laws.NearBlocks.{joined_far_none, joined_far_some, join_near}
use Rattle.pictures.specs.Laws.Error.{NearPyramids}

-- A level that is there to plane m: its numbers are less than 2^m from the recorded ones.
joined_far_share : (a m : ℕ) → joined_far a (2 ^ m - 1) ≡ a + share m
unfolding share
joined_far_share a zero = joined_far_none a ∙ omega arith
joined_far_share a (suc m) =
    let p : 0 < 2 ^ m = pow_pos m in
    rw (lt-ltb 0 (suc m) (omega arith)) (omega (arith, pow-suc 2 m, joined_far_some a (2 ^ suc m - 1) (omega (arith, pow-suc 2 m))))

module _ (z : Size) (plane : ℕ → ℕ) where
  farthest_band : (l : ℕ) → l ≡ z.n → farthest z plane l ≡ 2 ^ plane (levels z) - 1
  unfolding farthest shares
  farthest_band l h = let e : z.n - l ≡ 0 = omega arith in rw e (omega arith)

  farthest_turn : (l : ℕ) → l < z.n → farthest z plane l ≡ farthest z plane (suc l) + share (plane (suc l))
  unfolding farthest shares
  farthest_turn l h = let e : z.n - l ≡ suc (z.n - suc l) = omega arith in rw e (omega arith)

-- The level of a place, by the blocks of the turns.
module _ (z : Size) (i j : ℕ) (b : j < z.w) where
  place_within : (k : ℕ) → i < z.h / 2 ^ k → j < z.w / 2 ^ k → Within z k (index z i j)
  place_within k p q = rw (row_index z i j b, column_index z i j b) (p, q)

  level_of_band : i < z.h / 2 ^ z.n → j < z.w / 2 ^ z.n → level_of z (index z i j) ≡ levels z
  level_of_band p q = omega (arith, level_most z (index z i j), within_over z z.n (index z i j) (omega arith) (place_within z.n p q))

  level_of_turn : (l : ℕ) → l < z.n → i < z.h / 2 ^ l → j < z.w / 2 ^ l → (i < z.h / 2 ^ suc l → j < z.w / 2 ^ suc l → ⊥)
      → level_of z (index z i j) ≡ suc l
  level_of_turn l h p q o =
      let outside : Within z (suc l) (index z i j) → ⊥ =
      λ w. let v : _ = rw (row_index z i j b, column_index z i j b) at w in o v.0 v.1 in
      omega (arith, within_over z l (index z i j) (omega arith) (place_within l p q), outside_level z (suc l) (index z i j) outside)

-- What no turn has come to yet is as it was.
returned_outside : (k : ℕ) (z : Size) (g : Grid) (l i j : ℕ) → k + l ≡ z.n → (i < z.h / 2 ^ l → j < z.w / 2 ^ l → ⊥)
    → returned z k g i j ≡ g i j
unfolding returned
returned_outside zero z g l i j e o = refl
returned_outside (suc k) z g l i j e o =
    let f : z.n - suc k ≡ l = omega arith in
    let h : z.h / 2 ^ suc l ≤ z.h / 2 ^ l = side_falls z.h l (suc l) (omega arith) in
    let w : z.w / 2 ^ suc l ≤ z.w / 2 ^ l = side_falls z.w l (suc l) (omega arith) in
    rw f (turn_back_outside z l (returned z k g) i j o)
    ∙ returned_outside k z g (suc l) i j (omega arith) (λ p q. o (omega (arith, h)) (omega (arith, w)))

module _ (z : Size) (Z : Legal z) (few_turns : z.n ≤ most_turns) (plane : ℕ → ℕ) (g g' : Grid) (P : Pyramids z plane g g') where
  abbrev NearAt : ℕ → ℕ → Type 0
  NearAt k l = (i j : ℕ) → i < z.h / 2 ^ l → j < z.w / 2 ^ l → Nearby (farthest z plane l) (returned z k g i j) (returned z k g' i j)

  near_outside : (k l : ℕ) → k + suc l ≡ z.n → (i j : ℕ) → i < z.h / 2 ^ l → j < z.w / 2 ^ l
      → (i < z.h / 2 ^ suc l → j < z.w / 2 ^ suc l → ⊥) → Nearby (2 ^ plane (suc l) - 1) (returned z k g i j) (returned z k g' i j)
  near_outside k l e i j p q o =
      let a : i < z.h = omega (arith, shr_le z.h l) in
      let b : j < z.w = omega (arith, shr_le z.w l) in
      rw (returned_outside k z g (suc l) i j e o, returned_outside k z g' (suc l) i j e o, ← (level_of_turn z i j b l (omega arith) p q o))
      (P.near i j a b)

  near_blocks : (k l : ℕ) → k + suc l ≡ z.n → NearAt k (suc l)
      → Blocks (z.h / 2 ^ l) (z.w / 2 ^ l) (back_most most_back k) most_back (farthest z plane (suc l)) (2 ^ plane (suc l) - 1)
      (returned z k g) (returned z k g')
  near_blocks k l e before =
      let h : z.h / 2 ^ l / 2 ≡ z.h / 2 ^ suc l = omega (arith, Z.height.half l (omega arith)) in
      let w : z.w / 2 ^ l / 2 ≡ z.w / 2 ^ suc l = omega (arith, Z.width.half l (omega arith)) in
      record {
        bands = back_bands z Z most_back k l (omega arith) _ (returned_unturned z g k Z most_back (suc l) P.few (omega arith) e);
        bands' = back_bands z Z most_back k l (omega arith) _ (returned_unturned z g' k Z most_back (suc l) P.few' (omega arith) e);
        lows_near = rw (h, w) before;
        highs_near = rw (h, w) (near_outside k l e);
      }

  near_at : (k l : ℕ) → k + l ≡ z.n → NearAt k l
  unfolding returned
  near_at zero l e i j p q =
      let n : l ≡ z.n = omega arith in
      let b : j < z.w = omega (arith, shr_le z.w l) in
      let v : level_of z (index z i j) ≡ levels z = level_of_band z i j b (rw (← n) p) (rw (← n) q) in
      rw (farthest_band z plane l n, ← v) (P.near i j (omega (arith, shr_le z.h l)) b)
  near_at (suc k) l e i j p q =
      let f : z.n - suc k ≡ l = omega arith in
      rw (f, farthest_turn z plane l (omega arith), ← (joined_far_share (farthest z plane (suc l)) (plane (suc l))))
      (join_near z Z l (omega arith) (back_most most_back k) most_back (farthest z plane (suc l)) (2 ^ plane (suc l) - 1)
      (returned z k g) (returned z k g') (omega arith) (omega arith) (near_blocks k l (omega arith) (near_at k (suc l) (omega arith))) i j p q)

halved_turn : (z : Size) (s l : ℕ) (g : Grid) → turn_back (halved z s) l g ≡ turn_back z (s + l) g
unfolding halved turn_back
halved_turn z s l g = rw (shr-shr z.h s l, shr-shr z.w s l)

halved_returned : (k : ℕ) (z : Size) (s : ℕ) (g : Grid) → k + s ≤ z.n → returned (halved z s) k g ≡ returned z k g
unfolding halved returned
halved_returned zero z s g h = refl
halved_returned (suc k) z s g h =
    let e : s + (z.n - s - suc k) ≡ z.n - suc k = omega arith in
    halved_turn z s (z.n - s - suc k) (returned (halved z s) k g)
    ∙ ap₂ (turn_back z) e (halved_returned k z s g (omega arith))

halved_back : (z : Size) (s : ℕ) (g : Grid) → s ≤ z.n → back (halved z s) (z.n - s) g ≡ returned z (z.n - s) g
unfolding halved
halved_back z s g h = sym (returned_back (halved z s) g) ∙ halved_returned (z.n - s) z s g (omega arith)

-- Pictures, by row and column: coefficients of level k less than 2 ^ plane k from each other make pictures, halved s times, that are no
-- farther from each other than this.
pub picture_near : (z : Size) → Legal z → z.n ≤ most_turns → (plane : ℕ → ℕ) (g g' : Grid) → Pyramids z plane g g'
    → (s : ℕ) → s ≤ z.n → (i j : ℕ) → i < z.h / 2 ^ s → j < z.w / 2 ^ s
    → Nearby (farthest z plane s) (back (halved z s) (z.n - s) g i j) (back (halved z s) (z.n - s) g' i j)
picture_near z Z few plane g g' P s h i j p q =
    rw (halved_back z s g h, halved_back z s g' h) (near_at z Z few plane g g' P (z.n - s) s (omega arith) i j p q)

-- A picture halved fewer than N times has a legal size.
halved_side : (n x s : ℕ) → s < n → Side n x → Side (n - s) (x / 2 ^ s)
halved_side n x s h S =
    record {
      least = omega (arith, S.half s (omega arith), S.half (suc s) (omega arith), side_some n x S (suc (suc s)) (omega arith));
      most = omega (arith, shr_le x s, S.most);
      multiple = multiple;
      half = λ k l. let e : s + suc k ≡ suc (s + k) = omega arith in rw (shr-shr x s k, shr-shr x s (suc k), e) (S.half (s + k) (omega arith));
    }
  where
    multiple : x / 2 ^ s % 2 ^ (n - s + 1) ≡ 0
    multiple =
        let e : n - s + 1 + s ≡ n + 1 = omega arith in
        let d : 0 / 2 ^ s ≤ 0 = shr_le 0 s in
        sym (field x (n - s + 1) s) ∙ rw (e, S.multiple) (omega arith)

pub halved_legal : (z : Size) → Legal z → (s : ℕ) → s < z.n → Legal (halved z s)
unfolding halved
halved_legal z Z s h =
    record {
      some = omega arith;
      few = omega (arith, Z.few);
      width = halved_side z.n z.w s h Z.width;
      height = halved_side z.n z.h s h Z.height;
    }

small_at : (z : Size) → Legal z → (s : ℕ) → s < z.n → (y : List ℤ) (q : ℕ) → q < area (halved z s)
    → get_or (small_picture z s y) q (pos 0) ≡ back (halved z s) (z.n - s) (grid_of z.w y) (row (halved z s) q) (column (halved z s) q)
unfolding halved top_left small_picture picture_of
small_at z Z s less y q h =
    let x : Size = halved z s in
    let X : Legal x = halved_legal z Z s less in
    let g : Grid = grid_of z.w y in
    list_at x (back x x.n (grid_of x.w (list_of x g))) q h
    ∙ back_same x X x.n (omega arith) (grid_of x.w (list_of x g)) g (grid_list x g) (row x q) (column x q) (row_lt x X q h) (column_lt x X q)

pub top_left_length : (z : Size) (s : ℕ) (y : List ℤ) → length (top_left z s y) ≡ area (halved z s)
unfolding top_left
top_left_length z s y = list_length (halved z s) (grid_of z.w y)

pub top_left_most : (z : Size) → Legal z → (s : ℕ) → s < z.n → (y : List ℤ) (m : ℕ) → ((q : ℕ) → q < area z → magnitude y q ≤ m)
    → (q : ℕ) → q < area (halved z s) → magnitude (top_left z s y) q ≤ m
unfolding halved top_left grid_of magnitude
top_left_most z Z s less y m few q h =
    let x : Size = halved z s in
    let X : Legal x = halved_legal z Z s less in
    let a : row x q < z.h = omega (arith, row_lt x X q h, shr_le z.h s) in
    let b : column x q < z.w = omega (arith, column_lt x X q, shr_le z.w s) in
    rw (list_at x (grid_of z.w y) q h) (few (row x q * z.w + column x q) (omega (arith, digits_lt a b, mul_comm z.h z.w)))

module _ (z : Size) (Z : Legal z) (few_turns : z.n ≤ most_turns) (plane : ℕ → ℕ) (p p' : List ℤ) (P : NearPyramids z plane p p') where
  inside : (i j : ℕ) → i < z.h → j < z.w → i * z.w + j < area z
  inside i j a b = omega (arith, digits_lt a b, mul_comm z.h z.w)

  grids : Pyramids z plane (grid_of z.w p) (grid_of z.w p')
  unfolding grid_of magnitude
  grids =
      record {
        few = λ i j a b. P.few (i * z.w + j) (inside i j a b);
        few' = λ i j a b. P.few' (i * z.w + j) (inside i j a b);
        near = λ i j a b. P.near (i * z.w + j) (inside i j a b);
      }

  pub pictures_near : (q : ℕ) → q < area z → Nearby (farthest z plane 0) (get_or (picture_of z p) q (pos 0)) (get_or (picture_of z p') q (pos 0))
  unfolding picture_of
  pictures_near q h =
      rw (
        list_at z (back z z.n (grid_of z.w p)) q h,
        list_at z (back z z.n (grid_of z.w p')) q h,
        ← (returned_back z (grid_of z.w p)),
        ← (returned_back z (grid_of z.w p')),
      )
      (near_at z Z few_turns plane (grid_of z.w p) (grid_of z.w p') grids z.n 0 (omega arith) (row z q) (column z q)
      (omega (arith, row_lt z Z q h, div-one z.h)) (omega (arith, column_lt z Z q, div-one z.w)))

  pub small_near : (s : ℕ) → s < z.n → (q : ℕ) → q < area (halved z s)
      → Nearby (farthest z plane s) (get_or (small_picture z s p) q (pos 0)) (get_or (small_picture z s p') q (pos 0))
  unfolding halved
  small_near s less q h =
      let Y : Legal (halved z s) = halved_legal z Z s less in
      rw (small_at z Z s less p q h, small_at z Z s less p' q h)
      (picture_near z Z few_turns plane (grid_of z.w p) (grid_of z.w p') grids s (omega arith) (row (halved z s) q) (column (halved z s) q)
      (row_lt (halved z s) Y q h) (column_lt (halved z s) Y q))
