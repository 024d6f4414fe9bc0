-- Two pyramids that are near each other, and what a turn back makes of them.
use Rattle.std.specs.Prelude.{◌≡◌, refl}
use Rattle.std.proofs.Common.{sym, lt-ltb}
use Prim.Native.Nat.{ℕ, zero, suc, ◌+◌, ◌*◌, ◌/◌, ◌^◌, ◌≤◌, ◌<◌}
use native.Mathlib.Omega.{arith}
use Rattle.rules.specs.declared.Size.{Size}
use Rattle.rules.specs.Promises.Vocabulary.{Legal}
use Rattle.pictures.specs.Document.Lifting.{Grid, joined, rows_joined, turn_back}
use Rattle.pictures.proofs.Laws.Reversible.{rows_inside, columns_inside, even_rows, even_columns}
use Rattle.pictures.specs.Laws.Growth.{roomy, joined_most}
use Rattle.pictures.proofs.Laws.Turns.{rows_joined_upper, rows_joined_lower}
use Rattle.pictures.specs.Laws.Distance.{Nearby}
use Rattle.pictures.specs.Laws.NearLines.{line_far}
use Rattle.pictures.proofs.Laws.NearLines.{line_far_none, line_far_some, joined_near}
use Rattle.pictures.specs.Laws.NearBlocks.{Blocks, joined_far}

pub joined_far_none : (a : ℕ) → joined_far a 0 ≡ a
unfolding joined_far
joined_far_none a = refl

pub joined_far_some : (a c : ℕ) → 0 < c → joined_far a c ≡ a + 3 * c + 3
unfolding joined_far
joined_far_some a c h = rw (lt-ltb 0 c h)

-- rows, then columns
joined_far_lines : (a c : ℕ) → line_far (line_far a c) (line_far c c) ≡ joined_far a c
joined_far_lines a zero = rw (line_far_none 0, line_far_none a, line_far_none a) (sym (joined_far_none a))
joined_far_lines a (suc c) =
    let h : 0 < suc c = omega arith in
    let l : line_far (suc c) (suc c) ≡ suc c + suc c + 1 = line_far_some (suc c) (suc c) h in
    omega (arith, l, line_far_some a (suc c) h, joined_far_some a (suc c) h, line_far_some (line_far a (suc c)) (line_far (suc c) (suc c)) (omega arith))

module _ (h w s b a c : ℕ) (g g' : Grid) (s-room : s ≤ roomy) (b-room : b ≤ roomy) (B : Blocks h w s b a c g g') (e : w ≡ 2 * (w / 2)) where
  rows_upper_near : (i j : ℕ) → i < h / 2 → j < w → Nearby (line_far a c) (rows_joined h w g i j) (rows_joined h w g' i j)
  rows_upper_near i j p q =
      rw (rows_inside joined h w g i j (omega arith) q, rows_inside joined h w g' i j (omega arith) q)
      (joined_near (w / 2) s b a c (g i) (g' i) s-room b-room
      (record {
        lows = λ k l. B.bands.lows i k p l;
        highs = λ k l. B.bands.highs i (w / 2 + k) (omega arith) (omega arith) (λ u v. omega arith);
        lows' = λ k l. B.bands'.lows i k p l;
        highs' = λ k l. B.bands'.highs i (w / 2 + k) (omega arith) (omega arith) (λ u v. omega arith);
        lows_near = λ k l. B.lows_near i k p l;
        highs_near = λ k l. B.highs_near i (w / 2 + k) (omega arith) (omega arith) (λ u v. omega arith);
      }) j (omega arith))

  rows_lower_near : (i j : ℕ) → h / 2 ≤ i → i < h → j < w → Nearby (line_far c c) (rows_joined h w g i j) (rows_joined h w g' i j)
  rows_lower_near i j n p q =
      rw (rows_inside joined h w g i j p q, rows_inside joined h w g' i j p q)
      (joined_near (w / 2) b b c c (g i) (g' i) b-room b-room
      (record {
        lows = λ k l. B.bands.highs i k p (omega arith) (λ u v. omega arith);
        highs = λ k l. B.bands.highs i (w / 2 + k) p (omega arith) (λ u v. omega arith);
        lows' = λ k l. B.bands'.highs i k p (omega arith) (λ u v. omega arith);
        highs' = λ k l. B.bands'.highs i (w / 2 + k) p (omega arith) (λ u v. omega arith);
        lows_near = λ k l. B.highs_near i k p (omega arith) (λ u v. omega arith);
        highs_near = λ k l. B.highs_near i (w / 2 + k) p (omega arith) (λ u v. omega arith);
      }) j (omega arith))

module _ (z : Size) (Z : Legal z) (l : ℕ) (n : l ≤ z.n) (s b a c : ℕ) (g g' : Grid) where
  pub join_near : joined_most s b ≤ roomy → joined_most b b ≤ roomy → Blocks (z.h / 2 ^ l) (z.w / 2 ^ l) s b a c g g'
      → (i j : ℕ) → i < z.h / 2 ^ l → j < z.w / 2 ^ l → Nearby (joined_far a c) (turn_back z l g i j) (turn_back z l g' i j)
  unfolding turn_back
  join_near s-room b-room B i j p q =
      let h : ℕ = z.h / 2 ^ l in
      let w : ℕ = z.w / 2 ^ l in
      let e : w ≡ 2 * (w / 2) = even_columns z Z l n in
      let f : h ≡ 2 * (h / 2) = even_rows z Z l n in
      let sr : s ≤ roomy = omega arith in
      let br : b ≤ roomy = omega arith in
      rw (columns_inside joined h w (rows_joined h w g) i j p q, columns_inside joined h w (rows_joined h w g') i j p q, ← (joined_far_lines a c))
      (joined_near (h / 2) (joined_most s b) (joined_most b b) (line_far a c) (line_far c c)
      (λ k. rows_joined h w g k j) (λ k. rows_joined h w g' k j) s-room b-room
      (record {
        lows = λ k m. rows_joined_upper h w s b g sr br B.bands e k j m q;
        highs = λ k m. rows_joined_lower h w s b g sr br B.bands e (h / 2 + k) j (omega arith) (omega arith) q;
        lows' = λ k m. rows_joined_upper h w s b g' sr br B.bands' e k j m q;
        highs' = λ k m. rows_joined_lower h w s b g' sr br B.bands' e (h / 2 + k) j (omega arith) (omega arith) q;
        lows_near = λ k m. rows_upper_near h w s b a c g g' sr br B e k j m q;
        highs_near = λ k m. rows_lower_near h w s b a c g g' sr br B e (h / 2 + k) j (omega arith) (omega arith) q;
      }) i (omega arith))
