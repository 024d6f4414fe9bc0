-- How great numbers can become, turn by turn, on the way in and on the way back.
use Rattle.std.specs.Prelude.{◌≡◌, List, nat_abs}
use Rattle.std.proofs.Math.Path.{ap, subst}
use Rattle.std.proofs.Common.{sym, ◌∙◌, mul_comm}
use Prim.Native.Nat.{ℕ, zero, suc, ◌+◌, ◌-◌, ◌*◌, ◌/◌, ◌^◌, ◌≤◌, ◌<◌}
use native.Mathlib.Omega.{arith}
use Rattle.std.proofs.Math.Decide.{dec_lt}
use Rattle.std.proofs.Math.Nat.{div-one}
use Rattle.std.proofs.Math.Arith.{digits_lt}
use Rattle.std.proofs.lemmas.Nat.{shr_le}
use Rattle.rules.specs.declared.Size.{Size}
use Rattle.rules.proofs.Laws.Family.Sizes.{side_falls}
use Rattle.rules.specs.Promises.Vocabulary.{Legal}
use Rattle.pictures.specs.Document.Lifting.{Grid, split, joined, columns_split, rows_split, rows_joined, turn, turn_back, forward, back, grey_of}
use Rattle.pictures.proofs.Laws.Reversible.{by_block, rows_inside, rows_outside, columns_inside, columns_outside, even_rows, even_columns}
use Rattle.pictures.specs.Laws.Growth.{roomy, low_most, joined_most}
use Rattle.pictures.proofs.Laws.Growth.{split_low_most, split_most, joined_most_lem}
use Rattle.pictures.specs.Laws.Turns.{Most, most_pixel, Pixels, Bands, grown, back_most, Unturned, returned}

pub grey_most : (z : Size) (pixels : List ℕ) → Pixels z pixels → Most z.h z.w most_pixel (grey_of z.w pixels)
unfolding grey_of
grey_most z pixels p i j a b = p (i * z.w + j) (omega (arith, digits_lt a b, mul_comm z.h z.w))

-- A block of h rows and w columns that is split, the rows being those of a block of more rows.
module _ (h w r : ℕ) (g : Grid) (room : r ≤ roomy) (few : Most h w r g) where
  pub columns_split_low : h ≡ 2 * (h / 2) → Most (h / 2) w (low_most r) (columns_split h w g)
  columns_split_low e i j a b =
      rw (columns_inside split h w g i j (omega arith) b)
      (split_low_most (h / 2) (λ k. g k j) r room (λ k l. few k j (omega arith) b) i a)

  pub columns_split_most : h ≡ 2 * (h / 2) → Most h w (2 * r) (columns_split h w g)
  columns_split_most e i j a b =
      rw (columns_inside split h w g i j a b)
      (split_most (h / 2) (λ k. g k j) r room (λ k l. few k j (omega arith) b) i (omega arith))

  pub rows_split_low : (H : ℕ) → h ≤ H → w ≡ 2 * (w / 2) → Most h (w / 2) (low_most r) (rows_split H w g)
  rows_split_low H l e i j a b =
      rw (rows_inside split H w g i j (omega arith) (omega arith))
      (split_low_most (w / 2) (g i) r room (λ k m. few i k a (omega arith)) j b)

  pub rows_split_most : (H : ℕ) → h ≤ H → w ≡ 2 * (w / 2) → Most h w (2 * r) (rows_split H w g)
  rows_split_most H l e i j a b =
      rw (rows_inside split H w g i j (omega arith) b)
      (split_most (w / 2) (g i) r room (λ k m. few i k a (omega arith)) j (omega arith))

pub bands_most : (h w s b : ℕ) (g : Grid) → b ≤ s → Bands h w s b g → Most h w s g
bands_most h w s b g l B i j c d = by_block (h / 2) (w / 2) i j (λ p q. B.lows i j p q) (λ o. omega (arith, B.highs i j c d o))

module _ (h w s b : ℕ) (g : Grid) (s-room : s ≤ roomy) (b-room : b ≤ roomy) (B : Bands h w s b g) (e : w ≡ 2 * (w / 2)) where
  pub rows_joined_upper : Most (h / 2) w (joined_most s b) (rows_joined h w g)
  rows_joined_upper i j a c =
      rw (rows_inside joined h w g i j (omega arith) c)
      (joined_most_lem (w / 2) (g i) s b s-room b-room
      (λ k l. B.lows i k a l)
      (λ k l. B.highs i (w / 2 + k) (omega arith) (omega arith) (λ p q. omega arith)) j (omega arith))

  pub rows_joined_lower : (i j : ℕ) → h / 2 ≤ i → i < h → j < w → nat_abs (rows_joined h w g i j) ≤ joined_most b b
  rows_joined_lower i j l a c =
      rw (rows_inside joined h w g i j a c)
      (joined_most_lem (w / 2) (g i) b b b-room b-room
      (λ k m. B.highs i k a (omega arith) (λ p q. omega arith))
      (λ k m. B.highs i (w / 2 + k) a (omega arith) (λ p q. omega arith)) j (omega arith))

  pub rows_joined_most : b ≤ s → Most h w (joined_most s b) (rows_joined h w g)
  rows_joined_most l i j a c = by (dec_lt i (h / 2))
    where
      by : Dec (i < h / 2) → nat_abs (rows_joined h w g i j) ≤ joined_most s b
      by (yes p) = rows_joined_upper i j p c
      by (no p) = omega (arith, rows_joined_lower i j (omega arith) a c)

module _ (z : Size) (Z : Legal z) where
  abbrev rows_at : ℕ → ℕ
  rows_at l = z.h / 2 ^ l

  abbrev columns_at : ℕ → ℕ
  columns_at l = z.w / 2 ^ l

  -- The way in: the lows, which are the next turn's block, grow by half and by half again.
  module _ (l : ℕ) (a : l ≤ z.n) (r : ℕ) (g : Grid) (room : 2 * r ≤ roomy) (few : Most (rows_at l) (columns_at l) r g) where
    pub turn_low : Most (rows_at (suc l)) (columns_at (suc l)) (low_most (low_most r)) (turn z l g)
    unfolding turn
    turn_low i j c d =
        rows_split_low (rows_at l / 2) (columns_at l) (low_most r) (columns_split (rows_at l) (columns_at l) g) (omega arith)
        (columns_split_low (rows_at l) (columns_at l) r g (omega arith) few (even_rows z Z l a))
        (rows_at l) (omega arith) (even_columns z Z l a) i j
        (omega (arith, Z.height.half l a)) (omega (arith, Z.width.half l a))

    pub turn_most : Most (rows_at l) (columns_at l) (4 * r) (turn z l g)
    unfolding turn
    turn_most i j c d =
        omega (
          arith,
          rows_split_most (rows_at l) (columns_at l) (2 * r) (columns_split (rows_at l) (columns_at l) g) room
              (columns_split_most (rows_at l) (columns_at l) r g (omega arith) few (even_rows z Z l a))
              (rows_at l) (omega arith) (even_columns z Z l a) i j c d,
        )

  -- The way back: the lows grow by less than six times the highs.
  module _ (l : ℕ) (a : l ≤ z.n) (s b : ℕ) (g : Grid) (s-room : joined_most s b ≤ roomy) (b-room : joined_most b b ≤ roomy)
      (B : Bands (rows_at l) (columns_at l) s b g) where
    pub turn_back_most : Most (rows_at l) (columns_at l) (joined_most (joined_most s b) (joined_most b b)) (turn_back z l g)
    unfolding turn_back
    turn_back_most i j c d =
        let h : ℕ = rows_at l in
        let w : ℕ = columns_at l in
        let e : w ≡ 2 * (w / 2) = even_columns z Z l a in
        let f : h ≡ 2 * (h / 2) = even_rows z Z l a in
        rw (columns_inside joined h w (rows_joined h w g) i j c d)
        (joined_most_lem (h / 2) (λ k. rows_joined h w g k j) (joined_most s b) (joined_most b b) s-room b-room
        (λ k m. rows_joined_upper h w s b g (omega arith) (omega arith) B e k j m d)
        (λ k m. rows_joined_lower h w s b g (omega arith) (omega arith) B e (h / 2 + k) j (omega arith) (omega arith) d) i (omega arith))

-- Outside of its block a turn changes nothing.
module _ (z : Size) (l : ℕ) (g : Grid) (i j : ℕ) (o : i < z.h / 2 ^ l → j < z.w / 2 ^ l → ⊥) where
  pub turn_outside : turn z l g i j ≡ g i j
  unfolding turn
  turn_outside = rows_outside split _ _ _ i j o ∙ columns_outside split _ _ g i j o

  pub turn_back_outside : turn_back z l g i j ≡ g i j
  unfolding turn_back
  turn_back_outside = columns_outside joined _ _ _ i j o ∙ rows_outside joined _ _ g i j o

grown_least : (l r : ℕ) → r ≤ grown l r
unfolding grown
grown_least zero r = omega arith
grown_least (suc l) r = omega (arith, grown_least l r)

low_most_more : (a b : ℕ) → a ≤ b → low_most a ≤ low_most b
low_most_more a b h = omega arith

pub grown_more : (k l r : ℕ) → k ≤ l → grown k r ≤ grown l r
unfolding grown
grown_more zero l r h = grown_least l r
grown_more (suc k) zero r h = absurd (omega arith)
grown_more (suc k) (suc l) r h = low_most_more _ _ (low_most_more _ _ (grown_more k l r (omega arith)))

module _ (z : Size) (Z : Legal z) (r : ℕ) (g : Grid) (few : Most z.h z.w r g) where
  pub forward_low : (l : ℕ) → l ≤ z.n → 2 * grown l r ≤ roomy → Most (z.h / 2 ^ l) (z.w / 2 ^ l) (grown l r) (forward z l g)
  unfolding grown forward
  forward_low zero a room = λ i j c d. few i j (omega (arith, div-one z.h)) (omega (arith, div-one z.w))
  forward_low (suc l) a room =
      turn_low z Z l (omega arith) (grown l r) (forward z l g) (omega arith) (forward_low l (omega arith) (omega arith))

  pub forward_most : (l m : ℕ) → l ≤ z.n → l ≤ suc m → 2 * grown m r ≤ roomy → Most z.h z.w (4 * grown m r) (forward z l g)
  unfolding forward
  forward_most zero m a b room i j c d = omega (arith, few i j c d, grown_least m r)
  forward_most (suc l) m a b room i j c d =
      let k : grown l r ≤ grown m r = grown_more l m r (omega arith) in
      by_block (z.h / 2 ^ l) (z.w / 2 ^ l) i j
      (λ p q. omega (arith, turn_most z Z l (omega arith) (grown l r) (forward z l g) (omega arith) (forward_low l (omega arith) (omega arith)) i j p q))
      (λ o. rw (turn_outside z l (forward z l g) i j o) (forward_most l m (omega arith) (omega arith) room i j c d))

module _ (z : Size) (Z : Legal z) (b : ℕ) where
  pub back_start : (g : Grid) → Most z.h z.w b g → Unturned z b 0 z.n g
  back_start g few =
      record {
        inside = λ i j c d. omega (arith, few i j (omega (arith, shr_le z.h z.n)) (omega (arith, shr_le z.w z.n)));
        outside = λ i j c d o. few i j c d;
      }

  pub back_bands : (k l : ℕ) → l ≤ z.n → (g : Grid) → Unturned z b k (suc l) g → Bands (z.h / 2 ^ l) (z.w / 2 ^ l) (back_most b k) b g
  back_bands k l a g T =
      let h : z.h / 2 ^ l / 2 ≡ z.h / 2 ^ suc l = omega (arith, Z.height.half l a) in
      let w : z.w / 2 ^ l / 2 ≡ z.w / 2 ^ suc l = omega (arith, Z.width.half l a) in
      record {
        lows = rw (h, w) T.inside;
        highs = λ i j c d o. T.outside i j (omega (arith, shr_le z.h l)) (omega (arith, shr_le z.w l)) (λ p q. o (omega arith) (omega arith));
      }

  pub back_turn : (k l : ℕ) → l ≤ z.n → back_most b (suc k) ≤ roomy
      → (g : Grid) → Unturned z b k (suc l) g → Unturned z b (suc k) l (turn_back z l g)
  back_turn k l a room g T =
      let h : z.h / 2 ^ suc l ≤ z.h / 2 ^ l = side_falls z.h l (suc l) (omega arith) in
      let w : z.w / 2 ^ suc l ≤ z.w / 2 ^ l = side_falls z.w l (suc l) (omega arith) in
      record {
        inside = λ i j c d.
            omega (arith, turn_back_most z Z l a (back_most b k) b g (omega arith) (omega arith) (back_bands k l a g T) i j c d);
        outside = λ i j c d o. rw (turn_back_outside z l g i j o) (T.outside i j c d (λ p q. o (omega (arith, h)) (omega (arith, w))));
      }

module _ (z : Size) (g : Grid) where
  pub returned_next : (k l : ℕ) → k + suc l ≡ z.n → returned z (suc k) g ≡ turn_back z l (returned z k g)
  unfolding returned
  returned_next k l e = let f : z.n - suc k ≡ l = omega arith in ap (λ n. turn_back z n (returned z k g)) f

  returned_rest : (k l : ℕ) → k + l ≡ z.n → back z l (returned z k g) ≡ back z z.n g
  unfolding back returned
  returned_rest zero l e = let f : l ≡ z.n = omega arith in ap (λ n. back z n g) f
  returned_rest (suc k) l e =
      let f : z.n - suc k ≡ l = omega arith in
      ap (λ n. back z l (turn_back z n (returned z k g))) f ∙ returned_rest k (suc l) (omega arith)

  pub returned_back : returned z z.n g ≡ back z z.n g
  unfolding back
  returned_back = returned_rest z.n 0 (omega arith)

  pub returned_unturned : (k : ℕ) → Legal z → (b l : ℕ) → Most z.h z.w b g → back_most b k ≤ roomy → k + l ≡ z.n
      → Unturned z b k l (returned z k g)
  unfolding returned
  returned_unturned zero Z b l few room e = let f : z.n ≡ l = omega arith in subst (λ n. Unturned z b 0 n g) f (back_start z Z b g few)
  returned_unturned (suc k) Z b l few room e =
      let f : z.n - suc k ≡ l = omega arith in
      let before : Unturned z b k (suc l) (returned z k g) = returned_unturned k Z b (suc l) few (omega arith) (omega arith) in
      subst (λ n. Unturned z b (suc k) l (turn_back z n (returned z k g))) (sym f) (back_turn z Z b k l (omega arith) room (returned z k g) before)
