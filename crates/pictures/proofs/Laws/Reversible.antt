-- What is split comes back when it is joined, and what is joined when it is split: lines, blocks, turns, pictures. For any integers.
use Rattle.std.specs.Prelude.{◌≡◌, false, cond, ◌&&◌, ltb, eqb, ◌+ℤ◌}
use Rattle.std.proofs.Math.Path.{refl, ap, ap₂, fun_ext}
use Rattle.std.proofs.Common.{sym, ◌∙◌}
use Rattle.std.proofs.Math.Bool.{and_comm}
use Prim.Native.Nat.{ℕ, zero, suc, ◌+◌, ◌-◌, ◌*◌, ◌/◌, ◌%◌, ◌^◌, ◌≤◌, ◌<◌, min}
use native.Mathlib.Omega.{arith}
use Rattle.std.proofs.Math.Decide.{dec_lt}
use Rattle.std.proofs.Math.IntN.{pos, +ℤ-neg_ℤ_cancel, -ℤ-+ℤ_cancel}
use borrow.Author.Tests.{ltb-true, lt-ltb, le-ltb, eq-eqb, ne_eqb}
use Rattle.rules.specs.declared.Size.{Size}
use Rattle.rules.proofs.Laws.Counting.Booleans.{not_test, both_left, both_right}
use Rattle.rules.specs.Promises.Vocabulary.{Legal}
use Rattle.pictures.specs.Document.Lifting.{Line, Grid, half, quarter, high, low, split, even, odd, joined, along_rows, along_columns, columns_split}
use Rattle.pictures.specs.Document.Lifting.{rows_split, columns_joined, rows_joined, turn, turn_back, forward, back}
use Rattle.pictures.specs.Laws.Reversible.{Undone}

-- Where the lows and the highs of a split line stand, and the even and the odd numbers of a joined one.
module _ (m : ℕ) (x : Line) where
  pub split_low : (i : ℕ) → i < m → split m x i ≡ low m x i
  unfolding split
  split_low i h = rw (lt-ltb i m h)

  pub split_high : (i : ℕ) → split m x (m + i) ≡ high m x i
  unfolding split
  split_high i = let e : m + i - m ≡ i = omega arith in rw (le-ltb (m + i) m (omega arith), e)

  pub joined_even : (i : ℕ) → joined m x (2 * i) ≡ even m x i
  unfolding joined
  joined_even i =
      let e : 2 * i / 2 ≡ i = omega arith in
      rw (eq-eqb (2 * i % 2) 0 (omega arith), e)

  pub joined_odd : (i : ℕ) → joined m x (2 * i + 1) ≡ odd m x i
  unfolding joined
  joined_odd i =
      let e : (2 * i + 1) / 2 ≡ i = omega arith in
      rw (ne_eqb ((2 * i + 1) % 2) 0 (λ n. omega arith), e)

-- A line's halves are found of its first 2m numbers alone.
module _ (m : ℕ) (x y : Line) (same : (i : ℕ) → i < 2 * m → x i ≡ y i) where
  high_same : (i : ℕ) → i < m → high m x i ≡ high m y i
  unfolding high
  high_same i h =
      let left : x (2 * i) ≡ y (2 * i) = same (2 * i) (omega arith) in
      let here : x (2 * i + 1) ≡ y (2 * i + 1) = same (2 * i + 1) (omega arith) in
      let right : x (2 * min (i + 1) (m - 1)) ≡ y (2 * min (i + 1) (m - 1)) = same (2 * min (i + 1) (m - 1)) (omega arith) in
      cc

  low_same : (i : ℕ) → i < m → low m x i ≡ low m y i
  unfolding low
  low_same i h = rw (same (2 * i) (omega arith), high_same (i - 1) (omega arith), high_same i h)

  pub split_same : (i : ℕ) → i < 2 * m → split m x i ≡ split m y i
  split_same i h = by (dec_lt i m)
    where
      by : Dec (i < m) → split m x i ≡ split m y i
      by (yes l) = split_low m x i l ∙ low_same i l ∙ sym (split_low m y i l)
      by (no l) =
          let e : m + (i - m) ≡ i = omega arith in
          rw (← e) (split_high m x (i - m) ∙ high_same (i - m) (omega arith) ∙ sym (split_high m y (i - m)))

  even_same : (i : ℕ) → i < m → even m x i ≡ even m y i
  unfolding even
  even_same i h = rw (same i (omega arith), same (m + (i - 1)) (omega arith), same (m + i) (omega arith))

  odd_same : (i : ℕ) → i < m → odd m x i ≡ odd m y i
  unfolding odd
  odd_same i h = rw (same (m + i) (omega arith), even_same i h, even_same (min (i + 1) (m - 1)) (omega arith))

  pub joined_same : (i : ℕ) → i < 2 * m → joined m x i ≡ joined m y i
  unfolding joined
  joined_same i h = ap₂ (cond (eqb (i % 2) 0)) (even_same (i / 2) (omega arith)) (odd_same (i / 2) (omega arith))

-- Lines
module _ (m : ℕ) (x : Line) where
  even_split : (i : ℕ) → i < m → even m (split m x) i ≡ x (2 * i)
  unfolding even low
  even_split i h = rw (split_low m x i h, split_high m x (i - 1), split_high m x i) (+ℤ-neg_ℤ_cancel (x (2 * i)) _)

  odd_split : (i : ℕ) → i < m → odd m (split m x) i ≡ x (2 * i + 1)
  unfolding odd high
  odd_split i h =
      rw (split_high m x i, even_split i h, even_split (min (i + 1) (m - 1)) (omega arith))
      (-ℤ-+ℤ_cancel (x (2 * i + 1)) (half (x (2 * i) +ℤ x (2 * min (i + 1) (m - 1)))))

  pub joined_split : (i : ℕ) → i < 2 * m → joined m (split m x) i ≡ x i
  joined_split i h = by (dec_lt (i % 2) 1)
    where
      by : Dec (i % 2 < 1) → joined m (split m x) i ≡ x i
      by (yes l) =
          let e : 2 * (i / 2) ≡ i = omega arith in
          rw (← e) (joined_even m (split m x) (i / 2) ∙ even_split (i / 2) (omega arith))
      by (no l) =
          let e : 2 * (i / 2) + 1 ≡ i = omega arith in
          rw (← e) (joined_odd m (split m x) (i / 2) ∙ odd_split (i / 2) (omega arith))

  high_joined : (i : ℕ) → high m (joined m x) i ≡ x (m + i)
  unfolding high odd
  high_joined i = rw (joined_odd m x i, joined_even m x i, joined_even m x (min (i + 1) (m - 1))) (+ℤ-neg_ℤ_cancel (x (m + i)) _)

  low_joined : (i : ℕ) → low m (joined m x) i ≡ x i
  unfolding low even
  low_joined i = rw (joined_even m x i, high_joined (i - 1), high_joined i) (-ℤ-+ℤ_cancel (x i) (quarter (x (m + (i - 1)) +ℤ x (m + i) +ℤ pos 2)))

  pub split_joined : (i : ℕ) → split m (joined m x) i ≡ x i
  split_joined i = by (dec_lt i m)
    where
      by : Dec (i < m) → split m (joined m x) i ≡ x i
      by (yes l) = split_low m (joined m x) i l ∙ low_joined i
      by (no l) =
          let e : m + (i - m) ≡ i = omega arith in
          rw (← e) (split_high m (joined m x) (i - m) ∙ high_joined (i - m))

pub split_undone : Undone split joined
split_undone = record { undoes = joined_split; looks = joined_same }

pub joined_undone : Undone joined split
joined_undone = record { undoes = λ m x i h. split_joined m x i; looks = split_same }

-- A place is in the block or it isn't.
pub by_block : {X : Type 0} (h w i j : ℕ) → (i < h → j < w → X) → ((i < h → j < w → ⊥) → X) → X
by_block {X} h w i j inside outside = by (dec_lt i h) (dec_lt j w)
  where
    by : Dec (i < h) → Dec (j < w) → X
    by (yes a) (yes b) = inside a b
    by (yes a) (no b) = outside (λ c d. b d)
    by (no a) d = outside (λ c e. a c)

out_of_block : (h w i j : ℕ) → (i < h → j < w → ⊥) → ltb i h && ltb j w ≡ false
out_of_block h w i j o = not_test _ (λ e. o (ltb-true i h (both_left (ltb i h) (ltb j w) e)) (ltb-true j w (both_right (ltb i h) _ e)))

module _ (f : ℕ → Line → Line) (h w : ℕ) (g : Grid) (i j : ℕ) where
  pub rows_inside : i < h → j < w → along_rows f h w g i j ≡ f (w / 2) (g i) j
  unfolding along_rows
  rows_inside a b = rw (lt-ltb i h a, lt-ltb j w b)

  pub rows_outside : (i < h → j < w → ⊥) → along_rows f h w g i j ≡ g i j
  unfolding along_rows
  rows_outside o = rw (out_of_block h w i j o)

  pub columns_inside : i < h → j < w → along_columns f h w g i j ≡ f (h / 2) (λ r. g r j) i
  unfolding along_columns
  columns_inside a b = rw (lt-ltb i h a, lt-ltb j w b)

  pub columns_outside : (i < h → j < w → ⊥) → along_columns f h w g i j ≡ g i j
  unfolding along_columns
  columns_outside o = rw (out_of_block h w i j o)

-- Columns are the rows of the picture that is turned over.
turned : Grid → Grid
turned g i j = g j i

columns_turned : (f : ℕ → Line → Line) (h w : ℕ) (g : Grid) → along_columns f h w g ≡ turned (along_rows f w h (turned g))
unfolding along_rows along_columns turned
columns_turned f h w g = fun_ext (λ i. fun_ext (λ j. rw (and_comm (ltb i h) (ltb j w))))

module _ (f f' : ℕ → Line → Line) (U : Undone f f') where
  pub rows_undone : (h w : ℕ) (g : Grid) → w ≡ 2 * (w / 2) → along_rows f' h w (along_rows f h w g) ≡ g
  rows_undone h w g e = fun_ext (λ i. fun_ext (λ j. by_block h w i j (inside i j) (outside i j)))
    where
      inside : (i j : ℕ) → i < h → j < w → along_rows f' h w (along_rows f h w g) i j ≡ g i j
      inside i j a b =
          rows_inside f' h w (along_rows f h w g) i j a b
          ∙ U.looks (w / 2) (along_rows f h w g i) (f (w / 2) (g i)) (λ k l. rows_inside f h w g i k a (omega arith)) j (omega arith)
          ∙ U.undoes (w / 2) (g i) j (omega arith)

      outside : (i j : ℕ) → (i < h → j < w → ⊥) → along_rows f' h w (along_rows f h w g) i j ≡ g i j
      outside i j o = rows_outside f' h w (along_rows f h w g) i j o ∙ rows_outside f h w g i j o

  pub columns_undone : (h w : ℕ) (g : Grid) → h ≡ 2 * (h / 2) → along_columns f' h w (along_columns f h w g) ≡ g
  unfolding turned
  columns_undone h w g e =
      columns_turned f' h w (along_columns f h w g)
      ∙ ap (λ x. turned (along_rows f' w h (turned x))) (columns_turned f h w g)
      ∙ ap turned (rows_undone w h (turned g) e)

-- Turns and pictures
module _ (z : Size) (Z : Legal z) where
  -- the sides of each turn's block are even, and half of each is the next turn's
  pub even_rows : (l : ℕ) → l ≤ z.n → z.h / 2 ^ l ≡ 2 * (z.h / 2 ^ l / 2)
  even_rows l a = omega (arith, Z.height.half l a)

  pub even_columns : (l : ℕ) → l ≤ z.n → z.w / 2 ^ l ≡ 2 * (z.w / 2 ^ l / 2)
  even_columns l a = omega (arith, Z.width.half l a)

  pub turn_back_turn : (l : ℕ) → l ≤ z.n → (g : Grid) → turn_back z l (turn z l g) ≡ g
  unfolding turn turn_back
  turn_back_turn l a g =
      let h : ℕ = z.h / 2 ^ l in
      let w : ℕ = z.w / 2 ^ l in
      ap (columns_joined h w) (rows_undone split joined split_undone h w (columns_split h w g) (even_columns l a))
      ∙ columns_undone split joined split_undone h w g (even_rows l a)

  pub turn_turn_back : (l : ℕ) → l ≤ z.n → (g : Grid) → turn z l (turn_back z l g) ≡ g
  unfolding turn turn_back
  turn_turn_back l a g =
      let h : ℕ = z.h / 2 ^ l in
      let w : ℕ = z.w / 2 ^ l in
      ap (rows_split h w) (columns_undone joined split joined_undone h w (rows_joined h w g) (even_rows l a))
      ∙ rows_undone joined split joined_undone h w g (even_columns l a)

  pub back_forward : (l : ℕ) → l ≤ z.n → (g : Grid) → back z l (forward z l g) ≡ g
  unfolding forward back
  back_forward zero a g = refl
  back_forward (suc l) a g = rw (turn_back_turn l (omega arith) (forward z l g)) (back_forward l (omega arith) g)

  pub forward_back : (l : ℕ) → l ≤ z.n → (g : Grid) → forward z l (back z l g) ≡ g
  unfolding forward back
  forward_back zero a g = refl
  forward_back (suc l) a g = rw (forward_back l (omega arith) (turn_back z l g)) (turn_turn_back l (omega arith) g)
