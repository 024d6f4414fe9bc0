-- How much greater than the numbers of a line its highs, lows, even and odd numbers can be, and so those of a turn.
use Rattle.std.specs.Prelude.{◌≡◌, ℕ, zero, suc, ◌+◌, ◌-◌, ◌*◌, ◌/◌, ◌%◌, ◌≤◌, ◌<◌, min, nat_abs}
use Rattle.std.proofs.Common.{arith}
use Rattle.std.proofs.Math.Decide.{dec_lt}
use Rattle.pictures.specs.Document.Lifting.{Line, high, low, split, even, odd, joined}
use Rattle.pictures.proofs.Laws.Reversible.{split_low, split_high, joined_even, joined_odd}
use Rattle.pictures.specs.Laws.Tones.{bias, toned, tone_high, tone_low, tone_even, tone_odd}
use Rattle.pictures.proofs.Laws.Tones.{toned_high, toned_low}
use Rattle.pictures.specs.Laws.Tones.{tone_of, Around}
use Rattle.pictures.proofs.Laws.Tones.{toned_even, toned_odd, tone_is, toned_tone_of, tone_around, around_tone}
use Rattle.pictures.specs.Laws.Growth.{roomy, low_most, joined_most}

-- Twice a high and four times a low, on tones, but for what rounding leaves.
abbrev HighTaps : ℕ → ℕ → ℕ → ℕ → Type 0
HighTaps a b c p = (2 * b + 2 * bias ≤ 2 * p + (a + c)) × (2 * p + (a + c) ≤ 2 * b + 2 * bias + 1)

abbrev LowTaps : ℕ → ℕ → ℕ → ℕ → Type 0
LowTaps p c q s = (4 * s + 2 * bias ≤ 4 * c + (p + q) + 2) × (4 * c + (p + q) ≤ 4 * s + 2 * bias + 1)

high_taps : (a b c : ℕ) → (a + c) / 2 ≤ b + bias → HighTaps a b c (tone_high a b c)
high_taps a b c h = omega arith

low_taps : (c p q : ℕ) → bias / 2 ≤ c → LowTaps p c q (tone_low c p q)
low_taps c p q h = omega arith

-- So eight times a low is the weighted sum of five numbers, but for rounding.
five_taps : (a b c d e p q s : ℕ) → HighTaps a b c p → HighTaps c d e q → LowTaps p c q s
    → (8 * s + (a + e) ≤ 2 * b + 6 * c + 2 * d + 6) × (2 * b + 6 * c + 2 * d ≤ 8 * s + (a + e) + 2)
five_taps a b c d e p q s h k l = omega arith

module _ (r : ℕ) (a b c d e s : ℕ) where
  five_most : bias ≤ a + r → b ≤ bias + r → c ≤ bias + r → d ≤ bias + r → bias ≤ e + r
      → 8 * s + (a + e) ≤ 2 * b + 6 * c + 2 * d + 6 → s ≤ bias + (6 * r + 3) / 4
  five_most h i j k l n = omega arith

  five_least : a ≤ bias + r → bias ≤ b + r → bias ≤ c + r → bias ≤ d + r → e ≤ bias + r
      → 2 * b + 6 * c + 2 * d ≤ 8 * s + (a + e) + 2 → bias ≤ s + (6 * r + 3) / 4
  five_least h i j k l n = omega arith

module _ (m : ℕ) (x : Line) (r : ℕ) (room : r ≤ roomy) (few : (i : ℕ) → i < 2 * m → nat_abs (x i) ≤ r) where
  around : (i : ℕ) → i < 2 * m → Around r (tone_of (x i))
  around i h = tone_around r (x i) (few i h)

  own : (i : ℕ) → i < 2 * m → toned (tone_of (x i)) ≡ x i
  own i h = toned_tone_of (x i) (omega (arith, few i h))

  high_tone : (i : ℕ) → i < m
      → tone_of (high m x i) ≡ tone_high (tone_of (x (2 * i))) (tone_of (x (2 * i + 1))) (tone_of (x (2 * min (i + 1) (m - 1))))
  high_tone i h =
      let k : 2 * min (i + 1) (m - 1) < 2 * m = omega arith in
      tone_is (high m x i) _
      (toned_high m x i (tone_of (x (2 * i))) (tone_of (x (2 * i + 1))) (tone_of (x (2 * min (i + 1) (m - 1))))
      (own (2 * i) (omega arith)) (own (2 * i + 1) (omega arith)) (own (2 * min (i + 1) (m - 1)) k)
      (omega (arith, around (2 * i) (omega arith), around (2 * i + 1) (omega arith), around (2 * min (i + 1) (m - 1)) k)))

  pub high_most : (i : ℕ) → i < m → nat_abs (high m x i) ≤ 2 * r
  high_most i h =
      let A : Around r (tone_of (x (2 * i))) = around (2 * i) (omega arith) in
      let B : Around r (tone_of (x (2 * i + 1))) = around (2 * i + 1) (omega arith) in
      let C : Around r (tone_of (x (2 * min (i + 1) (m - 1)))) = around (2 * min (i + 1) (m - 1)) (omega arith) in
      around_tone (2 * r) (high m x i) (omega arith) (rw (high_tone i h) (omega (arith, A, B, C)))

  high_own : (i : ℕ) → i < m → toned (tone_of (high m x i)) ≡ high m x i
  high_own i h = toned_tone_of (high m x i) (omega (arith, high_most i h))

  high_tapped : (i : ℕ) → i < m
      → HighTaps (tone_of (x (2 * i))) (tone_of (x (2 * i + 1))) (tone_of (x (2 * min (i + 1) (m - 1)))) (tone_of (high m x i))
  high_tapped i h =
      let A : Around r (tone_of (x (2 * i))) = around (2 * i) (omega arith) in
      let B : Around r (tone_of (x (2 * i + 1))) = around (2 * i + 1) (omega arith) in
      let C : Around r (tone_of (x (2 * min (i + 1) (m - 1)))) = around (2 * min (i + 1) (m - 1)) (omega arith) in
      rw (high_tone i h) (high_taps _ _ _ (omega (arith, A, B, C)))

  -- a low, of the high before it, which has the numbers at u and 2i beside it, and the one behind
  low_between : (i u v : ℕ) → i < m → u < 2 * m → v < 2 * m → HighTaps (tone_of (x u)) (tone_of (x v)) (tone_of (x (2 * i))) (tone_of (high m x (i - 1)))
      → nat_abs (low m x i) ≤ low_most r
  low_between i u v h k l before =
      let A : Around r (tone_of (x u)) = around u k in
      let B : Around r (tone_of (x v)) = around v l in
      let C : Around r (tone_of (x (2 * i))) = around (2 * i) (omega arith) in
      let D : Around r (tone_of (x (2 * i + 1))) = around (2 * i + 1) (omega arith) in
      let E : Around r (tone_of (x (2 * min (i + 1) (m - 1)))) = around (2 * min (i + 1) (m - 1)) (omega arith) in
      let least : bias / 2 ≤ tone_of (x (2 * i)) = omega (arith, C) in
      let e : tone_of (low m x i) ≡ tone_low (tone_of (x (2 * i))) (tone_of (high m x (i - 1))) (tone_of (high m x i)) =
      tone_is (low m x i) _
      (toned_low m x i (tone_of (x (2 * i))) (tone_of (high m x (i - 1))) (tone_of (high m x i))
      (own (2 * i) (omega arith)) (high_own (i - 1) (omega arith)) (high_own i h) (omega (arith, least))) in
      let taps : _ =
      five_taps (tone_of (x u)) (tone_of (x v)) (tone_of (x (2 * i))) (tone_of (x (2 * i + 1))) (tone_of (x (2 * min (i + 1) (m - 1)))) _ _ _
      before (high_tapped i h) (low_taps (tone_of (x (2 * i))) (tone_of (high m x (i - 1))) (tone_of (high m x i)) least) in
      around_tone (low_most r) (low m x i) (omega arith)
      (rw e (record {
        least = five_least r _ _ _ _ _ _ A.most B.least C.least D.least E.most taps.1;
        most = five_most r _ _ _ _ _ _ A.least B.most C.most D.most E.least taps.0;
      }))

  pub low_most_lem : (i : ℕ) → i < m → nat_abs (low m x i) ≤ low_most r
  low_most_lem zero h =
      low_between 0 (2 * min 1 (m - 1)) 1 h (omega arith) (omega arith) (omega (arith, high_tapped 0 h))
  low_most_lem (suc k) h =
      let e : 2 * min (k + 1) (m - 1) ≡ 2 * suc k = omega arith in
      let f : suc k - 1 ≡ k = omega arith in
      low_between (suc k) (2 * k) (2 * k + 1) h (omega arith) (omega arith) (rw f (rw e at (high_tapped k (omega arith))))

  pub split_low_most : (i : ℕ) → i < m → nat_abs (split m x i) ≤ low_most r
  split_low_most i h = rw (split_low m x i h) (low_most_lem i h)

  pub split_most : (i : ℕ) → i < 2 * m → nat_abs (split m x i) ≤ 2 * r
  split_most i h = by (dec_lt i m)
    where
      by : Dec (i < m) → nat_abs (split m x i) ≤ 2 * r
      by (yes l) = omega (arith, split_low_most i l)
      by (no l) =
          let e : m + (i - m) ≡ i = omega arith in
          rw (← e, split_high m x (i - m)) (high_most (i - m) (omega arith))

module _ (m : ℕ) (y : Line) (s b : ℕ) (s-room : s ≤ roomy) (b-room : b ≤ roomy) where
  module _ (lows : (i : ℕ) → i < m → nat_abs (y i) ≤ s) (highs : (i : ℕ) → i < m → nat_abs (y (m + i)) ≤ b) where
    pub low_around : (i : ℕ) → i < m → Around s (tone_of (y i))
    low_around i h = tone_around s (y i) (lows i h)

    pub high_around : (i : ℕ) → i < m → Around b (tone_of (y (m + i)))
    high_around i h = tone_around b (y (m + i)) (highs i h)

    pub even_tone : (i : ℕ) → i < m → tone_of (even m y i) ≡ tone_even (tone_of (y i)) (tone_of (y (m + (i - 1)))) (tone_of (y (m + i)))
    even_tone i h =
        let k : i - 1 < m = omega arith in
        tone_is (even m y i) _
        (toned_even m y i (tone_of (y i)) (tone_of (y (m + (i - 1)))) (tone_of (y (m + i)))
        (toned_tone_of (y i) (omega (arith, lows i h)))
        (toned_tone_of (y (m + (i - 1))) (omega (arith, highs (i - 1) k)))
        (toned_tone_of (y (m + i)) (omega (arith, highs i h)))
        (omega (arith, low_around i h, high_around (i - 1) k, high_around i h)))

    pub even_most : (i : ℕ) → i < m → nat_abs (even m y i) ≤ s + (b + 1) / 2
    even_most i h =
        around_tone (s + (b + 1) / 2) (even m y i) (omega arith)
        (rw (even_tone i h) (omega (arith, low_around i h, high_around (i - 1) (omega arith), high_around i h)))

    pub even_around : (i : ℕ) → i < m → Around (s + (b + 1) / 2) (tone_of (even m y i))
    even_around i h = tone_around _ (even m y i) (even_most i h)

    pub odd_tone : (i : ℕ) → i < m
        → tone_of (odd m y i) ≡ tone_odd (tone_of (y (m + i))) (tone_of (even m y i)) (tone_of (even m y (min (i + 1) (m - 1))))
    odd_tone i h =
        let k : min (i + 1) (m - 1) < m = omega arith in
        tone_is (odd m y i) _
        (toned_odd m y i (tone_of (y (m + i))) (tone_of (even m y i)) (tone_of (even m y (min (i + 1) (m - 1))))
        (toned_tone_of (y (m + i)) (omega (arith, highs i h)))
        (toned_tone_of (even m y i) (omega (arith, even_most i h)))
        (toned_tone_of (even m y (min (i + 1) (m - 1))) (omega (arith, even_most _ k)))
        (omega (arith, high_around i h, even_around i h, even_around _ k)))

    pub odd_most : (i : ℕ) → i < m → nat_abs (odd m y i) ≤ joined_most s b
    odd_most i h =
        around_tone (joined_most s b) (odd m y i) (omega arith)
        (rw (odd_tone i h) (omega (arith, high_around i h, even_around i h, even_around (min (i + 1) (m - 1)) (omega arith))))

    pub joined_most_lem : (i : ℕ) → i < 2 * m → nat_abs (joined m y i) ≤ joined_most s b
    joined_most_lem i h = by (dec_lt (i % 2) 1)
      where
        by : Dec (i % 2 < 1) → nat_abs (joined m y i) ≤ joined_most s b
        by (yes l) =
            let e : 2 * (i / 2) ≡ i = omega arith in
            rw (← e, joined_even m y (i / 2)) (omega (arith, even_most (i / 2) (omega arith)))
        by (no l) =
            let e : 2 * (i / 2) + 1 ≡ i = omega arith in
            rw (← e, joined_odd m y (i / 2)) (odd_most (i / 2) (omega arith))
