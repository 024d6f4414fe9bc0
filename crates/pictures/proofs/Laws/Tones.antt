-- Tones: the code never holds a number below 0. A number v stands in the workspace as its tone, v + 2^28, so that sums, halves and quarters
-- are of natural numbers, and each of a high, a low, an even and an odd number is one line of them.
use Rattle.std.specs.Prelude.{◌≡◌, refl, ℕ, zero, suc, ◌+◌, ◌-◌, ◌*◌, ◌/◌, ◌≤◌, ◌<◌, min, ℤ, pos, negsuc, nat_abs, neg_ℤ, ◌+ℤ◌, ◌-ℤ◌}
use Rattle.std.proofs.Common.{ap, sym, ◌∙◌, arith, lt-ltb, le-ltb}
use Rattle.std.proofs.Math.Decide.{dec_lt}
use Rattle.std.proofs.Math.IntN.{sub_ℕ}
use Rattle.pictures.specs.Document.Lifting.{Line, half, quarter, high, low, even, odd}
use Rattle.pictures.specs.Laws.Tones.{bias, toned, tone_high, tone_low, tone_even, tone_odd, tone_of, Around}

-- sub_ℕ a b, the integer a - b: below 0, or not
pub sub_below : (a b : ℕ) → a < b → sub_ℕ a b ≡ negsuc (b - suc a)
sub_below a b h = rw (lt-ltb a b h)

pub sub_least : (a b : ℕ) → b ≤ a → sub_ℕ a b ≡ pos (a - b)
sub_least a b h = rw (le-ltb a b h)

-- It is one integer for all pairs as far apart.
pub sub_same : (a b c d : ℕ) → a + d ≡ c + b → sub_ℕ a b ≡ sub_ℕ c d
sub_same a b c d e = by (dec_lt a b)
  where
    by : Dec (a < b) → sub_ℕ a b ≡ sub_ℕ c d
    by (yes h) = rw (sub_below a b h, sub_below c d (omega arith)) (ap negsuc (omega arith))
    by (no h) = rw (sub_least a b (omega arith), sub_least c d (omega arith)) (ap pos (omega arith))

add_pos : (x c d : ℕ) → pos x +ℤ sub_ℕ c d ≡ sub_ℕ (x + c) d
add_pos x c d = by (dec_lt c d)
  where
    by : Dec (c < d) → pos x +ℤ sub_ℕ c d ≡ sub_ℕ (x + c) d
    by (yes h) = rw (sub_below c d h) (sub_same x (suc (d - suc c)) (x + c) d (omega arith))
    by (no h) = rw (sub_least c d (omega arith), sub_least (x + c) d (omega arith)) (ap pos (omega arith))

add_negsuc : (x c d : ℕ) → negsuc x +ℤ sub_ℕ c d ≡ sub_ℕ c (suc x + d)
add_negsuc x c d = by (dec_lt c d)
  where
    by : Dec (c < d) → negsuc x +ℤ sub_ℕ c d ≡ sub_ℕ c (suc x + d)
    by (yes h) = rw (sub_below c d h, sub_below c (suc x + d) (omega arith)) (ap negsuc (omega arith))
    by (no h) = rw (sub_least c d (omega arith)) (sub_same (c - d) (suc x) c (suc x + d) (omega arith))

pub add_sub : (a b c d : ℕ) → sub_ℕ a b +ℤ sub_ℕ c d ≡ sub_ℕ (a + c) (b + d)
add_sub a b c d = by (dec_lt a b)
  where
    by : Dec (a < b) → sub_ℕ a b +ℤ sub_ℕ c d ≡ sub_ℕ (a + c) (b + d)
    by (yes h) = rw (sub_below a b h) (add_negsuc (b - suc a) c d ∙ sub_same c (suc (b - suc a) + d) (a + c) (b + d) (omega arith))
    by (no h) = rw (sub_least a b (omega arith)) (add_pos (a - b) c d ∙ sub_same (a - b + c) d (a + c) (b + d) (omega arith))

neg_pos : (x : ℕ) → neg_ℤ (pos x) ≡ sub_ℕ 0 x
neg_pos zero = refl
neg_pos (suc x) = rw (sub_below 0 (suc x) (omega arith)) (ap negsuc (omega arith))

pub neg_sub : (a b : ℕ) → neg_ℤ (sub_ℕ a b) ≡ sub_ℕ b a
neg_sub a b = by (dec_lt a b)
  where
    by : Dec (a < b) → neg_ℤ (sub_ℕ a b) ≡ sub_ℕ b a
    by (yes h) = rw (sub_below a b h, sub_least b a (omega arith)) (ap pos (omega arith))
    by (no h) = rw (sub_least a b (omega arith)) (neg_pos (a - b) ∙ sub_same 0 (a - b) b a (omega arith))

-- halves and quarters, rounded down
pub half_sub : (a b : ℕ) → half (sub_ℕ a (2 * b)) ≡ sub_ℕ (a / 2) b
half_sub a b = by (dec_lt a (2 * b))
  where
    by : Dec (a < 2 * b) → half (sub_ℕ a (2 * b)) ≡ sub_ℕ (a / 2) b
    by (yes h) = rw (sub_below a (2 * b) h, sub_below (a / 2) b (omega arith)) (ap negsuc (omega arith))
    by (no h) = rw (sub_least a (2 * b) (omega arith), sub_least (a / 2) b (omega arith)) (ap pos (omega arith))

quarter_half : (x : ℤ) → quarter x ≡ half (half x)
quarter_half (pos a) = ap pos (omega arith)
quarter_half (negsuc a) = ap negsuc (omega arith)

pub quarter_sub : (a b : ℕ) → quarter (sub_ℕ a (4 * b)) ≡ sub_ℕ (a / 4) b
quarter_sub a b =
    let e : 4 * b ≡ 2 * (2 * b) = omega arith in
    let d : a / 2 / 2 ≡ a / 4 = omega arith in
    quarter_half (sub_ℕ a (4 * b)) ∙ ap half (ap (λ n. half (sub_ℕ a n)) e ∙ half_sub a (2 * b)) ∙ half_sub (a / 2) b ∙ ap (λ n. sub_ℕ n b) d

quarter_tones : (d e : ℕ) → quarter (toned d +ℤ toned e +ℤ pos 2) ≡ sub_ℕ ((d + e + 2) / 4) (bias / 2)
quarter_tones d e = rw (add_sub d bias e bias) (ap quarter (add_sub (d + e) (bias + bias) 2 0) ∙ quarter_sub (d + e + 2) (bias / 2))

-- A high, a low, an even and an odd number on tones, wherever the difference of natural numbers is exact.
pub tone_high_lem : (a b c : ℕ) → (a + c) / 2 ≤ b + bias → toned (tone_high a b c) ≡ toned b -ℤ half (toned a +ℤ toned c)
tone_high_lem a b c h =
    rw (add_sub a bias c bias, half_sub (a + c) bias, neg_sub ((a + c) / 2) bias, add_sub b bias bias ((a + c) / 2))
    (sub_same (tone_high a b c) bias (b + bias) (bias + (a + c) / 2) (omega arith))

pub tone_low_lem : (x d e : ℕ) → bias / 2 ≤ x + (d + e + 2) / 4 → toned (tone_low x d e) ≡ toned x +ℤ quarter (toned d +ℤ toned e +ℤ pos 2)
tone_low_lem x d e h =
    rw (quarter_tones d e, add_sub x bias ((d + e + 2) / 4) (bias / 2))
    (sub_same (tone_low x d e) bias (x + (d + e + 2) / 4) (bias + bias / 2) (omega arith))

pub tone_even_lem : (s d e : ℕ) → (d + e + 2) / 4 ≤ s + bias / 2 → toned (tone_even s d e) ≡ toned s -ℤ quarter (toned d +ℤ toned e +ℤ pos 2)
tone_even_lem s d e h =
    rw (quarter_tones d e, neg_sub ((d + e + 2) / 4) (bias / 2), add_sub s bias (bias / 2) ((d + e + 2) / 4))
    (sub_same (tone_even s d e) bias (s + bias / 2) (bias + (d + e + 2) / 4) (omega arith))

pub tone_odd_lem : (d x y : ℕ) → bias ≤ d + (x + y) / 2 → toned (tone_odd d x y) ≡ toned d +ℤ half (toned x +ℤ toned y)
tone_odd_lem d x y h =
    rw (add_sub x bias y bias, half_sub (x + y) bias, add_sub d bias ((x + y) / 2) bias)
    (sub_same (tone_odd d x y) bias (d + (x + y) / 2) (bias + bias) (omega arith))

-- The same of a line whose numbers have tones.
module _ (m : ℕ) (x : Line) (i : ℕ) where
  pub toned_high : (a b c : ℕ) → toned a ≡ x (2 * i) → toned b ≡ x (2 * i + 1) → toned c ≡ x (2 * min (i + 1) (m - 1))
      → (a + c) / 2 ≤ b + bias → toned (tone_high a b c) ≡ high m x i
  unfolding high
  toned_high a b c p q r h = rw (← p, ← q, ← r) (tone_high_lem a b c h)

  pub toned_low : (t d e : ℕ) → toned t ≡ x (2 * i) → toned d ≡ high m x (i - 1) → toned e ≡ high m x i
      → bias / 2 ≤ t + (d + e + 2) / 4 → toned (tone_low t d e) ≡ low m x i
  unfolding low
  toned_low t d e p q r h = rw (← p, ← q, ← r) (tone_low_lem t d e h)

  pub toned_even : (s d e : ℕ) → toned s ≡ x i → toned d ≡ x (m + (i - 1)) → toned e ≡ x (m + i)
      → (d + e + 2) / 4 ≤ s + bias / 2 → toned (tone_even s d e) ≡ even m x i
  unfolding even
  toned_even s d e p q r h = rw (← p, ← q, ← r) (tone_even_lem s d e h)

  pub toned_odd : (d s t : ℕ) → toned d ≡ x (m + i) → toned s ≡ even m x i → toned t ≡ even m x (min (i + 1) (m - 1))
      → bias ≤ d + (s + t) / 2 → toned (tone_odd d s t) ≡ odd m x i
  unfolding odd
  toned_odd d s t p q r h = rw (← p, ← q, ← r) (tone_odd_lem d s t h)

pub tone_of_toned : (t : ℕ) → tone_of (toned t) ≡ t
unfolding tone_of
tone_of_toned t = by (dec_lt t bias)
  where
    by : Dec (t < bias) → tone_of (toned t) ≡ t
    by (yes h) = rw (sub_below t bias h) (omega arith)
    by (no h) = rw (sub_least t bias (omega arith)) (omega arith)

pub tone_is : (v : ℤ) (t : ℕ) → toned t ≡ v → tone_of v ≡ t
tone_is v t e = ap tone_of (sym e) ∙ tone_of_toned t

pub toned_tone_of : (v : ℤ) → nat_abs v ≤ bias → toned (tone_of v) ≡ v
unfolding tone_of
toned_tone_of (pos n) h = rw (sub_least (bias + n) bias (omega arith)) (ap pos (omega arith))
toned_tone_of (negsuc n) h = rw (sub_below (bias - suc n) bias (omega arith)) (ap negsuc (omega arith))

pub tone_around : (r : ℕ) (v : ℤ) → nat_abs v ≤ r → Around r (tone_of v)
unfolding tone_of
tone_around r (pos n) h = omega arith
tone_around r (negsuc n) h = omega arith

pub around_tone : (r : ℕ) (v : ℤ) → r < bias → Around r (tone_of v) → nat_abs v ≤ r
unfolding tone_of
around_tone r (pos n) h N = omega arith
around_tone r (negsuc n) h N = omega arith
