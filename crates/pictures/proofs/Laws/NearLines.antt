-- Two lines that are near each other, joined: how far apart what comes of them may be.
use Rattle.std.specs.Prelude.{◌≡◌, refl, ℕ, zero, suc, ◌+◌, ◌-◌, ◌*◌, ◌/◌, ◌%◌, ◌≤◌, ◌<◌, min, ℤ, pos, nat_abs, ◌-ℤ◌}
use Rattle.std.proofs.Common.{arith, add_comm, lt-ltb}
use Rattle.std.proofs.Math.Decide.{dec_lt}
use Rattle.std.proofs.Math.IntN.{sub_ℕ}
use Rattle.pictures.specs.Document.Lifting.{Line, even, odd, joined}
use Rattle.pictures.proofs.Laws.Reversible.{joined_even, joined_odd}
use Rattle.pictures.specs.Laws.Tones.{bias, toned, tone_even, tone_odd, tone_of, Around}
use Rattle.pictures.proofs.Laws.Tones.{sub_below, sub_least, sub_same, add_sub, neg_sub, toned_tone_of}
use Rattle.pictures.specs.Laws.Distance.{Nearby}
use Rattle.pictures.specs.Laws.Growth.{roomy}
use Rattle.pictures.proofs.Laws.Growth.{low_around, high_around, even_tone, even_around, odd_tone, joined_most_lem}
use Rattle.pictures.specs.Laws.NearLines.{Close, line_far}

difference : (s t : ℕ) → toned s -ℤ toned t ≡ sub_ℕ s t
difference s t = rw (neg_sub t bias, add_sub s bias bias t) (sub_same (s + bias) (bias + t) s t (omega arith))

sub_close : (e s t : ℕ) → nat_abs (sub_ℕ s t) ≤ e → Close e s t
sub_close e s t h = by (dec_lt s t)
  where
    by : Dec (s < t) → Close e s t
    by (yes l) = omega (arith, rw (sub_below s t l) at h)
    by (no l) = omega (arith, rw (sub_least s t (omega arith)) at h)

close_sub : (e s t : ℕ) → Close e s t → nat_abs (sub_ℕ s t) ≤ e
close_sub e s t c = by (dec_lt s t)
  where
    by : Dec (s < t) → nat_abs (sub_ℕ s t) ≤ e
    by (yes l) = rw (sub_below s t l) (omega arith)
    by (no l) = rw (sub_least s t (omega arith)) (omega arith)

pub nearby_pixels : (e v u : ℕ) → Nearby e (pos v) (pos u) → Close e v u
nearby_pixels e v zero h = omega arith
nearby_pixels e v (suc u) h = sub_close e v (suc u) h

module _ (e : ℕ) (p q : ℤ) (p-room : nat_abs p ≤ bias) (q_room : nat_abs q ≤ bias) where
  own : toned (tone_of p) -ℤ toned (tone_of q) ≡ p -ℤ q
  own = rw (toned_tone_of p p-room, toned_tone_of q q_room)

  nearby_close : Nearby e p q → Close e (tone_of p) (tone_of q)
  nearby_close h = sub_close e (tone_of p) (tone_of q) (rw (← (difference (tone_of p) (tone_of q)), own) h)

  close_nearby : Close e (tone_of p) (tone_of q) → Nearby e p q
  close_nearby c = rw (← own, difference (tone_of p) (tone_of q)) (close_sub e (tone_of p) (tone_of q) c)

-- An even number: its low, and half of the highs' distance.
quarters_far : (d e u v c : ℕ) → Close c d u → Close c e v → (u + v + 2) / 4 ≤ (d + e + 2) / 4 + (c + 1) / 2
quarters_far d e u v c h k = omega arith

even_far : (s d e t u v a c : ℕ) → (d + e + 2) / 4 ≤ s + bias / 2 → s ≤ t + a → Close c d u → Close c e v
    → tone_even s d e ≤ tone_even t u v + (a + (c + 1) / 2)
even_far s d e t u v a c exact h k l = let q = quarters_far d e u v c k l in omega (arith, q)

-- An odd number: twice it, of its high, the lows beside it and their quarters, but for rounding.
quarter_taps : (d e : ℕ) → (d + e ≤ 4 * ((d + e + 2) / 4) + 1) × (4 * ((d + e + 2) / 4) ≤ d + e + 2)
quarter_taps d e = omega arith

odd_taps : (d p q : ℕ) → bias ≤ d + (p + q) / 2
    → (2 * tone_odd d p q + 2 * bias ≤ 2 * d + (p + q)) × (2 * d + (p + q) ≤ 2 * tone_odd d p q + 2 * bias + 1)
odd_taps d p q h = omega arith

-- d before, at and behind the odd number, s its lows, f their quarters; e, t and g those of the other line
odd_far : (d0 d1 d2 s0 s1 f0 f1 x e0 e1 e2 t0 t1 g0 g1 y a c : ℕ)
    → d1 ≤ e1 + c → s0 ≤ t0 + a → s1 ≤ t1 + a → e0 ≤ d0 + c → e2 ≤ d2 + c
    → d0 + d1 ≤ 4 * f0 + 1 → d1 + d2 ≤ 4 * f1 + 1
    → 4 * g0 ≤ e0 + e1 + 2 → 4 * g1 ≤ e1 + e2 + 2
    → 2 * x + f0 + f1 + bias ≤ 2 * d1 + s0 + s1 → 2 * e1 + t0 + t1 ≤ 2 * y + g0 + g1 + bias + 1
    → x ≤ y + (a + c + 1)
odd_far d0 d1 d2 s0 s1 f0 f1 x e0 e1 e2 t0 t1 g0 g1 y a c h1 h2 h3 h4 h5 h6 h7 h8 h9 h10 h11 = omega arith

-- Two lines: neither's lows are over s, neither's highs over b, and they are at most a and c apart.
record Pair (m s b a c : ℕ) (y y' : Line) : Type 0 where
  lows : (i : ℕ) → i < m → nat_abs (y i) ≤ s
  highs : (i : ℕ) → i < m → nat_abs (y (m + i)) ≤ b
  lows' : (i : ℕ) → i < m → nat_abs (y' i) ≤ s
  highs' : (i : ℕ) → i < m → nat_abs (y' (m + i)) ≤ b
  lows_near : (i : ℕ) → i < m → Close a (tone_of (y i)) (tone_of (y' i))
  highs_near : (i : ℕ) → i < m → Close c (tone_of (y (m + i))) (tone_of (y' (m + i)))

swapped : {m s b a c : ℕ} {y y' : Line} → Pair m s b a c y y' → Pair m s b a c y' y
swapped P =
    record {
      lows = P.lows';
      highs = P.highs';
      lows' = P.lows;
      highs' = P.highs;
      lows_near = λ i h. let n = P.lows_near i h in (n.1, n.0);
      highs_near = λ i h. let n = P.highs_near i h in (n.1, n.0);
    }

module _ (m s b a c : ℕ) (y y' : Line) (s-room : s ≤ roomy) (b-room : b ≤ roomy) (P : Pair m s b a c y y') where
  even_above : (i : ℕ) → i < m → tone_of (even m y i) ≤ tone_of (even m y' i) + (a + (c + 1) / 2)
  even_above i h =
      let k : i - 1 < m = omega arith in
      let S : Around s (tone_of (y i)) = low_around m y s b s-room b-room P.lows P.highs i h in
      let D : Around b (tone_of (y (m + (i - 1)))) = high_around m y s b s-room b-room P.lows P.highs (i - 1) k in
      let E : Around b (tone_of (y (m + i))) = high_around m y s b s-room b-room P.lows P.highs i h in
      rw (even_tone m y s b s-room b-room P.lows P.highs i h, even_tone m y' s b s-room b-room P.lows' P.highs' i h)
      (even_far _ _ _ _ _ _ a c (omega (arith, S, D, E)) (P.lows_near i h).0 (P.highs_near (i - 1) k) (P.highs_near i h))

-- What is known of an odd number, by the highs before it, at it and behind it: at the line's end the one before once more.
record OddOf (d0 d1 d2 s0 s1 x : ℕ) : Type 0 where
  f0 : ℕ
  f1 : ℕ
  before : (d0 + d1 ≤ 4 * f0 + 1) × (4 * f0 ≤ d0 + d1 + 2)
  behind : (d1 + d2 ≤ 4 * f1 + 1) × (4 * f1 ≤ d1 + d2 + 2)
  twice : (2 * x + f0 + f1 + bias ≤ 2 * d1 + s0 + s1) × (2 * d1 + s0 + s1 ≤ 2 * x + f0 + f1 + bias + 1)

module _ (m s b : ℕ) (y : Line) (s-room : s ≤ roomy) (b-room : b ≤ roomy) where
  module _ (lows : (i : ℕ) → i < m → nat_abs (y i) ≤ s) (highs : (i : ℕ) → i < m → nat_abs (y (m + i)) ≤ b) where
    even_sum : (i : ℕ) → i < m
        → tone_of (even m y i) + (tone_of (y (m + (i - 1))) + tone_of (y (m + i)) + 2) / 4 ≡ tone_of (y i) + bias / 2
    even_sum i h =
        let S = low_around m y s b s-room b-room lows highs i h in
        let D = high_around m y s b s-room b-room lows highs (i - 1) (omega arith) in
        let E = high_around m y s b s-room b-room lows highs i h in
        rw (even_tone m y s b s-room b-room lows highs i h) (omega (arith, S, D, E))

    odd_of : (i o k : ℕ) → i < m → o < m → k ≡ min (i + 1) (m - 1)
        → tone_of (y (m + (k - 1))) + tone_of (y (m + k)) ≡ tone_of (y (m + i)) + tone_of (y (m + o))
        → OddOf (tone_of (y (m + (i - 1)))) (tone_of (y (m + i))) (tone_of (y (m + o))) (tone_of (y i)) (tone_of (y k)) (tone_of (odd m y i))
    odd_of i o k h l e n =
        let D = high_around m y s b s-room b-room lows highs i h in
        let A = even_around m y s b s-room b-room lows highs i h in
        let B = even_around m y s b s-room b-room lows highs k (omega arith) in
        let x : tone_of (odd m y i) ≡ tone_odd (tone_of (y (m + i))) (tone_of (even m y i)) (tone_of (even m y k)) =
        rw e (odd_tone m y s b s-room b-room lows highs i h) in
        let taps = odd_taps (tone_of (y (m + i))) (tone_of (even m y i)) (tone_of (even m y k)) (omega (arith, D, A, B)) in
        record {
          f0 = (tone_of (y (m + (i - 1))) + tone_of (y (m + i)) + 2) / 4;
          f1 = (tone_of (y (m + (k - 1))) + tone_of (y (m + k)) + 2) / 4;
          before = quarter_taps (tone_of (y (m + (i - 1)))) (tone_of (y (m + i)));
          behind = omega (arith, quarter_taps (tone_of (y (m + (k - 1)))) (tone_of (y (m + k))), n);
          twice = omega (arith, x, taps, even_sum i h, even_sum k (omega arith));
        }

pub line_far_none : (a : ℕ) → line_far a 0 ≡ a
unfolding line_far
line_far_none a = refl

pub line_far_some : (a c : ℕ) → 0 < c → line_far a c ≡ a + c + 1
unfolding line_far
line_far_some a c h = rw (lt-ltb 0 c h)

module _ (m s b a c : ℕ) (y y' : Line) (s-room : s ≤ roomy) (b-room : b ≤ roomy) (P : Pair m s b a c y y') where
  odd_between : (i o k : ℕ) → i < m → o < m → k ≡ min (i + 1) (m - 1)
      → ((w : Line) → tone_of (w (m + (k - 1))) + tone_of (w (m + k)) ≡ tone_of (w (m + i)) + tone_of (w (m + o)))
      → tone_of (odd m y i) ≤ tone_of (odd m y' i) + (a + c + 1)
  odd_between i o k h l e n =
      let O = odd_of m s b y s-room b-room P.lows P.highs i o k h l e (n y) in
      let O' = odd_of m s b y' s-room b-room P.lows' P.highs' i o k h l e (n y') in
      odd_far _ _ _ _ _ O.f0 O.f1 _ _ _ _ _ _ O'.f0 O'.f1 _ a c
      (P.highs_near i h).0 (P.lows_near i h).0 (P.lows_near k (omega arith)).0
      (P.highs_near (i - 1) (omega arith)).1 (P.highs_near o l).1
      O.before.0 O.behind.0 O'.before.1 O'.behind.1 O.twice.0 O'.twice.1

  odd_above : (i : ℕ) → i < m → tone_of (odd m y i) ≤ tone_of (odd m y' i) + (a + c + 1)
  odd_above i h = by (dec_lt (i + 1) m)
    where
      by : Dec (i + 1 < m) → tone_of (odd m y i) ≤ tone_of (odd m y' i) + (a + c + 1)
      by (yes l) =
          let e : i + 1 - 1 ≡ i = omega arith in
          odd_between i (i + 1) (i + 1) h l (omega arith) (λ w. rw e)
      by (no l) = odd_between i (i - 1) i h (omega arith) (omega arith) (λ w. add_comm (tone_of (w (m + (i - 1)))) (tone_of (w (m + i))))

module _ (m s b a : ℕ) (y y' : Line) (s-room : s ≤ roomy) (b-room : b ≤ roomy) (P : Pair m s b a 0 y y') where
  odd_alike : (i : ℕ) → i < m → tone_of (odd m y i) ≤ tone_of (odd m y' i) + a
  odd_alike i h =
      let k : min (i + 1) (m - 1) < m = omega arith in
      rw (odd_tone m y s b s-room b-room P.lows P.highs i h, odd_tone m y' s b s-room b-room P.lows' P.highs' i h)
      (omega (arith, P.highs_near i h, even_above m s b a 0 y y' s-room b-room P i h, even_above m s b a 0 y y' s-room b-room P _ k))

odd_line : (c m s b a : ℕ) (y y' : Line) → s ≤ roomy → b ≤ roomy → Pair m s b a c y y'
    → (i : ℕ) → i < m → tone_of (odd m y i) ≤ tone_of (odd m y' i) + line_far a c
odd_line zero m s b a y y' s-room b-room P i h = rw (line_far_none a) (odd_alike m s b a y y' s-room b-room P i h)
odd_line (suc c) m s b a y y' s-room b-room P i h =
    rw (line_far_some a (suc c) (omega arith)) (odd_above m s b a (suc c) y y' s-room b-room P i h)

line_far_half : (a c : ℕ) → a + (c + 1) / 2 ≤ line_far a c
line_far_half a zero = omega (arith, line_far_none a)
line_far_half a (suc c) = omega (arith, line_far_some a (suc c) (omega arith))

module _ (m s b a c : ℕ) (y y' : Line) (s-room : s ≤ roomy) (b-room : b ≤ roomy) (P : Pair m s b a c y y') where
  joined_above : (i : ℕ) → i < 2 * m → tone_of (joined m y i) ≤ tone_of (joined m y' i) + line_far a c
  joined_above i h = by (dec_lt (i % 2) 1)
    where
      by : Dec (i % 2 < 1) → tone_of (joined m y i) ≤ tone_of (joined m y' i) + line_far a c
      by (yes l) =
          let e : 2 * (i / 2) ≡ i = omega arith in
          rw (← e, joined_even m y (i / 2), joined_even m y' (i / 2))
          (omega (arith, even_above m s b a c y y' s-room b-room P (i / 2) (omega arith), line_far_half a c))
      by (no l) =
          let e : 2 * (i / 2) + 1 ≡ i = omega arith in
          rw (← e, joined_odd m y (i / 2), joined_odd m y' (i / 2)) (odd_line c m s b a y y' s-room b-room P (i / 2) (omega arith))

-- Two lines, as numbers.
pub record Lines (m s b a c : ℕ) (y y' : Line) : Type 0 where
  pub lows : (i : ℕ) → i < m → nat_abs (y i) ≤ s
  pub highs : (i : ℕ) → i < m → nat_abs (y (m + i)) ≤ b
  pub lows' : (i : ℕ) → i < m → nat_abs (y' i) ≤ s
  pub highs' : (i : ℕ) → i < m → nat_abs (y' (m + i)) ≤ b
  pub lows_near : (i : ℕ) → i < m → Nearby a (y i) (y' i)
  pub highs_near : (i : ℕ) → i < m → Nearby c (y (m + i)) (y' (m + i))

module _ (m s b a c : ℕ) (y y' : Line) (s-room : s ≤ roomy) (b-room : b ≤ roomy) (L : Lines m s b a c y y') where
  pair : Pair m s b a c y y'
  pair =
      record {
        lows = L.lows;
        highs = L.highs;
        lows' = L.lows';
        highs' = L.highs';
        lows_near = λ i h.
            nearby_close a (y i) (y' i) (omega (arith, L.lows i h)) (omega (arith, L.lows' i h)) (L.lows_near i h);
        highs_near = λ i h.
            nearby_close c (y (m + i)) (y' (m + i)) (omega (arith, L.highs i h)) (omega (arith, L.highs' i h)) (L.highs_near i h);
      }

  pub joined_near : (i : ℕ) → i < 2 * m → Nearby (line_far a c) (joined m y i) (joined m y' i)
  joined_near i h =
      close_nearby (line_far a c) (joined m y i) (joined m y' i)
      (omega (arith, joined_most_lem m y s b s-room b-room L.lows L.highs i h))
      (omega (arith, joined_most_lem m y' s b s-room b-room L.lows' L.highs' i h))
      (joined_above m s b a c y y' s-room b-room pair i h, joined_above m s b a c y' y s-room b-room (swapped pair) i h)
