-- Rows of a turn: `half` and `pairs` are half the sides of its block.
use Rattle.std.specs.Prelude.{◌≡◌, ◌≢◌, List, ℕ, ◌+◌, ◌-◌, ◌*◌, ◌≤◌, ◌<◌, min, length, get_or, ℤ, pos}
use Rattle.pictures.specs.Laws.Tones.{toned}
use Rattle.pictures.specs.Laws.Room.{shallow}
use Rattle.lifting.specs.declared.Turn.{Turn}
use Rattle.lifting.specs.Fills.{along, Off, Filled}
use Rattle.lifting.specs.Lines.{reach, line, Near, row_high, row_low, high_t, low_t, split_t}

-- The picture lies before the lines; the lines and the pyramid have their room.
pub record Room (t : Turn) (s : List ℕ) (out : List ℤ) : Type 0 where
  pub some : 1 ≤ t.half
  pub wide : 2 * t.half ≤ t.stride
  pub picture : 4 * (t.pairs * t.half) ≤ t.lines
  pub lines : t.lines + (8 * t.half + 3) ≤ length s
  pub rows : 2 * (t.pairs * t.stride) ≤ length out

-- row i of the lows or of the highs, which stands at x
pub record ForRow (t : Turn) (s : List ℕ) (out : List ℤ) (i x : ℕ) : Type 0 where
  pub room : Room t s out
  pub below : i < t.pairs
  pub near : Near (line s x) (2 * t.half) reach

abbrev pub lows_at : Turn → ℕ
lows_at t = t.lines + (2 * t.half + 1)

-- Of a row of lows the lows go to the next picture, the highs to the pyramid.
pub record LowRow (t : Turn) (s₀ : List ℕ) (out₀ : List ℤ) (i : ℕ) (s : List ℕ) (out : List ℤ) : Type 0 where
  pub same : length s ≡ length s₀
  pub lows : (c : ℕ) → c < t.half → get_or s (i * t.half + c) 0 ≡ low_t t.half (line s₀ (lows_at t)) c
  pub kept : (q : ℕ) → q < t.lines + 2 * t.half → Off q (along (i * t.half)) t.half → get_or s q 0 ≡ get_or s₀ q 0
  pub highs : Filled (pos 0) out₀ (along (i * t.stride + t.half)) (λ c. toned (high_t t.half (line s₀ (lows_at t)) c)) t.half out

-- A row of highs goes to the pyramid, lows and highs.
pub record HighRow (t : Turn) (s₀ : List ℕ) (out₀ : List ℤ) (i : ℕ) (s : List ℕ) (out : List ℤ) : Type 0 where
  pub same : length s ≡ length s₀
  pub kept : (q : ℕ) → q < t.lines + 2 * t.half → get_or s q 0 ≡ get_or s₀ q 0
  pub bands : Filled (pos 0) out₀ (along ((t.pairs + i) * t.stride)) (λ c. toned (split_t t.half (line s₀ t.lines) c)) (2 * t.half) out

-- Two rows of the picture, from which rows i of lows and of highs are made. What was written of the next picture lies before them.
pub record ForPair (t : Turn) (s : List ℕ) (out : List ℤ) (i : ℕ) : Type 0 where
  pub room : Room t s out
  pub below : i < t.pairs
  pub near : (r : ℕ) → 2 * i ≤ r → r < 2 * t.pairs → Near (line s (r * (2 * t.half))) (2 * t.half) shallow
  pub before : Near (line s t.lines) (2 * t.half) (2 * shallow)

-- where the even row of pair i stands, and the even row after it
abbrev pub even_row : Turn → ℕ → ℕ
even_row t i = 2 * i * (2 * t.half)

abbrev pub after_row : Turn → ℕ → ℕ
after_row t i = 2 * min (i + 1) (t.pairs - 1) * (2 * t.half)

abbrev pub pair_high : Turn → List ℕ → ℕ → ℕ → ℕ
pair_high t s i = row_high s (even_row t i) (even_row t i + 2 * t.half) (after_row t i)

abbrev pub pair_low : Turn → List ℕ → ℕ → ℕ → ℕ
pair_low t s i = row_low s (even_row t i) (even_row t i + 2 * t.half) (after_row t i) t.lines

pub record Pair (t : Turn) (s₀ : List ℕ) (out₀ : List ℤ) (i : ℕ) (s : List ℕ) (out : List ℤ) : Type 0 where
  pub same : length s ≡ length s₀
  pub same_out : length out ≡ length out₀
  pub next : (c : ℕ) → c < t.half → get_or s (i * t.half + c) 0 ≡ low_t t.half (pair_low t s₀ i) c
  pub highs : (c : ℕ) → c < 2 * t.half → line s t.lines c ≡ pair_high t s₀ i c
  pub kept : (q : ℕ) → q < t.lines → Off q (along (i * t.half)) t.half → get_or s q 0 ≡ get_or s₀ q 0
  pub right : (c : ℕ) → c < t.half → get_or out (i * t.stride + t.half + c) (pos 0) ≡ toned (high_t t.half (pair_low t s₀ i) c)
  pub bottom : (c : ℕ) → c < 2 * t.half → get_or out ((t.pairs + i) * t.stride + c) (pos 0) ≡ toned (split_t t.half (pair_high t s₀ i) c)
  pub kept_rows : (r c : ℕ) → c < t.stride → r ≢ i → r ≢ t.pairs + i
      → get_or out (r * t.stride + c) (pos 0) ≡ get_or out₀ (r * t.stride + c) (pos 0)
  pub kept_beside : (r c : ℕ) → 2 * t.half ≤ c → c < t.stride
      → get_or out (r * t.stride + c) (pos 0) ≡ get_or out₀ (r * t.stride + c) (pos 0)
