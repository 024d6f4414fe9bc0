-- Lines of tones in the workspace, lifted.
use Rattle.std.specs.Prelude.{◌≡◌, List, cond, ℕ, ◌+◌, ◌-◌, ◌*◌, ◌≤◌, ◌<◌, min, ltb, length, get_or, ℤ, pos}
use Rattle.pictures.specs.Laws.Tones.{bias, toned, tone_high, tone_low}
use Rattle.lifting.specs.Fills.{along, Off}

-- How far from the bias the tones of a line may be, for what is made of them to be a tone.
abbrev pub reach : ℕ
reach = 67108864

-- the numbers from a place on
abbrev pub line : List ℕ → ℕ → ℕ → ℕ
line s at c = get_or s (at + c) 0

-- n tones within b of the bias
pub record Near (x : ℕ → ℕ) (n b : ℕ) : Type 0 where
  pub least : (c : ℕ) → c < n → bias ≤ x c + b
  pub most : (c : ℕ) → c < n → x c ≤ bias + b

-- the row of highs of three rows
pub record ForHighs (s : List ℕ) (a b c to w : ℕ) : Type 0 where
  pub above : Near (line s a) w reach
  pub own : Near (line s b) w reach
  pub below : Near (line s c) w reach
  pub above_apart : a + w ≤ to
  pub own_apart : b + w ≤ to
  pub below_apart : c + w ≤ to
  pub room : to + w ≤ length s

-- and the row of lows, the highs before standing at d
pub record ForRows (s : List ℕ) (a b c d e w : ℕ) : Type 0 where
  pub highs : ForHighs s a b c d w
  pub before : Near (line s d) w (2 * reach)
  pub apart : d + w ≤ e
  pub room : e + w ≤ length s

abbrev pub row_high : List ℕ → ℕ → ℕ → ℕ → ℕ → ℕ
row_high s a b c j = tone_high (line s a j) (line s b j) (line s c j)

abbrev pub row_low : List ℕ → ℕ → ℕ → ℕ → ℕ → ℕ → ℕ
row_low s a b c d j = tone_low (line s a j) (line s d j) (row_high s a b c j)

-- a line of 2m numbers split, one more standing behind it
abbrev pub high_of : (ℕ → ℕ) → ℕ → ℕ
high_of x j = tone_high (x (2 * j)) (x (2 * j + 1)) (x (2 * j + 2))

abbrev pub low_of : (ℕ → ℕ) → ℕ → ℕ
low_of x j = tone_low (x (2 * j)) (high_of x (j - 1)) (high_of x j)

pub record ForSplit (s : List ℕ) (x lows highs m : ℕ) : Type 0 where
  pub near : Near (line s x) (2 * m + 1) reach
  pub some : 1 ≤ m
  pub room : x + (2 * m + 1) ≤ length s
  pub lows_room : lows + m ≤ length s
  pub highs_room : highs + m ≤ length s
  pub lows_off : (c : ℕ) → c < 2 * m + 1 → Off (x + c) (along lows) m
  pub highs_off : (c : ℕ) → c < 2 * m + 1 → Off (x + c) (along highs) m
  pub apart : (c : ℕ) → c < m → Off (lows + c) (along highs) m

-- A line of 2m tones split: as `high`, `low` and `split` of the document, on tones.
unfoldable pub high_t : ℕ → (ℕ → ℕ) → ℕ → ℕ
high_t m x j = tone_high (x (2 * j)) (x (2 * j + 1)) (x (2 * min (j + 1) (m - 1)))

unfoldable pub low_t : ℕ → (ℕ → ℕ) → ℕ → ℕ
low_t m x j = tone_low (x (2 * j)) (high_t m x (j - 1)) (high_t m x j)

unfoldable pub split_t : ℕ → (ℕ → ℕ) → ℕ → ℕ
split_t m x j = cond (ltb j m) (low_t m x j) (high_t m x (j - m))

-- a line of tones stored as coefficients
pub record ForStore (s : List ℕ) (from : ℕ) (out : List ℤ) (at count : ℕ) : Type 0 where
  pub there : from + count ≤ length s
  pub room : at + count ≤ length out
  pub small : (c : ℕ) → c < count → line s from c ≤ 2 * bias

-- a line's tones as coefficients
pub record Stored (line : List ℕ) (out : List ℤ) : Type 0 where
  pub same : length out ≡ length line
  pub each : (c : ℕ) → c < length line → get_or out c (pos 0) ≡ toned (get_or line c 0)
