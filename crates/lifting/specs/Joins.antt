-- The way back: lines of tones joined, rows of a turn, and a turn.
use Rattle.std.specs.Prelude.{◌≡◌, List, cond, ℕ, suc, ◌+◌, ◌-◌, ◌*◌, ◌/◌, ◌%◌, ◌≤◌, ◌<◌, min, eqb, length, get_or, ℤ, pos, negsuc, nat_abs}
use Rattle.pictures.specs.Laws.Tones.{bias, tone_even, tone_odd}
use Rattle.pictures.specs.Laws.Room.{shallow, most_back}
use Rattle.lifting.specs.declared.Turn.{Turn}
use Rattle.lifting.specs.Fills.{along, Off}
use Rattle.lifting.specs.Lines.{reach, line, Near}

abbrev pub tone_of : ℤ → ℕ
tone_of (pos m) = bias + m
tone_of (negsuc m) = bias - suc m

-- the tones of coefficients from a place on
abbrev pub tones_at : List ℤ → ℕ → ℕ → ℕ
tones_at pyramid at c = tone_of (get_or pyramid (at + c) (pos 0))

-- m lows and m highs joined: as `even`, `odd` and `joined` of the document, on tones.
unfoldable pub even_t : (ℕ → ℕ) → (ℕ → ℕ) → ℕ → ℕ
even_t l h j = tone_even (l j) (h (j - 1)) (h j)

unfoldable pub odd_t : ℕ → (ℕ → ℕ) → (ℕ → ℕ) → ℕ → ℕ
odd_t m l h j = tone_odd (h j) (even_t l h j) (even_t l h (min (j + 1) (m - 1)))

unfoldable pub joined_t : ℕ → (ℕ → ℕ) → (ℕ → ℕ) → ℕ → ℕ
joined_t m l h c = cond (eqb (c % 2) 0) (even_t l h (c / 2)) (odd_t m l h (c / 2))

pub record ForLoad (pyramid : List ℤ) (at : ℕ) (s : List ℕ) (to count : ℕ) : Type 0 where
  pub there : at + count ≤ length pyramid
  pub room : to + count ≤ length s
  pub small : (c : ℕ) → c < count → nat_abs (get_or pyramid (at + c) (pos 0)) ≤ most_back

-- coefficients as tones
pub record Loaded (row : List ℤ) (line : List ℕ) : Type 0 where
  pub same : length line ≡ length row
  pub each : (c : ℕ) → c < length row → get_or line c 0 ≡ tone_of (get_or row c (pos 0))

-- lows and highs apart from the line that they are joined to, and from the number behind it
pub record ForJoin (s : List ℕ) (lows highs to m : ℕ) : Type 0 where
  pub some : 1 ≤ m
  pub low_near : Near (line s lows) m shallow
  pub high_near : Near (line s highs) m shallow
  pub lows_room : lows + m ≤ length s
  pub highs_room : highs + m ≤ length s
  pub room : to + (2 * m + 1) ≤ length s
  pub lows_off : (c : ℕ) → c < m → Off (lows + c) (along to) (2 * m + 1)
  pub highs_off : (c : ℕ) → c < m → Off (highs + c) (along to) (2 * m + 1)

abbrev pub OddAsks : ℕ → ℕ → ℕ → Type 0
OddAsks d x y =
    (bias ≤ d + reach) × (d ≤ bias + reach) × (bias ≤ x + 2 * reach) × (x ≤ bias + 2 * reach) × (bias ≤ y + 2 * reach)
    × (y ≤ bias + 2 * reach)

-- the odd numbers, between even ones that stand
pub record ForOdds (s : List ℕ) (highs to m : ℕ) : Type 0 where
  pub high_near : Near (line s highs) m shallow
  pub even_near : Near (λ j. line s to (2 * j)) (m + 1) (2 * shallow)
  pub highs_room : highs + m ≤ length s
  pub room : to + (2 * m + 1) ≤ length s
  pub highs_off : (c : ℕ) → c < m → Off (highs + c) (along to) (2 * m + 1)

abbrev pub between : List ℕ → ℕ → ℕ → ℕ → ℕ
between s highs to j = tone_odd (line s highs j) (line s to (2 * j)) (line s to (2 * j + 2))

pub record LineJoined (s₀ : List ℕ) (lows highs to m : ℕ) (s : List ℕ) : Type 0 where
  pub same : length s ≡ length s₀
  pub joined : (c : ℕ) → c < 2 * m → line s to c ≡ joined_t m (line s₀ lows) (line s₀ highs) c
  pub kept : (q : ℕ) → Off q (along to) (2 * m + 1) → get_or s q 0 ≡ get_or s₀ q 0

-- The way back's room: the picture lies before the lines; what was turned back of the pyramid and what is to come.
pub record BackRoom (t : Turn) (pyramid : List ℤ) (s : List ℕ) : Type 0 where
  pub some : 1 ≤ t.half
  pub wide : 2 * t.half ≤ t.stride
  pub picture : 4 * (t.pairs * t.half) ≤ t.lines
  pub lines : t.lines + (8 * t.half + 3) ≤ length s
  pub rows : 2 * (t.pairs * t.stride) ≤ length pyramid
  pub small : (q : ℕ) → q < length pyramid → nat_abs (get_or pyramid q (pos 0)) ≤ most_back

-- where the rows of highs stand, its own and the one before, the row of lows, and what is loaded
abbrev pub highs_before : Turn → ℕ
highs_before t = t.lines + (2 * t.half + 1)

abbrev pub lows_joined : Turn → ℕ
lows_joined t = t.lines + (4 * t.half + 2)

abbrev pub loaded : Turn → ℕ
loaded t = t.lines + (6 * t.half + 3)

-- row r of the lows and of the highs, joined
abbrev pub low_row : Turn → List ℤ → List ℕ → ℕ → ℕ → ℕ
low_row t pyramid s r = joined_t t.half (line s (r * t.half)) (tones_at pyramid (r * t.stride + t.half))

abbrev pub high_row : Turn → List ℤ → ℕ → ℕ → ℕ
high_row t pyramid r =
    joined_t t.half (tones_at pyramid ((t.pairs + r) * t.stride)) (tones_at pyramid ((t.pairs + r) * t.stride + t.half))

pub record ForLowRow (t : Turn) (pyramid : List ℤ) (s : List ℕ) (i : ℕ) : Type 0 where
  pub room : BackRoom t pyramid s
  pub below : i < t.pairs
  pub near : Near (line s (i * t.half)) t.half shallow

pub record LowRowJoined (t : Turn) (pyramid : List ℤ) (s₀ : List ℕ) (i : ℕ) (s : List ℕ) : Type 0 where
  pub same : length s ≡ length s₀
  pub row : (c : ℕ) → c < 2 * t.half → line s (lows_joined t) c ≡ low_row t pyramid s₀ i c
  pub kept : (q : ℕ) → q < lows_joined t → get_or s q 0 ≡ get_or s₀ q 0

pub record ForHighRow (t : Turn) (pyramid : List ℤ) (s : List ℕ) (i to : ℕ) : Type 0 where
  pub room : BackRoom t pyramid s
  pub below : i < t.pairs
  pub from : t.lines ≤ to
  pub end : to ≤ highs_before t

pub record HighRowJoined (t : Turn) (pyramid : List ℤ) (s₀ : List ℕ) (i to : ℕ) (s : List ℕ) : Type 0 where
  pub same : length s ≡ length s₀
  pub row : (c : ℕ) → c < 2 * t.half → line s to c ≡ high_row t pyramid i c
  pub kept : (q : ℕ) → q < loaded t → Off q (along to) (2 * t.half + 1) → get_or s q 0 ≡ get_or s₀ q 0

-- rows: the even one, the odd one behind it; the highs before become its own
pub record ForEvenRow (s : List ℕ) (e p d to w : ℕ) : Type 0 where
  pub lows : Near (line s e) w reach
  pub before : Near (line s p) w reach
  pub own : Near (line s d) w reach
  pub apart : to + w ≤ d
  pub order : d + w ≤ p
  pub last : p + w ≤ e
  pub room : e + w ≤ length s

abbrev pub row_even : List ℕ → ℕ → ℕ → ℕ → ℕ → ℕ
row_even s e p d j = tone_even (line s e j) (line s p j) (line s d j)

pub record ForOddRow (s : List ℕ) (d p next to w : ℕ) : Type 0 where
  pub own : Near (line s d) w reach
  pub even : Near (line s to) w (2 * reach)
  pub after : Near (line s next) w (2 * reach)
  pub next_off : (c : ℕ) → c < w → Off (next + c) (along (to + w)) w
  pub next_before : next + w ≤ d
  pub apart : to + w + w ≤ d
  pub order : d + w ≤ p
  pub room : p + w ≤ length s

abbrev pub row_odd : List ℕ → ℕ → ℕ → ℕ → ℕ → ℕ
row_odd s d to next j = tone_odd (line s d j) (line s to j) (line s next j)

-- pair i: rows 2i and 2i + 1 of the picture; its row of highs stands in its line
pub record ForJoinPair (t : Turn) (pyramid : List ℤ) (s : List ℕ) (i : ℕ) : Type 0 where
  pub room : BackRoom t pyramid s
  pub below : i < t.pairs
  pub near : Near (line s (i * t.half)) t.half shallow
  pub highs : (c : ℕ) → c < 2 * t.half → line s t.lines c ≡ high_row t pyramid i c
  pub after : i + 1 < t.pairs → Near (line s (2 * (i + 1) * (2 * t.half))) (2 * t.half) (2 * reach)

module _ (t : Turn) (pyramid : List ℤ) (s : List ℕ) (i : ℕ) where
  abbrev pub pair_even : ℕ → ℕ
  pair_even c = tone_even (low_row t pyramid s i c) (high_row t pyramid (i - 1) c) (high_row t pyramid i c)

pub record PairJoined (t : Turn) (pyramid : List ℤ) (s₀ : List ℕ) (i : ℕ) (s : List ℕ) : Type 0 where
  pub same : length s ≡ length s₀
  pub even : (c : ℕ) → c < 2 * t.half → get_or s (2 * i * (2 * t.half) + c) 0 ≡ pair_even t pyramid s₀ i c
  pub odd : (c : ℕ) → c < 2 * t.half
      → get_or s (2 * i * (2 * t.half) + 2 * t.half + c) 0
      ≡ tone_odd (high_row t pyramid i c) (pair_even t pyramid s₀ i c) (get_or s (2 * min (i + 1) (t.pairs - 1) * (2 * t.half) + c) 0)
  pub highs : (c : ℕ) → c < 2 * t.half → line s t.lines c ≡ high_row t pyramid (i - 1) c
  pub kept : (q : ℕ) → q < t.lines → Off q (along (2 * i * (2 * t.half))) (2 * (2 * t.half)) → get_or s q 0 ≡ get_or s₀ q 0

-- A turn back: the block of `pairs` rows and `half` columns at the start of the workspace becomes the one of twice as many.
pub record ForJoinTurn (t : Turn) (pyramid : List ℤ) (s : List ℕ) : Type 0 where
  pub room : BackRoom t pyramid s
  pub some : 1 ≤ t.pairs
  pub near : (r : ℕ) → r < t.pairs → Near (line s (r * t.half)) t.half shallow

-- each row joined, then each column
abbrev pub returned_t : Turn → List ℤ → List ℕ → ℕ → ℕ → ℕ
returned_t t pyramid s r c = joined_t t.pairs (λ k. low_row t pyramid s k c) (λ k. high_row t pyramid k c) r

pub record TurnJoined (t : Turn) (pyramid : List ℤ) (s₀ s : List ℕ) : Type 0 where
  pub same : length s ≡ length s₀
  pub picture : (r c : ℕ) → r < 2 * t.pairs → c < 2 * t.half → get_or s (r * (2 * t.half) + c) 0 ≡ returned_t t pyramid s₀ r c

-- a block of h rows and w columns loaded
pub record ForBlockLoad (pyramid : List ℤ) (s : List ℕ) (h w stride : ℕ) : Type 0 where
  pub there : h * stride ≤ length pyramid
  pub room : h * w ≤ length s
  pub wide : w ≤ stride
  pub small : (q : ℕ) → q < length pyramid → nat_abs (get_or pyramid q (pos 0)) ≤ most_back

pub record BlockLoaded (pyramid : List ℤ) (s₀ : List ℕ) (h w stride : ℕ) (s : List ℕ) : Type 0 where
  pub same : length s ≡ length s₀
  pub loads : (r c : ℕ) → r < h → c < w → get_or s (r * w + c) 0 ≡ tone_of (get_or pyramid (r * stride + c) (pos 0))
