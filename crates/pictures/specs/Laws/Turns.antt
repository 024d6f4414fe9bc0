-- How great numbers can become, turn by turn, on the way in and on the way back.
use Rattle.std.specs.Prelude.{List, get_or, nat_abs}
use Prim.Native.Nat.{ℕ, zero, suc, ◌+◌, ◌-◌, ◌*◌, ◌/◌, ◌^◌, ◌≤◌, ◌<◌}
use Rattle.rules.specs.declared.Size.{Size}
use Rattle.rules.specs.Document.Pyramid.{area}
use Rattle.pictures.specs.Document.Lifting.{Grid, turn_back}
use Rattle.pictures.specs.Laws.Growth.{low_most}

-- In the first h rows and w columns no magnitude is over r.
abbrev pub Most : ℕ → ℕ → ℕ → Grid → Type 0
Most h w r g = (i j : ℕ) → i < h → j < w → nat_abs (g i j) ≤ r

-- each pixel at most 255
abbrev pub most_pixel : ℕ
most_pixel = 255

abbrev pub Pixels : Size → List ℕ → Type 0
Pixels z pixels = (q : ℕ) → q < area z → get_or pixels q 0 ≤ most_pixel

-- A block of h rows and w columns with its lows, in its first quarter, up to s, and all its highs up to b.
pub record Bands (h w s b : ℕ) (g : Grid) : Type 0 where
  pub lows : Most (h / 2) (w / 2) s g
  pub highs : (i j : ℕ) → i < h → j < w → (i < h / 2 → j < w / 2 → ⊥) → nat_abs (g i j) ≤ b

-- The greatest magnitude in the block that turn l takes, of a picture with magnitudes up to r.
unfoldable pub grown : ℕ → ℕ → ℕ
grown zero r = r
grown (suc l) r = low_most (low_most (grown l r))

-- The way back, of a pyramid with magnitudes up to b: after k turns, those of the block that turn l left are up to this, all others as before.
abbrev pub back_most : ℕ → ℕ → ℕ
back_most b k = b + k * (6 * (b + 1))

pub record Unturned (z : Size) (b k l : ℕ) (g : Grid) : Type 0 where
  pub inside : Most (z.h / 2 ^ l) (z.w / 2 ^ l) (back_most b k) g
  pub outside : (i j : ℕ) → i < z.h → j < z.w → (i < z.h / 2 ^ l → j < z.w / 2 ^ l → ⊥) → nat_abs (g i j) ≤ b

-- The way back turn by turn: what a pyramid has become after k turns.
unfoldable pub returned : Size → ℕ → Grid → Grid
returned z zero g = g
returned z (suc k) g = turn_back z (z.n - suc k) (returned z k g)
