-- Tones: the code never holds a number below 0. A number v stands in the workspace as its tone, v + 2^28, so that sums, halves and quarters
-- are of natural numbers, and each of a high, a low, an even and an odd number is one line of them.
use Rattle.std.specs.Prelude.{ℕ, suc, ◌+◌, ◌-◌, ◌/◌, ◌≤◌, ℤ, pos, negsuc}
use Rattle.std.proofs.Math.IntN.{sub_ℕ}

abbrev pub bias : ℕ
bias = 268435456

-- the number that a tone stands for
abbrev pub toned : ℕ → ℤ
toned t = sub_ℕ t bias

-- a high, of the numbers left of it, at its place and right of it; a low, of the number at its place and the highs beside it
abbrev pub tone_high : ℕ → ℕ → ℕ → ℕ
tone_high a b c = b + bias - (a + c) / 2

abbrev pub tone_low : ℕ → ℕ → ℕ → ℕ
tone_low x d e = x + (d + e + 2) / 4 - bias / 2

-- and back: an even number of its low and the highs beside it, an odd one of its high and the even numbers beside it
abbrev pub tone_even : ℕ → ℕ → ℕ → ℕ
tone_even s d e = s + bias / 2 - (d + e + 2) / 4

abbrev pub tone_odd : ℕ → ℕ → ℕ → ℕ
tone_odd d x y = d + (x + y) / 2 - bias

-- A number's own tone, and how far from the bias it is.
unfoldable pub tone_of : ℤ → ℕ
tone_of (pos n) = bias + n
tone_of (negsuc n) = bias - suc n

pub record Around (r t : ℕ) : Type 0 where
  pub least : bias ≤ t + r
  pub most : t ≤ bias + r
