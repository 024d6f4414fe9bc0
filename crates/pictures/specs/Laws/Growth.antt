-- How much greater than the numbers of a line its highs, lows, even and odd numbers can be, and so those of a turn.
use Rattle.std.specs.Prelude.{ℕ, ◌+◌, ◌*◌, ◌/◌}

-- The greatest magnitude that this speaks of: far more than a picture's, and little enough for its tones to be natural numbers.
abbrev pub roomy : ℕ
roomy = 67108864

-- A line that is split: its highs may be twice as great, its lows half as great again.
abbrev pub low_most : ℕ → ℕ
low_most r = (6 * r + 3) / 4

-- A line that is joined, of lows up to s and highs up to b.
abbrev pub joined_most : ℕ → ℕ → ℕ
joined_most s b = s + b + (b + 1) / 2
