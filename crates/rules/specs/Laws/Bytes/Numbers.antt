-- A number's bytes, one group at a time: how many they are, that each is a byte, and how they are read.
use Rattle.std.specs.Prelude.{ℕ, ◌^◌}

-- Numbers of at most four groups are under this.
abbrev pub too_large : ℕ
too_large = 2 ^ 28
