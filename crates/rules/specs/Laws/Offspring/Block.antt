-- The block of a coefficient's offspring, by its row and its column: the offspring of a level 2 to N are at twice them. Those of the LL band
-- are at twice what the band's order of rows and columns becomes when the even ones are put first.
--
--   apart m i        even i go to the first m, odd i to the next m
--   together m x     and back
use Rattle.std.specs.Prelude.{List, cond, ltb}
use Prim.Native.Nat.{ℕ, suc, ◌+◌, ◌-◌, ◌*◌, ◌/◌, ◌%◌, ◌^◌}
use Rattle.rules.specs.declared.Size.{Size}
use Rattle.rules.specs.Document.Pyramid.{block}

unfoldable pub apart : ℕ → ℕ → ℕ
apart m i = i / 2 + i % 2 * m

unfoldable pub together : ℕ → ℕ → ℕ
together m x = cond (ltb x m) (2 * x) (2 * (x - m) + 1)

-- Half of the rows and of the columns of the LL band, and the block of one of its coefficients.
abbrev pub half_rows : Size → ℕ
half_rows z = z.h / 2 ^ suc z.n

abbrev pub half_columns : Size → ℕ
half_columns z = z.w / 2 ^ suc z.n

abbrev pub block_ll : Size → ℕ → ℕ → List ℕ
block_ll z i j = block z (2 * apart (half_rows z) i) (2 * apart (half_columns z) j)
