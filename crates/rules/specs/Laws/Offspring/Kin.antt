-- Who is whose offspring, by rows and columns: each offspring once, in the pyramid, and one level under its parent.
use Rattle.std.specs.Prelude.{◌≡◌, true, ◌||◌, ℕ, ◌/◌, ◌≤◌, ◌<◌}
use Rattle.rules.specs.declared.Size.{Size}
use Rattle.rules.specs.Document.Pyramid.{odd, row, column, level_of}
use Rattle.rules.specs.Laws.Offspring.Block.{apart, half_rows, half_columns}

-- q is an offspring of p, by their rows and columns: p is in the LL band, or in one of the levels 2 to N.
pub data Kin (z : Size) (p q : ℕ) : Type 0 where
  band : z.n < level_of z p → odd (row z p) || odd (column z p) ≡ true → apart (half_rows z) (row z p) ≡ row z q / 2
      → apart (half_columns z) (column z p) ≡ column z q / 2 → Kin z p q
  inner : 2 ≤ level_of z p → level_of z p ≤ z.n → row z p ≡ row z q / 2 → column z p ≡ column z q / 2 → Kin z p q
