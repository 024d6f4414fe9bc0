-- The parent: a coefficient outside the LL band is the offspring of its parent alone, once.
use Rattle.std.specs.Prelude.{cond, ℕ, ◌/◌, eqb}
use Rattle.rules.specs.declared.Size.{Size}
use Rattle.rules.specs.Document.Pyramid.{index, row, column, level_of}
use Rattle.rules.specs.Laws.Offspring.Block.{together}
use Rattle.rules.specs.Laws.Offspring.Block.{half_rows, half_columns}

unfoldable pub parent : Size → ℕ → ℕ
parent z q =
    cond (eqb (level_of z q) z.n)
    (index z (together (half_rows z) (row z q / 2)) (together (half_columns z) (column z q / 2)))
    (index z (row z q / 2) (column z q / 2))
