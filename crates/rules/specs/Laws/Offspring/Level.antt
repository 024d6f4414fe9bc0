-- Rows, columns and levels: how far a coefficient lies within the halves of the pyramid says its level.
use Prim.Native.Nat.{ℕ, ◌/◌, ◌^◌, ◌<◌}
use Rattle.rules.specs.declared.Size.{Size}
use Rattle.rules.specs.Document.Pyramid.{row, column}

-- In the first H / 2^k rows and W / 2^k columns.
abbrev pub Within : Size → ℕ → ℕ → Type 0
Within z k q = (row z q < z.h / 2 ^ k) × (column z q < z.w / 2 ^ k)
