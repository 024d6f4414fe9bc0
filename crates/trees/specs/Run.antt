-- The number of each coefficient, and a pyramid's parts by tree numbers.
--
--   band_number z b q   tree number of coefficient q of the LL band, its row or column odd if b
--   number_of z q       tree number of coefficient q
--   tree_band z         the LL band row by row, in tree numbers
--   tree_root z x       x as a set of type A, if it has offspring
--   tree_start z        what the passes start with, in tree numbers
use Rattle.std.specs.Prelude.{Bool, ◌||◌, leb, eqb}
use mathlib.Core.List.{List, [], ◌∷◌, map}
use Rattle.std.proofs.Math.Bool.{true, false, cond}
use Prim.Native.Nat.{ℕ, ◌+◌, ◌*◌, ◌/◌}
use Rattle.rules.specs.declared.Size.{Size}
use Rattle.rules.specs.Document.Notation.{flat, if_any}
use Rattle.rules.specs.Document.Pyramid.{odd, row, column, levels, level_of}
use Rattle.rules.specs.Document.Passes.{Entry, typeA, State, band_ll}
use Rattle.rules.specs.Laws.Family.Sizes.{span}
use Rattle.rules.specs.Laws.Offspring.Block.{half_columns}
use Rattle.trees.specs.Places.{root_of_band, tree_of}
use Rattle.trees.specs.Family.{tree_offspring}

module _ (z : Size) where
  unfoldable pub band_number : Bool → ℕ → ℕ
  band_number true q = span z (levels z) + root_of_band z q
  band_number false q = row z q / 2 * half_columns z + column z q / 2

  unfoldable pub number_of : ℕ → ℕ
  number_of q = cond (leb (level_of z q) z.n) (span z (level_of z q) + tree_of z q) (band_number (odd (row z q) || odd (column z q)) q)

  unfoldable pub tree_root : ℕ → List Entry
  tree_root x = if_any (tree_offspring z x) (typeA x ∷ [])

  abbrev pub tree_band : List ℕ
  tree_band = map number_of (band_ll z)

  unfoldable pub tree_start : State
  tree_start k =
      cond (eqb k (levels z))
      (record { lip = tree_band; lis = flat tree_root tree_band; lsp = [] })
      (record { lip = []; lis = []; lsp = [] })
