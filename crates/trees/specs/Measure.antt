-- A measure of sets: as many planes as the largest magnitude has, and one more, so that 0 is none. And how the largest of any measure in a set
-- is found from four neighbours.
--
--   kept_of m          what is kept of a magnitude m
--   four_most f x      the largest that f gives for the four under x
--   largest_d z m x    the largest of the measure m in D of tree number x
--   largest_l z m x    and in L
use Prim.Native.Nat.{ℕ, ◌+◌, ◌*◌, max}
use Rattle.rules.specs.declared.Size.{Size}
use Rattle.rules.specs.Document.Notation.{greatest}
use Rattle.rules.specs.Document.Pyramid.{planes_of}
use Rattle.rules.specs.Document.Passes.{typeA, typeB, members}
use Rattle.trees.specs.Family.{trees}

unfoldable pub kept_of : ℕ → ℕ
kept_of m = planes_of m + 1

abbrev pub four_most : (ℕ → ℕ) → ℕ → ℕ
four_most f x = max (max (f (4 * x)) (f (4 * x + 1))) (max (f (4 * x + 2)) (f (4 * x + 3)))

module _ (z : Size) (m : ℕ → ℕ) where
  abbrev pub largest_d : ℕ → ℕ
  largest_d x = greatest m (members (trees z) (typeA x))

  abbrev pub largest_l : ℕ → ℕ
  largest_l x = greatest m (members (trees z) (typeB x))
