-- One numbering for the whole pyramid, under which a pass needs no level, no width and no case: tree number x has the offspring 4 x, 4 x + 1,
-- 4 x + 2 and 4 x + 3.
--
--   node t of level k, 1 to N         span z k + t: the levels end to end, coarsest first
--   root u of the LL band             span z (N + 1) + u
--   group g's even, even coefficient  g
--
--   tree_level z x        level of tree number x, 0 outside the pyramid
--   tree_offspring z x    its offspring
--   tree_descendants z x  its descendants
--   tree_max_d z m g x     the largest of a measure m in D, over g generations
--   tree_max_l z m g x     and in L, over one more
--   trees z              the family on tree numbers
--   coefficient_of z x    the coefficient that has tree number x; outside the pyramid x itself
--   Lies z k x           x is where the tree numbers of level k are
use Rattle.std.specs.Prelude.{◌&&◌, leb, ltb}
use mathlib.Core.List.{List, [], ◌++◌}
use Rattle.std.proofs.Math.Bool.{cond}
use Prim.Native.Nat.{ℕ, zero, suc, ◌-◌, ◌*◌, ◌/◌, ◌%◌, max}
use Rattle.rules.specs.declared.Size.{Size}
use Rattle.rules.specs.Document.Notation.{flat, greatest}
use Rattle.rules.specs.Document.Pyramid.{Family, index, levels}
use Rattle.rules.specs.Laws.Family.Sizes.{span}
use Rattle.rules.specs.Laws.Offspring.Block.{half_columns}
use Rattle.trees.specs.Places.{four_of, root_at, raster_of}

module _ (z : Size) where
  unfoldable pub tree_up_to : ℕ → ℕ → ℕ
  tree_up_to zero x = 0
  tree_up_to (suc k) x = cond (ltb x (span z k)) (suc k) (tree_up_to k x)

  unfoldable pub tree_level : ℕ → ℕ
  tree_level x = tree_up_to (levels z) x

  unfoldable pub tree_offspring : ℕ → List ℕ
  tree_offspring x = cond (leb (span z (levels z)) x && ltb x (span z 1)) (four_of (λ y. y) x) []

  unfoldable pub tree_generations : ℕ → ℕ → List ℕ
  tree_generations zero x = []
  tree_generations (suc g) x = tree_offspring x ++ flat (tree_generations g) (tree_offspring x)

  unfoldable pub tree_descendants : ℕ → List ℕ
  tree_descendants x = tree_generations (tree_level x) x

  unfoldable pub tree_max_d : (ℕ → ℕ) → ℕ → ℕ → ℕ
  tree_max_d m zero x = 0
  tree_max_d m (suc g) x = max (greatest m (tree_offspring x)) (greatest (tree_max_d m g) (tree_offspring x))

  unfoldable pub tree_max_l : (ℕ → ℕ) → ℕ → ℕ → ℕ
  tree_max_l m g x = greatest (tree_max_d m g) (tree_offspring x)

  abbrev pub trees : Family
  trees = record { offspring = tree_offspring; descendants = tree_descendants; level = tree_level }

  unfoldable pub group_at : ℕ → ℕ
  group_at g = index z (2 * (g / half_columns z)) (2 * (g % half_columns z))

  unfoldable pub in_band : ℕ → ℕ
  in_band x = cond (ltb x (span z (levels z))) (group_at x) (root_at z (x - span z (levels z)))

  unfoldable pub coefficient_at : ℕ → ℕ → ℕ
  coefficient_at zero x = x
  coefficient_at (suc k) x = cond (ltb k z.n) (raster_of z (suc k) (x - span z (suc k))) (in_band x)

  unfoldable pub coefficient_of : ℕ → ℕ
  coefficient_of x = coefficient_at (tree_level x) x
