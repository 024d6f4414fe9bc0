-- The parts of a record: their names, which of them are there, and their order.
use Rattle.std.specs.Prelude.{◌≡◌}
use mathlib.Core.List.{List, [], ◌∷◌}
use Rattle.std.proofs.Math.Bool.{true}
use Prim.Native.Nat.{◌≤◌, ◌<◌}
use Rattle.rules.specs.Document.Passes.{PartName}
use Rattle.rules.specs.Document.Numbers.{follows}

-- b comes after a in the order of parts
pub record After (a b : PartName) : Type 0 where
  pub downward : b.plane ≤ a.plane
  pub in_plane : a.plane ≤ b.plane → b.level < a.level

-- parts in order, the first after `before`
unfoldable pub InOrder : PartName → List PartName → Type 0
InOrder before [] = Unit {0}
InOrder before (p ∷ ps) = (follows before p ≡ true) × InOrder p ps
