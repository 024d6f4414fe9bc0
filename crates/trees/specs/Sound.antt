-- The lists of all levels in tree numbers, between parts: sound at the start and after each part, so that a part has room in its level.
--
--   TreeSound z s       what holds of the lists s of all levels between parts
--   TreeProgress z g    and while a record is decoded
use Rattle.rules.specs.declared.Size.{Size}
use Rattle.rules.specs.Document.Pyramid.{area, levels}
use Rattle.rules.specs.Document.Passes.{State, from}
use Rattle.rules.specs.Document.Calls.{Progress, going, unfit}
use Rattle.rules.specs.Laws.State.Sound.{Sound}
use Rattle.trees.specs.Family.{trees}

abbrev pub TreeSound : Size → State → Type 0
TreeSound z s = Sound (trees z) (levels z) (from 0 (area z)) s

unfoldable pub TreeProgress : Size → Progress → Type 0
TreeProgress z (going s v) = TreeSound z s
TreeProgress z (unfit at) = Unit {0}
