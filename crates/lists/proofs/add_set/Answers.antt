use Rattle.lists.proofs.Laws.{add_set_law}
use native.Mathlib.Omega.{arith}
use Rattle.lists.proofs.add_set.Goals as goal

pub returns : goal.returns
returns c = let p = c.requires in add_set_law _ _ _ p.0 _ _ c.number_of.ensures _ (omega arith) p.2
