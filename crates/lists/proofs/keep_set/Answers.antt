use Rattle.lists.proofs.Laws.{keep_set_law}
use native.Mathlib.Omega.{arith}
use Rattle.lists.proofs.keep_set.Goals as goal

pub returns : goal.returns
returns c = let p = c.requires in keep_set_law _ _ _ p.0 _ _ c.number_of.ensures _ (omega arith) p.2
