use Rattle.lists.proofs.Laws.{next_set_law}
use mathlib.Core.Path.{sym}
use native.Mathlib.Omega.{arith}
use Rattle.lists.proofs.next_set.Goals as goal

pub returns : goal.returns
returns c =
    let p = c.requires in
    (next_set_law _ _ _ p.0 _ _ (omega arith) (sym c.from.ensures.0) p.2, c.from.ensures.1)
