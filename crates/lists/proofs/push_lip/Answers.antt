use native.Mathlib.Omega.{arith}
use Rattle.lists.proofs.Laws.{push_lip_law}
use Rattle.lists.proofs.push_lip.Goals as goal

pub returns : goal.returns
returns c =
    let asked = c.requires in
    push_lip_law _ _ _ asked.0 _ _ c.marked.ensures.0 c.marked.ensures.2 (omega arith) asked.2
