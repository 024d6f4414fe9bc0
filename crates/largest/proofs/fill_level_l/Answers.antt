use native.Mathlib.Omega.{arith}
use Rattle.largest.proofs.Lent.{level_l}
use Rattle.largest.proofs.fill_level_l.Goals as goal

pub returns : goal.returns
returns c =
    let from = c.stretch_from.ensures in
    let to = c.stretch_to.ensures in
    let size = c.level_size-n.ensures in
    let filled = c.fill_blocks_l.ensures in
    level_l _ _ _ c.requires.0 _ _ _ from.0 size (omega arith) to.1 _ filled.apart c.requires.1 filled
