use mathlib.Core.Path.{◌∙◌}
use native.Mathlib.Omega.{arith}
use Rattle.rules.proofs.Laws.Family.Sizes.{legal}
use Rattle.largest.proofs.Lent.{level_d, pair_long}
use Rattle.largest.proofs.fill_level_d.Goals as goal

pub returns : goal.returns
returns c =
    let from = c.stretch_from.ensures in
    let to = c.lent_to.ensures in
    let long = pair_long _ (legal _ c.requires.legal) _ c.requires.some c.requires.most in
    let size = c.level_size-n.ensures in
    let filled = c.fill_blocks_d.ensures in
    level_d _ _ _ c.requires _ _ _ from.0 size (omega (arith, to.1)) to.2 _ filled.apart (omega (arith, to.0, long)) filled
