use mathlib.Core.Path.{refl, ◌∙◌}
use native.Mathlib.Omega.{arith}
use Rattle.passes.proofs.Sets.{block_none, block_room, block_next, block_whole}
use Rattle.passes.proofs.add_block.Goals as goal

pub loop-i-init : goal.loop-i-init
loop-i-init c = (block_none _ c.requires.0, refl)

pub add_set-f-requires : goal.add_set-f-requires
add_set-f-requires c =
    let before = c.loop-i.invariant.0 in
    (before.fits, c.requires.1, block_room _ _ before _ c.loop-i-test.true c.requires.2, omega (arith, c.loop-i-test.true, c.requires.3))

pub loop-i-preserved : goal.loop-i-preserved
loop-i-preserved c =
    let added = c.add_set-f.ensures in
    (block_next _ _ c.loop-i.invariant.0 added, added.beside.long ∙ c.loop-i.invariant.1)

pub returns : goal.returns
returns c = block_whole _ _ c.loop-i.invariant.0 (omega arith)
