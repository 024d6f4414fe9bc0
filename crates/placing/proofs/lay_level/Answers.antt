use native.Mathlib.Omega.{arith}
use Rattle.placing.proofs.Blocks.{put_count, laying_inside, laying_more, laying_all}
use Rattle.placing.proofs.Calls.{lay_begun, level_values}
use Rattle.placing.proofs.Signed.{handed}
use Rattle.placing.proofs.Stores.{put_more, corners_apart, corner_most}
use Rattle.placing.proofs.lay_level.Goals as goal

pub loop-b-init : goal.loop-b-init
loop-b-init c = let size = c.level_size-blocks.ensures in
    lay_begun c.args.out.now c.requires size c.blocks_from-from.ensures.0 c.stretch_from-words.ensures.0

pub offset_bounds-out-q : goal.offset_bounds-out-q
offset_bounds-out-q c = omega (arith, corner_most, laying_inside c.loop-b.invariant c.loop-b-test.true)

pub bounds-out-q : goal.bounds-out-q
bounds-out-q c = omega (arith, corner_most, laying_inside c.loop-b.invariant c.loop-b-test.true, c.loop-f.invariant.same)

pub loop-f-preserved : goal.loop-f-preserved
loop-f-preserved c = let t = c.loop-f-test.true in
    let L = c.loop-b.invariant in
    put_more (corners_apart _ _ _ L.wide (laying_inside L c.loop-b-test.true)) t c.loop-f.invariant _ (c.corners.ensures _ t) _
    (handed _ _ c.value_in.type_inv c.value_in.ensures)

pub loop-b-preserved : goal.loop-b-preserved
loop-b-preserved c = laying_more c.loop-b.invariant c.loop-b-test.true (put_count c.loop-f.invariant 4 (omega arith))

pub returns : goal.returns
returns c = let size = c.level_size-blocks.ensures in
    level_values c.args.out.now c.requires size c.blocks_from-from.ensures.0 c.stretch_from-words.ensures.0 (laying_all c.loop-b.invariant (omega arith))
