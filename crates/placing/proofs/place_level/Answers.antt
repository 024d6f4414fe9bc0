use mathlib.Core.Path.{refl, ap}
use Prim.Native.Nat.{ℕ, ◌*◌}
use native.Mathlib.Omega.{arith}
use Rattle.placing.proofs.Band.{wide}
use Rattle.placing.proofs.Blocks.{put_count, storing_under, storing_apart, storing_more, storing_all}
use Rattle.placing.proofs.Calls.{level_begun, level_under}
use Rattle.placing.proofs.Stores.{put_more, corner_most}
use Rattle.placing.proofs.place_level.Goals as goal

pub loop-b-init : goal.loop-b-init
loop-b-init c = let size = c.level_size-blocks.ensures in
    level_begun c.requires size c.blocks_from-from.ensures c.blocks_from-to.ensures

pub corners-requires : goal.corners-requires
corners-requires c = omega (arith, wide, storing_under c.loop-b.invariant c.loop-b-test.true)

pub overflow_mul-work : goal.overflow_mul-work
overflow_mul-work c = omega (arith, corner_most, wide, storing_under c.loop-b.invariant c.loop-b-test.true)

pub overflow_cast-work : goal.overflow_cast-work
overflow_cast-work c = omega (arith, corner_most, wide, storing_under c.loop-b.invariant c.loop-b-test.true)

pub loop-f-preserved : goal.loop-f-preserved
loop-f-preserved c = let t = c.loop-f-test.true in
    put_more (storing_apart c.loop-b.invariant c.loop-b-test.true) t c.loop-f.invariant _ refl _
    (ap (λ (q : ℕ). 2 * q) (c.corners.ensures _ t))

pub loop-b-preserved : goal.loop-b-preserved
loop-b-preserved c = storing_more c.loop-b.invariant c.loop-b-test.true (put_count c.loop-f.invariant 4 (omega arith))

pub returns : goal.returns
returns c = let size = c.level_size-blocks.ensures in
    level_under c.requires size c.blocks_from-from.ensures c.blocks_from-to.ensures (storing_all c.loop-b.invariant (omega arith))
