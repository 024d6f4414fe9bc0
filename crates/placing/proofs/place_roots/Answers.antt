use mathlib.Core.Path.{refl}
use Prim.Native.Nat.{ℕ}
use native.Mathlib.Omega.{arith}
use Rattle.rules.proofs.Laws.Family.Sizes.{legal}
use Rattle.placing.proofs.Band.{few}
use Rattle.placing.proofs.Stores.{group_stored}
use Rattle.placing.proofs.Blocks.{put_count, group_place, grouping_more, grouping_all, grouping_room}
use Rattle.placing.proofs.Calls.{roots_begun, roots_placed}
use Rattle.placing.proofs.place_roots.Goals as goal

pub overflow_add-half : goal.overflow_add-half
overflow_add-half c = omega (arith, few)

pub overflow_shr-rows : goal.overflow_shr-rows
overflow_shr-rows c = omega (arith, few)

pub overflow_shr-across : goal.overflow_shr-across
overflow_shr-across c = omega (arith, few)

pub blocks_from-to-requires : goal.blocks_from-to-requires
blocks_from-to-requires c = let Z = legal _ c.requires.legal in (c.requires.legal, Z.some, omega arith)

pub overflow_cast-right : goal.overflow_cast-right
overflow_cast-right c = let G = roots_begun c.requires c.blocks_from-to.ensures in omega (arith, G.narrow)

pub overflow_cast-below : goal.overflow_cast-below
overflow_cast-below c = let G = roots_begun c.requires c.blocks_from-to.ensures in omega (arith, G.below)

pub loop-i-init : goal.loop-i-init
loop-i-init c = roots_begun c.requires c.blocks_from-to.ensures

pub loop-j-preserved : goal.loop-j-preserved
loop-j-preserved c = let x = c.args in
    let group : ℕ → ℕ → ℕ = group_place _ _ _ _ in
    let room = grouping_room c.loop-i.invariant c.loop-i-test.true in
    group_stored group _ _ _ _ room c.loop-j-test.true refl c.loop-j.invariant c.set_roots.ensures

pub loop-i-preserved : goal.loop-i-preserved
loop-i-preserved c = grouping_more c.loop-i.invariant c.loop-i-test.true (put_count c.loop-j.invariant _ (omega arith))

pub returns : goal.returns
returns c = roots_placed c.requires c.blocks_from-to.ensures (grouping_all c.loop-i.invariant (omega arith))
