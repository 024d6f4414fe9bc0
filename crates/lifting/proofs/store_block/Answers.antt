-- `lifting::store_block`: one more row each turn.
use native.Mathlib.Omega.{arith}
use Rattle.lifting.proofs.Blocks.{block_asks, block_more}
use Rattle.lifting.proofs.Stored.{store_asks, store_leaves}
use Rattle.lifting.proofs.store_block.Goals as goal

pub store_line-requires : goal.store_line-requires
store_line-requires c = store_asks (block_asks c.requires (omega arith) c.loop-i.invariant)

pub loop-i-preserved : goal.loop-i-preserved
loop-i-preserved c =
    let B = c.loop-i.invariant in
    block_more c.requires (omega arith) B (store_leaves (block_asks c.requires (omega arith) B) c.store_line.ensures)
