-- `lifting::load_block`: one more row each turn.
use native.Mathlib.Omega.{arith}
use Rattle.lifting.proofs.Blocks.{loads_asks, loads_more}
use Rattle.lifting.proofs.Stored.{load_asks, load_leaves}
use Rattle.lifting.proofs.load_block.Goals as goal

pub load_line-requires : goal.load_line-requires
load_line-requires c = load_asks (loads_asks c.requires (omega arith) c.loop-i.invariant)

pub loop-i-preserved : goal.loop-i-preserved
loop-i-preserved c =
    let B = c.loop-i.invariant in
    loads_more c.requires (omega arith) B (load_leaves (loads_asks c.requires (omega arith) B) c.load_line.ensures)
