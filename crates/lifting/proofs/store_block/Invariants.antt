use Rattle.lifting.specs.Turns.{BlockStored}
use Rattle.lifting.proofs.store_block.Given as goal

abbrev pub invariant-loop-i : goal.invariant-loop-i
invariant-loop-i l = BlockStored l.work l.initial.out l.i l.width l.stride l.out
