use Rattle.lifting.specs.Joins.{BlockLoaded}
use Rattle.lifting.proofs.load_block.Given as goal

abbrev pub invariant-loop-i : goal.invariant-loop-i
invariant-loop-i l = BlockLoaded l.pyramid l.initial.work l.i l.width l.stride l.work
