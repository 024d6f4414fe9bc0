use Rattle.placing.proofs.Loops.{PlacedFrom}
use Rattle.placing.proofs.place_blocks.Given as goal

abbrev pub invariant-loop-k : goal.invariant-loop-k
invariant-loop-k l = PlacedFrom l.z l.k l.initial.work l.work
