use Rattle.placing.specs.Placing.{LevelsCopied}
use Rattle.placing.proofs.Calls.{CopyingBand}
use Rattle.placing.proofs.copy_in.Given as goal

abbrev pub invariant-loop-k : goal.invariant-loop-k
invariant-loop-k l = LevelsCopied l.pyramid l.z l.k l.initial.work l.work

abbrev pub invariant-loop-row : goal.invariant-loop-row
invariant-loop-row l = CopyingBand l.pyramid l.z l.initial.work l.row l.work
