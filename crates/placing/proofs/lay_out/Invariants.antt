use Rattle.placing.specs.Placing.{LevelsLaid}
use Rattle.placing.proofs.Calls.{LayingBand}
use Rattle.placing.proofs.lay_out.Given as goal

abbrev pub invariant-loop-k : goal.invariant-loop-k
invariant-loop-k l = LevelsLaid l.z l.k l.work l.initial.out l.out

abbrev pub invariant-loop-row : goal.invariant-loop-row
invariant-loop-row l = LayingBand l.z l.work l.initial.out l.row l.out
