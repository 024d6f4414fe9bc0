use Rattle.lifting.specs.Pictures.{Joining}
use Rattle.lifting.proofs.BackStages.{BackStage}
use Rattle.lifting.proofs.join_pyramid.Given as goal

abbrev pub invariant-loop-l : goal.invariant-loop-l
invariant-loop-l l = Joining l.z l.pyramid l.initial.work × BackStage l.z l.pyramid l.initial.work l.l l.work
