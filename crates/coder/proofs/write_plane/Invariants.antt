use Rattle.coder.specs.Writing.{stage_of}
use Rattle.coder.proofs.Turns.{LevelsLeft}
use Rattle.coder.proofs.write_plane.Given as goal

abbrev pub invariant-loop-level : goal.invariant-loop-level
invariant-loop-level l =
    LevelsLeft l.z l.plane l.initial.work (stage_of l.z l.initial.work l.initial.reached l.initial.out) l.level l.work l.reached.counts
    (stage_of l.z l.work l.reached l.out)
