use Rattle.coder.specs.Writing.{stage_of}
use Rattle.coder.proofs.Turns.{PlanesLeft}
use Rattle.coder.proofs.write_planes.Given as goal

abbrev pub invariant-loop-plane : goal.invariant-loop-plane
invariant-loop-plane l =
    PlanesLeft l.z l.planes l.initial.work (stage_of l.z l.initial.work l.initial.reached l.initial.out) l.plane l.work l.reached.counts
    (stage_of l.z l.work l.reached l.out)
