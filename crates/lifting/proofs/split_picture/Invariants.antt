use Prim.Native.Nat.{◌≤◌}
use Rattle.rules.specs.Document.Pyramid.{most_decompositions}
use Rattle.lifting.proofs.Stages.{Stage}
use Rattle.lifting.proofs.split_picture.Given as goal

abbrev pub invariant-loop-l : goal.invariant-loop-l
invariant-loop-l l = (l.z.n ≤ most_decompositions) × Stage l.z l.initial.work l.initial.out l.l l.work l.out
