use Prim.Native.Nat.{◌+◌, ◌*◌}
use lib.ListN.{get_or}
use lib.IntN.{pos}
use Rattle.coefficients.specs.Words.{value_of}
use Rattle.placing.specs.Stores.{Put, corner_of}
use Rattle.placing.proofs.Blocks.{Laying}
use Rattle.placing.proofs.lay_level.Given as goal

abbrev pub invariant-loop-b : goal.invariant-loop-b
invariant-loop-b l = Laying l.z.w l.work l.from l.blocks l.words l.initial.out l.b l.out

abbrev pub invariant-loop-f : goal.invariant-loop-f
invariant-loop-f l =
    Put (pos 0) (corner_of l.z.w (get_or l.work (l.from + l.b) 0)) l.f (λ f. value_of (get_or l.work (l.words + 4 * l.b + f) 0)) l.initial.out l.out
