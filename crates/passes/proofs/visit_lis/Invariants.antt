use mathlib.Core.Path.{◌≡◌}
use Prim.Native.Nat.{◌-◌}
use lib.ListN.{length}
use Rattle.stretches.specs.Cut.{set_room}
use Rattle.passes.specs.Steps.{Visited}
use Rattle.passes.proofs.visit_lis.Given as goal

abbrev pub invariant-loop-r : goal.invariant-loop-r
invariant-loop-r l = Visited l.run l.body l.initial.s l.initial.out l.initial.r l.s l.out l.r × (length l.s ≡ length l.initial.s)
    × (length l.out ≡ length l.initial.out)

abbrev pub decreases-loop-r : goal.decreases-loop-r
decreases-loop-r l = set_room l.run.stretch.n - l.r.fill.visited
