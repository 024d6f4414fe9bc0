use Prim.Native.Nat.{◌+◌, ◌*◌, ◌/◌, ◌%◌}
use Rattle.placing.specs.Stores.{Put}
use Rattle.placing.proofs.Blocks.{Grouping, group_place}
use Rattle.placing.proofs.place_roots.Given as goal

abbrev pub invariant-loop-i : goal.invariant-loop-i
invariant-loop-i l = Grouping l.to l.rows l.across l.z.w l.initial.work l.i l.work

abbrev pub invariant-loop-j : goal.invariant-loop-j
invariant-loop-j l =
    Put 0 (λ t. l.to + 3 * (l.i * l.across) + t) (3 * l.j) (λ t. group_place l.rows l.across l.z.w l.i (t / 3) (t % 3)) l.initial.work l.work
