use mathlib.Core.Path.{◌≡◌}
use Prim.Native.Nat.{◌≤◌}
use lib.ListN.{length}
use Rattle.lists.specs.Lists.{waiting}
use Rattle.testing.specs.Finding.{moved_to, Tested}
use Rattle.testing.proofs.test_each.Given as goal

abbrev pub invariant-loop-i : goal.invariant-loop-i
invariant-loop-i l =
    Tested l.run l.body (waiting l.run.stretch.n l.w.fill.lip l.i l.initial.s) l.initial.s l.initial.out l.w l.s l.out (moved_to l.w l.r) × (l.i ≤ l.m)
    × (length l.s ≡ length l.initial.s)
    × (length l.out ≡ length l.initial.out)
