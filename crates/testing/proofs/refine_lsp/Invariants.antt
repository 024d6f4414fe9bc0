use mathlib.Core.Path.{◌≡◌}
use Prim.Native.Nat.{◌≤◌}
use lib.ListN.{length}
use Rattle.lists.specs.Lists.{known}
use Rattle.testing.specs.Finding.{Refined}
use Rattle.testing.proofs.refine_lsp.Given as goal

abbrev pub invariant-loop-i : goal.invariant-loop-i
invariant-loop-i l =
    Refined l.run l.body (known l.run.stretch.n l.i l.initial.s) l.initial.s l.initial.out l.initial.next l.s l.out l.next × (l.i ≤ l.m)
    × (length l.s ≡ length l.initial.s) × (length l.out ≡ length l.initial.out)
