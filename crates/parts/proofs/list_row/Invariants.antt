use mathlib.Core.Path.{◌≡◌}
use Prim.Native.Nat.{◌+◌, ◌-◌, ◌*◌}
use lib.ListN.{length}
use Rattle.rules.specs.Document.Passes.{from}
use Rattle.parts.specs.Begin.{row_of}
use Rattle.parts.proofs.Begin.{Left}
use Rattle.parts.proofs.list_row.Given as goal

abbrev pub invariant-loop-column : goal.invariant-loop-column
invariant-loop-column l =
    Left l.z (row_of l.z l.row) l.stretch l.initial.s l.initial.f (from (l.row * l.z.w + l.column) (l.column-end - l.column)) l.s l.f
    × (length l.s ≡ length l.initial.s)
