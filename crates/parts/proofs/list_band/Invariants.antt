use mathlib.Core.Path.{◌≡◌}
use Prim.Native.Nat.{◌-◌}
use lib.ListN.{length}
use Rattle.rules.specs.Document.Passes.{rows, band_ll}
use Rattle.parts.proofs.Begin.{Left}
use Rattle.parts.proofs.list_band.Given as goal

abbrev pub invariant-loop-row : goal.invariant-loop-row
invariant-loop-row l =
    Left l.z (band_ll l.z) l.stretch l.initial.s l.initial.f (rows l.z l.row (l.row-end - l.row)) l.s l.f × (length l.s ≡ length l.initial.s)
