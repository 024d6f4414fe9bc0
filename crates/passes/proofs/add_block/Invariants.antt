use mathlib.Core.Path.{◌≡◌}
use mathlib.Core.List.{map}
use lib.ListN.{length}
use Rattle.rules.specs.Document.Passes.{typeA, from}
use Rattle.passes.specs.Steps.{Added}
use Rattle.passes.proofs.add_block.Given as goal

abbrev pub invariant-loop-i : goal.invariant-loop-i
invariant-loop-i l =
    Added (map typeA (from l.first l.i)) l.run.stretch l.initial.s l.initial.f l.s l.f × (length l.s ≡ length l.initial.s)
