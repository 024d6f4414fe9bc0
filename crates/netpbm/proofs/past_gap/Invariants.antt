use mathlib.Core.Path.{◌≡◌}
use lib.ListN.{length}
use Rattle.pictures.specs.Document.Netpbm.{after_gap}
use Rattle.netpbm.proofs.past_gap.Given as goal

abbrev pub invariant-loop-rest : goal.invariant-loop-rest
invariant-loop-rest l = after_gap l.rest ≡ after_gap l.fn.bytes

abbrev pub decreases-loop-rest : goal.decreases-loop-rest
decreases-loop-rest l = length l.rest
