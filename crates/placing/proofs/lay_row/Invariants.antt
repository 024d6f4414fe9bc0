use Prim.Native.Nat.{◌*◌}
use lib.ListN.{get_or}
use lib.IntN.{pos}
use Rattle.rules.specs.Document.Pyramid.{index, area}
use Rattle.trees.specs.Places.{band_width}
use Rattle.trees.specs.Run.{number_of}
use Rattle.coefficients.specs.Words.{value_of}
use Rattle.placing.proofs.Blocks.{Rowing}
use Rattle.placing.proofs.lay_row.Given as goal

abbrev pub invariant-loop-column : goal.invariant-loop-column
invariant-loop-column l =
    Rowing (pos 0) (index l.z l.row) (l.row * l.z.w) (band_width l.z) (area l.z)
    (λ j. value_of (get_or l.work (number_of l.z (index l.z l.row j)) 0)) l.initial.out l.column l.out
