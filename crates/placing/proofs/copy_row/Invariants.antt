use Prim.Native.Nat.{◌*◌}
use lib.ListN.{get_or}
use lib.IntN.{pos}
use Rattle.rules.specs.Document.Pyramid.{index, area}
use Rattle.trees.specs.Places.{band_width}
use Rattle.trees.specs.Run.{number_of}
use Rattle.coefficients.specs.Words.{worded}
use Rattle.placing.proofs.Blocks.{Rowing}
use Rattle.placing.proofs.copy_row.Given as goal

abbrev pub invariant-loop-column : goal.invariant-loop-column
invariant-loop-column l =
    Rowing 0 (λ j. number_of l.z (index l.z l.row j)) (l.row * l.z.w) (band_width l.z) (area l.z)
    (λ j. worded (get_or l.pyramid (index l.z l.row j) (pos 0))) l.initial.work l.column l.work
