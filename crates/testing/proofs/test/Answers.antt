use mathlib.Core.Path.{refl}
use Rattle.testing.proofs.Finding.{noted_by_fits, noted_by_marked, noted_as, tested_by, ends_moved}
use Rattle.testing.proofs.Leaves.{marked_tells}
use Rattle.testing.proofs.test.Goals as goal

pub push_tested-fill-requires : goal.push_tested-fill-requires
push_tested-fill-requires c =
    let start = c.requires in
    let noted = c.note_tested.ensures in
    (noted_by_fits noted start.1, start.2, start.3, start.5, noted_by_marked noted start.7)

pub returns : goal.returns
returns c =
    let coefficient = c.coefficient_of-x.ensures in
    let answered = c.ask_found-told.ensures.answered _ (marked_tells c.args.run _ _ c.requires.6 c.requires.7) in
    let noted = noted_as coefficient c.note_tested.ensures in
    ends_moved (tested_by answered noted c.push_tested-fill.ensures c.requires.1) refl
