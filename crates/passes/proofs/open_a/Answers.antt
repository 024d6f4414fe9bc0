use native.Mathlib.Omega.{arith}
use Rattle.passes.proofs.Sets.{index_a, set_room_a, opened_a_more, opened_a_less}
use Rattle.testing.specs.Finding.{stood}
use Rattle.passes.proofs.open_a.Goals as goal

pub add_set-fill-requires : goal.add_set-fill-requires
add_set-fill-requires c =
    let standing = stood c.moved_to-r.ensures c.test_offspring-ends.ensures in
    (standing.fits, c.requires.proper.size, set_room_a c.requires standing (omega arith), index_a c.requires)

pub returns-then-run-gt1 : goal.returns-then-run-gt1
returns-then-run-gt1 c =
    let standing = stood c.moved_to-r.ensures c.test_offspring-ends.ensures in
    opened_a_more c.requires standing (omega arith) c.add_set-fill.ensures

pub returns-else-run-gt1 : goal.returns-else-run-gt1
returns-else-run-gt1 c =
    let standing = stood c.moved_to-r.ensures c.test_offspring-ends.ensures in
    opened_a_less c.requires standing (omega arith)
