use Rattle.passes.proofs.Visits.{taken_hand, taken_fits, taken_room, taken_moved, moved_count}
use borrow.Author.Rules.{rules}
use Rattle.passes.proofs.visit_set.Goals as goal

pub weigh-requires : goal.weigh-requires
weigh-requires c = search (rules, taken_hand)

pub move_set-fill-requires : goal.move_set-fill-requires
move_set-fill-requires c = search (rules, taken_fits, taken_room)

pub returns-else-has_member : goal.returns-else-has_member
returns-else-has_member c = search (rules, taken_moved, moved_count)
