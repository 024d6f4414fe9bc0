use Rattle.passes.proofs.Sets.{hand_opening, hand_opened, hand_kept}
use borrow.Author.Rules.{rules}
use Rattle.passes.proofs.weigh.Goals as goal

pub open_set-requires : goal.open_set-requires
open_set-requires c = search (rules, hand_opening)

pub returns-then-bit : goal.returns-then-bit
returns-then-bit c = search (rules, hand_opened)

pub returns-else-bit : goal.returns-else-bit
returns-else-bit c = search (rules, hand_kept)
