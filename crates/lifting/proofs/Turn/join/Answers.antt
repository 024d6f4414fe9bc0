-- `lifting::Turn::join`: rows from 2i on are the picture; what is before them is as it was.
use borrow.Author.Rules.{rules}
use Rattle.lifting.proofs.JoinTurns.{join_still, rejoined_none, rejoin_pair, rejoin_more, turn_joined}
use Rattle.lifting.proofs.Turn.join.Goals as goal

pub loop-i-init : goal.loop-i-init
loop-i-init c = (search (rules, join_still), search (rules, rejoined_none))

pub join_pair-requires : goal.join_pair-requires
join_pair-requires c = search (rules, rejoin_pair)

pub loop-i-preserved : goal.loop-i-preserved
loop-i-preserved c = (search rules, search (rules, rejoin_more))

pub returns : goal.returns
returns c = search (rules, turn_joined)
