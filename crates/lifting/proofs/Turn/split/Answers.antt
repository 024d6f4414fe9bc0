-- `lifting::Turn::split`: rows before i are done, the picture from row i of the next one on is as it was, the last row of highs stands in its line.
use borrow.Author.Rules.{rules}
use Rattle.lifting.proofs.TurnLaws.{first_line, turn_still, begun_none, begun_pair, begun_more, turn_done}
use Rattle.lifting.proofs.Turn.split.Goals as goal

pub high_line-requires : goal.high_line-requires
high_line-requires c = search (rules, first_line)

pub loop-i-init : goal.loop-i-init
loop-i-init c = (search (rules, turn_still), search (rules, begun_none))

pub split_pair-requires : goal.split_pair-requires
split_pair-requires c = search (rules, begun_pair)

pub loop-i-preserved : goal.loop-i-preserved
loop-i-preserved c = (search rules, search (rules, begun_more))

pub returns : goal.returns
returns c = search (rules, turn_done)
