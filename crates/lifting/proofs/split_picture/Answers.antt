-- `lifting::split_picture`: what is still to be turned stands in the workspace, all else in the pyramid.
use borrow.Author.Rules.{rules}
use Rattle.lifting.proofs.Stages.{few_turns, stage_none, stage_asks, stage_next, last_block}
use Rattle.lifting.proofs.split_picture.Goals as goal

pub loop-l-init : goal.loop-l-init
loop-l-init c = (search (rules, few_turns), stage_none)

pub split-requires : goal.split-requires
split-requires c = search (rules, stage_asks)

pub loop-l-preserved : goal.loop-l-preserved
loop-l-preserved c = (search rules, search (rules, stage_next))

pub store_block-requires : goal.store_block-requires
store_block-requires c = search (rules, last_block)
