use Rattle.largest.proofs.Blocks.{none_l, next_l}
use borrow.Author.Rules.{rules}
use Rattle.largest.proofs.fill_blocks_l.Goals as goal

pub loop-c-init : goal.loop-c-init
loop-c-init c = none_l

pub loop-c-preserved : goal.loop-c-preserved
loop-c-preserved c = search (rules, next_l)
