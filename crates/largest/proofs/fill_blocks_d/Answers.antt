use Rattle.largest.proofs.Blocks.{none_d, next_d}
use borrow.Author.Rules.{rules}
use Rattle.largest.proofs.fill_blocks_d.Goals as goal

pub loop-b-init : goal.loop-b-init
loop-b-init c = none_d

pub loop-b-preserved : goal.loop-b-preserved
loop-b-preserved c = search (rules, next_d)
