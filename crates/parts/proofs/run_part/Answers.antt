use Rattle.parts.proofs.Running.{running_few, running_lends, running_more, running_done}
use borrow.Author.Rules.{rules}
use Rattle.parts.proofs.run_part.Goals as goal

pub fill_of-fill-requires : goal.fill_of-fill-requires
fill_of-fill-requires c = running_few c.requires

pub run_level-left-requires : goal.run_level-left-requires
run_level-left-requires c = running_lends c.requires c.fill_of-fill.ensures.0

pub with_lists-own-requires : goal.with_lists-own-requires
with_lists-own-requires c = search (rules, running_few)

pub with_moved-requires : goal.with_moved-requires
with_moved-requires c = search (rules, running_more)

pub returns : goal.returns
returns c = search (rules, running_done)
