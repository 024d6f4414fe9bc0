use Rattle.passes.proofs.Sets.{scaled_b, adding_b, added_b}
use borrow.Author.Rules.{rules}
use Rattle.passes.proofs.open_b.Goals as goal

pub overflow_mul-x : goal.overflow_mul-x
overflow_mul-x c = search (rules, scaled_b)

pub add_block-fill-requires : goal.add_block-fill-requires
add_block-fill-requires c = search (rules, adding_b)

pub returns : goal.returns
returns c = search (rules, added_b)
