use Rattle.passes.proofs.Sets.{scaled_a, lining_a, testing_a, tested_a}
use borrow.Author.Rules.{rules}
use Rattle.passes.proofs.test_offspring.Goals as goal

pub overflow_mul-x : goal.overflow_mul-x
overflow_mul-x c = search (rules, scaled_a)

pub line_up-requires : goal.line_up-requires
line_up-requires c = search (rules, lining_a)

pub test_each-requires : goal.test_each-requires
test_each-requires c = search (rules, testing_a)

pub returns : goal.returns
returns c = search (rules, tested_a)
