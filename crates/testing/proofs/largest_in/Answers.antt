use Rattle.testing.proofs.Leaves.{largest_outside_a, largest_outside_b, largest_a, largest_b}
use borrow.Author.Rules.{rules}
use Rattle.testing.proofs.largest_in.Goals as goal

pub returns-then-x-run : goal.returns-then-x-run
returns-then-x-run c = search (rules, largest_outside_a)

pub returns-then-x-run-2 : goal.returns-then-x-run-2
returns-then-x-run-2 c = search (rules, largest_outside_b)

pub returns-else-x-run : goal.returns-else-x-run
returns-else-x-run c = search (rules, largest_a)

pub returns-else-x-run-2 : goal.returns-else-x-run-2
returns-else-x-run-2 c = search (rules, largest_b)
