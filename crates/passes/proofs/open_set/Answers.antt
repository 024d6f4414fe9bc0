use Rattle.passes.proofs.Sets.{opened_as_b}
use borrow.Author.Rules.{rules}
use Rattle.passes.proofs.open_set.Goals as goal

pub returns-in-TypeB : goal.returns-in-TypeB
returns-in-TypeB c = search (rules, opened_as_b)
