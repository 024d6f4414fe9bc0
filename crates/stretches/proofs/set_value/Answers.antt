use Rattle.stretches.proofs.Laws.{value_stored}
use borrow.Author.Rules.{rules}
use Rattle.stretches.proofs.set_value.Goals as goal

pub returns : goal.returns
returns c = search (rules, value_stored)
