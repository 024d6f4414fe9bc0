use Rattle.stretches.proofs.Laws.{either_stored}
use borrow.Author.Rules.{rules}
use Rattle.stretches.proofs.set_value_or.Goals as goal

pub returns : goal.returns
returns c = search (rules, either_stored)
