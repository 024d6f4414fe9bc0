use Rattle.stretches.proofs.Laws.{maximum_stored, maximum_kept}
use borrow.Author.Rules.{rules}
use Rattle.stretches.proofs.set_maximum.Goals as goal

pub returns-then-i-n : goal.returns-then-i-n
returns-then-i-n c = search (rules, maximum_stored)

pub returns-else-i-n : goal.returns-else-i-n
returns-else-i-n c = search (rules, maximum_kept)
