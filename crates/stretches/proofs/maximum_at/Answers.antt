use Rattle.stretches.proofs.Laws.{maximum_read, maximum_past}
use borrow.Author.Rules.{rules}
use Rattle.stretches.proofs.maximum_at.Goals as goal

pub returns-then-i-n : goal.returns-then-i-n
returns-then-i-n c = search (rules, maximum_read)

pub returns-else-i-n : goal.returns-else-i-n
returns-else-i-n c = search (rules, maximum_past)
