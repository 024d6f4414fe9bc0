use Rattle.testing.proofs.Leaves.{answered_read, answered_said}
use borrow.Author.Rules.{rules}
use Rattle.testing.proofs.ask_found.Goals as goal

pub returns-in-Reads : goal.returns-in-Reads
returns-in-Reads c = search (rules, answered_read)

pub returns-in-Codes : goal.returns-in-Codes
returns-in-Codes c = search (rules, answered_said)
