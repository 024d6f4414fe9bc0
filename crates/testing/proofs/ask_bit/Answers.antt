use Rattle.testing.specs.Exchange.{replied_read, replied_said}
use Rattle.testing.proofs.Leaves.{says_bit}
use borrow.Author.Rules.{rules}
use Rattle.testing.proofs.ask_bit.Goals as goal

pub returns-in-Reads : goal.returns-in-Reads
returns-in-Reads c = search (rules, replied_read)

pub returns-in-Codes : goal.returns-in-Codes
returns-in-Codes c = search (rules, replied_said, says_bit)
