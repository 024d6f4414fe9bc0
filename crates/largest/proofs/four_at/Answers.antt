use Rattle.largest.proofs.Blocks.{four_found}
use borrow.Author.Rules.{rules}
use Rattle.largest.proofs.four_at.Goals as goal

pub returns : goal.returns
returns c = search (rules, four_found)
