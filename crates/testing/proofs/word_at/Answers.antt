use Rattle.testing.proofs.Leaves.{word_inside}
use borrow.Author.Rules.{rules}
use Rattle.testing.proofs.word_at.Goals as goal

pub returns : goal.returns
returns c = search (rules, word_inside)
