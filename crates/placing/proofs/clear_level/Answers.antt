use borrow.Author.Rules.{rules}
use Rattle.placing.proofs.Loops.{level_cleared}
use Rattle.placing.proofs.clear_level.Goals as goal

pub returns : goal.returns
returns c = search (rules, level_cleared)
