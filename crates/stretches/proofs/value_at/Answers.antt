use Rattle.stretches.specs.Cut.{values_at}
use borrow.Author.Rules.{rules}
use Rattle.stretches.proofs.value_at.Goals as goal

pub returns : goal.returns
returns c = search (rules, values_at)
