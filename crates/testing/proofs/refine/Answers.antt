use Rattle.testing.proofs.Refining.{asked_silent, refined_one}
use borrow.Author.Rules.{rules}
use Rattle.testing.proofs.refine.Goals as goal

pub note_refined-requires : goal.note_refined-requires
note_refined-requires c = search (rules, asked_silent)

pub returns : goal.returns
returns c = search (rules, refined_one)
