use Rattle.testing.proofs.Leaves.{noted_coder, refined_drawn, word_small}
use borrow.Author.Rules.{rules}
use Rattle.testing.proofs.note_refined.Goals as goal

pub refined_word-word-requires : goal.refined_word-word-requires
refined_word-word-requires c = search (rules, word_small)

pub returns-in-Codes : goal.returns-in-Codes
returns-in-Codes c = search (rules, noted_coder)

pub returns-in-Reads : goal.returns-in-Reads
returns-in-Reads c = search (rules, refined_drawn)
