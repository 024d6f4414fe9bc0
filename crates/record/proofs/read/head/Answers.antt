-- `record::read::head`: the part's end fits.
use Rattle.record.proofs.Laws.{end_fits}
use borrow.Author.Rules.{rules}
use Rattle.record.proofs.read.head.Goals as goal

pub overflow_add-result : goal.overflow_add-result
overflow_add-result c = search (rules, end_fits)
