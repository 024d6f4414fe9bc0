-- `record::read::judged_part`: a part with a legal head has few bits.
use Rattle.record.proofs.Laws.{bits_small}
use borrow.Author.Rules.{rules}
use Rattle.record.proofs.read.judged_part.Goals as goal

pub padding_clear-requires : goal.padding_clear-requires
padding_clear-requires c = search (rules, bits_small)
