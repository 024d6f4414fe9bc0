-- `record::read::part`: where the body of a part that was read ends.
use Rattle.record.proofs.Laws.{head_ends}
use borrow.Author.Rules.{rules}
use Rattle.record.proofs.read.part.Goals as goal

pub judged_part-requires : goal.judged_part-requires
judged_part-requires c = search (rules, head_ends)
