-- `record::write::put_head`: the body makes way, then the head is written.
use Rattle.record.proofs.Writing.{number_some, headed_fits, headed_of}
use borrow.Author.Rules.{rules}
use Rattle.record.proofs.write.put_head.Goals as goal

pub overflow_sub-number_length : goal.overflow_sub-number_length
overflow_sub-number_length c = search (rules, number_some)

pub overflow_add-result : goal.overflow_add-result
overflow_add-result c = search (rules, headed_fits)

pub returns : goal.returns
returns c = search (rules, headed_of)
