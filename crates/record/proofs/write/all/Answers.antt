-- `record::write::all`: what is written after some of the numbers.
use Rattle.std.proofs.lemmas.List.{take_more}
use borrow.Author.Rules.{rules}
use Rattle.record.proofs.Writing.{wrote_none, wrote_more, after_few}
use Rattle.record.proofs.write.all.Goals as goal

pub loop-value-init : goal.loop-value-init
loop-value-init c = wrote_none _ _

pub write_number-place-requires : goal.write_number-place-requires
write_number-place-requires c = (c.requires.2 _ 0 c.loop-value-test.true, search (rules, after_few))

pub loop-value-preserved : goal.loop-value-preserved
loop-value-preserved c = rw (take_more _ _ 0 c.loop-value-test.true) (search (rules, wrote_more))
