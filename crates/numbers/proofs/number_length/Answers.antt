use borrow.Author.Rules.{rules}
use Rattle.numbers.proofs.Laws.{takes_one, takes_two, takes_three, takes_four}
use Rattle.numbers.proofs.number_length.Goals as goal

pub returns-then-value-lt128 : goal.returns-then-value-lt128
returns-then-value-lt128 c = search (rules, takes_one)

pub returns-then-value-lt16384 : goal.returns-then-value-lt16384
returns-then-value-lt16384 c = search (rules, takes_two)

pub returns-then-value-lt2097152 : goal.returns-then-value-lt2097152
returns-then-value-lt2097152 c = search (rules, takes_three)

pub returns-else-value-lt2097152 : goal.returns-else-value-lt2097152
returns-else-value-lt2097152 c = search (rules, takes_four)
