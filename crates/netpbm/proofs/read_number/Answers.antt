use Rattle.netpbm.proofs.Laws.{no_gap, no_digit, number_read}
use Rattle.netpbm.proofs.read_number.Goals as goal

pub returns-then-not-in_gap : goal.returns-then-not-in_gap
returns-then-not-in_gap c = no_gap _ c.first_of.ensures c.in_gap.ensures c.if-not-in_gap.true

pub returns-then-not-is_digit : goal.returns-then-not-is_digit
returns-then-not-is_digit c =
    no_digit _ c.first_of.ensures c.in_gap.ensures c.past_gap-digits.ensures c.first_of-2.ensures c.is_digit.ensures c.if-not-is_digit.true

pub returns : goal.returns
returns c =
    number_read _ c.first_of.ensures c.in_gap.ensures c.past_gap-digits.ensures c.first_of-2.ensures c.is_digit.ensures c.if-not-in_gap.false
    c.if-not-is_digit.false c.read_digits.ensures
