use native.Mathlib.Omega.{arith}
use borrow.Author.Rules.{rules}
use Rattle.numbers.proofs.Laws.{reading_begins, reading_cut, reading_worth, reading_last, reading_next, reading_none}
use Rattle.numbers.proofs.read_number.Goals as goal

pub loop-init : goal.loop-init
loop-init c = reading_begins

pub returns-in_default : goal.returns-in_default
returns-in_default c = search (rules, reading_cut)

pub last_byte-requires : goal.last_byte-requires
last_byte-requires c = search (rules, reading_worth)

pub returns-then-byte-lt128 : goal.returns-then-byte-lt128
returns-then-byte-lt128 c = search (rules, reading_last)

pub with_group-value-requires : goal.with_group-value-requires
with_group-value-requires c = search (rules, reading_worth)

pub overflow_mul-worth : goal.overflow_mul-worth
overflow_mul-worth c = omega (arith, reading_worth c.loop.invariant (omega arith))

pub loop-preserved : goal.loop-preserved
loop-preserved c =
    reading_next c.loop.invariant (omega arith) (search rules) (search rules) (omega arith) c.with_group-value.ensures

pub returns : goal.returns
returns c = search (rules, reading_none)
