use native.Mathlib.Omega.{arith}
use borrow.Author.Rules.{rules}
use Rattle.numbers.proofs.Laws.{writing_place, writing_next, writing_last}
use Rattle.numbers.proofs.write_number.Goals as goal

pub overflow_add-place : goal.overflow_add-place
overflow_add-place c = search (rules, writing_place)

pub loop-rest-preserved : goal.loop-rest-preserved
loop-rest-preserved c = writing_next c.loop-rest.invariant c.store.ensures (omega arith)

pub overflow_add-result : goal.overflow_add-result
overflow_add-result c = search (rules, writing_place)

pub returns : goal.returns
returns c = writing_last c.loop-rest.invariant c.store-2.ensures (omega arith)
