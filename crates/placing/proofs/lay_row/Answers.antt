use native.Mathlib.Omega.{arith}
use borrow.Author.Rules.{rules}
use Rattle.placing.proofs.Band.{few}
use Rattle.placing.proofs.Blocks.{rowing_all, rowing_more}
use Rattle.placing.proofs.Calls.{number_inside}
use Rattle.placing.proofs.Signed.{value_read}
use Rattle.placing.proofs.lay_row.Goals as goal

pub overflow_shr-column-end : goal.overflow_shr-column-end
overflow_shr-column-end c = omega (arith, few)

pub value_in-requires : goal.value_in-requires
value_in-requires c = search (rules, number_inside)

pub loop-column-preserved : goal.loop-column-preserved
loop-column-preserved c = search (rules, rowing_more, value_read)

pub returns : goal.returns
returns c = rowing_all c.loop-column.invariant (omega arith)
