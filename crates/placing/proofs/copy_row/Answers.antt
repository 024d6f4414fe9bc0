use native.Mathlib.Omega.{arith}
use borrow.Author.Rules.{rules}
use Rattle.placing.proofs.Band.{few}
use Rattle.placing.proofs.Calls.{row_numbers, row_inside}
use Rattle.placing.proofs.Blocks.{rowing_none, rowing_more, rowing_all}
use Rattle.placing.proofs.Loops.{given_small}
use Rattle.placing.proofs.copy_row.Goals as goal

pub overflow_shr-column-end : goal.overflow_shr-column-end
overflow_shr-column-end c = omega (arith, few)

pub loop-column-init : goal.loop-column-init
loop-column-init c = let p = c.requires in rowing_none (row_inside p.0.roomy p.1) (row_numbers p.0.roomy p.1)

pub word_at-requires : goal.word_at-requires
word_at-requires c = search (rules, given_small)

pub loop-column-preserved : goal.loop-column-preserved
loop-column-preserved c = search (rules, rowing_more)

pub returns : goal.returns
returns c = rowing_all c.loop-column.invariant (omega arith)
