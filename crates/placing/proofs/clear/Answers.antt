use native.Mathlib.Omega.{arith}
use borrow.Author.Rules.{rules}
use Rattle.placing.proofs.Band.{few}
use Rattle.placing.proofs.Loops.{cleared_none, cleared_all}
use Rattle.placing.proofs.clear.Goals as goal

pub overflow_step-k : goal.overflow_step-k
overflow_step-k c = omega (arith, few)

pub loop-k-init : goal.loop-k-init
loop-k-init c = search (rules, cleared_none)

pub returns : goal.returns
returns c = search (rules, cleared_all)
