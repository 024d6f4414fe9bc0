-- `lifting::join_pyramid`: what was turned back stands in the workspace.
use native.Mathlib.Omega.{arith}
use borrow.Author.Rules.{rules}
use Rattle.rules.proofs.Laws.Family.Sizes.{legal}
use Rattle.lifting.proofs.BackStages.{back_block, back_start, block_joining, turn_asks, turn_next, back_end}
use Rattle.lifting.proofs.join_pyramid.Goals as goal

pub overflow_shr-z : goal.overflow_shr-z
overflow_shr-z c = omega (arith, (legal _ c.requires.legal).few)

pub overflow_shr-z-2 : goal.overflow_shr-z-2
overflow_shr-z-2 c = omega (arith, (legal _ c.requires.legal).few)

pub load_block-requires : goal.load_block-requires
load_block-requires c = search (rules, back_block)

pub loop-l-init : goal.loop-l-init
loop-l-init c = (search (rules, block_joining), search (rules, back_start))

pub join-requires : goal.join-requires
join-requires c = search (rules, turn_asks)

pub loop-l-preserved : goal.loop-l-preserved
loop-l-preserved c = (search rules, search (rules, turn_next))

pub returns : goal.returns
returns c = search (rules, back_end)
