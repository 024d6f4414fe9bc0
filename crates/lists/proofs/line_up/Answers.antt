use native.Mathlib.Omega.{arith}
use Rattle.lists.proofs.Laws.{by_none, by_next, by_room, lined_up}
use borrow.Author.Rules.{rules}
use Rattle.lists.proofs.line_up.Goals as goal

pub loop-i-init : goal.loop-i-init
loop-i-init c = by_none c.args.first c.requires.0

pub push_lip-r-requires : goal.push_lip-r-requires
push_lip-r-requires c = (c.loop-i.invariant.fits, c.requires.1, search (rules, by_room), (omega arith, omega arith), omega arith)

pub loop-i-preserved : goal.loop-i-preserved
loop-i-preserved c = search (rules, by_next)

pub returns : goal.returns
returns c = lined_up c.loop-i.i _ c.requires.0 c.requires.2 c.loop-i.invariant (omega arith)
