-- `coder::write_planes`: the planes from the highest down to 0.
use borrow.Author.Rules.{rules}
use Rattle.coder.proofs.Turns.{planes_turn, planes_end}
use Rattle.coder.proofs.write_planes.Goals as goal

pub loop-plane-preserved : goal.loop-plane-preserved
loop-plane-preserved c = search (rules, planes_turn)

pub returns : goal.returns
returns c = planes_end _ _ c.loop-plane-test.false c.loop-plane.invariant
