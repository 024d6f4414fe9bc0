-- `coder::write_plane`: the levels from the coarsest down to 1.
use native.Mathlib.Numerals.{add-one}
use native.Mathlib.Omega.{arith}
use Rattle.rules.proofs.Laws.Family.Sizes.{legal}
use Rattle.coder.proofs.Turns.{levels_begin, levels_turn, levels_end}
use Rattle.coder.proofs.write_plane.Goals as goal

pub overflow_step-level : goal.overflow_step-level
overflow_step-level c = omega (arith, (legal _ c.requires.0.legal).few)

pub loop-level-init : goal.loop-level-init
loop-level-init c = levels_begin _ _ (add-one _) c.requires.0 c.requires.1 c.requires.2

pub loop-level-preserved : goal.loop-level-preserved
loop-level-preserved c =
    levels_turn _ _ (omega arith) c.loop-level.invariant
    c.write_part-reached.ensures

pub returns : goal.returns
returns c = levels_end _ _ (omega arith) c.loop-level.invariant
