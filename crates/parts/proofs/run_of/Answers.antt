use native.Mathlib.Omega.{arith}
use Rattle.rules.proofs.Laws.Family.Sizes.{legal}
use Rattle.parts.proofs.run_of.Goals as goal

pub fill_of-requires : goal.fill_of-requires
fill_of-requires c = let C = c.requires in (C.coarser, omega (arith, C.level, (legal _ C.legal).few))

pub overflow_add-level : goal.overflow_add-level
overflow_add-level c = let C = c.requires in omega (arith, C.level, (legal _ C.legal).few)

pub overflow_add-level-2 : goal.overflow_add-level-2
overflow_add-level-2 c = let C = c.requires in omega (arith, C.level, (legal _ C.legal).few)
