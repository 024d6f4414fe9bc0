use native.Mathlib.Omega.{arith}
use Rattle.rules.proofs.Laws.Family.Sizes.{legal}
use Rattle.largest.proofs.fill.Goals as goal

pub overflow_add-z : goal.overflow_add-z
overflow_add-z c = record { fits = omega (arith, (legal c.args.z c.requires.legal).few) }

pub fill_d-requires : goal.fill_d-requires
fill_d-requires c = (c.requires, omega (arith, (legal c.args.z c.requires.legal).some), omega arith)
