-- `lifting::Turn::new`: the sides are small enough.
use native.Mathlib.Omega.{arith}
use Rattle.rules.proofs.Laws.Family.Sizes.{legal, area_bound}
use Rattle.lifting.proofs.Turn.new.Goals as goal

pub overflow_shr-result : goal.overflow_shr-result
overflow_shr-result c = omega (arith, (legal _ c.requires.0).few)

pub overflow_shr-result-2 : goal.overflow_shr-result-2
overflow_shr-result-2 c = omega (arith, (legal _ c.requires.0).few)

pub overflow_mul-result : goal.overflow_mul-result
overflow_mul-result c = omega (arith, area_bound _ c.requires.0)
