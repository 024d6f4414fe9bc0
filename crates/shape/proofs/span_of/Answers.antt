-- `shape::span_of`: the product of the halved sides is at most the area.
use Rattle.std.proofs.Common.{rules, arith}
use native.Mathlib.Nat.{mul-le-mul}
use lib.Pow.{shr_le}
use Rattle.rules.specs.Laws.Family.Sizes.{span}
use Rattle.rules.proofs.Laws.Family.Sizes.{legal, area_bound}
use Rattle.shape.proofs.span_of.Goals as goal

pub overflow_shr-result : goal.overflow_shr-result
overflow_shr-result c = omega (arith, legal _ c.requires.0)

pub overflow_shr-result-2 : goal.overflow_shr-result-2
overflow_shr-result-2 c = omega (arith, legal _ c.requires.0)

pub overflow_mul-result : goal.overflow_mul-result
overflow_mul-result c =
    let z = c.args.z in
    let k = c.args.k.0 in
    record { fits = omega (arith, mul-le-mul (shr_le z.h k) (shr_le z.w k), area_bound z c.requires.0) }

pub returns : goal.returns
unfolding span
returns c = search rules
