-- `shape::most_bits`: products that stay small.
use Rattle.std.proofs.Common.{arith}
use Rattle.rules.proofs.Laws.Family.Sizes.{area_bound}
use Rattle.shape.proofs.most_bits.Goals as goal

pub overflow_mul-result : goal.overflow_mul-result
overflow_mul-result c = record { fits = omega (arith, area_bound _ c.requires) }

pub overflow_mul-result-2 : goal.overflow_mul-result-2
overflow_mul-result-2 c = record { fits = omega (arith, area_bound _ c.requires) }
