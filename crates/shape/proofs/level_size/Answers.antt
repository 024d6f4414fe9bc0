-- `shape::level_size`: the end is never before the start.
use Rattle.std.proofs.Common.{arith}
use Rattle.rules.specs.Laws.Family.Sizes.{level_size}
use Rattle.rules.proofs.Laws.Family.Sizes.{legal, level_size_end}
use Rattle.shape.proofs.level_size.Goals as goal

pub overflow_sub-result : goal.overflow_sub-result
overflow_sub-result c = omega (arith, level_size_end _ (legal _ c.requires.0) _ c.requires.1 c.requires.2)

pub returns : goal.returns
unfolding level_size
returns c = cc (c.level_end.ensures, c.level_start.ensures)
