-- `shape::level_start`: level N+1 begins at 0, another at its span.
use Rattle.std.proofs.Common.{arith}
use Rattle.std.proofs.lemmas.Bool.Decides.{nat_tests}
use Rattle.rules.specs.Laws.Family.Sizes.{level_start}
use Rattle.shape.proofs.level_start.Goals as goal

pub returns-then-z-k : goal.returns-then-z-k
unfolding level_start
returns-then-z-k c = grind (arith, nat_tests)

pub returns-else-z-k : goal.returns-else-z-k
unfolding level_start
returns-else-z-k c = grind (arith, nat_tests)
