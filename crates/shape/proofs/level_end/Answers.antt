-- `shape::level_end`: where the next finer level begins.
use Rattle.std.proofs.Common.{rules}
use Rattle.rules.specs.Laws.Family.Sizes.{level_end}
use Rattle.shape.proofs.level_end.Goals as goal

pub returns : goal.returns
unfolding level_end
returns c = search rules
