use Rattle.std.proofs.Common.{rules}
use Rattle.memory.proofs.Laws.{moved, moved_none}
use Rattle.memory.proofs.move_right.Goals as goal

pub returns-then-fitting-gt0 : goal.returns-then-fitting-gt0
returns-then-fitting-gt0 c = search (rules, moved)

pub returns-else-fitting-gt0 : goal.returns-else-fitting-gt0
returns-else-fitting-gt0 c = search (rules, moved_none)
