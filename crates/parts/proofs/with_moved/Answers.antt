use Rattle.parts.proofs.States.{moved_first, moved_next}
use Rattle.parts.proofs.with_moved.Goals as goal

pub returns-then-k-gt1 : goal.returns-then-k-gt1
returns-then-k-gt1 c = moved_next _ _ _ c.if-k-gt1.true

pub returns-else-k-gt1 : goal.returns-else-k-gt1
returns-else-k-gt1 c = moved_first _ _ _ c.if-k-gt1.false
