use Rattle.netpbm.proofs.Laws.{last_comment, last_here}
use Rattle.netpbm.proofs.last_blank.Goals as goal

pub returns-then-first_of-eq35 : goal.returns-then-first_of-eq35
returns-then-first_of-eq35 c = last_comment _ c.first_of.ensures c.if-first_of-eq35.true c.past_comment.ensures

pub returns-else-first_of-eq35 : goal.returns-else-first_of-eq35
returns-else-first_of-eq35 c = last_here _ c.first_of.ensures c.if-first_of-eq35.false
