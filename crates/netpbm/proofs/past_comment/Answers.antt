use mathlib.Core.Path.{◌∙◌}
use Rattle.netpbm.proofs.Laws.{comment_on, comment_ends, comment_none}
use Rattle.netpbm.proofs.past_comment.Goals as goal

pub loop-rest-preserved : goal.loop-rest-preserved
loop-rest-preserved c = comment_on _ c.in-len1-up.len_at_least c.is_line_end.ensures c.if-is_line_end.false ∙ c.loop-rest.invariant

pub returns-in_default : goal.returns-in_default
returns-in_default c = comment_none _ c.in_default.len_below ∙ c.loop-rest.invariant

pub returns-then-is_line_end : goal.returns-then-is_line_end
returns-then-is_line_end c = comment_ends _ c.in-len1-up.len_at_least c.is_line_end.ensures c.if-is_line_end.true ∙ c.loop-rest.invariant
