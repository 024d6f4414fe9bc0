use mathlib.Core.Path.{◌∙◌}
use Rattle.netpbm.proofs.Laws.{gap_blank, gap_comment, gap_ends, gap_none, comment_shorter}
use Rattle.netpbm.proofs.past_gap.Goals as goal

pub loop-rest-smaller-then-b-eq35 : goal.loop-rest-smaller-then-b-eq35
loop-rest-smaller-then-b-eq35 c = comment_shorter _ c.in-len1-up.len_at_least c.past_comment-rest.ensures

pub loop-rest-preserved-then-b-eq35 : goal.loop-rest-preserved-then-b-eq35
loop-rest-preserved-then-b-eq35 c =
    gap_comment _ c.in-len1-up.len_at_least c.in_gap.ensures c.if-not-in_gap.false c.if-b-eq35.true c.past_comment-rest.ensures ∙ c.loop-rest.invariant

pub loop-rest-preserved : goal.loop-rest-preserved
loop-rest-preserved c = gap_blank _ c.in-len1-up.len_at_least c.in_gap.ensures c.if-not-in_gap.false c.if-b-eq35.false ∙ c.loop-rest.invariant

pub returns-in_default : goal.returns-in_default
returns-in_default c = gap_none _ c.in_default.len_below ∙ c.loop-rest.invariant

pub returns-then-not-in_gap : goal.returns-then-not-in_gap
returns-then-not-in_gap c = gap_ends _ c.in-len1-up.len_at_least c.in_gap.ensures c.if-not-in_gap.true ∙ c.loop-rest.invariant
