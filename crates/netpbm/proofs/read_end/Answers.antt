use native.Mathlib.Omega.{arith}
use Rattle.netpbm.proofs.Laws.{end_cut, end_missing, pixels_within, end_all, end_short}
use Rattle.netpbm.proofs.read_end.Goals as goal

pub returns-in_default : goal.returns-in_default
returns-in_default c = end_cut _ _ _ _ c.last_blank.ensures c.in_default.len_below

pub returns-then-not-is_blank : goal.returns-then-not-is_blank
returns-then-not-is_blank c = end_missing _ _ _ _ c.last_blank.ensures c.in-len1-up.len_at_least c.is_blank.ensures c.if-not-is_blank.true

pub returns-then-not-are_there : goal.returns-then-not-are_there
returns-then-not-are_there c =
    end_short _ _ _ _ c.last_blank.ensures c.in-len1-up.len_at_least c.is_blank.ensures c.requires c.if-not-is_blank.false c.are_there.ensures
    c.if-not-are_there.true

pub overflow_sub-at : goal.overflow_sub-at
overflow_sub-at c = pixels_within _ _ c.args.w c.args.h c.last_blank.ensures c.in-len1-up.len_at_least c.is_blank.ensures c.requires

pub returns : goal.returns
returns c =
    end_all _ _ _ _ c.last_blank.ensures c.in-len1-up.len_at_least c.is_blank.ensures c.requires c.if-not-is_blank.false c.are_there.ensures
    c.if-not-are_there.false (omega arith)
