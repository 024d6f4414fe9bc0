use Rattle.std.proofs.Common.{sym, ◌∙◌}
use Rattle.joiner.proofs.Laws.{cleared}
use Rattle.joiner.proofs.join.Goals as goal

pub returns-then-is_err : goal.returns-then-is_err
returns-then-is_err c =
    cleared _ _ _ _ _ c.join_or_refuse-joined.ensures (sym c.is_err.ensures.value ∙ c.if-is_err.true) _ c.zero.ensures
