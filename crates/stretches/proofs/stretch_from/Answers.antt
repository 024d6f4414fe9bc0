use Rattle.stretches.proofs.Laws.{stretch_placed}
use borrow.Author.Rules.{rules}
use Rattle.stretches.proofs.stretch_from.Goals as goal

pub overflow_mul-result : goal.overflow_mul-result
overflow_mul-result c = let placed = stretch_placed _ _ c.requires in search rules

pub returns : goal.returns
returns c = let placed = stretch_placed _ _ c.requires in search rules
