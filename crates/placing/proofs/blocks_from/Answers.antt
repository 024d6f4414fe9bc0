use borrow.Author.Rules.{rules}
use Rattle.stretches.specs.Cut.{maxima_from}
use Rattle.stretches.specs.Levels.{blocks_from}
use Rattle.placing.proofs.Calls.{level_room}
use Rattle.placing.proofs.blocks_from.Goals as goal

pub maxima_from-requires : goal.maxima_from-requires
maxima_from-requires c = let R = level_room _ _ c.requires in search rules

pub overflow_add-result : goal.overflow_add-result
unfolding maxima_from
overflow_add-result c = let R = level_room _ _ c.requires in search rules

pub returns : goal.returns
unfolding maxima_from blocks_from
returns c = let R = level_room _ _ c.requires in search rules
