use native.Mathlib.Omega.{arith}
use borrow.Author.Rules.{rules}
use Rattle.placing.proofs.Band.{numbered_even, numbered_odd, few, groups, band_room}
use Rattle.placing.proofs.band_number.Goals as goal

pub overflow_add-across : goal.overflow_add-across
overflow_add-across c = omega (arith, few)

pub overflow_shr-across : goal.overflow_shr-across
overflow_shr-across c = omega (arith, few)

pub overflow_mul-group : goal.overflow_mul-group
overflow_mul-group c = let R = band_room _ _ _ c.requires in search rules

pub overflow_add-group : goal.overflow_add-group
overflow_add-group c = let R = band_room _ _ _ c.requires in search rules

pub returns-then-rank-eq0 : goal.returns-then-rank-eq0
returns-then-rank-eq0 c = numbered_even _ _ _ c.requires c.if-rank-eq0.true

pub overflow_add-groups : goal.overflow_add-groups
overflow_add-groups c = omega (arith, few)

pub overflow_shr-groups : goal.overflow_shr-groups
overflow_shr-groups c = omega (arith, few)

pub overflow_mul-groups : goal.overflow_mul-groups
overflow_mul-groups c = omega (arith, groups)

pub overflow_mul-result : goal.overflow_mul-result
overflow_mul-result c = let R = band_room _ _ _ c.requires in search rules

pub overflow_add-result : goal.overflow_add-result
overflow_add-result c = let R = band_room _ _ _ c.requires in search rules

pub overflow_add-result-2 : goal.overflow_add-result-2
overflow_add-result-2 c = let R = band_room _ _ _ c.requires in search rules

pub returns : goal.returns
returns c = numbered_odd _ _ _ c.requires c.if-rank-eq0.false
