-- `reached::none_reached`: the levels are at most six, and what they are filled with.
use mathlib.Core.Path.{sym}
use native.Mathlib.Omega.{arith}
use Rattle.reached.specs.Planes.{size_levels, levels_within, filled_all}
use Rattle.reached.proofs.none_reached.Goals as goal

pub overflow_add-reached : goal.overflow_add-reached
overflow_add-reached c = record { fits = omega (arith, size_levels _ c.requires) }

pub slice_bounds-reached-end : goal.slice_bounds-reached-end
slice_bounds-reached-end c = omega (arith, size_levels _ c.requires)

pub slice_bounds-fill-end : goal.slice_bounds-fill-end
slice_bounds-fill-end c = sym (levels_within _ c.requires)

pub returns : goal.returns
returns c = filled_all _ c.requires _ (c.fill.ensures.after (λ y e. e))
