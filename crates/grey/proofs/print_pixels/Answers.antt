-- `grey::print_pixels`: the tones of the picture, stored and counted.
use mathlib.Core.Path.{ap, ◌∙◌}
use mathlib.Core.List.{map}
use Prim.Native.Nat.{◌*◌}
use native.Mathlib.Omega.{arith}
use lib.Seq.{length-take-le}
use Rattle.rules.proofs.Laws.Family.Sizes.{area_bound}
use Rattle.pictures.specs.Document.Calls.{clip, clipped_in}
use Rattle.grey.proofs.Laws.{numbers_in}
use Rattle.grey.proofs.Printing.{joining, joined_numbers}
use Rattle.grey.proofs.print_pixels.Goals as goal

pub join_pyramid-requires : goal.join_pyramid-requires
join_pyramid-requires c = joining _ _ _ c.requires.0

pub overflow_mul-z : goal.overflow_mul-z
overflow_mul-z c = omega (arith, area_bound c.args.z c.requires.0.fits.legal)

pub slice_bounds-store_pixels-end : goal.slice_bounds-store_pixels-end
slice_bounds-store_pixels-end c = omega (arith, c.requires.0.fits.enough)

pub store_pixels-requires : goal.store_pixels-requires
store_pixels-requires c =
    let many = length-take-le (c.args.z.w * c.args.z.h) c.join_pyramid.new.work (omega (arith, c.requires.0.fits.enough)) in omega arith

pub returns : goal.returns
unfolding numbers_in
returns c =
    let numbers = joined_numbers c.requires.0.fits _ _ c.join_pyramid.ensures.same c.join_pyramid.ensures.picture in
    (c.store_pixels.ensures.0 ∙ ap clipped_in numbers, c.store_pixels.ensures.1 ∙ ap (map clip) numbers)
