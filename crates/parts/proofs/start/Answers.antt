use native.Mathlib.Omega.{arith}
use Rattle.rules.proofs.Laws.Family.Sizes.{legal}
use Rattle.parts.proofs.Begin.{top_size, top_under, top_room, band_listing, started}
use Rattle.parts.proofs.start.Goals as goal

pub overflow_add-z : goal.overflow_add-z
overflow_add-z c = omega (arith, (legal _ c.requires.0).few)

pub overflow_mul-stretch : goal.overflow_mul-stretch
overflow_mul-stretch c = omega (arith, (top_under _ c.requires.0 c.level_size-n.ensures).1)

pub overflow_mul-n : goal.overflow_mul-n
overflow_mul-n c = omega (arith, (top_under _ c.requires.0 c.level_size-n.ensures).1)

pub slice_bounds-list_band-end : goal.slice_bounds-list_band-end
slice_bounds-list_band-end c = let P = c.requires in top_room _ P.0 c.level_size-n.ensures P.1

pub list_band-f-requires : goal.list_band-f-requires
list_band-f-requires c = let P = c.requires in
    let size = c.level_size-n.ensures in
    band_listing _ _ _ c.args.work.now P.0 (top_size _ size) (top_room _ P.0 size P.1)

pub offset_bounds-levels-z : goal.offset_bounds-levels-z
offset_bounds-levels-z c = omega (arith, (legal _ c.requires.0).few)

pub bounds-levels-z : goal.bounds-levels-z
bounds-levels-z c = omega (arith, (legal _ c.requires.0).few)

pub returns : goal.returns
returns c = let P = c.requires in
    let size = c.level_size-n.ensures in
    let listed = c.list_band-f.ensures in
    let work = c.args.work.now in
    started _ _ _ P.0 _ (top_size _ size) work _ (top_room _ P.0 size P.1) listed.beside.long listed
