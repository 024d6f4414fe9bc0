-- Distances worked out: one table, and one claim about all its rows, by computation.
use Rattle.std.specs.Prelude.{◌≡◌, refl, map}
use Rattle.rules.specs.Document.Calls.{plane_in}
use Rattle.pictures.specs.Laws.Distance.{share, shares, farthest, pixel_most}
use Rattle.pictures.specs.Laws.DistanceCases.{large, small, planes, table}

pub distances_hold : map (λ r. r.given) table ≡ map (λ r. r.stated) table
unfolding table large small planes plane_in share shares farthest pixel_most
distances_hold = refl
