-- 2 x level + 1 falls for D, 2 x level for L.
use Rattle.std.proofs.Common.{◌+◌, ◌*◌}
use Rattle.largest.proofs.+fill_d_fill_l.Given as goal

abbrev pub decreases-fill_d : goal.decreases-fill_d
decreases-fill_d l = l.k.0 * 2 + 1

abbrev pub decreases-fill_l : goal.decreases-fill_l
decreases-fill_l l = l.k.0 * 2
