use Rattle.std.proofs.Common.{length, ◌-◌}
use Rattle.partlist.proofs.print_parts.Given as goal

abbrev pub decreases-loop-p : goal.decreases-loop-p
decreases-loop-p g l = length l.bytes - l.cursor.place
