-- `partlist::print_parts`: the cursor's place rises from part to part.
use Rattle.std.proofs.Common.{rules}
use Rattle.survey.proofs.AsServing.{part_ends}
use Rattle.partlist.proofs.print_parts.Goals as goal

pub loop-p-smaller : goal.loop-p-smaller
loop-p-smaller g c = search (rules, part_ends)
