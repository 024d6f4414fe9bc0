-- `coder::write_parts`: the pyramid held, the lists at their start, then all parts.
use borrow.Author.Rules.{rules}
use Rattle.coder.proofs.Records.{copied_fillable, parts_holding, parts_going, parts_stored}
use Rattle.coder.proofs.write_parts.Goals as goal

pub fill-requires : goal.fill-requires
fill-requires c = search (rules, copied_fillable)

pub write_planes-requires : goal.write_planes-requires
write_planes-requires c =
    let started = c.start-counts.ensures in
    let filled = c.fill.ensures in
    (search (parts_holding, started, filled), search rules, search (parts_going, started, filled))

pub returns : goal.returns
returns c =
    parts_stored c.requires.0 c.copy_in.ensures c.fill.ensures c.start-counts.ensures _ _ _ _ _ _ c.write_planes.ensures
