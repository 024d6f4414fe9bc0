-- `lifting::Turn::join_low_row`: its highs loaded, then joined.
use Rattle.lifting.proofs.JoinRows.{low_loads, low_joins, low_row_joined}
use Rattle.lifting.proofs.Stored.{load_asks, load_leaves}
use Rattle.lifting.proofs.Turn.join_low_row.Goals as goal

pub load_line-requires : goal.load_line-requires
load_line-requires c = load_asks (low_loads c.requires)

pub join_line-requires : goal.join_line-requires
join_line-requires c = low_joins c.requires (load_leaves (low_loads c.requires) c.load_line.ensures)

pub returns : goal.returns
returns c = low_row_joined c.requires (load_leaves (low_loads c.requires) c.load_line.ensures) c.join_line.ensures
