-- `lifting::Turn::join_high_row`: loaded, then joined.
use Rattle.lifting.proofs.JoinRows.{high_loads, high_joins, high_row_joined}
use Rattle.lifting.proofs.Stored.{load_asks, load_leaves}
use Rattle.lifting.proofs.Turn.join_high_row.Goals as goal

pub load_line-requires : goal.load_line-requires
load_line-requires c = load_asks (high_loads c.requires)

pub join_line-requires : goal.join_line-requires
join_line-requires c = high_joins c.requires (load_leaves (high_loads c.requires) c.load_line.ensures)

pub returns : goal.returns
returns c = high_row_joined c.requires (load_leaves (high_loads c.requires) c.load_line.ensures) c.join_line.ensures
