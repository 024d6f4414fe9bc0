-- `lifting::Turn::split_high_row`: mirrored, split, and all of it stored.
use Rattle.lifting.proofs.RowLaws.{high_row_stores, high_row_lem}
use Rattle.lifting.proofs.Stored.{store_asks, store_leaves}
use Rattle.lifting.proofs.Turn.split_high_row.Goals as goal

pub store_line-requires : goal.store_line-requires
store_line-requires c = store_asks (high_row_stores c.requires c.mirror.ensures c.split_line.ensures)

pub returns : goal.returns
returns c =
    let asked = high_row_stores c.requires c.mirror.ensures c.split_line.ensures in
    high_row_lem c.requires c.mirror.ensures c.split_line.ensures (store_leaves asked c.store_line.ensures)
