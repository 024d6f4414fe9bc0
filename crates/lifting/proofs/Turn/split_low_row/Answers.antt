-- `lifting::Turn::split_low_row`: mirrored, split, and its highs stored.
use Rattle.lifting.proofs.RowLaws.{low_row_stores, low_row_lem}
use Rattle.lifting.proofs.Stored.{store_asks, store_leaves}
use Rattle.lifting.proofs.Turn.split_low_row.Goals as goal

pub store_line-requires : goal.store_line-requires
store_line-requires c = store_asks (low_row_stores c.requires c.mirror.ensures c.split_line.ensures)

pub returns : goal.returns
returns c =
    let asked = low_row_stores c.requires c.mirror.ensures c.split_line.ensures in
    low_row_lem c.requires c.mirror.ensures c.split_line.ensures (store_leaves asked c.store_line.ensures)
