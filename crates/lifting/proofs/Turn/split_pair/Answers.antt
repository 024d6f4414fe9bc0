-- `lifting::Turn::split_pair`: the rows of lows and highs, made of three rows of the picture and the highs before.
use borrow.Author.Rules.{rules}
use Rattle.lifting.proofs.PairLaws.{pair_lifts, pair_low_asks, pair_high_asks, pair_made}
use Rattle.lifting.proofs.Turn.split_pair.Goals as goal

pub lift_rows-requires : goal.lift_rows-requires
lift_rows-requires c = search (rules, pair_lifts)

pub split_low_row-requires : goal.split_low_row-requires
split_low_row-requires c = search (rules, pair_low_asks)

pub split_high_row-requires : goal.split_high_row-requires
split_high_row-requires c =
    let low = c.split_low_row in
    pair_high_asks c.requires c.after_row-c.ensures c.lift_rows.ensures low.ensures

pub returns : goal.returns
returns c =
    pair_made c.requires c.after_row-c.ensures c.lift_rows.ensures c.split_low_row.ensures
    c.split_high_row.ensures
