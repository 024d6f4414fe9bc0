-- `lifting::Turn::join_pair`: rows of lows and highs joined, then columns.
use Rattle.lifting.proofs.JoinPairs.{pair_evens, pair_odds, pair_joined}
use Rattle.lifting.proofs.Turn.join_pair.Goals as goal

pub even_rows-requires : goal.even_rows-requires
even_rows-requires c =
    let high = c.join_high_row in
    pair_evens c.requires c.join_low_row.ensures c.saturating_sub-before.ensures high.ensures

pub odd_rows-requires : goal.odd_rows-requires
odd_rows-requires c =
    let asked = c.requires in
    let even = c.even_rows in
    pair_odds asked c.join_low_row.ensures c.saturating_sub-before.ensures c.join_high_row.ensures even.ensures
    c.after_row-next.ensures

pub returns : goal.returns
returns c =
    let odd = c.odd_rows in
    pair_joined c.requires c.join_low_row.ensures c.saturating_sub-before.ensures c.join_high_row.ensures
    c.even_rows.ensures c.after_row-next.ensures odd.ensures
