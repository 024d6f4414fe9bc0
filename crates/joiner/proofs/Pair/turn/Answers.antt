use borrow.Author.Rules.{rules}
use Rattle.std.proofs.lemmas.Result.{err_from_is_err_and}
use Rattle.joiner.proofs.Laws.{turn_fits, turn_clashes, turn_joins, hand_is}
use Rattle.joiner.proofs.Pair.turn.Goals as goal

pub returns-in_err-agree : goal.returns-in_err-agree
returns-in_err-agree c =
    let p = err_from_is_err_and c.from_residual.result c.from_residual.ensures.1 in
    rw (p.1, p.2) (turn_clashes _ _ _ _ _ _ _ c.requires _ _ c.offered-mine.ensures c.offered-theirs.ensures _ c.in_err-agree.ensures)

pub append-written-requires : goal.append-written-requires
append-written-requires c = turn_fits _ _ _ _ _ _ _ c.requires _ _ c.offered-mine.ensures c.offered-theirs.ensures

pub returns : goal.returns
returns c =
    turn_joins _ _ _ _ _ _ _ c.requires _ _ c.offered-mine.ensures c.offered-theirs.ensures c.in_ok-agree.ensures _ _
    c.append-written.ensures _ _ (search (rules, hand_is)) (search (rules, hand_is))
