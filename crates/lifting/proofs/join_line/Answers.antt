-- `lifting::join_line`: the even numbers, mirrored, then the odd ones.
use borrow.Author.Rules.{rules}
use Rattle.lifting.proofs.JoinLines.{join_odds, line_joined}
use Rattle.lifting.proofs.join_line.Goals as goal

pub odd_line-requires : goal.odd_line-requires
odd_line-requires c = search (rules, join_odds)

pub returns : goal.returns
returns c = search (rules, line_joined)
