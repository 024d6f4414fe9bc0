use Rattle.portal.proofs.Laws.{join_short, join_long}
use borrow.Author.Rules.{rules}
use Rattle.portal.proofs.afs_join.Goals as goal

pub returns-then-answer-lt-CODE_PLACES : goal.returns-then-answer-lt-CODE_PLACES
returns-then-answer-lt-CODE_PLACES c = search (rules, join_short)

pub returns : goal.returns
returns c = search (rules, join_long)
