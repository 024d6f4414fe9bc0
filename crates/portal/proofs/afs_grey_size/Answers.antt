use Rattle.portal.proofs.Laws.{size_short, size_long}
use borrow.Author.Rules.{rules}
use Rattle.portal.proofs.afs_grey_size.Goals as goal

pub returns-then-answer-lt-GREY_PLACES : goal.returns-then-answer-lt-GREY_PLACES
returns-then-answer-lt-GREY_PLACES c = search (rules, size_short)

pub returns : goal.returns
returns c = search (rules, size_long)
