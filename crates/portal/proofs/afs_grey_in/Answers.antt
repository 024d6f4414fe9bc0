-- `portal::afs_grey_in`: a short answer, or the routine's.
use Rattle.portal.proofs.Laws.{in_short, in_long}
use borrow.Author.Rules.{rules}
use Rattle.portal.proofs.afs_grey_in.Goals as goal

pub returns-then-answer-lt-GREY_PLACES : goal.returns-then-answer-lt-GREY_PLACES
returns-then-answer-lt-GREY_PLACES c = search (rules, in_short)

pub returns : goal.returns
returns c = search (rules, in_long)
