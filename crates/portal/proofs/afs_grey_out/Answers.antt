-- `portal::afs_grey_out`: a short answer, or the routine's.
use Rattle.portal.proofs.Laws.{out_short, out_long}
use borrow.Author.Rules.{rules}
use Rattle.portal.proofs.afs_grey_out.Goals as goal

pub returns-then-answer-lt-GREY_PLACES : goal.returns-then-answer-lt-GREY_PLACES
returns-then-answer-lt-GREY_PLACES c = search (rules, out_short)

pub returns : goal.returns
returns c = search (rules, out_long)
