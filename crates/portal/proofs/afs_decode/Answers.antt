use Rattle.portal.proofs.Laws.{decode_short, decode_long}
use borrow.Author.Rules.{rules}
use Rattle.portal.proofs.afs_decode.Goals as goal

pub returns-then-answer-lt-DECODE_PLACES : goal.returns-then-answer-lt-DECODE_PLACES
returns-then-answer-lt-DECODE_PLACES c = search (rules, decode_short)

pub returns : goal.returns
returns c = search (rules, decode_long)
