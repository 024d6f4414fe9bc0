use Rattle.portal.proofs.Laws.{serve_short, serve_long}
use borrow.Author.Rules.{rules}
use Rattle.portal.proofs.afs_serve.Goals as goal

pub returns-then-answer-lt-SERVE_PLACES : goal.returns-then-answer-lt-SERVE_PLACES
returns-then-answer-lt-SERVE_PLACES c = search (rules, serve_short)

pub returns : goal.returns
returns c = search (rules, serve_long)
