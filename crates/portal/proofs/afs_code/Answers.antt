use Rattle.portal.proofs.Laws.{code_short, code_long}
use borrow.Author.Rules.{rules}
use Rattle.portal.proofs.afs_code.Goals as goal

pub returns-then-answer-lt-CODE_PLACES : goal.returns-then-answer-lt-CODE_PLACES
returns-then-answer-lt-CODE_PLACES c = search (rules, code_short)

pub returns : goal.returns
returns c = search (rules, code_long)
