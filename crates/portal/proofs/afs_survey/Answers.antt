use Rattle.portal.proofs.Laws.{survey_short, survey_long}
use borrow.Author.Rules.{rules}
use Rattle.portal.proofs.afs_survey.Goals as goal

pub returns-then-answer-lt-SURVEY_PLACES : goal.returns-then-answer-lt-SURVEY_PLACES
returns-then-answer-lt-SURVEY_PLACES c = search (rules, survey_short)

pub returns : goal.returns
returns c = search (rules, survey_long)
