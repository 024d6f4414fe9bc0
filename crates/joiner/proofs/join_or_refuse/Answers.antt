use Rattle.std.proofs.lemmas.Result.{err_from_is_err_and}
use Rattle.joiner.proofs.Laws.{first_refused, second_refused, both_read}
use Rattle.joiner.proofs.join_or_refuse.Goals as goal

pub returns-in_err-one : goal.returns-in_err-one
returns-in_err-one c =
    let p = err_from_is_err_and c.from_residual.result c.from_residual.ensures.1 in
    rw (p.1, p.2) (first_refused _ _ _ c.survey_of.ensures _ c.in_err-one.was _)

pub returns-in_err-two : goal.returns-in_err-two
returns-in_err-two c =
    let p = err_from_is_err_and c.from_residual-in_err-two.result c.from_residual-in_err-two.ensures.1 in
    rw (p.1, p.2) (second_refused _ _ _ c.survey_of.ensures _ c.in_ok-one.was _ c.survey_of-2.ensures _ c.in_err-two.was _)

pub join_read-requires : goal.join_read-requires
join_read-requires c = both_read _ _ _ c.survey_of.ensures _ c.in_ok-one.was _ c.survey_of-2.ensures _ c.in_ok-two.was
