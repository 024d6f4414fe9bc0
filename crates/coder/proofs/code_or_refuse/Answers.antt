-- `coder::code_or_refuse`: what the input is refused for is handed back, or it is left to the room.
use mathlib.Core.Path.{sym, ◌∙◌}
use Rattle.std.proofs.lemmas.Result.{err_from_is_err_and}
use Rattle.coder.proofs.Outcomes.{accepted_given, accepted_answered, refusal_answered}
use Rattle.coder.proofs.code_or_refuse.Goals as goal

pub code_fitted-requires : goal.code_fitted-requires
code_fitted-requires c = accepted_given _ _ _ (sym c.in_ok-judged.was ∙ c.judged.ensures)

pub returns-in_err-judged : goal.returns-in_err-judged
returns-in_err-judged c =
    let p = err_from_is_err_and c.from_residual.result c.from_residual.ensures.1 in
    rw (p.1, p.2) (refusal_answered _ _ _ _ _ (sym c.in_err-judged.was ∙ c.judged.ensures))

pub returns : goal.returns
returns c = accepted_answered _ _ _ _ _ _ (sym c.in_ok-judged.was ∙ c.judged.ensures) c.code_fitted.ensures
