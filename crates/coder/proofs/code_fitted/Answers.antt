-- `coder::code_fitted`: the length decides.
use borrow.Author.Rules.{rules}
use Rattle.coder.proofs.Outcomes.{fitted_refused, fitted_accepted}
use Rattle.coder.proofs.code_fitted.Goals as goal

pub returns-then-out-length : goal.returns-then-out-length
returns-then-out-length c = search (rules, fitted_refused)

pub returns : goal.returns
returns c = fitted_accepted _ _ _ c.write_record-length.ensures c.if-out-length.false
