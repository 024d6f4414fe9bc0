-- `coder::judged`: the area of a legal size fits.
use borrow.Author.Rules.{rules}
use borrow.Author.Tests.{not-false}
use Rattle.coder.proofs.Outcomes.{area_fits}
use Rattle.coder.proofs.judged.Goals as goal

pub overflow_mul-z : goal.overflow_mul-z
overflow_mul-z c = search (rules, area_fits, not-false)
