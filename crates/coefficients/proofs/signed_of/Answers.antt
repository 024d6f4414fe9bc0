-- `coefficients::signed_of`: a magnitude under 2^31 and its opposite fit.
use Rattle.std.proofs.Common.{arith}
use Rattle.std.proofs.lemmas.Int.{ints}
use Rattle.rules.specs.Document.Passes.{signed}
use Rattle.coefficients.proofs.signed_of.Goals as goal

pub returns-then-negative : goal.returns-then-negative
unfolding signed
returns-then-negative c = grind (arith, ints)

pub returns-else-negative : goal.returns-else-negative
unfolding signed
returns-else-negative c = grind (arith, ints)
