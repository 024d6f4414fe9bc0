use Rattle.std.proofs.Common.{rules}
use Rattle.coefficients.specs.Words.{worded}
use Rattle.coefficients.proofs.word_of.Goals as goal

pub returns : goal.returns
unfolding worded
returns c = search rules
