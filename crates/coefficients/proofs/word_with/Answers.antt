use Rattle.std.proofs.Common.{rules}
use Rattle.coefficients.specs.Words.{word_of}
use Rattle.coefficients.proofs.word_with.Goals as goal

pub returns : goal.returns
unfolding word_of
returns c = search rules
