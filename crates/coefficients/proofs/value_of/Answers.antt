use Rattle.std.proofs.Common.{rules}
use Rattle.coefficients.specs.Words.{value_of, negative_word, magnitude_word}
use Rattle.coefficients.proofs.value_of.Goals as goal

pub returns : goal.returns
unfolding value_of negative_word magnitude_word
returns c = search rules
