use Rattle.std.proofs.Common.{arith}
use lib.Pow.{pow-lt}
use Rattle.coefficients.proofs.found_word.Goals as goal

pub word_with-requires : goal.word_with-requires
word_with-requires c = omega (arith, pow-lt {j = 30} c.requires)
