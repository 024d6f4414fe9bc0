-- `shape::legal_size`: N first, then both sides.
use Rattle.std.proofs.Common.{arith}
use Rattle.std.proofs.lemmas.Bool.Decides.{nat_tests}
use Rattle.rules.specs.Document.Pyramid.{legal_size}
use Rattle.shape.proofs.legal_size.Goals as goal

pub returns-then-legal_side : goal.returns-then-legal_side
unfolding legal_size
returns-then-legal_side c = grind (arith, nat_tests)

pub returns-else-legal_side : goal.returns-else-legal_side
unfolding legal_size
returns-else-legal_side c = grind (arith, nat_tests)
