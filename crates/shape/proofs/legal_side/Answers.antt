-- `shape::legal_side`: the bounds first, then the power of two, which fits.
use Rattle.std.proofs.Common.{◌+◌, arith}
use Rattle.std.proofs.Math.Pow.{shl_exact}
use Rattle.std.proofs.lemmas.Bool.Decides.{nat_tests}
use Rattle.rules.specs.Document.Pyramid.{legal_side}
use Rattle.shape.proofs.legal_side.Goals as goal

pub returns-then-contains : goal.returns-then-contains
unfolding legal_side
returns-then-contains c =
    let exact = shl_exact {a = 1} 1 (c.args.n + 1) 64 (omega arith) (omega arith) in
    grind (arith, nat_tests, exact, c.is_multiple_of.ensures)

pub returns-else-contains : goal.returns-else-contains
unfolding legal_side
returns-else-contains c = grind (arith, nat_tests)
