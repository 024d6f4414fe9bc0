use Rattle.std.proofs.Common.{rules, arith}
use Rattle.std.proofs.lemmas.Bool.Decides.{nat_tests}
use Rattle.rules.proofs.Laws.Bytes.BodyBack.{bit_past}
use Rattle.rules.specs.Document.Layout.{bit_at}
use Rattle.bits.proofs.BitPosition.read.Goals as goal

pub returns-then-place-body : goal.returns-then-place-body
unfolding bit_at
returns-then-place-body c = search rules

pub returns-else-place-body : goal.returns-else-place-body
returns-else-place-body c = grind (arith, nat_tests, bit_past)
