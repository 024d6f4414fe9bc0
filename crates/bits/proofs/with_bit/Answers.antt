use Rattle.std.proofs.Common.{rules}
use Rattle.bits.proofs.Laws.{shifted}
use Rattle.bits.proofs.with_bit.Goals as goal

pub returns : goal.returns
returns c = search (rules, shifted)
