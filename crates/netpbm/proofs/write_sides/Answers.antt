use Rattle.netpbm.proofs.Written.{wrote_sides}
use borrow.Author.Rules.{rules}
use Rattle.netpbm.proofs.write_sides.Goals as goal

pub returns : goal.returns
returns c = search (rules, wrote_sides)
