use Rattle.netpbm.proofs.Written.{wrote_width}
use borrow.Author.Rules.{rules}
use Rattle.netpbm.proofs.write_width.Goals as goal

pub returns : goal.returns
returns c = search (rules, wrote_width)
