use Rattle.netpbm.proofs.Written.{wrote_lines}
use borrow.Author.Rules.{rules}
use Rattle.netpbm.proofs.write_header.Goals as goal

pub returns : goal.returns
returns c = search (rules, wrote_lines)
