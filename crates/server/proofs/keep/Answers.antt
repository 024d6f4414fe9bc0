-- `server::keep`: a part that is asked for is copied, any other is not.
use Rattle.std.proofs.Common.{rules}
use Rattle.server.proofs.Laws.{kept_none, kept_whole}
use Rattle.server.proofs.keep.Goals as goal

pub returns-then-part-level : goal.returns-then-part-level
returns-then-part-level c = kept_none _ _ _ _ _ _ c.then-part-level.either

pub returns : goal.returns
returns c = search (rules, kept_whole)
