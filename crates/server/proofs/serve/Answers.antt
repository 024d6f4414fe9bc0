-- `server::serve`: what is refused is cleared.
use Rattle.server.proofs.Laws.{cleared}
use Rattle.server.proofs.serve.Goals as goal

pub returns-then-is_err : goal.returns-then-is_err
returns-then-is_err c = cleared _ _ _ _ _ _ _ c.serve_or_refuse-served.ensures (cc) c.zero.ensures
