-- `server::serve_or_refuse`: by what was read of the header.
use Rattle.std.proofs.lemmas.Result.{err_from_is_err_and}
use Rattle.server.proofs.Laws.{unheaded}
use Rattle.server.proofs.serve_or_refuse.Goals as goal

pub returns-in_err-h : goal.returns-in_err-h
returns-in_err-h c =
    let p = err_from_is_err_and c.from_residual.result c.from_residual.ensures.1 in
    rw (p.1, p.2) (unheaded _ _ _ _ _ _ c.header.ensures c.in_err-h.was)
