-- `server::serve_parts`: the request, the walk, at the very end the room.
use borrow.Author.Tests.{not-true}
use Rattle.std.proofs.Common.{rules}
use Rattle.std.proofs.lemmas.Result.{err_from_is_err_and}
use Rattle.server.proofs.Laws.{unasked, begun, faulted, roomless, served}
use Rattle.server.proofs.serve_parts.Goals as goal

pub returns-then-not-legal_ask : goal.returns-then-not-legal_ask
returns-then-not-legal_ask c = search (rules, unasked, not-true)

pub walk-requires : goal.walk-requires
walk-requires c = search (rules, begun)

pub returns-in_err-served : goal.returns-in_err-served
returns-in_err-served c =
    let p = err_from_is_err_and c.from_residual.result c.from_residual.ensures.1 in
    rw (p.1, p.2)
    (faulted _ _ _ _ _ c.requires _ _ c.zero.ensures c.copy.ensures _ c.legal_ask.ensures c.if-not-legal_ask.false _ _ c.walk.ensures _
    c.in_err-served.was)

pub returns-then-out-served : goal.returns-then-out-served
returns-then-out-served c =
    roomless _ _ _ _ _ c.requires _ _ c.zero.ensures c.copy.ensures _ c.legal_ask.ensures c.if-not-legal_ask.false _ _ c.walk.ensures _
    c.in_ok-served.was c.if-out-served.true

pub returns : goal.returns
returns c =
    served _ _ _ _ _ c.requires _ _ c.zero.ensures c.copy.ensures _ c.legal_ask.ensures c.if-not-legal_ask.false _ _ c.walk.ensures _
    c.in_ok-served.was c.if-out-served.false
