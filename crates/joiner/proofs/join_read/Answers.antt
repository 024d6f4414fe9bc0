use borrow.Author.Rules.{rules}
use native.Mathlib.Omega.{arith}
use lib.ListN.{length, take, drop}
use Rattle.std.proofs.lemmas.Result.{err_from_is_err_and}
use Rattle.joiner.proofs.Laws.{mixed, begun, ended_clash, ended_short, ended_joined, copied_long}
use Rattle.joiner.proofs.join_read.Goals as goal

pub returns-then-not-same : goal.returns-then-not-same
returns-then-not-same c = mixed _ _ _ _ c.requires _ c.same.ensures c.if-not-same.true _

pub all_planes-requires : goal.all_planes-requires
all_planes-requires c =
    begun _ _ _ _ c.requires _ c.same.ensures (search rules) (omega (arith, c.well_formed)) (length c.args.out.now) _ _
    c.zero.ensures c.copy.ensures _ c.first-start.ensures

pub returns-in_err-joined : goal.returns-in_err-joined
returns-in_err-joined c =
    let p = err_from_is_err_and c.from_residual.result c.from_residual.ensures.1 in
    let front = take c.args.h.end (drop 0 c.args.first.now) in
    let long = copied_long c.args.out.now _ _ front c.zero.ensures c.copy.ensures in
    rw (p.1, p.2) (ended_clash _ _ _ _ _ _ _ c.all_planes.ensures long _ c.in_err-joined.was)

pub returns-then-out-joined : goal.returns-then-out-joined
returns-then-out-joined c =
    let front = take c.args.h.end (drop 0 c.args.first.now) in
    let long = copied_long c.args.out.now _ _ front c.zero.ensures c.copy.ensures in
    ended_short _ _ _ _ _ _ _ c.all_planes.ensures long _ c.in_ok-joined.was c.if-out-joined.true

pub returns : goal.returns
returns c =
    let front = take c.args.h.end (drop 0 c.args.first.now) in
    let long = copied_long c.args.out.now _ _ front c.zero.ensures c.copy.ensures in
    ended_joined _ _ _ _ _ _ _ c.all_planes.ensures long _ c.in_ok-joined.was c.if-out-joined.false
