use mathlib.Core.Path.{refl}
use native.Mathlib.Omega.{arith}
use Rattle.testing.proofs.Refining.{refined_none, refining_inside, refining_next, refining_place, refining_small}
use borrow.Author.Rules.{rules}
use Rattle.testing.proofs.refine_lsp.Goals as goal

pub loop-i-init : goal.loop-i-init
loop-i-init c = (search (rules, refined_none), omega arith, refl, refl)

pub refine-next-requires : goal.refine-next-requires
refine-next-requires c =
    let start = c.requires in
    let asked = start.0 in
    let done = c.loop-i.invariant in
    let more = c.loop-i-test.true in
    let own = refining_inside asked done.0 more c.lsp_at-x.ensures in (
      refining_place asked done.0 more,
      asked.plane,
      omega (arith, asked.room, done.2),
      refining_small asked done.0 done.1 _,
      start.1,
      own,
    )

pub loop-i-preserved : goal.loop-i-preserved
loop-i-preserved c =
    let asked = c.requires.0 in
    let next = refining_next asked c.loop-i.invariant.0 c.loop-i-test.true c.lsp_at-x.ensures c.refine-next.ensures in
    (next, omega arith, next.long, omega (arith, c.refine-next.auto, c.loop-i.invariant.3))
