use mathlib.Core.Path.{refl}
use native.Mathlib.Omega.{arith}
use Rattle.testing.specs.Finding.{stood}
use Rattle.testing.proofs.Finding.{ends_moved, moved_from, each-length, each_inside, each_marked, each_next, each_none}
use borrow.Author.Rules.{rules}
use Rattle.testing.proofs.test_each.Goals as goal

pub loop-i-init : goal.loop-i-init
loop-i-init c = (search (rules, ends_moved, each_none), omega arith, refl, refl)

pub test-r-requires : goal.test-r-requires
test-r-requires c =
    let asked = c.requires in
    let before = c.loop-i.invariant.0 in
    let more = c.loop-i-test.true in
    let tested = stood c.moved_to.ensures before in
    let count = each-length _ asked before more in (
      asked.plane,
      tested.fits,
      asked.size,
      omega (arith, tested.both, asked.room),
      omega (arith, tested.place, asked.place),
      c.lip_at-e.ensures.1,
      each_inside _ asked before more c.lip_at-e.ensures.0,
      each_marked _ asked before more c.lip_at-e.ensures.0,
    )

pub loop-i-preserved : goal.loop-i-preserved
loop-i-preserved c =
    let own = moved_from c.moved_to.ensures c.test-r.ensures in
    let next = each_next _ c.requires c.loop-i.invariant.0 c.loop-i-test.true c.lip_at-e.ensures.0 own in
    (next, omega arith, next.around.long, omega (arith, c.test-r.auto, c.loop-i.invariant.3))
