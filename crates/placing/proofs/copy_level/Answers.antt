use mathlib.Core.Path.{refl, ap, ◌∙◌}
use Prim.Native.Nat.{ℕ}
use native.Mathlib.Omega.{arith}
use lib.ListN.{get_or}
use lib.IntN.{pos}
use Rattle.coefficients.specs.Words.{worded}
use Rattle.placing.proofs.Blocks.{put_count, storing_apart, storing_more, storing_all}
use Rattle.placing.proofs.Calls.{copy_begun, level_words}
use Rattle.placing.proofs.Loops.{given_small}
use Rattle.placing.proofs.Stores.{put_more}
use Rattle.placing.proofs.copy_level.Goals as goal

pub loop-b-init : goal.loop-b-init
loop-b-init c = let size = c.level_size-blocks.ensures in
    copy_begun c.requires size c.blocks_from-from.ensures.0 c.stretch_from-to.ensures.0

pub word_at-requires : goal.word_at-requires
word_at-requires c = given_small c.requires.0

pub loop-f-preserved : goal.loop-f-preserved
loop-f-preserved c = let t = c.loop-f-test.true in
    put_more (storing_apart c.loop-b.invariant c.loop-b-test.true) t c.loop-f.invariant _ refl _
    (c.word_at.ensures ∙ ap (λ (q : ℕ). worded (get_or c.args.pyramid.now q (pos 0))) (c.corners.ensures _ t))

pub loop-b-preserved : goal.loop-b-preserved
loop-b-preserved c = storing_more c.loop-b.invariant c.loop-b-test.true (put_count c.loop-f.invariant 4 (omega arith))

pub returns : goal.returns
returns c = let size = c.level_size-blocks.ensures in
    level_words c.requires size c.blocks_from-from.ensures.0 c.stretch_from-to.ensures.0 (storing_all c.loop-b.invariant (omega arith))
