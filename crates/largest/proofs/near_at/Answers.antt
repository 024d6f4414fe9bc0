use mathlib.Core.Path.{ap, ◌∙◌}
use Prim.Native.Nat.{ℕ, ◌+◌, ◌*◌}
use lib.ListN.{get_or}
use Rattle.largest.specs.Blocks.{word_measure, near}
use Rattle.largest.proofs.Measures.{measure_largest}
use Rattle.largest.proofs.near_at.Goals as goal

pub returns : goal.returns
unfolding near
returns c =
    let s = c.args.s.now in
    let i = 4 * c.args.b in
    let below = c.type_inv.s in (
      c.measure_of.ensures.0 ∙ ap (λ (w : ℕ). word_measure w) c.largest_of.ensures
          ∙ measure_largest (get_or s i 0) (get_or s (i + 1) 0) (get_or s (i + 2) 0) (get_or s (i + 3) 0) (below i).fits (below (i + 1)).fits
          (below (i + 2)).fits (below (i + 3)).fits,
      c.measure_of.ensures.1,
    )
