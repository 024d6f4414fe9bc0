-- `grey::store_pixels`: the tones passed are stored and counted.
use mathlib.Core.Path.{refl, ap, ap₂, sym, ◌∙◌}
use Prim.Native.Nat.{◌+◌}
use lib.ListN.{get_or}
use mir.Val.{bool_byte}
use native.Mathlib.Omega.{arith}
use Rattle.pictures.specs.Document.Calls.{clip, clipped_in}
use Rattle.pictures.specs.Laws.Tones.{toned}
use Rattle.grey.proofs.Laws.{load_onward, numbers_in, count_onward, counted_most, byte_most, numbers_all, stored_all}
use Rattle.grey.proofs.store_pixels.Goals as goal

pub loop-q-init : goal.loop-q-init
unfolding numbers_in clipped_in
loop-q-init c = (λ k l. absurd (omega arith), refl)

pub overflow_add-clipped : goal.overflow_add-clipped
overflow_add-clipped c = omega (arith, counted_most _ _ c.loop-q.invariant.1, byte_most c.lies_outside.result)

pub loop-q-preserved : goal.loop-q-preserved
loop-q-preserved c =
    let tones = c.args.tones.now in
    let q = c.loop-q.q in (
      load_onward (λ k. clip (toned (get_or tones k 0))) _ _ _ (omega arith) c.loop-q.invariant.0 c.clipped_pixel.ensures,
      ap₂ (λ x y. x + y) c.loop-q.invariant.1 (c.from-clipped.ensures ∙ ap bool_byte c.lies_outside.ensures)
          ∙ sym (count_onward tones q (omega arith)),
    )

pub returns : goal.returns
returns c =
    let loop = c.loop-q in
    (loop.invariant.1 ∙ ap clipped_in (numbers_all c.args.tones.now (omega arith)), stored_all _ _ (omega arith) (omega arith) loop.invariant.0)
