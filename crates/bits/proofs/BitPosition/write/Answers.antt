use Rattle.std.proofs.Common.{refl, sym, ◌∙◌}
use Rattle.bits.specs.Bits.{set_bit}
use Rattle.bits.specs.Written.{set_bit_past}
use Rattle.bits.proofs.BitPosition.write.Goals as goal
use Rattle.bits.proofs.BitPosition.write.Goals.{then-place-out, else-place-out}

pub returns : goal.returns
unfolding set_bit
returns c = (
  refl,
  elim c.if-place-out.branch [
    | then-place-out w ↦ cc w.with_bit.ensures
    | else-place-out w ↦ w.out-is ∙ sym (set_bit_past _ _ _ w.if-place-out.false)
  ],
)
