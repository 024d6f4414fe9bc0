use native.Mathlib.Omega.{arith}
use Rattle.netpbm.proofs.Written.{wrote_last, wrote_next}
use Rattle.netpbm.proofs.+write_decimal.Goals.{then-value-lt10, else-value-lt10}
use Rattle.netpbm.proofs.+write_decimal.Goals as goal

pub returns : goal.returns
returns t c =
    elim c.if-value-lt10.branch [
      | then-value-lt10 w ↦ rw w.place-is (wrote_last (omega arith) (cc))
      | else-value-lt10 w ↦ rw w.place-is (wrote_next (omega arith) (omega arith) w.write_decimal-place.ensures (cc))
    ]
