use Rattle.netpbm.proofs.Laws.{counting_begins, counting_on, counting_ends, counting_out}
use Rattle.netpbm.proofs.read_digits.Goals.{in_default, in-len1-up+then-not-is_digit}
use Rattle.netpbm.proofs.read_digits.Goals as goal

pub loop-rest-init : goal.loop-rest-init
loop-rest-init c = counting_begins

pub loop-rest-preserved : goal.loop-rest-preserved
loop-rest-preserved c =
    counting_on c.loop-rest.invariant c.in-len1-up.len_at_least c.is_digit.ensures c.if-not-is_digit.false c.digit_of.ensures.0 c.with_digit-value.ensures

pub returns : goal.returns
returns c =
    elim c.if-rest-lt1.branch [
      | in_default w ↦ counting_out c.loop-rest.invariant w.in_default.len_below
      | in-len1-up+then-not-is_digit w ↦
          counting_ends c.loop-rest.invariant w.in-len1-up.len_at_least w.is_digit.ensures w.if-not-is_digit.true
    ]
