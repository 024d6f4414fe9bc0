-- `answers::decode_numbers`: the planes, and the counts behind them.
use Rattle.std.proofs.Common.{arith, refl}
use Rattle.rules.specs.Document.Passes.{from}
use Rattle.rules.specs.Document.Calls.{decode_numbers, plane_in, count_in}
use Rattle.rules.specs.Document.Answers.{as_decoded}
use Rattle.answers.proofs.Laws.{storing_none, storing_more, storing_all}
use Rattle.answers.proofs.decode_numbers.Goals as goal

pub loop-i-init : goal.loop-i-init
loop-i-init c = storing_none (omega arith)

pub loop-i-preserved : goal.loop-i-preserved
unfolding plane_in
loop-i-preserved c = storing_more c.loop-i.invariant (omega arith) refl

pub loop-i-2-init : goal.loop-i-2-init
loop-i-2-init c = storing_none (omega (arith, c.loop-i.invariant.same))

pub loop-i-2-preserved : goal.loop-i-2-preserved
unfolding count_in
loop-i-2-preserved c = storing_more c.loop-i-2.invariant (omega arith) refl

pub returns-after-loop-i-2 : goal.returns-after-loop-i-2
unfolding decode_numbers as_decoded from
returns-after-loop-i-2 c = rw (c.in-Ok.is, storing_all c.loop-i-2.invariant (omega arith), storing_all c.loop-i.invariant (omega arith)) refl

pub returns-in-Err : goal.returns-in-Err
unfolding decode_numbers as_decoded plane_in count_in from
returns-in-Err c = rw (c.in-Err.is, c.refusal_number.ensures, c.refusal_place.ensures) refl
