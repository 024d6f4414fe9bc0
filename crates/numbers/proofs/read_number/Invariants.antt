use Rattle.numbers.proofs.Laws.{Reading}
use Rattle.numbers.proofs.read_number.Given as goal

abbrev pub invariant-loop : goal.invariant-loop
invariant-loop l = Reading l.bytes l.at l.place l.worth l.value l.counter
