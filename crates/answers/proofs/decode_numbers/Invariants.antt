use Rattle.rules.specs.Document.Calls.{plane_in, count_in}
use Rattle.answers.proofs.Laws.{Storing}
use Rattle.answers.proofs.decode_numbers.Given as goal

abbrev pub invariant-loop-i : goal.invariant-loop-i
invariant-loop-i l = Storing (plane_in l.plane-items) l.initial.numbers 3 l.i l.numbers

abbrev pub invariant-loop-i-2 : goal.invariant-loop-i-2
invariant-loop-i-2 l = Storing (count_in l.count-items) l.initial.numbers 9 l.i l.numbers
