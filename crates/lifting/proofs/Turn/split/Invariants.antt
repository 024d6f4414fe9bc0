use Rattle.lifting.specs.Turns.{ForTurn}
use Rattle.lifting.proofs.TurnLaws.{Begun}
use Rattle.lifting.proofs.Turn.split.Given as goal

abbrev pub invariant-loop-i : goal.invariant-loop-i
invariant-loop-i l = ForTurn l.self l.initial.work l.initial.out × Begun l.self l.initial.work l.initial.out l.i l.work l.out
