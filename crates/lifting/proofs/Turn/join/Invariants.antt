use Rattle.lifting.specs.Joins.{ForJoinTurn}
use Rattle.lifting.proofs.JoinTurns.{Rejoined}
use Rattle.lifting.proofs.Turn.join.Given as goal

abbrev pub invariant-loop-i : goal.invariant-loop-i
invariant-loop-i l = ForJoinTurn l.self l.pyramid l.initial.work × Rejoined l.self l.pyramid l.initial.work l.i l.work
