use Rattle.std.proofs.Common.{take}
use Rattle.record.specs.Write.{Wrote}
use Rattle.record.proofs.write.all.Given as goal

abbrev pub invariant-loop-value : goal.invariant-loop-value
invariant-loop-value l = Wrote l.initial.out l.at (take l.value-index l.values) l.place l.out
