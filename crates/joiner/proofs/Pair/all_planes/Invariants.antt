use lib.ListN.{length}
use Rattle.rules.specs.Document.Numbers.{top_level}
use Rattle.rules.specs.Document.Passes.{part_names}
use Rattle.joiner.specs.Ahead.{Ahead}
use Rattle.joiner.proofs.Pair.all_planes.Given as goal

abbrev pub invariant-loop-plane : goal.invariant-loop-plane
invariant-loop-plane l = Ahead l.self.first.now l.self.second.now l.self.h (length l.initial.out) (part_names (top_level l.self.h) l.plane) l.now l.out
