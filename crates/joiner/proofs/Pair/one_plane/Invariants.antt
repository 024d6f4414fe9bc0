use lib.ListN.{length}
use Rattle.rules.specs.Document.Numbers.{top_level}
use Rattle.joiner.specs.Ahead.{names_from, Ahead}
use Rattle.joiner.proofs.Pair.one_plane.Given as goal

abbrev pub invariant-loop-level : goal.invariant-loop-level
invariant-loop-level l =
    Ahead l.self.first.now l.self.second.now l.self.h (length l.initial.out) (names_from (top_level l.self.h) l.plane.0 l.level) l.now l.out
