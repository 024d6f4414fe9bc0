use Rattle.largest.specs.Blocks.{SomeL}
use Rattle.largest.proofs.fill_blocks_l.Given as goal

abbrev pub invariant-loop-c : goal.invariant-loop-c
invariant-loop-c l = SomeL l.n l.initial.s l.c l.s
