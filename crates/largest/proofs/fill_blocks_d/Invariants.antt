use Rattle.largest.specs.Blocks.{SomeD}
use Rattle.largest.proofs.fill_blocks_d.Given as goal

abbrev pub invariant-loop-b : goal.invariant-loop-b
invariant-loop-b l = SomeD l.n l.initial.s l.b l.s
