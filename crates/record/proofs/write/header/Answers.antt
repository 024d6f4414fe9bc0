-- `record::write::header`: its numbers are few and small.
use native.Mathlib.Omega.{arith}
use Rattle.record.proofs.Writing.{header_small}
use Rattle.record.proofs.write.header.Goals as goal

pub all-requires : goal.all-requires
all-requires c = (omega arith, omega arith, header_small _ _ c.requires.0 c.requires.1)
