use native.Mathlib.Omega.{arith}
use Rattle.placing.proofs.Stores.{put_three, apart_row}
use Rattle.placing.specs.Stores.{rank_of}
use Rattle.placing.proofs.set_roots.Goals as goal

pub returns : goal.returns
unfolding rank_of
returns c = put_three (apart_row _ 3 _ c.requires.0) _ _ _ (omega arith) (omega arith) (omega arith) _ _ _ (omega arith) (omega arith) (omega arith)
