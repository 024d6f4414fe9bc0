use Rattle.lists.proofs.Laws.{lip_read}
use Prim.Native.Nat.{◌+◌}
use native.Mathlib.Omega.{arith}
use Rattle.lists.proofs.lip_at.Goals as goal

pub returns : goal.returns
returns c =
    let word = c.type_inv.s (c.lip_from.result + c.args.i) in
    (lip_read _ _ _ _ (omega arith), omega (arith, word))
