-- Decoding what arrived of a coder's record, the last part cut perhaps: it is accepted, and each coefficient is rounded at the plane that its level
-- reached, or at the one below where that is the plane of the part that was cut.
use Prim.Native.Nat.{ℕ, ◌-◌, ◌*◌, min}
use Rattle.std.proofs.Math.ListN.{length}
use Rattle.rules.specs.Document.Layout.{CodedPart}
use Rattle.rules.specs.Promises.Vocabulary.{head_bytes}

-- How many bits are there of a part that is cut behind t bytes.
unfoldable pub bits_held_in : ℕ → CodedPart → ℕ
bits_held_in t q = min (length q.bits) (8 * (t - length (head_bytes q)))
