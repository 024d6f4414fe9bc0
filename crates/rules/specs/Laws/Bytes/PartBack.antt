-- A header and a part read back, whole or cut.
use Rattle.std.specs.Prelude.{cond, ℕ, ◌<◌, leb, Ok}
use Rattle.std.proofs.Math.ListN.{length}
use Rattle.rules.specs.declared.Size.{Size}
use Rattle.rules.specs.declared.Piece.TheVariants as part
use Rattle.rules.specs.Document.Pyramid.{levels}
use Rattle.rules.specs.Document.Layout.{CodedPart}
use Rattle.rules.specs.Document.Numbers.{most_bits, PartRead}
use Rattle.rules.specs.Promises.Vocabulary.{head_bytes, part_at}
use Rattle.rules.specs.Laws.Bytes.Numbers.{too_large}

-- Every number of a record with that header has four bytes at most.
pub record Small (z : Size) (planes : ℕ) : Type 0 where
  pub width : z.w < too_large
  pub height : z.h < too_large
  pub count : levels z < too_large
  pub planes_few : planes < too_large
  pub bits_few : most_bits z < too_large

-- what is read of a part that is cut behind c bytes
unfoldable pub cut_at : ℕ → ℕ → CodedPart → PartRead
cut_at place c p = cond (leb (length (head_bytes p)) c) (Ok (part.Cut (part_at place p))) (Ok part.Tail)
