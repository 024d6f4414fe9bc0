-- What arrives of a record: some of its parts, the last of them cut perhaps. Those that are whole are again a selection of the record's parts.
use Rattle.std.specs.Prelude.{◌≡◌, cond, ℕ, ◌+◌, ◌≤◌, ◌<◌, leb}
use mathlib.Core.List.{List, [], ◌∷◌, ◌++◌}
use Rattle.std.proofs.Math.ListN.{length}
use Rattle.rules.specs.Document.Notation.{flat}
use Rattle.rules.specs.Document.Layout.{CodedPart, part_bytes}
use Rattle.rules.specs.Promises.Vocabulary.{head_bytes, whole_in, tail_in, cut_in}

-- The two cases: all is there, or the part q is cut and nothing comes behind it.
pub record AllThere (n : ℕ) (ps : List CodedPart) : Type 0 where
  pub parts : whole_in n ps ≡ ps
  pub none : tail_in n ps ≡ 0
  pub uncut : cut_in n ps ≡ []
  pub bytes : length (flat part_bytes ps) ≤ n

pub record CutIn (n : ℕ) (ps : List CodedPart) : Type 0 where
  pub q : CodedPart
  pub later : List CodedPart
  pub parts : ps ≡ whole_in n ps ++ q ∷ later
  pub short : tail_in n ps < length (part_bytes q)
  pub cut : cut_in n ps ≡ cond (leb (length (head_bytes q)) (tail_in n ps)) (q ∷ []) []
  pub bytes : n ≡ length (flat part_bytes (whole_in n ps)) + tail_in n ps
