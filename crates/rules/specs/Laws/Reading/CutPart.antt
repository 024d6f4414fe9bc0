-- A part that was read with its body incomplete: where it stands, how many of its bits are there, and when it is usable.
use Rattle.std.specs.Prelude.{◌≡◌, ℕ, ◌+◌, ◌≤◌, ◌<◌, length}
use mathlib.Core.List.{List}
use Rattle.rules.specs.declared.Header.{Header}
use Rattle.rules.specs.declared.Part.{Part}
use Rattle.rules.specs.Document.Passes.{PartName}
use Rattle.rules.specs.Document.Layout.{bytes_for, name_of}
use Rattle.rules.specs.Promises.Vocabulary.{LegalHead}

pub record CutStands (h : Header) (s : List ℕ) (before : PartName) (place : ℕ) (p : Part) : Type 0 where
  pub placed : p.place ≡ place
  pub legal : LegalHead h before (name_of p) p.bits
  pub after : place < p.body
  pub within : p.body ≤ length s
  pub end : p.end ≡ p.body + bytes_for p.bits
  pub short : length s < p.end
