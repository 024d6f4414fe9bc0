-- The parts of a record, or of any selection of them, read back, whole or cut.
use Rattle.std.specs.Prelude.{◌≡◌, List, [], ◌∷◌, true, ℕ, Ok, Err}
use Rattle.std.proofs.Math.ListN.{length}
use Rattle.rules.specs.declared.Header.{Header}
use Rattle.rules.specs.declared.Piece.TheVariants as part
use Rattle.rules.specs.Document.Passes.{PartName}
use Rattle.rules.specs.Document.Layout.{CodedPart}
use Rattle.rules.specs.Document.Numbers.{legal_head, PartRead}
use Rattle.rules.specs.Promises.Vocabulary.{at}

-- Parts that may stand in a record, in order, the first after `before`; and the name of the last. A record's first part comes after this:
abbrev pub before_all : ℕ → PartName
before_all planes = at planes 0

unfoldable pub LegalParts : Header → PartName → List CodedPart → Type 0
LegalParts h before [] = Unit {0}
LegalParts h before (p ∷ ps) = (legal_head h before p.name (length p.bits) ≡ true) × LegalParts h p.name ps

unfoldable pub last_name : PartName → List CodedPart → PartName
last_name before [] = before
last_name before (p ∷ ps) = last_name p.name ps

-- what is no further part: less than a head, or a head and less than its body
unfoldable pub Short : PartRead → Type 0
Short (Ok (part.Part p)) = ⊥
Short (Ok (part.Cut p)) = Unit {0}
Short (Ok part.Tail) = Unit {0}
Short (Err r) = ⊥
