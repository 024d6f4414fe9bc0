-- The parts that were read, whatever the bytes: each is whole, legal and after the one before it, and which are usable is known on the way.
use Rattle.std.specs.Prelude.{◌≡◌, List, [], ◌∷◌, ℕ, Ok}
use Rattle.rules.specs.declared.Header.{Header}
use Rattle.rules.specs.declared.Part.{Part}
use Rattle.rules.specs.declared.Piece.TheVariants as part
use Rattle.rules.specs.Document.Passes.{PartName}
use Rattle.rules.specs.Document.Layout.{name_of}
use Rattle.rules.specs.Document.Numbers.{read_part}

-- parts that are read one after the other, from a place on and behind the part `before`
unfoldable pub WholeParts : Header → List ℕ → PartName → ℕ → List Part → Type 0
WholeParts h s before place [] = Unit {0}
WholeParts h s before place (p ∷ ps) = (read_part h s before place ≡ Ok (part.Part p)) × WholeParts h s (name_of p) p.end ps
