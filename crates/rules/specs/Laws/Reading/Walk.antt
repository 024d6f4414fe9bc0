-- Walking over the parts of a record, without a bound on their number: what is left to read from a place on, part by part.
use Rattle.std.specs.Prelude.{List}
use Prim.Native.Nat.{ℕ, ◌-◌}
use Rattle.std.proofs.Math.ListN.{length}
use Rattle.rules.specs.declared.Header.{Header}
use Rattle.rules.specs.Document.Passes.{PartName}
use Rattle.rules.specs.Document.Numbers.{Reading, read_from}

-- what is left from a place on, where the part before it was `before`
unfoldable pub parts_from : Header → List ℕ → PartName → ℕ → Reading
parts_from h s before place = read_from (length s - place) h s before place
