-- "Any selection in that order is also a record": pieces, parts that were read somewhere, put together in order behind a header, read as just these
-- parts, moved; so do any of one record's parts.
use Rattle.std.specs.Prelude.{◌≡◌, true, Ok}
use mathlib.Core.List.{List, map}
use Prim.Native.Nat.{ℕ}
use Rattle.rules.specs.declared.Header.{Header}
use Rattle.rules.specs.declared.Part.{Part}
use Rattle.rules.specs.declared.Piece.TheVariants as part
use Rattle.rules.specs.Document.Notation.{flat}
use Rattle.rules.specs.Document.Passes.{PartName}
use Rattle.rules.specs.Document.Layout.{whole_of, name_of}
use Rattle.rules.specs.Document.Numbers.{follows, read_part}
use Rattle.rules.specs.Laws.Reading.Parts.{InOrder}

-- A piece: a part that was read in some bytes, at a place, behind some part.
pub record Piece (h : Header) : Type 0 where
  pub source : List ℕ
  pub before : PartName
  pub place : ℕ
  pub this : Part
  pub read : read_part h source before place ≡ Ok (part.Part this)

-- What a part holds, wherever it stands: its name and its bytes.
pub record Held : Type 0 where
  pub name : PartName
  pub bytes : List ℕ

abbrev pub holds : List ℕ → Part → Held
holds s p = record { name = name_of p; bytes = whole_of s p }

abbrev pub piece_holds : {h : Header} → Piece h → Held
piece_holds x = holds x.source x.this

abbrev pub piece_name : {h : Header} → Piece h → PartName
piece_name x = name_of x.this

abbrev pub piece_bytes : {h : Header} → Piece h → List ℕ
piece_bytes x = whole_of x.source x.this

-- Of the parts of one record those that pass a test, as pieces: in order wherever the first of the parts may stand.
pub record PiecesOf (h : Header) (s : List ℕ) (before : PartName) (these : List Part) : Type 0 where
  pub pieces : List (Piece h)
  pub are : map (λ x. x.this) pieces ≡ these
  pub bytes : flat piece_bytes pieces ≡ flat (whole_of s) these
  pub hold : map piece_holds pieces ≡ map (holds s) these
  pub in_order : (earlier : PartName) → ((x : PartName) → follows before x ≡ true → follows earlier x ≡ true)
      → InOrder earlier (map piece_name pieces)
