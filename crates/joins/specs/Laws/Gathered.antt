-- Pieces gathered by name: where under each name there is nothing, or what a piece of that name holds, then what is there, put together in order of the
-- names behind a header, is a record, and under each name it has just that.
use Rattle.std.specs.Prelude.{◌≡◌, ℕ}
use mathlib.Core.List.{List, [], map}
use Rattle.std.proofs.Math.Bool.{cond}
use Rattle.rules.specs.declared.Header.{Header}
use Rattle.rules.specs.Document.Notation.{flat}
use Rattle.rules.specs.Document.Passes.{PartName}
use Rattle.rules.specs.Laws.Reading.Parts.{InOrder}
use Rattle.rules.specs.Promises.Vocabulary.{present}
use Rattle.rules.specs.Laws.Serving.Selection.{Piece, piece_holds, piece_name, piece_bytes}
use Rattle.joins.specs.Laws.ByName.{found}

-- nothing, or what a piece of this name holds
pub data Under (h : Header) (x : PartName) : List ℕ → Type 0 where
  nothing : Under h x []
  piece : (y : Piece h) → piece_name y ≡ x → Under h x (piece_bytes y)

-- pieces for some of these names, in their order, that hold under each what f gives
pub record Gathered (h : Header) (f : PartName → List ℕ) (ns : List PartName) : Type 0 where
  pub pieces : List (Piece h)
  pub bytes : flat piece_bytes pieces ≡ flat f ns
  pub hold : (x : PartName) → found (map piece_holds pieces) x ≡ cond (present ns x) (f x) []
  pub in_order : (earlier : PartName) → InOrder earlier ns → InOrder earlier (map piece_name pieces)
