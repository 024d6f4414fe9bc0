-- Bytes written from a place on: what would fall past the end of the slice is left out, and the place after them is answered all the same.
use Rattle.std.specs.Prelude.{◌≡◌, List, ◌∷◌, ◌++◌, ℕ, ◌+◌, ◌≤◌, length}
use Rattle.std.proofs.lemmas.List.Edits.{sets}
use Rattle.rules.specs.declared.Size.{Size}
use Rattle.pictures.specs.Document.Netpbm.{decimal}

pub record Wrote (bytes : List ℕ) (at most : ℕ) (out : List ℕ) (r : ℕ) (out' : List ℕ) : Type 0 where
  pub ends : r ≡ at + length bytes
  pub few : length bytes ≤ most
  pub list : out' ≡ sets out at bytes

-- a header up to its width, and up to its height
unfoldable pub width_line : ℕ → List ℕ
width_line w = 80 ∷ 53 ∷ 10 ∷ decimal w

unfoldable pub side_lines : Size → List ℕ
side_lines z = width_line z.w ++ 32 ∷ decimal z.h
