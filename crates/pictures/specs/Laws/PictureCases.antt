-- A picture of 4 x 4, N = 1, and its pyramid, both ways: one table, and one claim about all its rows, by computation.
use Rattle.std.specs.Prelude.{List, [], ◌∷◌, map, ℤ, pos, negsuc, ℕ}
use Rattle.rules.specs.declared.Size.{Size}
use Rattle.rules.specs.Document.Passes.{from}
use Rattle.pictures.specs.Document.Lifting.{high, low, split, even, odd, joined, along_rows, along_columns}
use Rattle.pictures.specs.Document.Lifting.{turn, turn_back, forward, back, grey_of, grid_of, list_of, pyramid_of, picture_of}

-- Opening one of these opens a section's definitions.
unfoldable pub opens_lines : Unit {0}
unfolding high low split even odd joined
opens_lines = tt

unfoldable pub opens_turns : Unit {0}
unfolding along_rows along_columns turn turn_back forward back
opens_turns = tt

unfoldable pub opens_lists : Unit {0}
unfolding from grey_of grid_of list_of pyramid_of picture_of
opens_lists = tt

unfoldable pub opens_lifting : Unit {0}
unfolding opens_lines opens_turns opens_lists
opens_lifting = tt

unfoldable pub four : Size
four = record { w = 4; h = 4; n = 1 }

-- rows 0 10 20 30 / 40 50 60 70 / 80 90 100 110 / 255 0 255 0
unfoldable pub pixels : List ℕ
pixels = 0 ∷ 10 ∷ 20 ∷ 30 ∷ 40 ∷ 50 ∷ 60 ∷ 70 ∷ 80 ∷ 90 ∷ 100 ∷ 110 ∷ 255 ∷ 0 ∷ 255 ∷ 0 ∷ []

-- rows 0 23 0 10 / 93 109 -63 -56 / 0 0 0 0 / 48 25 -255 -265: rounded toward zero 109 would be 110, and with rows first 93 and -63 would
-- be 92 and -64
unfoldable pub coefficients : List ℤ
coefficients =
    pos 0 ∷ pos 23 ∷ pos 0 ∷ pos 10
    ∷ pos 93 ∷ pos 109 ∷ negsuc 62 ∷ negsuc 55
    ∷ pos 0 ∷ pos 0 ∷ pos 0 ∷ pos 0
    ∷ pos 48 ∷ pos 25 ∷ negsuc 254 ∷ negsuc 264 ∷ []

-- a row of the table: what the definitions give, and what is stated
pub record Row : Type 0 where
  pub given : List ℤ
  pub stated : List ℤ

infixl 5 ◌is◌
abbrev pub ◌is◌ : List ℤ → List ℤ → Row
◌is◌ x y = record { given = x; stated = y }

unfoldable pub table : List Row
table = (pyramid_of four pixels is coefficients) ∷ (picture_of four coefficients is map pos pixels) ∷ []
