-- Room: for N up to 8, every number that a turn takes, leaves in between or gives is within 2^24 of 0, so every tone within 2^24 of the bias:
-- on the way in of pixels up to 255, and on the way back of a pyramid with magnitudes up to 131,071.
use Rattle.std.specs.Prelude.{ℕ, ◌/◌, ◌^◌}
use Rattle.rules.specs.declared.Size.{Size}
use Rattle.pictures.specs.Document.Lifting.{Grid, columns_split, rows_joined, forward}
use Rattle.pictures.specs.Laws.Turns.{Most}

abbrev pub most_turns : ℕ
most_turns = 8

abbrev pub shallow : ℕ
shallow = 16777216

-- "4 for a magnitude over 131,071"
abbrev pub most_back : ℕ
most_back = 131071

-- The way in: what turn l takes, what its columns leave, and all numbers before it.
pub record RoomIn (z : Size) (g : Grid) (l : ℕ) : Type 0 where
  pub taken : Most (z.h / 2 ^ l) (z.w / 2 ^ l) shallow (forward z l g)
  pub columns : Most (z.h / 2 ^ l) (z.w / 2 ^ l) shallow (columns_split (z.h / 2 ^ l) (z.w / 2 ^ l) (forward z l g))
  pub whole : Most z.h z.w shallow (forward z l g)

-- The way back: what turn l takes of a pyramid and what its rows leave. What it gives, turn l - 1 takes.
pub record RoomBack (z : Size) (g : Grid) (l : ℕ) : Type 0 where
  pub taken : Most (z.h / 2 ^ l) (z.w / 2 ^ l) shallow g
  pub rows : Most (z.h / 2 ^ l) (z.w / 2 ^ l) shallow (rows_joined (z.h / 2 ^ l) (z.w / 2 ^ l) g)
