-- From a picture's tones to its pyramid, and back.
use Rattle.std.specs.Prelude.{◌≡◌, true, List, ℕ, ◌+◌, ◌*◌, ◌≤◌, ◌<◌, length, get_or, ℤ, pos}
use Rattle.rules.specs.declared.Size.{Size}
use Rattle.rules.specs.Document.Pyramid.{magnitude, legal_size, area}
use Rattle.pictures.specs.Document.Lifting.{Grid, forward, back}
use Rattle.pictures.specs.Laws.Tones.{bias, toned}
use Rattle.pictures.specs.Laws.Room.{most_back}

-- the first W x H numbers are the tones of g, row by row
abbrev pub TonesOf : Size → List ℕ → Grid → Type 0
TonesOf z work g = (i j : ℕ) → i < z.h → j < z.w → toned (get_or work (i * z.w + j) 0) ≡ g i j

-- the numbers are g, row by row
abbrev pub NumbersOf : Size → List ℤ → Grid → Type 0
NumbersOf z numbers g = (i j : ℕ) → i < z.h → j < z.w → get_or numbers (i * z.w + j) (pos 0) ≡ g i j

-- the tones of pixels, 0 to 255, and room
pub record Splitting (z : Size) (work : List ℕ) (out : List ℤ) : Type 0 where
  pub legal : legal_size z ≡ true
  pub room : 4 * area z ≤ length work
  pub exact : length out ≡ area z
  pub least : (q : ℕ) → q < area z → bias ≤ get_or work q 0
  pub most : (q : ℕ) → q < area z → get_or work q 0 ≤ bias + 255

-- Whatever picture the tones are of, its pyramid is written.
pub record Split (z : Size) (work : List ℕ) (out : List ℤ) (work' : List ℕ) (out' : List ℤ) : Type 0 where
  pub same_work : length work' ≡ length work
  pub same_out : length out' ≡ length out
  pub pyramid : (g : Grid) → TonesOf z work g → NumbersOf z out' (forward z z.n g)

-- a pyramid with magnitudes at most 131,071, and room
pub record Joining (z : Size) (pyramid : List ℤ) (work : List ℕ) : Type 0 where
  pub legal : legal_size z ≡ true
  pub room : 4 * area z ≤ length work
  pub exact : length pyramid ≡ area z
  pub most : (q : ℕ) → q < area z → magnitude pyramid q ≤ most_back

-- Whatever pyramid the numbers are, the tones of its picture are written.
pub record Joined (z : Size) (pyramid : List ℤ) (work work' : List ℕ) : Type 0 where
  pub same : length work' ≡ length work
  pub picture : (g : Grid) → NumbersOf z pyramid g → TonesOf z work' (back z z.n g)
