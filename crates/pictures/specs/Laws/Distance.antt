-- How far a printed pixel may be from the recorded one, by the planes that decoding reports. Definitions only; the theorems are in Error.
use Rattle.std.specs.Prelude.{List, cond, ℕ, zero, suc, ◌+◌, ◌-◌, ◌*◌, ◌/◌, ◌^◌, ◌≤◌, ◌<◌, ltb, ℤ, nat_abs, ◌-ℤ◌}
use Rattle.rules.specs.declared.Size.{Size}
use Rattle.rules.specs.declared.Plane.{Plane}
use Rattle.rules.specs.Document.Pyramid.{index, levels, level_of}
use Rattle.rules.specs.Document.Calls.{plane_in}
use Rattle.pictures.specs.Document.Lifting.{Grid, grid_of, list_of, picture_of}
use Rattle.pictures.specs.Laws.Turns.{Most}
use Rattle.pictures.specs.Laws.Room.{most_back}

-- Two numbers, neither more than e from the other.
abbrev pub Nearby : ℕ → ℤ → ℤ → Type 0
Nearby e p q = nat_abs (p -ℤ q) ≤ e

-- What a level adds that is there to plane m: nothing, where all its planes are.
unfoldable pub share : ℕ → ℕ
share m = cond (ltb 0 m) (3 * 2 ^ m) 0

-- what c levels add, from level k on
unfoldable pub shares : (ℕ → ℕ) → ℕ → ℕ → ℕ
shares plane k zero = 0
shares plane k (suc c) = share (plane k) + shares plane (suc k) c

-- The picture that is halved s times, 0 being the picture itself, of a record whose level k is there to this plane.
unfoldable pub farthest : Size → (ℕ → ℕ) → ℕ → ℕ
farthest z plane s = 2 ^ plane (levels z) - 1 + shares plane (suc s) (z.n - s)

-- The same, of the reached planes that decoding reports, level 1 first.
unfoldable pub pixel_most : Size → List Plane → ℕ → ℕ
pixel_most z planes s = farthest z (λ k. plane_in planes (k - 1)) s

-- The size of a picture that is halved s times: of the first rows and columns of the pyramid, with s turns less.
unfoldable pub halved : Size → ℕ → Size
halved z s = record { w = z.w / 2 ^ s; h = z.h / 2 ^ s; n = z.n - s }

-- The picture that a pyramid gives, halved s times: by the way back, of the pyramid's first rows and columns.
unfoldable pub top_left : Size → ℕ → List ℤ → List ℤ
top_left z s pyramid = list_of (halved z s) (grid_of z.w pyramid)

unfoldable pub small_picture : Size → ℕ → List ℤ → List ℤ
small_picture z s pyramid = picture_of (halved z s) (top_left z s pyramid)

-- Two pyramids of magnitudes that the way back takes, whose coefficients of level k are less than 2 ^ plane k from each other.
pub record Pyramids (z : Size) (plane : ℕ → ℕ) (g g' : Grid) : Type 0 where
  pub few : Most z.h z.w most_back g
  pub few' : Most z.h z.w most_back g'
  pub near : (i j : ℕ) → i < z.h → j < z.w → Nearby (2 ^ plane (level_of z (index z i j)) - 1) (g i j) (g' i j)
