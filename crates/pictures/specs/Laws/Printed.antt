-- Of the record of a picture, whatever arrives: how far what is printed is from what was recorded.
use Rattle.std.specs.Prelude.{◌≡◌, List, map, length, get_or, pos}
use Prim.Native.Nat.{ℕ, ◌-◌, ◌≤◌, ◌<◌}
use Rattle.rules.specs.declared.Size.{Size}
use Rattle.rules.specs.Document.Pyramid.{area, levels, magnitude}
use Rattle.rules.specs.Document.Calls.{Result, accepted, Picture, plane_in}
use Rattle.pictures.specs.Document.Lifting.{pyramid_of, picture_of}
use Rattle.pictures.specs.Laws.Room.{most_back}
use Rattle.pictures.specs.Laws.Distance.{Nearby, pixel_most, halved, small_picture}

-- Decoding accepts, and the way back takes what it gives. Every pixel is within pixel_most of the recorded one, by the planes that decoding
-- reports; so is every pixel of the picture halved s times from the same of the record in full; and where each level is there to plane 0, all
-- pixels are the recorded ones.
pub record Printed (z : Size) (pixels : List ℕ) (result : Result Picture) : Type 0 where
  pub picture : Picture
  pub accepts : result ≡ accepted picture
  pub sized : length picture.pyramid ≡ area z
  pub few : (q : ℕ) → q < area z → magnitude picture.pyramid q ≤ most_back
  pub near : (q : ℕ) → q < area z
      → Nearby (pixel_most z picture.reached 0) (get_or (picture_of z picture.pyramid) q (pos 0)) (pos (get_or pixels q 0))
  pub small : (s : ℕ) → s < z.n → (q : ℕ) → q < area (halved z s)
      → Nearby (pixel_most z picture.reached s) (get_or (small_picture z s picture.pyramid) q (pos 0))
      (get_or (small_picture z s (pyramid_of z pixels)) q (pos 0))
  pub exact : ((k : ℕ) → 1 ≤ k → k ≤ levels z → plane_in picture.reached (k - 1) ≡ 0) → picture_of z picture.pyramid ≡ map pos pixels
