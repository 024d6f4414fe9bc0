-- W3's question: of a picture's record, whatever arrives of it, how far is a printed pixel from the recorded one?
use Rattle.std.specs.Prelude.{◌≡◌, ℕ, ◌-◌, ◌≤◌, ◌<◌, length, get_or}
use mathlib.Core.List.{List, map}
use Rattle.std.proofs.Math.IntN.{ℤ}
use Rattle.rules.specs.declared.Size.{Size}
use Rattle.rules.specs.Document.Pyramid.{area, levels}
use Rattle.rules.specs.Document.Calls.{Result, accepted, work_for, Picture, plane_in}
use Rattle.pictures.specs.Document.Lifting.{pyramid_of, picture_of}
use Rattle.pictures.specs.Document.Netpbm.{grey_file}
use Rattle.pictures.specs.Document.Calls.{clip, print_of, grey_out}
use Rattle.pictures.specs.Laws.Distance.{pixel_most, halved, top_left, small_picture}
use Rattle.pictures.specs.Laws.NearLines.{Close}

-- With room the way back takes this pyramid, and no pixel in the file that it writes is more than e from the one of these in its place.
pub record PrintsNear (e : ℕ) (z : Size) (pyramid : List ℤ) (pixels : List ℕ) : Type 0 where
  pub prints : (room work : ℕ) → length (grey_file z pixels) ≤ room → work_for z ≤ work
      → grey_out pyramid z room work ≡ accepted (print_of z (picture_of z pyramid))
  pub near : (q : ℕ) → q < area z → Close e (get_or (map clip (picture_of z pyramid)) q 0) (get_or pixels q 0)

-- Decoding accepts; what it gives is printed within pixel_most of the file's pixels, by the planes that it reports. The picture halved s times
-- is printed within pixel_most of the same of the record in full, set to the nearer end likewise. Where each level is there to plane 0, the
-- pixels are the file's, and none was set.
pub record PixelNear (z : Size) (pixels : List ℕ) (result : Result Picture) : Type 0 where
  pub picture : Picture
  pub accepts : result ≡ accepted picture
  pub whole : PrintsNear (pixel_most z picture.reached 0) z picture.pyramid pixels
  pub small : (s : ℕ) → s < z.n
      → PrintsNear (pixel_most z picture.reached s) (halved z s) (top_left z s picture.pyramid) (map clip (small_picture z s (pyramid_of z pixels)))
  pub exact : ((k : ℕ) → 1 ≤ k → k ≤ levels z → plane_in picture.reached (k - 1) ≡ 0)
      → (room work : ℕ) → length (grey_file z pixels) ≤ room → work_for z ≤ work
      → grey_out picture.pyramid z room work ≡ accepted (record { file = grey_file z pixels; clipped = 0 })
