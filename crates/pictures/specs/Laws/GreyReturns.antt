-- The theorem of W3: what the way in takes of a file comes back, every pixel, by the way back; coded, decoded whole and printed too.
use Rattle.std.specs.Prelude.{◌≡◌, true, ℕ, length}
use mathlib.Core.List.{List}
use Rattle.rules.specs.Document.Pyramid.{legal_size, area}
use Rattle.pictures.specs.Document.Lifting.{pyramid_of}
use Rattle.pictures.specs.Document.Netpbm.{picture, read_file}
use Rattle.pictures.specs.Document.Calls.{GreyPyramid}
use Rattle.pictures.specs.Laws.Behind.{Bytes}

-- What the way in took: the file has these pixels, W x H bytes, and the pyramid is theirs.
pub record Taken (file : List ℕ) (n : ℕ) (x : GreyPyramid) (pixels : List ℕ) : Type 0 where
  pub reads : read_file file ≡ picture x.size.w x.size.h pixels
  pub asked : x.size.n ≡ n
  pub legal_size_lem : legal_size x.size ≡ true
  pub whole : length pixels ≡ area x.size
  pub bytes : Bytes file → Bytes pixels
  pub pyramid_is : x.pyramid ≡ pyramid_of x.size pixels
