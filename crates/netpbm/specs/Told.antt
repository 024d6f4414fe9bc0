-- What is told of a header that was read: width and height, each as it is told by 64 bits, and where the pixels begin, where all of them are
-- there; else that the file is none.
use Rattle.std.specs.Prelude.{List, ℕ, ◌-◌, ◌*◌, ◌≤◌, ◌<◌, length, drop, Option, Some, None}
use Rattle.pictures.specs.declared.Picture.{Picture}
use Rattle.pictures.specs.Document.Netpbm.{GreyHeader, no_header, header, told}

pub data Tells (file : List ℕ) : GreyHeader → Option Picture → Type 0 where
  no_header_lem : Tells file no_header None
  too_short : {w h at : ℕ} → at ≤ length file → length file - at < w * h → Tells file (header w h (drop at file)) None
  all_there : {w h at : ℕ} → at ≤ length file → w * h ≤ length file - at
      → Tells file (header w h (drop at file)) (Some (record { w = told w; h = told h; at = at }))
