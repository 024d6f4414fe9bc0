-- What is read of a file is a part of it: the bytes behind a header are the file less its front, and pixels are W x H bytes of these.
use Rattle.std.specs.Prelude.{◌≡◌, List, ℕ, ◌*◌, ◌<◌, length, get_or}

-- bytes: what a slice of 8-bit numbers holds
abbrev pub Bytes : List ℕ → Type 0
Bytes s = (q : ℕ) → get_or s q 0 < 256

-- The pixels of a picture: W x H of them, bytes where the file is bytes.
pub record Pixels (s : List ℕ) (w h : ℕ) (pixels : List ℕ) : Type 0 where
  pub whole : length pixels ≡ w * h
  pub bytes : Bytes s → Bytes pixels
