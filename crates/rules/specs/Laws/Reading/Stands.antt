-- What is known of a number, a header and a part that were read: their values are legal, and they stand whole within the bytes.
use Rattle.std.specs.Prelude.{◌≡◌, List, true, ◌&&◌, ℕ, ◌+◌, ◌≤◌, ◌<◌, leb, length, Ok}
use Rattle.rules.specs.declared.Header.{Header}
use Rattle.rules.specs.declared.Part.{Part}
use Rattle.rules.specs.Document.Pyramid.{legal_size, most_planes}
use Rattle.rules.specs.Document.Passes.{PartName}
use Rattle.rules.specs.Document.Layout.{read_number, version, bytes_for, pad_clear, body_of, name_of}
use Rattle.rules.specs.Promises.Vocabulary.{LegalHead}

-- A number that was read: it has a byte at least and ends within the bytes.
pub record NumberStands (s : List ℕ) (at v end : ℕ) : Type 0 where
  pub after : at < end
  pub within : end ≤ length s

-- A header that was read: its five numbers and where they stand, and legal values.
pub record HeaderStands (s : List ℕ) (h : Header) : Type 0 where
  pub width_at : ℕ
  pub height_at : ℕ
  pub depth_at : ℕ
  pub planes_at : ℕ
  pub version_read : read_number s 0 ≡ Ok (version, width_at)
  pub width_read : read_number s width_at ≡ Ok (h.size.w, height_at)
  pub height_read : read_number s height_at ≡ Ok (h.size.h, depth_at)
  pub depth_read : read_number s depth_at ≡ Ok (h.size.n, planes_at)
  pub planes_read : read_number s planes_at ≡ Ok (h.planes, h.end)
  pub judged : legal_size h.size && leb h.planes most_planes ≡ true

-- A part that was read at a place: its three numbers and where they stand, a legal head, a whole body, clear padding.
pub record PartStands (h : Header) (s : List ℕ) (before : PartName) (place : ℕ) (p : Part) : Type 0 where
  pub level_at : ℕ
  pub bits_at : ℕ
  pub plane_read : read_number s place ≡ Ok (p.plane.0, level_at)
  pub level_read : read_number s level_at ≡ Ok (p.level.0, bits_at)
  pub bits_read : read_number s bits_at ≡ Ok (p.bits, p.body)
  pub placed : p.place ≡ place
  pub legal : LegalHead h before (name_of p) p.bits
  pub after : place < p.body
  pub end : p.end ≡ p.body + bytes_for p.bits
  pub within : p.end ≤ length s
  pub clear : pad_clear (body_of s p) p.bits ≡ true
