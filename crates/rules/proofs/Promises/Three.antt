-- Demand 3. Of the record that the coder writes, whatever parts arrive, by serving or by loss, the last of them cut perhaps: decoding with
-- buffers of the stated sizes accepts, gives each coefficient its sign and its magnitude rounded toward zero to a multiple of 2^m, zero where
-- that gives zero; m is the plane that its level reached, or the one below where that is the plane of the part that was cut. The reached planes are
-- reported for each level, 0 beyond level N + 1, and how many of the level's parts are there and not usable. `Rounded`, in Vocabulary, says this
-- field by field. With more bytes of the record what is printed is no worse: `more_bytes`.
use Rattle.std.specs.Prelude.{◌≡◌, List, [], map, Bool, false, ℕ, ◌<◌, ◌+◌, ◌-◌, suc, ◌≤◌, ◌^◌, leb, eqb, get_or, ℤ, pos, Ok}
use Rattle.rules.specs.declared.Size.{Size}
use Rattle.rules.specs.declared.Header.{Header}
use Rattle.rules.specs.Document.Notation.{count}
use Rattle.rules.specs.Document.Pyramid.{area, level_of, magnitude}
use Rattle.rules.specs.Document.Passes.{PartName}
use Rattle.rules.specs.Document.Layout.{record_of, planes_in, earlier_planes_in, parts_with, parts_of, name_of, usable, reached}
use Rattle.rules.specs.Document.Numbers.{read_header, read_parts, top_level}
use Rattle.rules.specs.Document.Calls.{coding, accepted, decoding, Portion, serving, Result, Picture, plane_in, Decoding, AfsDecode, Decoded, skipped_parts}
use Rattle.rules.specs.Promises.Vocabulary.{Codable, PlaneCount, Stated, Rounded, names, whole_in, kept, tail_in, cut_in, arrived, record_bytes, asked}
use Rattle.rules.specs.Promises.Vocabulary.{Near, NoWorse, at, Named, present, most_decoded}
use Rattle.rules.proofs.Laws.Calls.Arrived as laws
use Rattle.rules.proofs.Laws.Reading.Usable as usables
use Rattle.rules.proofs.Laws.Reading.Skipped as skips
use Rattle.rules.proofs.Laws.Rounding.Magnitudes as magnitudes

-- What coding accepts, and what it then writes.
pub coding_codable : (pyramid : List ℤ) (z : Size) (room work : ℕ) (bytes : List ℕ) → coding pyramid z room work ≡ accepted bytes
    → Codable z pyramid × (bytes ≡ record_of z pyramid)
coding_codable = laws.coding_codable

module _ {z : Size} {pyramid : List ℤ} (c : Codable z pyramid) where
  -- The coder's count, and the earlier one.
  pub this_count : PlaneCount pyramid (planes_in pyramid)
  this_count = laws.this_count c

  pub earlier_count : PlaneCount pyramid (earlier_planes_in pyramid)
  earlier_count = laws.earlier_count c

  -- Of the record of any such number of planes.
  module _ {planes : ℕ} (count : PlaneCount pyramid planes) (room work : ℕ) (sizes : Stated z room work) where
    -- Any selection of the record's parts, cut anywhere behind the header.
    pub demand3 : (keep : PartName → Bool) (n : ℕ)
        → Rounded z planes pyramid (names (whole_in n (kept keep (parts_with z planes pyramid)))) (names (cut_in n (kept keep (parts_with z planes pyramid))))
        (tail_in n (kept keep (parts_with z planes pyramid)))
        (decoding (arrived z planes (kept keep (parts_with z planes pyramid)) n) room work)
    demand3 = laws.demand3 c count room work sizes

    -- With more bytes of the same record no magnitude falls and no sign turns. (Both decodings are accepted: demand3.)
    pub more_bytes : (keep : PartName → Bool) (n₁ n₂ : ℕ) → n₁ ≤ n₂ → (x₁ x₂ : Picture)
        → decoding (arrived z planes (kept keep (parts_with z planes pyramid)) n₁) room work ≡ accepted x₁
        → decoding (arrived z planes (kept keep (parts_with z planes pyramid)) n₂) room work ≡ accepted x₂ → NoWorse x₁.pyramid x₂.pyramid
    more_bytes = laws.more_bytes c count room work sizes

    -- Not cut.
    pub demand3_selection : (keep : PartName → Bool)
        → Rounded z planes pyramid (names (kept keep (parts_with z planes pyramid))) [] 0
        (decoding (record_bytes z planes (kept keep (parts_with z planes pyramid))) room work)
    demand3_selection = laws.demand3_selection c count room work sizes

    -- Served for level r and plane p, from what arrived.
    pub demand3_served_on : (keep : PartName → Bool) (n r p out : ℕ) (x : Portion)
        → serving (arrived z planes (kept keep (parts_with z planes pyramid)) n) r p out ≡ accepted x
        → Rounded z planes pyramid (names (kept (asked r p) (whole_in n (kept keep (parts_with z planes pyramid))))) [] 0
        (decoding x.bytes room work)
    demand3_served_on = laws.demand3_served_on c count room work sizes

  -- In an assessor's words: what is printed is less than 2^m away from what was recorded, m being the plane reported for its level, of no greater
  -- magnitude, and of the same sign unless it is 0.
  pub printed_near : {planes : ℕ} {there part : List PartName} {cut : ℕ} {result : Result Picture} (r : Rounded z planes pyramid there part cut result)
      → (q : ℕ) → q < area z
      → Near (plane_in r.picture.reached (level_of z q - 1)) (get_or r.picture.pyramid q (pos 0)) (get_or pyramid q (pos 0))
  printed_near = laws.printed_near c

-- Coded, served for level r and plane p, and decoded: the parts with level ≥ r and plane ≥ p are there.
pub demand3_served : (pyramid : List ℤ) (z : Size) (out code-work r p served room work : ℕ) (bytes : List ℕ) (x : Portion)
    → coding pyramid z out code-work ≡ accepted bytes → serving bytes r p served ≡ accepted x → Stated z room work
    → Rounded z (planes_in pyramid) pyramid (names (kept (asked r p) (parts_of z pyramid))) [] 0 (decoding x.bytes room work)
demand3_served = laws.demand3_served

-- The plane m. A part is usable exactly if its plane is not under the one that its level reached; a coarser level has reached no higher plane.
module _ (top planes : ℕ) (there : List PartName) where
  pub usable_reached : (n k : ℕ) → n < planes → usable top planes there (at n k) ≡ leb (reached top planes there k) n
  usable_reached = usables.usable_reached top planes there

  pub reached_falls : (k : ℕ) → reached top planes there (suc k) ≤ reached top planes there k
  reached_falls = usables.reached_falls top planes there

-- What is lost shows: a part (n, k) that is not there makes the plane reached by level k greater than n, and that of every finer level too. (Only
-- a level's first gap is told: of what is missing under it nothing can be said.)
pub loss_shows : (top planes : ℕ) (there : List PartName) (n k : ℕ) → Named top planes (at n k) → present there (at n k) ≡ false
    → (j : ℕ) → j ≤ k → n < reached top planes there j
loss_shows = usables.loss_shows

-- What is told is complete: of whatever bytes are read, the skipped parts of a level and the used ones, one for each plane from the reached one on,
-- are all of its parts that are there.
pub used_and_skipped : (h : Header) (s : List ℕ) (k : ℕ) → 1 ≤ k → k ≤ top_level h
    → skipped_parts h (map name_of (read_parts h s).parts) k + (h.planes - reached (top_level h) h.planes (map name_of (read_parts h s).parts) k)
    ≡ count (λ x. eqb x.level k) (map name_of (read_parts h s).parts)
used_and_skipped = skips.used_and_skipped

-- Whatever bytes decoding accepts, every magnitude is below 2^planes, planes being what the header says, and no more than 131,071; so whatever is
-- given and whatever is answered, no greater one is left in the output.
module _ (s : List ℕ) (room work : ℕ) (x : Picture) (e : decoding s room work ≡ accepted x) where
  pub decoded_under : (h : Header) → read_header s ≡ Ok h → (q : ℕ) → magnitude x.pyramid q < 2 ^ h.planes
  decoded_under = magnitudes.decoded_under s room work x e

  pub decoded_most : (q : ℕ) → magnitude x.pyramid q ≤ most_decoded
  decoded_most = magnitudes.decoded_most s room work x e

pub decoding_most : {s : List ℕ} {out : List ℤ} {work : List ℕ} {answer : Decoded} {out' : List ℤ} {work' : List ℕ}
    → Decoding s out work answer out' work' → (q : ℕ) → magnitude out' q ≤ most_decoded
decoding_most = magnitudes.decoding_most

pub afs_decode_most : {s : List ℕ} {out : List ℤ} {work answer : List ℕ} {number : ℕ} {out' : List ℤ} {work' answer' : List ℕ}
    → AfsDecode s out work answer number out' work' answer' → (q : ℕ) → magnitude out' q ≤ most_decoded
afs_decode_most = magnitudes.afs_decode_most
