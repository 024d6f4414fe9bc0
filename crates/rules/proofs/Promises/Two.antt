-- Demand 2. The coder's record has every part, those of 0 bits too; serving writes the header and exactly the parts with level ≥ r and plane
-- ≥ p, unaltered; a whole record decodes to the pyramid.
use Rattle.std.specs.Prelude.{◌≡◌, List, true, Bool, ℕ, ◌-◌, ◌≤◌, replicate, length, take, ℤ, Ok}
use Rattle.rules.specs.declared.Size.{Size}
use Rattle.rules.specs.declared.Refusal.TheVariants as refusal
use Rattle.rules.specs.declared.Header.{Header}
use Rattle.rules.specs.Document.Notation.{zeros}
use Rattle.rules.specs.Document.Pyramid.{levels}
use Rattle.rules.specs.Document.Passes.{part_names, PartName}
use Rattle.rules.specs.Document.Layout.{parts_with, record_with, earlier_planes_in, record_of}
use Rattle.rules.specs.Document.Numbers.{tail, read_header, read_parts, Accepted}
use Rattle.rules.specs.Document.Calls.{serving, unless, legal_ask, portioned, decoding, accepted, level_places, Portion, Serving, AfsServe, Served}
use Rattle.rules.specs.Promises.Vocabulary.{names, Named, present, Codable, PlaneCount, ReadsAs, header_of, record_bytes, kept, asked, arrived, whole_in}
use Rattle.rules.specs.Promises.Vocabulary.{tail_in, Stated, IsServed, placed_from, selection, wanted, Again, AgainLent, AgainTold}
use Rattle.rules.proofs.Laws.Calls.Whole as laws
use Rattle.rules.proofs.Laws.Serving.Served as served
use Rattle.rules.proofs.Laws.Serving.Again as again

-- The record has a part for every plane and every level, planes downward and levels downward in a plane.
pub demand2_names : (z : Size) (planes : ℕ) (pyramid : List ℤ) → names (parts_with z planes pyramid) ≡ part_names (levels z) planes
demand2_names = laws.demand2_names

pub demand2_every : (z : Size) (planes : ℕ) (pyramid : List ℤ) (p : PartName) → Named (levels z) planes p
    → present (names (parts_with z planes pyramid)) p ≡ true
demand2_every = laws.demand2_every

module _ {z : Size} {pyramid : List ℤ} (c : Codable z pyramid) {planes : ℕ} (count : PlaneCount pyramid planes) where
  -- It reads as its header and these parts, and has no tail.
  pub demand2_record : ReadsAs z planes (parts_with z planes pyramid) 0 (record_with z planes pyramid)
  demand2_record = laws.demand2_record c count

  -- Serving it: the header and the parts that are asked for, in full.
  pub demand2_serving : (r p room : ℕ)
      → serving (record_with z planes pyramid) r p room
      ≡ unless (legal_ask (header_of z planes) r p) refusal.Ask
      (portioned (record_bytes z planes (kept (asked r p) (parts_with z planes pyramid))) 0 room)
  demand2_serving = laws.demand2_serving c count

  -- The same of any selection of its parts, cut anywhere: the tail is not served.
  pub demand2_serving_on : (keep : PartName → Bool) (n r p room : ℕ)
      → serving (arrived z planes (kept keep (parts_with z planes pyramid)) n) r p room
      ≡ unless (legal_ask (header_of z planes) r p) refusal.Ask
      (portioned (record_bytes z planes (kept (asked r p) (whole_in n (kept keep (parts_with z planes pyramid)))))
      (tail_in n (kept keep (parts_with z planes pyramid))) room)
  demand2_serving_on = laws.demand2_serving_on c count

  -- A whole record decodes to the pyramid, every level to plane 0, and no part is skipped.
  module _ (room work : ℕ) (sizes : Stated z room work) where
    pub demand2_whole : decoding (record_with z planes pyramid) room work
        ≡ accepted (record { pyramid = pyramid; tail = 0; reached = replicate level_places (record { 0 = 0 }); skipped = zeros level_places })
    demand2_whole = laws.demand2_whole c count room work sizes

-- "Records written earlier are still accepted .. and decode to the same pyramid" (W5).
module _ {z : Size} {pyramid : List ℤ} (c : Codable z pyramid) (room work : ℕ) (sizes : Stated z room work) where
  pub earlier_whole : decoding (record_with z (earlier_planes_in pyramid) pyramid) room work
      ≡ accepted (record { pyramid = pyramid; tail = 0; reached = replicate level_places (record { 0 = 0 }); skipped = zeros level_places })
  earlier_whole = laws.earlier_whole c room work sizes

  pub earlier_same : decoding (record_with z (earlier_planes_in pyramid) pyramid) room work ≡ decoding (record_of z pyramid) room work
  earlier_same = laws.earlier_same c room work sizes

-- Any record that serving accepts, whoever wrote it: what was served has its header and just the parts that are wanted, as they were, no tail.
pub serving_served : (s : List ℕ) (r p room : ℕ) (x : Portion) → serving s r p room ≡ accepted x → IsServed s r p x
serving_served = served.serving_served

module _ (s : List ℕ) (r p : ℕ) (x : Portion) (v : IsServed s r p x) where
  pub served_header : read_header x.bytes ≡ Ok v.head
  served_header = served.served_header s r p x v

  pub served_parts : read_parts v.head x.bytes
      ≡ record { parts = placed_from v.head.end (selection (wanted r p) (read_parts v.head s).parts); ending = tail 0 }
  served_parts = served.served_parts s r p x v

-- What was served is accepted by serving. A record served whole is itself less its tail, in whatever room there is; without a tail it is itself.
pub served_is_record : (s : List ℕ) (r p room : ℕ) (x : Portion) → serving s r p room ≡ accepted x
    → serving x.bytes 1 0 (length x.bytes) ≡ accepted (record { bytes = x.bytes; tail = 0 })
served_is_record = served.served_is_record

pub serving_all : (s : List ℕ) (h : Header) (k room : ℕ) → read_header s ≡ Ok h → (read_parts h s).ending ≡ tail k
    → serving s 1 0 room ≡ portioned (take (length s - k) s) k room
serving_all = served.serving_all

pub served_whole : (s : List ℕ) (h : Header) (room : ℕ) → read_header s ≡ Ok h → (read_parts h s).ending ≡ tail 0 → length s ≤ room
    → serving s 1 0 room ≡ accepted (record { bytes = s; tail = 0 })
served_whole = served.served_whole

-- "Serving for (r1, p1) and the result for (r2, p2) gives the same bytes as serving once for the larger level and the larger plane, for every
-- record that serving accepts, every legal request, and outputs with room" (W7).
pub served_again : (s : List ℕ) (r1 p1 room1 : ℕ) (x : Portion) → serving s r1 p1 room1 ≡ accepted x → (r2 p2 : ℕ) → Again s r1 p1 x r2 p2
served_again = again.served_again

pub serving_again_lent : {s : List ℕ} {h : Header} {r1 p1 r2 p2 : ℕ} {out : List ℕ} {answer : Served} {out' : List ℕ}
    → Serving s r1 p1 out answer out' → answer.verdict ≡ Accepted → read_header s ≡ Ok h → legal_ask h r2 p2 ≡ true
    → AgainLent s r1 p1 answer out' r2 p2
serving_again_lent = again.serving_again_lent

pub serving_again_told : {s : List ℕ} {h : Header} {r1 p1 r2 p2 : ℕ} {out answer out' answer' : List ℕ}
    → AfsServe s r1 p1 out answer 0 out' answer' → read_header s ≡ Ok h → legal_ask h r2 p2 ≡ true
    → AgainTold s r1 p1 out' answer' r2 p2
serving_again_told = again.serving_again_told
