-- Demand 2, for Promises/Two: the coder's record has every part, what is served of it, and that with every part there every level reaches plane 0
-- and none is skipped, so that a whole record decodes to the pyramid.
use Rattle.std.specs.Prelude.{◌≡◌, refl, List, [], Bool, true, ℕ, suc, ◌-◌, ◌≤◌, ◌<◌, length, get_or, replicate, ℤ, pos}
use Rattle.std.proofs.Common.{ap, ◌∙◌, subst, arith, ext_get_or, leb-true}
use Rattle.std.proofs.Math.Path.{sym}
use Rattle.std.proofs.Math.Decide.{dec_lt, dec_le}
use Rattle.std.proofs.lemmas.List.{length-replicate, get_or-replicate}
use Rattle.rules.specs.declared.Size.{Size}
use Rattle.rules.specs.declared.Plane.{Plane}
use Rattle.rules.specs.declared.Refusal.TheVariants as refusal
use Rattle.rules.specs.Document.Notation.{zeros}
use Rattle.rules.specs.Document.Pyramid.{area, levels, level_of, family, magnitude, negative}
use Rattle.rules.specs.Document.Passes.{PartName, part_names, start}
use Rattle.rules.specs.Document.Layout.{parts_with, record_with, earlier_planes_in, record_of, usable, reached}
use Rattle.rules.specs.Document.Calls.{accepted, unless, legal_ask, portioned, serving, level_places, plane_in, count_in, decoding}
use Rattle.rules.proofs.Laws.Counting.Sums.{all_of}
use Rattle.rules.proofs.Laws.Reading.Parts.{names_named, all_present}
use Rattle.rules.specs.Promises.Vocabulary.{at, Named, present, header_of, record_bytes, Codable, Stated, PlaneCount, names, kept, asked, whole_in, tail_in}
use Rattle.rules.specs.Promises.Vocabulary.{arrived, Rounded, ReadsAs}
use Rattle.rules.proofs.Laws.Reading.Usable.{every_usable, usable_reached, reached_within}
use Rattle.rules.proofs.Laws.Reading.Skipped.{skipped_none}
use Rattle.rules.proofs.Laws.Bytes.RecordBack.{coded_names}
use Rattle.rules.proofs.Laws.Rounding.TowardZero.{toward_all, signed_itself}
use Rattle.rules.proofs.Laws.Rounding.Arrival.{record_reads, arrived_reads, selection_all}
use Rattle.rules.proofs.Laws.Rounding.Run.{coder_legal, kept_legal}
use Rattle.rules.proofs.Laws.Serving.Parts.{serves_read}
use Rattle.rules.proofs.Laws.Calls.Arrived.{rounded_under, this_count, earlier_count, demand3_selection}

-- The record has a part for every plane and every level, planes downward and levels downward in a plane.
pub demand2_names : (z : Size) (planes : ℕ) (pyramid : List ℤ) → names (parts_with z planes pyramid) ≡ part_names (levels z) planes
demand2_names z planes pyramid = coded_names (family z) (magnitude pyramid) (negative pyramid) (part_names (levels z) planes) (start z)

pub demand2_every : (z : Size) (planes : ℕ) (pyramid : List ℤ) (p : PartName) → Named (levels z) planes p
    → present (names (parts_with z planes pyramid)) p ≡ true
demand2_every z planes pyramid p n = rw (demand2_names z planes pyramid) (all_present (levels z) planes p n)

-- Where every part is there, all are usable: every level reached plane 0, and none is skipped.
all_usable : (top planes : ℕ) (p : PartName) → usable top planes (part_names top planes) p ≡ true
all_usable top planes p = every_usable top planes (part_names top planes) p (λ q n a b. all_present top planes q n)

all_reached : (top planes k : ℕ) → reached top planes (part_names top planes) k ≡ 0
all_reached top planes k = by (dec_lt 0 planes)
  where
    by : Dec (0 < planes) → reached top planes (part_names top planes) k ≡ 0
    by (no l) = omega (arith, reached_within top planes (part_names top planes) k)
    by (yes l) =
        omega (
          arith,
          leb-true (reached top planes (part_names top planes) k) 0
              (sym (usable_reached top planes (part_names top planes) 0 k l) ∙ all_usable top planes (at 0 k)),
        )

module _ {z : Size} {pyramid : List ℤ} (c : Codable z pyramid) {planes : ℕ} (count : PlaneCount pyramid planes) where
  -- It reads as its header and these parts, and has no tail.
  pub demand2_record : ReadsAs z planes (parts_with z planes pyramid) 0 (record_with z planes pyramid)
  demand2_record =
      record_reads z planes (parts_with z planes pyramid) c.legal_size_lem count.few
      (coder_legal z c.legal_size_lem planes pyramid)

  -- Serving it: the header and the parts that are asked for, in full.
  pub demand2_serving : (r p room : ℕ)
      → serving (record_with z planes pyramid) r p room
      ≡ unless (legal_ask (header_of z planes) r p) refusal.Ask
      (portioned (record_bytes z planes (kept (asked r p) (parts_with z planes pyramid))) 0 room)
  demand2_serving r p room = serves_read demand2_record c.legal_size_lem count.few r p room

  -- The same of any selection of its parts, cut anywhere: the tail is not served.
  pub demand2_serving_on : (keep : PartName → Bool) (n r p room : ℕ)
      → serving (arrived z planes (kept keep (parts_with z planes pyramid)) n) r p room
      ≡ unless (legal_ask (header_of z planes) r p) refusal.Ask
      (portioned (record_bytes z planes (kept (asked r p) (whole_in n (kept keep (parts_with z planes pyramid)))))
      (tail_in n (kept keep (parts_with z planes pyramid))) room)
  demand2_serving_on keep n r p room =
      serves_read
      (arrived_reads z planes (kept keep (parts_with z planes pyramid)) c.legal_size_lem count.few
      (kept_legal z c.legal_size_lem planes pyramid keep) n)
      c.legal_size_lem count.few r p room

  -- A whole record decodes to the pyramid, every level to plane 0, and no part is skipped.
  module _ (room work : ℕ) (sizes : Stated z room work) where
    whole : Rounded z planes pyramid (part_names (levels z) planes) [] 0 (decoding (record_with z planes pyramid) room work)
    whole =
        let every_part : kept (λ p. true) (parts_with z planes pyramid) ≡ parts_with z planes pyramid
        = selection_all (λ p. true) (parts_with z planes pyramid) (all_of _ (parts_with z planes pyramid) (λ p. refl)) in
        subst (λ x. Rounded z planes pyramid x [] 0 (decoding (record_with z planes pyramid) room work)) (demand2_names z planes pyramid)
        (subst (λ x. Rounded z planes pyramid (names x) [] 0 (decoding (record_bytes z planes x) room work)) every_part
        (demand3_selection c count room work sizes (λ p. true)))

    reached0 : (i : ℕ) → plane_in whole.picture.reached i ≡ 0
    reached0 i =
        let e : suc i - 1 ≡ i = omega arith in
        ap (plane_in whole.picture.reached) (sym e) ∙ by (dec_le (suc i) (levels z))
      where
        by : Dec (suc i ≤ levels z) → plane_in whole.picture.reached (suc i - 1) ≡ 0
        by (yes l) = whole.reports (suc i) (omega arith) l ∙ all_reached (levels z) planes (suc i)
        by (no l) = whole.beyond (suc i) (omega arith)

    skipped0 : (i : ℕ) → count_in whole.picture.skipped i ≡ 0
    skipped0 i =
        let e : suc i - 1 ≡ i = omega arith in
        ap (count_in whole.picture.skipped) (sym e) ∙ by (dec_le (suc i) (levels z))
      where
        by : Dec (suc i ≤ levels z) → count_in whole.picture.skipped (suc i - 1) ≡ 0
        by (yes l) =
            whole.skips (suc i) (omega arith) l
            ∙ skipped_none (header_of z planes) (part_names (levels z) planes) (names_named (levels z) planes) (λ p n. all_usable (levels z) planes p) (suc i)
        by (no l) = whole.skips_beyond (suc i) (omega arith)

    same_value : (q : ℕ) → q < length whole.picture.pyramid → get_or whole.picture.pyramid q (pos 0) ≡ get_or pyramid q (pos 0)
    unfolding magnitude negative
    same_value q l =
        let in-picture : q < area z = omega (arith, whole.sized) in
        let none : whole.plane q ≡ 0 = omega (arith, rounded_under (whole.rounds q in-picture), all_reached (levels z) planes (level_of z q)) in
        whole.values q in-picture ∙ rw (none, toward_all (magnitude pyramid q)) (signed_itself (get_or pyramid q (pos 0)))

    same_plane : (i : ℕ) → i < length whole.picture.reached
        → get_or whole.picture.reached i (record { 0 = 0 }) ≡ get_or (replicate level_places (record { 0 = 0 })) i (record { 0 = 0 })
    unfolding plane_in
    same_plane i l =
        (λ j. record { 0 = reached0 i j })
        ∙ sym (get_or-replicate level_places i (record { 0 = 0 }) (record { 0 = 0 }) (omega (arith, whole.six)))

    same_count : (i : ℕ) → i < length whole.picture.skipped → get_or whole.picture.skipped i 0 ≡ get_or (zeros level_places) i 0
    unfolding count_in
    same_count i l = skipped0 i ∙ sym (get_or-replicate level_places i 0 0 (omega (arith, whole.six_counts)))

    pub demand2_whole : decoding (record_with z planes pyramid) room work
        ≡ accepted (record { pyramid = pyramid; tail = 0; reached = replicate level_places (record { 0 = 0 }); skipped = zeros level_places })
    demand2_whole =
        let a : whole.picture.pyramid ≡ pyramid
        = ext_get_or (pos 0) whole.picture.pyramid pyramid (whole.sized ∙ sym c.sized) same_value in
        let none : Plane = record { 0 = 0 } in
        let b : whole.picture.reached ≡ replicate level_places (record { 0 = 0 })
        = ext_get_or (record { 0 = 0 }) whole.picture.reached _ (whole.six ∙ sym (length-replicate level_places none)) same_plane in
        let d : whole.picture.skipped ≡ zeros level_places
        = ext_get_or 0 whole.picture.skipped _ (whole.six_counts ∙ sym (length-replicate {A = ℕ} level_places 0)) same_count in
        whole.accepts ∙ ap accepted (λ i. record { pyramid = a i; tail = whole.tail i; reached = b i; skipped = d i })

-- "Records written earlier are still accepted .. and decode to the same pyramid" (W5).
module _ {z : Size} {pyramid : List ℤ} (c : Codable z pyramid) (room work : ℕ) (sizes : Stated z room work) where
  pub earlier_whole : decoding (record_with z (earlier_planes_in pyramid) pyramid) room work
      ≡ accepted (record { pyramid = pyramid; tail = 0; reached = replicate level_places (record { 0 = 0 }); skipped = zeros level_places })
  earlier_whole = demand2_whole c (earlier_count c) room work sizes

  pub earlier_same : decoding (record_with z (earlier_planes_in pyramid) pyramid) room work ≡ decoding (record_of z pyramid) room work
  unfolding record_of
  earlier_same = earlier_whole ∙ sym (demand2_whole c (this_count c) room work sizes)
