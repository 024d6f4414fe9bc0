-- Demand 3, for Promises/Three: what coding accepts, that either count of planes is enough, and that whatever arrives of such a record decodes
-- to the recorded pyramid, rounded.
use Rattle.std.specs.Prelude.{◌≡◌, List, [], Bool, ◌&&◌, ℕ, ◌-◌, ◌≤◌, ◌<◌, leb, eqb, length, get_or, ℤ, pos}
use Rattle.std.proofs.Common.{ap, sym, ◌∙◌, subst, arith, eqb-true}
use Rattle.std.proofs.Math.IntN.{nat_abs}
use Rattle.rules.specs.declared.Size.{Size}
use Rattle.rules.specs.declared.Refusal.TheVariants as refusal
use Rattle.rules.specs.Document.Notation.{greatest}
use Rattle.rules.specs.Document.Pyramid.{legal_size, area, level_of, most_magnitude, magnitude, negative}
use Rattle.rules.specs.Document.Passes.{PartName}
use Rattle.rules.specs.Document.Layout.{CodedPart, parts_with, planes_in, earlier_planes_in, parts_of, record_of}
use Rattle.rules.specs.Document.Calls.{Result, accepted, work_for, first_over, fitted, coding, Portion, serving, Picture, plane_in, decoding}
use Rattle.rules.proofs.Laws.Counting.Booleans.{selection_both}
use Rattle.rules.proofs.Laws.Family.Sizes.{legal}
use Rattle.rules.proofs.Laws.Offspring.Level.{level_most, level_least}
use Rattle.rules.specs.Promises.Refusals.{InRange, CODED}
use Rattle.rules.proofs.Laws.Calls.Cases.{coding_is}
use Rattle.rules.proofs.Laws.Rounding.Planes.{planes_of_above, planes_of_most, earlier_planes_of_above, earlier_planes_of_most, magnitude_most, under_first}
use Rattle.rules.proofs.Laws.Rounding.Planes.{range_greatest}
use Rattle.rules.proofs.Laws.Calls.Results.{unless_accepted, accepted_same}
use Rattle.rules.specs.Promises.Vocabulary.{header_of, record_bytes, Codable, Stated, PlaneCount, names, kept, asked, whole_in, tail_in, cut_in}
use Rattle.rules.specs.Promises.Vocabulary.{arrived, RoundedAt, at_reached, at_cut, Rounded, Near, NoWorse, ReadsAs}
use Rattle.rules.specs.Laws.Bytes.RecordBack.{before_all}
use Rattle.rules.proofs.Laws.Rounding.TowardZero.{rounded_near, near_above}
use Rattle.rules.proofs.Laws.Rounding.Arrival.{record_reads, arrived_reads, arrived_selection, legal_order}
use Rattle.rules.proofs.Laws.Rounding.Run.{rounded_read, coder_legal, kept_legal}
use Rattle.rules.proofs.Laws.Rounding.CutRun.{rounded_arrived}
use Rattle.rules.proofs.Laws.Rounding.MoreBytes.{arrived_no_worse}
use Rattle.rules.proofs.Laws.Serving.Parts.{served_read}

-- What coding accepts, and what it then writes.
pub coding_codable : (pyramid : List ℤ) (z : Size) (room work : ℕ) (bytes : List ℕ) → coding pyramid z room work ≡ accepted bytes
    → Codable z pyramid × (bytes ≡ record_of z pyramid)
unfolding coding fitted
coding_codable pyramid z room work bytes e =
    let a = unless_accepted (legal_size z) refusal.Size _ bytes e in
    let b = unless_accepted (eqb (length pyramid) (area z)) refusal.Length _ bytes a.1 in
    let c = unless_accepted (leb (work_for z) work) refusal.Work _ bytes b.1 in
    let d = unless_accepted (eqb (first_over most_magnitude pyramid) (length pyramid)) (refusal.Range (first_over most_magnitude pyramid)) _ bytes c.1 in
    let f = unless_accepted (leb (length (record_of z pyramid)) room) refusal.Room _ bytes d.1 in (
      record { legal_size_lem = a.0; sized = eqb-true _ _ b.0; in_range = eqb-true _ _ d.0 },
      sym (accepted_same f.1),
    )

pub codable_coded : {z : Size} {pyramid : List ℤ} → Codable z pyramid → (room work : ℕ) → length (record_of z pyramid) ≤ room → work_for z ≤ work
    → coding pyramid z room work ≡ accepted (record_of z pyramid)
codable_coded {z} {pyramid} c room work enough space =
    coding_is pyramid z room work (accepted (record_of z pyramid))
    (CODED (legal z c.legal_size_lem) c.sized space
    (subst (InRange most_magnitude pyramid) c.in_range (under_first most_magnitude pyramid)) enough)

-- No coefficient is rounded at a higher plane than its level reached.
pub rounded_under : {part : List PartName} {k m n : ℕ} → RoundedAt part k m n → n ≤ m
rounded_under at_reached = omega arith
rounded_under (at_cut e i) = omega arith

module _ {z : Size} {pyramid : List ℤ} (c : Codable z pyramid) where
  -- The coder's count, and the earlier one.
  pub this_count : PlaneCount pyramid (planes_in pyramid)
  unfolding planes_in
  this_count =
      let most : greatest nat_abs pyramid ≤ most_magnitude = range_greatest most_magnitude pyramid c.in_range in
      record {
        enough = λ q. omega (arith, magnitude_most pyramid q, planes_of_above (greatest nat_abs pyramid) most);
        few = omega (arith, planes_of_most (greatest nat_abs pyramid) most);
      }

  pub earlier_count : PlaneCount pyramid (earlier_planes_in pyramid)
  unfolding earlier_planes_in
  earlier_count =
      let most : greatest nat_abs pyramid ≤ most_magnitude = range_greatest most_magnitude pyramid c.in_range in
      record {
        enough = λ q. omega (arith, magnitude_most pyramid q, earlier_planes_of_above (greatest nat_abs pyramid) most);
        few = earlier_planes_of_most (greatest nat_abs pyramid) most;
      }

  -- Of the record of any such number of planes.
  module _ {planes : ℕ} (count : PlaneCount pyramid planes) (room work : ℕ) (sizes : Stated z room work) where
    -- Any selection of the record's parts, cut anywhere behind the header.
    pub demand3 : (keep : PartName → Bool) (n : ℕ)
        → Rounded z planes pyramid (names (whole_in n (kept keep (parts_with z planes pyramid)))) (names (cut_in n (kept keep (parts_with z planes pyramid))))
        (tail_in n (kept keep (parts_with z planes pyramid)))
        (decoding (arrived z planes (kept keep (parts_with z planes pyramid)) n) room work)
    demand3 keep n = rounded_arrived z c.legal_size_lem planes count.few pyramid count.enough keep n room work sizes

    -- With more bytes of the same record no magnitude falls and no sign turns. (Both decodings are accepted: demand3.)
    pub more_bytes : (keep : PartName → Bool) (n₁ n₂ : ℕ) → n₁ ≤ n₂ → (x₁ x₂ : Picture)
        → decoding (arrived z planes (kept keep (parts_with z planes pyramid)) n₁) room work ≡ accepted x₁
        → decoding (arrived z planes (kept keep (parts_with z planes pyramid)) n₂) room work ≡ accepted x₂ → NoWorse x₁.pyramid x₂.pyramid
    more_bytes keep = arrived_no_worse z c.legal_size_lem planes count.few pyramid count.enough keep room work sizes

    -- Not cut.
    pub demand3_selection : (keep : PartName → Bool)
        → Rounded z planes pyramid (names (kept keep (parts_with z planes pyramid))) [] 0
        (decoding (record_bytes z planes (kept keep (parts_with z planes pyramid))) room work)
    demand3_selection keep =
        rounded_read z c.legal_size_lem planes count.few pyramid count.enough keep
        (record_reads z planes _ c.legal_size_lem count.few
        (kept_legal z c.legal_size_lem planes pyramid keep))
        room work sizes

    -- Served for level r and plane p, from what arrived.
    pub demand3_served_on : (keep : PartName → Bool) (n r p out : ℕ) (x : Portion)
        → serving (arrived z planes (kept keep (parts_with z planes pyramid)) n) r p out ≡ accepted x
        → Rounded z planes pyramid (names (kept (asked r p) (whole_in n (kept keep (parts_with z planes pyramid))))) [] 0
        (decoding x.bytes room work)
    demand3_served_on keep n r p out x e =
        let ps : List CodedPart = kept keep (parts_with z planes pyramid) in
        let ok = kept_legal z c.legal_size_lem planes pyramid keep in
        let some : (left : PartName → Bool) × (kept left (parts_with z planes pyramid) ≡ whole_in n ps)
        = arrived_selection keep n (before_all planes) (parts_with z planes pyramid) (legal_order (header_of z planes) (before_all planes) ps ok) in
        let both : kept (λ q. some.0 q && asked r p q) (parts_with z planes pyramid) ≡ kept (asked r p) (whole_in n ps)
        = selection_both (λ q. some.0 q.name) (λ q. asked r p q.name) (parts_with z planes pyramid) ∙ ap (kept (asked r p)) some.1 in
        let bytes : record_bytes z planes (kept (asked r p) (whole_in n ps)) ≡ x.bytes
        = ap (λ y. y.bytes) (served_read (arrived_reads z planes ps c.legal_size_lem count.few ok n) c.legal_size_lem count.few r p out x e) in
        subst (λ y. Rounded z planes pyramid (names (kept (asked r p) (whole_in n ps))) [] 0 (decoding y room work)) bytes
        (subst (λ y. Rounded z planes pyramid (names y) [] 0 (decoding (record_bytes z planes y) room work)) both
        (demand3_selection (λ q. some.0 q && asked r p q)))

  -- In an assessor's words: what is printed is less than 2^m away from what was recorded, m being the plane reported for its level, of no greater
  -- magnitude, and of the same sign unless it is 0.
  pub printed_near : {planes : ℕ} {there part : List PartName} {cut : ℕ} {result : Result Picture} (r : Rounded z planes pyramid there part cut result)
      → (q : ℕ) → q < area z
      → Near (plane_in r.picture.reached (level_of z q - 1)) (get_or r.picture.pyramid q (pos 0)) (get_or pyramid q (pos 0))
  unfolding magnitude negative
  printed_near r q l =
      let m = r.reports (level_of z q) (level_least z (legal z c.legal_size_lem) q l) (level_most z q) in
      rw (m, r.values q l) (near_above (rounded_under (r.rounds q l)) (rounded_near (r.plane q) (get_or pyramid q (pos 0))))

-- Coded, served for level r and plane p, and decoded: the parts with level ≥ r and plane ≥ p are there.
pub demand3_served : (pyramid : List ℤ) (z : Size) (out code-work r p served room work : ℕ) (bytes : List ℕ) (x : Portion)
    → coding pyramid z out code-work ≡ accepted bytes → serving bytes r p served ≡ accepted x → Stated z room work
    → Rounded z (planes_in pyramid) pyramid (names (kept (asked r p) (parts_of z pyramid))) [] 0 (decoding x.bytes room work)
unfolding record_of parts_of
demand3_served pyramid z out code-work r p served room work bytes x coded e sizes =
    let w = coding_codable pyramid z out code-work bytes coded in
    let c : Codable z pyramid = w.0 in
    let read : ReadsAs z (planes_in pyramid) (parts_of z pyramid) 0 (record_of z pyramid)
    = record_reads z (planes_in pyramid) (parts_of z pyramid) c.legal_size_lem (this_count c).few
    (coder_legal z c.legal_size_lem (planes_in pyramid) pyramid) in
    let same : record_bytes z (planes_in pyramid) (kept (asked r p) (parts_of z pyramid)) ≡ x.bytes
    = ap (λ y. y.bytes) (served_read read c.legal_size_lem (this_count c).few r p served x (ap (λ y. serving y r p served) (sym w.1) ∙ e)) in
    subst (λ y. Rounded z (planes_in pyramid) pyramid (names (kept (asked r p) (parts_of z pyramid))) [] 0 (decoding y room work)) same
    (demand3_selection c (this_count c) room work sizes (asked r p))
