-- What is known of a number, a header and a part that were read: their values are legal, and they stand whole within the bytes.
use Rattle.std.specs.Prelude.{◌≡◌, List, [], ◌∷◌, true, ℕ, ◌-◌, ◌≤◌, ◌<◌, length, Ok}
use Rattle.std.proofs.Common.{subst, arith, leb-true}
use Rattle.rules.specs.declared.Header.{Header}
use Rattle.rules.specs.declared.Part.{Part}
use Rattle.rules.specs.declared.Piece.TheVariants as part
use Rattle.rules.specs.Document.Pyramid.{legal_size, most_planes}
use Rattle.rules.specs.Document.Passes.{PartName}
use Rattle.rules.specs.Document.Layout.{read_number}
use Rattle.rules.specs.Document.Numbers.{read_header, read_part}
use Rattle.rules.proofs.Laws.Counting.Booleans.{both_left, both_right}
use Rattle.rules.specs.Promises.Refusals.{NumberCase, VALUE, Numbers, none, next, HeaderCase, LEGAL, PartCase, WHOLE}
use Rattle.rules.proofs.Laws.Reading.NumberCases.{number_case}
use Rattle.rules.proofs.Laws.Reading.PartCases.{passed, legal_judged, header_case, pad_set_lem, part_case}
use Rattle.rules.specs.Laws.Reading.Stands.{NumberStands, HeaderStands, PartStands}

pub read_number_stands : (s : List ℕ) (at v end : ℕ) → read_number s at ≡ Ok (v, end) → NumberStands s at v end
read_number_stands s at v end e = cases (subst (NumberCase s at) e (number_case s at))
  where
    cases : {v end : ℕ} → NumberCase s at (Ok (v, end)) → NumberStands s at v end
    cases (VALUE i l g t k n) = record { after = omega arith; within = omega arith }

pub read_header_stands : (s : List ℕ) (h : Header) → read_header s ≡ Ok h → HeaderStands s h
read_header_stands s h e = cases (subst (HeaderCase s) e (header_case s))
  where
    cases : {h : Header} → HeaderCase s (Ok h) → HeaderStands s h
    cases {h} (LEGAL (next {b = a} r0 (next {b = b} r1 (next {b = c} r2 (next {b = d} r3 (next r4 none))))) l) =
        record {
          width_at = a;
          height_at = b;
          depth_at = c;
          planes_at = d;
          version_read = r0;
          width_read = r1;
          height_read = r2;
          depth_read = r3;
          planes_read = r4;
          judged = legal_judged h.size h.planes l;
        }

-- The size is legal, the planes are not too many, and the header is whole.
pub header_legal : {s : List ℕ} {h : Header} → HeaderStands s h → legal_size h.size ≡ true
header_legal t = both_left _ _ t.judged

pub header_planes : {s : List ℕ} {h : Header} → HeaderStands s h → h.planes ≤ most_planes
header_planes {h = h} t = leb-true h.planes most_planes (both_right (legal_size h.size) _ t.judged)

pub header_within : {s : List ℕ} {h : Header} → HeaderStands s h → h.end ≤ length s
header_within {s} {h} t = (read_number_stands s t.planes_at h.planes h.end t.planes_read).within

pub read_part_stands : (h : Header) (s : List ℕ) (before : PartName) (place : ℕ) (p : Part) → read_part h s before place ≡ Ok (part.Part p)
    → PartStands h s before place p
read_part_stands h s before place p e = cases (subst (PartCase h s before place) e (part_case h s before place))
  where
    cases : {p : Part} → PartCase h s before place (Ok (part.Part p)) → PartStands h s before place p
    cases {p} (WHOLE r l w n) = numbers r.numbers
      where
        numbers : Numbers s place (p.plane.0 ∷ p.level.0 ∷ p.bits ∷ []) p.body → PartStands h s before place p
        numbers (next {b = a} r0 (next {b = b} r1 (next r2 none))) =
            record {
              level_at = a;
              bits_at = b;
              plane_read = r0;
              level_read = r1;
              bits_read = r2;
              placed = r.placed;
              legal = l;
              after = omega (arith, (read_number_stands s _ _ _ r0).after, (read_number_stands s _ _ _ r1).after, (read_number_stands s _ _ _ r2).after);
              end = r.ends;
              within = w;
              clear = passed _ (λ e. n (pad_set_lem s p e));
            }

-- Behind a part less is left to read.
pub part_further : {h : Header} {s : List ℕ} {before : PartName} {place : ℕ} {p : Part} → PartStands h s before place p
    → length s - p.end < length s - place
part_further t = omega (arith, t.after, t.end, t.within)
