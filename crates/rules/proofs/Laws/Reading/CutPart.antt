-- A part that was read with its body incomplete: where it stands, how many of its bits are there, and when it is usable.
use Rattle.std.specs.Prelude.{◌≡◌, ℕ, ◌-◌, ◌*◌, ◌<◌, min, length, drop, Ok}
use Rattle.std.proofs.Common.{subst, arith, length-take, length-drop}
use mathlib.Core.List.{List, [], ◌∷◌, ◌++◌, map}
use Rattle.rules.specs.declared.Header.{Header}
use Rattle.rules.specs.declared.Part.{Part}
use Rattle.rules.specs.declared.Piece.TheVariants as part
use Rattle.rules.specs.Document.Passes.{PartName}
use Rattle.rules.specs.Document.Layout.{bytes_for, body_of, bits_there, name_of, usable, reached}
use Rattle.rules.specs.Document.Numbers.{read_part, behind_from, top_level}
use Rattle.rules.specs.Promises.Vocabulary.{Named}
use Rattle.rules.specs.Promises.Refusals.{Numbers, none, next, PartCase, CUT}
use Rattle.rules.specs.Laws.Reading.Parts.{InOrder}
use Rattle.rules.proofs.Laws.Reading.PartCases.{part_case}
use Rattle.rules.specs.Laws.Reading.Stands.{PartStands}
use Rattle.rules.proofs.Laws.Reading.Stands.{read_number_stands, read_part_stands}
use Rattle.rules.specs.Laws.Reading.OneWalk.{usable_now}
use Rattle.rules.proofs.Laws.Reading.OneWalk.{one_walk}
use Rattle.rules.specs.Laws.Reading.WholeParts.{WholeParts}
use Rattle.rules.specs.Laws.Reading.CutPart.{CutStands}

pub read_part_cut : (h : Header) (s : List ℕ) (before : PartName) (place : ℕ) (p : Part) → read_part h s before place ≡ Ok (part.Cut p)
    → CutStands h s before place p
read_part_cut h s before place p e = cases (subst (PartCase h s before place) e (part_case h s before place))
  where
    cases : {p : Part} → PartCase h s before place (Ok (part.Cut p)) → CutStands h s before place p
    cases {p} (CUT r l w) = numbers r.numbers
      where
        numbers : Numbers s place (p.plane.0 ∷ p.level.0 ∷ p.bits ∷ []) p.body → CutStands h s before place p
        numbers (next r0 (next r1 (next r2 none))) =
            record {
              placed = r.placed;
              legal = l;
              after = omega (arith, (read_number_stands s _ _ _ r0).after, (read_number_stands s _ _ _ r1).after, (read_number_stands s _ _ _ r2).after);
              within = (read_number_stands s _ _ _ r2).within;
              end = r.ends;
              short = w;
            }

-- Of a whole part all bits are there; of one that is cut eight for each byte that is there, which are fewer than it has.
there_length : (s : List ℕ) (p : Part) → bits_there s p ≡ min p.bits (8 * min (bytes_for p.bits) (length s - p.body))
unfolding bits_there body_of
there_length s p =
    let long : length (drop p.body s) ≡ length s - p.body = length-drop p.body s in
    rw (length-take (bytes_for p.bits) (drop p.body s), long)

pub whole_there_lem : {h : Header} {s : List ℕ} {before : PartName} {place : ℕ} {p : Part} → PartStands h s before place p → bits_there s p ≡ p.bits
whole_there_lem {s = s} {p = p} t = omega (arith, there_length s p, t.end, t.within)

pub cut_there : {h : Header} {s : List ℕ} {before : PartName} {place : ℕ} {p : Part} → CutStands h s before place p
    → (bits_there s p ≡ 8 * (length s - p.body)) × (bits_there s p < p.bits)
cut_there {s = s} {p = p} t = (
  omega (arith, there_length s p, t.end, t.short, t.within),
  omega (arith, there_length s p, t.end, t.short, t.within),
)

-- What came by before it decides whether it is usable.
module _ (h : Header) (s : List ℕ) where
  cut_in_order : (before : PartName) (place : ℕ) (ps : List Part) (p : Part) → WholeParts h s before place ps
      → behind_from h s before place ps ≡ Ok (part.Cut p)
      → InOrder before (map name_of ps ++ (name_of p ∷ [])) × Named (top_level h) h.planes (name_of p)
  unfolding WholeParts behind_from InOrder
  cut_in_order before place [] p w e =
      let t : CutStands h s before place p = read_part_cut h s before place p e in
      ((t.legal.in_order, tt), t.legal.named)
  cut_in_order before place (q ∷ ps) p w e =
      let r = cut_in_order (name_of q) q.end ps p w.1 e in
      (((read_part_stands h s before place q w.0).legal.in_order, r.0), r.1)

  pub usable_cut : (before : PartName) (place : ℕ) (ps : List Part) (p : Part) → WholeParts h s before place ps
      → behind_from h s before place ps ≡ Ok (part.Cut p)
      → usable (top_level h) h.planes (map name_of ps ++ (name_of p ∷ [])) (name_of p)
      ≡ usable_now (λ k. reached (top_level h) h.planes (map name_of ps) k) (name_of p)
  usable_cut before place ps p w e =
      let r = cut_in_order before place ps p w e in
      one_walk (top_level h) h.planes before (map name_of ps) (name_of p) [] r.0 r.1
