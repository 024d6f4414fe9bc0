-- The parts that were read, whatever the bytes: each is whole, legal and after the one before it, and which are usable is known on the way.
use Rattle.std.specs.Prelude.{◌≡◌, refl, List, [], ◌∷◌, ◌++◌, map, ℕ, zero, suc, ◌≤◌, length, Ok, Err}
use Rattle.std.proofs.Common.{ap, ◌∙◌, subst}
use Rattle.std.proofs.lemmas.List.{map-append}
use Rattle.rules.specs.declared.Header.{Header}
use Rattle.rules.specs.declared.Part.{Part}
use Rattle.rules.specs.declared.Piece.TheVariants as part
use Rattle.rules.specs.Document.Passes.{PartName}
use Rattle.rules.specs.Document.Layout.{name_of, usable, reached}
use Rattle.rules.specs.Document.Numbers.{read_part, go_on, read_from, read_parts, top_level, PartRead}
use Rattle.rules.specs.Laws.Counting.Sums.{All}
use Rattle.rules.specs.Laws.Reading.Parts.{InOrder}
use Rattle.rules.proofs.Laws.Reading.Parts.{all_middle}
use Rattle.rules.specs.Promises.Vocabulary.{Named}
use Rattle.rules.specs.Laws.Reading.OneWalk.{usable_now, reached_now}
use Rattle.rules.proofs.Laws.Reading.OneWalk.{one_walk, reached_walk}
use Rattle.rules.proofs.Laws.Reading.Stands.{read_part_stands}
use Rattle.rules.specs.Laws.Reading.WholeParts.{WholeParts}

pub parts_whole : (m : ℕ) (h : Header) (s : List ℕ) (before : PartName) (place : ℕ)
    → WholeParts h s before place (read_from m h s before place).parts
unfolding WholeParts read_from go_on
parts_whole zero h s before place = tt
parts_whole (suc m) h s before place = cases (read_part h s before place) refl (λ p. parts_whole m h s (name_of p) p.end)
  where
    cases : (x : PartRead) → read_part h s before place ≡ x
        → ((p : Part) → WholeParts h s (name_of p) p.end (read_from m h s (name_of p) p.end).parts)
        → WholeParts h s before place (go_on s place x (λ p. read_from m h s (name_of p) p.end)).parts
    cases (Ok (part.Part p)) e r = (e, r p)
    cases (Ok (part.Cut p)) e r = tt
    cases (Ok part.Tail) e r = tt
    cases (Err why) e r = tt

pub read_parts_whole : (h : Header) (s : List ℕ) → WholeParts h s (record { plane = h.planes; level = 0 }) h.end (read_parts h s).parts
unfolding read_parts
read_parts_whole h s = parts_whole (length s) h s (record { plane = h.planes; level = 0 }) h.end

-- Each has a legal head.
pub whole_in_order : (h : Header) (s : List ℕ) (before : PartName) (place : ℕ) (ps : List Part) → WholeParts h s before place ps
    → InOrder before (map name_of ps)
unfolding WholeParts InOrder
whole_in_order h s before place [] w = tt
whole_in_order h s before place (p ∷ ps) w = ((read_part_stands h s before place p w.0).legal.in_order, whole_in_order h s (name_of p) p.end ps w.1)

pub whole_named : (h : Header) (s : List ℕ) (before : PartName) (place : ℕ) (ps : List Part) → WholeParts h s before place ps
    → All (Named (top_level h) h.planes) (map name_of ps)
unfolding WholeParts All
whole_named h s before place [] w = tt
whole_named h s before place (p ∷ ps) w = ((read_part_stands h s before place p w.0).legal.named, whole_named h s (name_of p) p.end ps w.1)

-- Of the parts that were read, what came by before one decides whether it is usable.
module _ (h : Header) (s : List ℕ) (before : PartName) (place : ℕ) (seen : List Part) (p : Part) (later : List Part)
    (w : WholeParts h s before place (seen ++ p ∷ later)) where
  abbrev top : ℕ
  top = top_level h

  names_split : map name_of (seen ++ p ∷ later) ≡ map name_of seen ++ name_of p ∷ map name_of later
  names_split = map-append name_of seen (p ∷ later)

  names_ordered : InOrder before (map name_of seen ++ name_of p ∷ map name_of later)
  names_ordered = subst (InOrder before) names_split (whole_in_order h s before place (seen ++ p ∷ later) w)

  name_legal : Named top h.planes (name_of p)
  name_legal =
      all_middle (Named top h.planes) (map name_of seen) (name_of p) (map name_of later)
      (subst (All (Named top h.planes)) names_split (whole_named h s before place (seen ++ p ∷ later) w))

  pub usable_read : usable (top_level h) h.planes (map name_of (seen ++ p ∷ later)) (name_of p)
      ≡ usable_now (λ k. reached (top_level h) h.planes (map name_of seen) k) (name_of p)
  usable_read =
      ap (λ there. usable top h.planes there (name_of p)) names_split
      ∙ one_walk top h.planes before (map name_of seen) (name_of p) (map name_of later) names_ordered name_legal

  pub reached_read : (k : ℕ) → 1 ≤ k → reached (top_level h) h.planes (map name_of (seen ++ (p ∷ []))) k
      ≡ reached_now (λ k. reached (top_level h) h.planes (map name_of seen) k) (name_of p) k
  reached_read k f =
      ap (λ there. reached top h.planes there k) (map-append name_of seen (p ∷ []))
      ∙ reached_walk top h.planes before (map name_of seen) (name_of p) (map name_of later) names_ordered name_legal k f
