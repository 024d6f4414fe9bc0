-- Walking over the parts of a record, without a bound on their number: what is left to read from a place on, part by part.
use Rattle.std.specs.Prelude.{◌≡◌, List, [], ◌∷◌, Ok, Err}
use Rattle.std.proofs.Math.Path.{refl}
use Rattle.std.proofs.Common.{ap, ◌∙◌, subst, arith}
use Prim.Native.Nat.{ℕ, zero, suc, ◌+◌, ◌-◌, ◌≤◌, ◌<◌}
use Rattle.std.proofs.Math.ListN.{length}
use Rattle.rules.specs.declared.Refusal.{Refusal}
use Rattle.rules.specs.declared.NoNumber.TheVariants.{CutOff}
use Rattle.rules.specs.declared.Header.{Header}
use Rattle.rules.specs.declared.Part.{Part}
use Rattle.rules.specs.declared.Piece.TheVariants as part
use Rattle.rules.specs.Document.Passes.{PartName}
use Rattle.rules.specs.Document.Layout.{read_number, name_of}
use Rattle.rules.specs.Document.Numbers.{part_number, read_part, Ending, tail, fault, Reading, go_on, read_from, read_parts, PartRead}
use Rattle.rules.proofs.Laws.Bytes.Numbers.{number_from_cut}
use Rattle.rules.specs.Promises.Refusals.{PartCase, Walk, MORE, TAIL, CUT, FAULT, Parts}
use Rattle.rules.proofs.Laws.Reading.PartCases.{part_case, part_is}
use Rattle.rules.proofs.Laws.Reading.Stands.{read_part_stands}
use Rattle.rules.specs.Laws.Reading.Walk.{parts_from}

-- At the end of the bytes a part is cut off.
read_number_past : (s : List ℕ) (at : ℕ) → length s ≤ at → read_number s at ≡ Err CutOff
unfolding read_number
read_number_past s at l = number_from_cut 3 s at 1 0 l

pub read_part_past : (h : Header) (s : List ℕ) (before : PartName) (place : ℕ) → length s ≤ place → read_part h s before place ≡ Ok part.Tail
unfolding read_part part_number
read_part_past h s before place l = rw (read_number_past s place l)

-- Any bound that reaches the end of the bytes gives the same reading.
read_from_enough : (m n : ℕ) (h : Header) (s : List ℕ) (before : PartName) (place : ℕ) → length s ≤ place + m → length s ≤ place + n
    → read_from m h s before place ≡ read_from n h s before place
unfolding read_from go_on
read_from_enough zero zero h s before place a b = refl
read_from_enough zero (suc n) h s before place a b = rw (read_part_past h s before place (omega arith))
read_from_enough (suc m) zero h s before place a b = rw (read_part_past h s before place (omega arith))
read_from_enough (suc m) (suc n) h s before place a b =
    go (read_part h s before place) refl (λ p l. read_from_enough m n h s (name_of p) p.end (omega arith) (omega arith))
  where
    go : (x : PartRead) → read_part h s before place ≡ x
        → ((p : Part) → place < p.end → read_from m h s (name_of p) p.end ≡ read_from n h s (name_of p) p.end)
        → go_on s place x (λ p. read_from m h s (name_of p) p.end) ≡ go_on s place x (λ p. read_from n h s (name_of p) p.end)
    go (Ok (part.Part p)) e r =
        let t = read_part_stands h s before place p e in
        ap (λ (x : Reading). record { parts = p ∷ x.parts; ending = x.ending }) (r p (omega (arith, t.after, t.end)))
    go (Ok (part.Cut p)) e r = refl
    go (Ok part.Tail) e r = refl
    go (Err f) e r = refl

pub read_parts_from : (h : Header) (s : List ℕ) → h.end ≤ length s → read_parts h s ≡ parts_from h s (record { plane = h.planes; level = 0 }) h.end
unfolding read_parts parts_from
read_parts_from h s l = read_from_enough (length s) (length s - h.end) h s (record { plane = h.planes; level = 0 }) h.end (omega arith) (omega arith)

-- One step of the walk.
module _ (h : Header) (s : List ℕ) (before : PartName) (place : ℕ) where
  parts_from_step : parts_from h s before place ≡ go_on s place (read_part h s before place) (λ p. read_from (length s - place) h s (name_of p) p.end)
  unfolding parts_from read_from
  parts_from_step = read_from_enough (length s - place) (suc (length s - place)) h s before place (omega arith) (omega arith)

  pub parts_from_part : (p : Part) → read_part h s before place ≡ Ok (part.Part p)
      → parts_from h s before place ≡ record { parts = p ∷ (parts_from h s (name_of p) p.end).parts; ending = (parts_from h s (name_of p) p.end).ending }
  unfolding go_on parts_from
  parts_from_part p e =
      let t = read_part_stands h s before place p e in
      parts_from_step ∙ rw e
      (ap (λ (x : Reading). record { parts = p ∷ x.parts; ending = x.ending })
      (read_from_enough (length s - place) (length s - p.end) h s (name_of p) p.end (omega (arith, t.after, t.end)) (omega arith)))

  pub parts_from_tail : read_part h s before place ≡ Ok part.Tail → parts_from h s before place ≡ record { parts = []; ending = tail (length s - place) }
  unfolding go_on
  parts_from_tail e = parts_from_step ∙ rw e

  pub parts_from_cut : (p : Part) → read_part h s before place ≡ Ok (part.Cut p) → parts_from h s before place
      ≡ record { parts = []; ending = tail (length s - place) }
  unfolding go_on
  parts_from_cut p e = parts_from_step ∙ rw e

  pub parts_from_fault : (r : Refusal) → read_part h s before place ≡ Err r → parts_from h s before place ≡ record { parts = []; ending = fault r }
  unfolding go_on
  parts_from_fault r e = parts_from_step ∙ rw e

-- All parts have the case that holds, and no other.
module _ (h : Header) (s : List ℕ) where
  abbrev Walks : PartName → ℕ → Reading → Type 0
  Walks before place r = Walk h s before place r.parts r.ending

  read_from_walk : (m : ℕ) (before : PartName) (place : ℕ) → length s ≤ place + m → Walks before place (read_from m h s before place)
  unfolding read_from go_on
  read_from_walk zero before place l =
      TAIL (subst (PartCase h s before place) (read_part_past h s before place (omega arith)) (part_case h s before place))
  read_from_walk (suc m) before place l = cases (read_part h s before place) refl (λ p b. read_from_walk m (name_of p) p.end b)
    where
      cases : (x : PartRead) → read_part h s before place ≡ x
          → ((p : Part) → length s ≤ p.end + m → Walks (name_of p) p.end (read_from m h s (name_of p) p.end))
          → Walks before place (go_on s place x (λ p. read_from m h s (name_of p) p.end))
      cases (Ok (part.Part p)) e r =
          let t = read_part_stands h s before place p e in
          MORE (subst (PartCase h s before place) e (part_case h s before place)) (r p (omega (arith, t.after, t.end)))
      cases (Ok (part.Cut p)) e r = CUT (subst (PartCase h s before place) e (part_case h s before place))
      cases (Ok part.Tail) e r = TAIL (subst (PartCase h s before place) e (part_case h s before place))
      cases (Err q) e r = FAULT (subst (PartCase h s before place) e (part_case h s before place))

  pub parts_case : Parts h s (read_parts h s).parts (read_parts h s).ending
  unfolding read_parts
  parts_case = read_from_walk (length s) (record { plane = h.planes; level = 0 }) h.end (omega arith)

  parts_from_is : {before : PartName} {place : ℕ} {ps : List Part} {e : Ending} → Walk h s before place ps e
      → parts_from h s before place ≡ record { parts = ps; ending = e }
  parts_from_is (MORE {before = before} {place = place} {p = p} c w) =
      parts_from_part h s before place p (part_is h s before place _ c)
      ∙ ap (λ (r : Reading). record { parts = p ∷ r.parts; ending = r.ending }) (parts_from_is w)
  parts_from_is (TAIL {before = before} {place = place} c) = parts_from_tail h s before place (part_is h s before place _ c)
  parts_from_is (CUT {before = before} {place = place} {p = p} c) = parts_from_cut h s before place p (part_is h s before place _ c)
  parts_from_is (FAULT {before = before} {place = place} {r = r} c) = parts_from_fault h s before place r (part_is h s before place _ c)

  pub parts_is : (ps : List Part) (e : Ending) → h.end ≤ length s → Parts h s ps e → read_parts h s ≡ record { parts = ps; ending = e }
  parts_is ps e l w = read_parts_from h s l ∙ parts_from_is w
