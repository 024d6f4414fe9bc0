use Rattle.std.specs.Prelude.{Ok, Err}
use Rattle.std.specs.Prelude.{Result as Returned}
-- What becomes of a part, by any lists that agree, and what the definition's walk in tree order makes of it.
use mathlib.Core.Path.{◌≡◌, refl, subst}
use mathlib.Core.List.{List, [], ◌∷◌, ◌++◌}
use mathlib.Core.Bool.{Bool, true, false, cond}
use Prim.Native.Nat.{ℕ}
use lib.Dec.{leb, eqb}
use lib.IntN.{ℤ}
use Rattle.rules.specs.declared.Size.{Size}
use Rattle.rules.specs.declared.Plane.{Plane}
use Rattle.rules.specs.declared.Refusal.{Refusal}
use Rattle.rules.specs.declared.Refusal.TheVariants as refusal
use Rattle.rules.specs.declared.Header.{Header}
use Rattle.rules.specs.declared.Part.{Part}
use Rattle.rules.specs.declared.Piece.TheVariants as part
use Rattle.decoder.specs.declared.Walk.{Walk}
use Rattle.rules.specs.Document.Numbers.{top_level}
use Rattle.rules.specs.Document.Passes.{PartName, State, Course, Reader, after}
use Rattle.rules.specs.Document.Layout.{bits_there, name_of, usable}
use Rattle.rules.specs.Document.Calls.{Progress, going, unfit, used, used_cut}
use Rattle.rules.proofs.Laws.Counting.Booleans.{clash}
use Rattle.rules.specs.Laws.Reading.OneWalk.{usable_now}
use Rattle.trees.specs.Family.{trees}
use Rattle.trees.specs.Decoding.{onward_of, tail_onward_of}
use Rattle.parts.specs.Standing.{Agree, agree_same}
use Rattle.reached.specs.Planes.{reached_at}
use Rattle.decoder.specs.Walking.{Outcome, Cut, fitting, gone, cut_gone, one_part_more, course_on, used_on, met_on, cut_on, Found, Taken, Ended}

-- What was taken by the lists of the workspace was taken by the definition's, which are the same.
pub taken_alike : (bytes : List ℕ) (z : Size) (p : Part) (reached : List Plane) (skipped : List ℕ) (s t : State) (v : List ℤ) → Agree s t
    → (work : List ℕ) (r : Returned Walk Refusal) (work' : List ℕ)
    → Taken z p (met_on bytes z p reached skipped s v) work r work' → Taken z p (met_on bytes z p reached skipped t v) work r work'
taken_alike bytes z p reached skipped s t v a work r work' h =
    subst (λ (x : State). Taken z p (met_on bytes z p reached skipped x v) work r work') (agree_same a) h

-- The definition's step comes to the same, where the test that one walk can make is the definition's.
module _ (h : Header) (s : List ℕ) (there : List PartName) (p : Part) (reached : List Plane) (skipped : List ℕ) (t : State)
    (v : List ℤ)
    (test : usable (top_level h) h.planes there (name_of p) ≡ usable_now (reached_at reached) (name_of p)) where
  c : Course Reader
  c = course_on s h.size p t v

  over : Outcome
  over = record { found = Ok tt; lists = t; drawn = v; reached = reached; skipped = one_part_more p skipped }

  abbrev on_part : Progress
  on_part = onward_of (trees h.size) h s there p (going t v)

  -- what the definition makes of what was found
  data Comes (o : Outcome) : Progress → Type 0 where
    on : o.found ≡ Ok tt → Comes o (going o.lists o.drawn)
    stops : o.found ≡ Err (refusal.Fit p.place) → Comes o (unfit p.place)

  used_comes : (b : Bool) → eqb c.side.taken p.bits ≡ b
      → Comes (gone p reached skipped t c) (cond b (going (after p.level.0 c t) c.side.pyramid) (unfit p.place))
  unfolding gone fitting
  used_comes true e = on (rw e)
  used_comes false e = stops (rw e)

  met_comes : (b : Bool) → Comes (cond b (gone p reached skipped t c) over) (cond b (used p t c) (going t v))
  unfolding used over
  met_comes true = used_comes (eqb c.side.taken p.bits) refl
  met_comes false = on refl

  abbrev met : Outcome
  met = met_on s h.size p reached skipped t v

  onward_comes : Comes met on_part
  unfolding onward_of met_on used_on c over
  onward_comes = rw test (met_comes (usable_now (reached_at reached) (name_of p)))

  by_found : {X : Type 0} → (met.found ≡ Ok tt → on_part ≡ going met.lists met.drawn → X)
      → (met.found ≡ Err (refusal.Fit p.place) → on_part ≡ unfit p.place → X) → X
  by_found {X} goes ends = cases on_part onward_comes refl
    where
      cases : (g : Progress) → Comes met g → on_part ≡ g → X
      cases g (on i) e = goes i e
      cases g (stops i) e = ends i e

  pub met_part_lem : met.found ≡ Ok tt → on_part ≡ going met.lists met.drawn
  met_part_lem e = by_found (λ i g. g) (λ i g. clash (cc))

  pub met_refused : (f : Refusal) → met.found ≡ Err f → (on_part ≡ unfit p.place) × (f ≡ refusal.Fit p.place)
  met_refused f e = by_found (λ i g. clash (cc)) (λ i g. (g, cc))

-- A part that is cut, likewise: drawn as far as its bits go, or refused.
pub ended_alike : (bytes : List ℕ) (z : Size) (p : Part) (reached : List Plane) (s t : State) (v : List ℤ) → Agree s t
    → (work : List ℕ) (r : Found) (work' : List ℕ)
    → Ended z (cut_on bytes z p reached s v) work r work' → Ended z (cut_on bytes z p reached t v) work r work'
ended_alike bytes z p reached s t v a work r work' h =
    subst (λ (x : State). Ended z (cut_on bytes z p reached x v) work r work') (agree_same a) h

-- a walk that goes on with values v
pub record Goes (v : List ℤ) (g : Progress) : Type 0 where
  pub lists : State
  pub goes : g ≡ going lists v

module _ (h : Header) (s : List ℕ) (there : List PartName) (p : Part) (reached : List Plane) (t : State) (v : List ℤ)
    (test : usable (top_level h) h.planes (there ++ (name_of p ∷ [])) (name_of p) ≡ usable_now (reached_at reached) (name_of p)) where
  d : Course Reader
  d = course_on s h.size p t v

  abbrev on_tail : Progress
  on_tail = tail_onward_of (trees h.size) h s there (Ok (part.Cut p)) (going t v)

  data Ends (o : Cut) : Progress → Type 0 where
    shows : (l : State) → o.found ≡ Ok tt → Ends o (going l o.drawn)
    misfits : o.found ≡ Err (refusal.Fit p.place) → Ends o (unfit p.place)

  drawn_ends : (b : Bool) → leb (bits_there s p) d.side.taken ≡ b
      → Ends (cut_gone s p d) (cond b (going (after p.level.0 d t) d.side.pyramid) (unfit p.place))
  unfolding cut_gone
  drawn_ends true e = shows _ (rw e)
  drawn_ends false e = misfits (rw e)

  cut_ends : (b : Bool) → Ends (cond b (cut_gone s p d) (record { found = Ok tt; drawn = v })) (cond b (used_cut h s there p t d) (going t v))
  unfolding used_cut
  cut_ends true = drawn_ends (leb (bits_there s p) d.side.taken) refl
  cut_ends false = shows t refl

  abbrev cut : Cut
  cut = cut_on s h.size p reached t v

  tail_ends : Ends cut on_tail
  unfolding tail_onward_of cut_on d
  tail_ends = rw test (cut_ends (usable_now (reached_at reached) (name_of p)))

  by_end : {X : Type 0} → ((l : State) → cut.found ≡ Ok tt → on_tail ≡ going l cut.drawn → X)
      → (cut.found ≡ Err (refusal.Fit p.place) → on_tail ≡ unfit p.place → X) → X
  by_end {X} goes ends = cases on_tail tail_ends refl
    where
      cases : (g : Progress) → Ends cut g → on_tail ≡ g → X
      cases g (shows l i) e = goes l i e
      cases g (misfits i) e = ends i e

  pub cut_tail : cut.found ≡ Ok tt → Goes cut.drawn on_tail
  cut_tail e = by_end (λ l i g. record { lists = l; goes = g }) (λ i g. clash (cc))

  pub cut_refused : (f : Refusal) → cut.found ≡ Err f → (on_tail ≡ unfit p.place) × (f ≡ refusal.Fit p.place)
  cut_refused f e = by_end (λ l i g. clash (cc)) (λ i g. (g, cc))
