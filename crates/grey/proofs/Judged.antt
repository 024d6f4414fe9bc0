-- What input and workspace are judged, in document 02's order, and what that means for the way in and the way back.
use mathlib.Core.Path.{◌≡◌, refl, ◌∙◌}
use mathlib.Core.Bool.{Bool, true, false, cond}
use mathlib.Core.List.{List}
use Prim.Native.Nat.{ℕ, ◌*◌, ◌^◌, ◌<◌}
use native.Mathlib.Omega.{arith}
use lib.Dec.{leb, eqb}
use lib.ListN.{length}
use lib.IntN.{ℤ}
use borrow.Author.Tests.{leb-true, eqb-true}
use Rattle.rules.specs.declared.Size.{Size}
use Rattle.rules.specs.declared.Refusal.{Refusal}
use Rattle.rules.specs.declared.Refusal.TheVariants as refusal
use Rattle.std.specs.Prelude.{Ok, Err}
use Rattle.rules.specs.Document.Pyramid.{legal_size, area}
use Rattle.rules.specs.Document.Calls.{Result, refused, unless, work_for, first_over}
use Rattle.rules.proofs.Laws.Family.Sizes.{area_bound}
use Rattle.pictures.specs.Document.Calls.{most_decoded}
use Rattle.grey.specs.Outcomes.{Judged, judged_in, unless_over, judged_out, Fits, Printing}

pub area_fits : (z : Size) → legal_size z ≡ true → z.w * z.h < 2 ^ 64
area_fits z a = omega (arith, area_bound z a)

-- What was judged, in front of a result.
abbrev pub ruled : {X : Type 0} → Judged → Result X → Result X
ruled (Ok _) x = x
ruled (Err r) x = refused r

ruled_unless : {X : Type 0} (b : Bool) (r : Refusal) (v : Judged) (x y : Result X) → y ≡ ruled v x
    → unless b r y ≡ ruled (cond b v (Err r)) x
unfolding unless
ruled_unless true r v x y e = e
ruled_unless false r v x y e = refl

pub ruled_in : {X : Type 0} (z : Size) (room work : ℕ) (x : Result X)
    → unless (legal_size z) refusal.Size (unless (eqb room (area z)) refusal.Length (unless (leb (work_for z) work) refusal.Work x))
    ≡ ruled (judged_in z room work) x
unfolding judged_in
ruled_in z room work x =
    ruled_unless (legal_size z) refusal.Size _ x _
    (ruled_unless (eqb room (area z)) refusal.Length _ x _ (ruled_unless (leb (work_for z) work) refusal.Work (Ok tt) x x refl))

-- What was judged in order fits.
fit : (a b c : Bool) → ◌≡◌ {A = Judged} (cond a (cond b (cond c (Ok tt) (Err refusal.Work)) (Err refusal.Length)) (Err refusal.Size)) (Ok tt)
    → (a ≡ true) × (b ≡ true) × (c ≡ true)
fit true true true e = (refl, refl, refl)
fit true true false e = cc
fit true false c e = cc
fit false b c e = cc

pub judged_in_order : (z : Size) (room work : ℕ) → judged_in z room work ≡ Ok tt → Fits z room work
unfolding judged_in
judged_in_order z room work e =
    let f = fit (legal_size z) (eqb room (area z)) (leb (work_for z) work) e in
    record { legal = f.0; exact = eqb-true room (area z) f.1; enough = leb-true (work_for z) work f.2 }

-- The way back.
ruled_over : {X : Type 0} (pyramid : List ℤ) (v : Judged) (x : Result X)
    → ruled v (unless (eqb (first_over most_decoded pyramid) (length pyramid)) (refusal.Range (first_over most_decoded pyramid)) x)
    ≡ ruled (unless_over pyramid v) x
unfolding unless_over
ruled_over pyramid (Err r) x = refl
ruled_over pyramid (Ok _) x = ruled_unless (eqb (first_over most_decoded pyramid) (length pyramid)) _ (Ok tt) x x refl

pub ruled_out : {X : Type 0} (pyramid : List ℤ) (z : Size) (work : ℕ) (x : Result X)
    → unless (legal_size z) refusal.Size (unless (eqb (length pyramid) (area z)) refusal.Length (unless (leb (work_for z) work) refusal.Work
    (unless (eqb (first_over most_decoded pyramid) (length pyramid)) (refusal.Range (first_over most_decoded pyramid)) x)))
    ≡ ruled (judged_out pyramid z work) x
unfolding judged_out
ruled_out pyramid z work x =
    ruled_in z (length pyramid) work _ ∙ ruled_over pyramid (judged_in z (length pyramid) work) x

printing : (pyramid : List ℤ) (z : Size) (work : List ℕ) (v : Judged) → judged_in z (length pyramid) (length work) ≡ v
    → unless_over pyramid v ≡ Ok tt → Printing pyramid z work
unfolding unless_over
printing pyramid z work (Err r) e h = cc
printing pyramid z work (Ok tt) e h =
    record { fits = judged_in_order z (length pyramid) (length work) e; range = eqb-true _ _ (by (eqb (first_over most_decoded pyramid) (length pyramid)) h) }
  where
    by : (b : Bool) → cond b (Ok tt) (Err (refusal.Range (first_over most_decoded pyramid))) ≡ Ok tt → b ≡ true
    by true g = refl
    by false g = cc

pub judged_out_order : (pyramid : List ℤ) (z : Size) (work : List ℕ) → judged_out pyramid z (length work) ≡ Ok tt → Printing pyramid z work
unfolding judged_out
judged_out_order pyramid z work e = printing pyramid z work (judged_in z (length pyramid) (length work)) refl e
