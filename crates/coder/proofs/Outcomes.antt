-- What the coder answers: what the input is refused for, and the length against the room.
use Rattle.std.specs.Prelude.{Ok, Err, ⊤}
use Rattle.std.specs.Prelude.{Result as Returned}
use mathlib.Core.Path.{◌≡◌, refl, sym, ap, subst, ◌∙◌}
use mathlib.Core.List.{List}
use mathlib.Core.Bool.{Bool, true, false, cond}
use Prim.Native.Nat.{ℕ, ◌*◌, ◌≤◌, ◌<◌}
use native.Mathlib.Nat.{zero-add}
use native.Mathlib.Omega.{arith}
use lib.Dec.{leb, eqb}
use lib.ListN.{length, length-replicate}
use lib.IntN.{ℤ}
use lib.Seq.{length-sets}
use borrow.Author.Tests.{leb-true, eqb-true, le-leb, lt-leb}
use mir.Syntax.{w64}
use mir.Val.{Fits}
use Rattle.rules.proofs.Laws.Counting.Booleans.{clash}
use Rattle.rules.proofs.Laws.Family.Sizes.{area_bound}
use Rattle.rules.specs.declared.Size.{Size}
use Rattle.rules.specs.declared.Refusal.{Refusal}
use Rattle.rules.specs.declared.Refusal.TheVariants as refusal
use Rattle.rules.specs.Document.Numbers.{Accepted}
use Rattle.rules.specs.Document.Notation.{zeros}
use Rattle.rules.specs.Document.Pyramid.{legal_size, area, most_magnitude}
use Rattle.rules.specs.Document.Layout.{record_of}
use Rattle.rules.specs.Document.Calls.{Result, refused, unless, work_for, first_over, fitted, coding, code_out, code_answer}
use Rattle.rules.specs.Document.Answers.{as_coded}
use Rattle.rules.proofs.Laws.Bytes.Output.{filled_sets}
use Rattle.coder.specs.Writing.{Answered, judged_input, Given, Stored}

-- Stores keep the length.
pub stored_length : {out : List ℕ} {at : ℕ} {bytes : List ℕ} {end : ℕ} {out' : List ℕ} → Stored out at bytes end out'
    → length out' ≡ length out
stored_length {out} {at} {bytes} h = ap length h.stores ∙ length-sets out at bytes

pub stored_room : (lent : List ℕ) {at : ℕ} {bytes : List ℕ} {end : ℕ} {out' : List ℕ}
    → Stored (zeros (length lent)) at bytes end out' → length out' ≡ length lent
stored_room lent h = stored_length h ∙ length-replicate (length lent) 0

pub area_fits : (z : Size) (l : Bool) → l ≡ legal_size z → l ≡ true → Fits w64 (z.w * z.h)
area_fits z l e t = record { fits = omega (arith, area_bound z (sym e ∙ t)) }

-- What the input alone is judged decides the call, or leaves it to the room.
ruled : Returned ⊤ Refusal → Result (List ℕ) → Result (List ℕ)
ruled (Ok _) x = x
ruled (Err r) x = refused r

ruled_unless : (b : Bool) (r : Refusal) (v : Returned ⊤ Refusal) (x y : Result (List ℕ)) → y ≡ ruled v x → unless b r y ≡ ruled (cond b v (Err r)) x
unfolding unless ruled
ruled_unless true r v x y e = e
ruled_unless false r v x y e = refl

accepted_test : (b : Bool) (v : Returned ⊤ Refusal) (r : Refusal) → cond b v (Err r) ≡ Ok tt → (b ≡ true) × (v ≡ Ok tt)
accepted_test true v r e = (refl, e)
accepted_test false v r e = clash (cc)

module _ (pyramid : List ℤ) (z : Size) where
  coding_ruled : (room work : ℕ) → coding pyramid z room work ≡ ruled (judged_input pyramid z work) (fitted (record_of z pyramid) room)
  unfolding coding judged_input ruled
  coding_ruled room work =
      let x : Result (List ℕ) = fitted (record_of z pyramid) room in
      ruled_unless (legal_size z) refusal.Size _ x _
      (ruled_unless (eqb (length pyramid) (area z)) refusal.Length _ x _
      (ruled_unless (leb (work_for z) work) refusal.Work _ x _
      (ruled_unless (eqb (first_over most_magnitude pyramid) (length pyramid)) (refusal.Range (first_over most_magnitude pyramid)) (Ok tt) x x refl)))

  pub accepted_given : (work : List ℕ) → Ok tt ≡ judged_input pyramid z (length work) → Given pyramid z work
  unfolding judged_input
  accepted_given work e =
      let s = accepted_test (legal_size z) _ refusal.Size (sym e) in
      let l = accepted_test (eqb (length pyramid) (area z)) _ refusal.Length s.1 in
      let w = accepted_test (leb (work_for z) (length work)) _ refusal.Work l.1 in
      let r = accepted_test (eqb (first_over most_magnitude pyramid) (length pyramid)) _ (refusal.Range (first_over most_magnitude pyramid)) w.1 in
      record { legal = s.0; whole = eqb-true _ _ l.0; room = leb-true _ _ w.0; range = eqb-true _ _ r.0 }

  -- what is answered: n is the length of the workspace
  module _ (n : ℕ) where
    pub accepted_answered : (out out' : List ℕ) (answer : Returned ℕ Refusal) → Ok tt ≡ judged_input pyramid z n
        → Answered (fitted (record_of z pyramid) (length out)) out answer out' → Answered (coding pyramid z (length out) n) out answer out'
    unfolding ruled
    accepted_answered out out' answer e h =
        let x : Result (List ℕ) = fitted (record_of z pyramid) (length out) in
        subst (λ (y : Result (List ℕ)). Answered y out answer out') (ap (λ v. ruled v x) e ∙ sym (coding_ruled (length out) n)) h

    pub refusal_answered : (room : ℕ) (r : Refusal) → Err r ≡ judged_input pyramid z n → coding pyramid z room n ≡ refused r
    unfolding ruled
    refusal_answered room r e = coding_ruled room n ∙ ap (λ v. ruled v (fitted (record_of z pyramid) room)) (sym e)

  -- code_fitted: the length decides.
  module _ (out : List ℕ) {end : ℕ} {out' : List ℕ} (h : Stored (zeros (length out)) 0 (record_of z pyramid) end out') where
    room : length out' ≡ length out
    room = stored_room out h

    pub fitted_refused : length out' < end → fitted (record_of z pyramid) (length out) ≡ refused refusal.Room
    unfolding fitted unless
    fitted_refused l = rw (lt-leb (length (record_of z pyramid)) (length out) (omega (arith, h.place, room)))

    pub fitted_accepted : end ≤ length out' → Answered (fitted (record_of z pyramid) (length out)) out (Ok end) out'
    unfolding fitted unless as_coded code_answer code_out
    fitted_accepted l =
        let m : length (record_of z pyramid) ≤ length out = omega (arith, h.place, room) in
        rw (le-leb _ _ m) (
          ap (λ n. record { verdict = Accepted; length = n }) (h.place ∙ zero-add (length (record_of z pyramid))),
          h.stores ∙ filled_sets (length out) (record_of z pyramid) m,
        )
