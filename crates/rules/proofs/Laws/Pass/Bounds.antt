-- How long the lists of a pass and its bits can be, whatever the bits: at every point of it, and at its end.
use Rattle.std.specs.Prelude.{List, [], ◌∷◌, ℕ, ◌+◌, length}
use native.Mathlib.Omega.{arith}
use Rattle.std.proofs.Math.ListN.{length-append}
use Rattle.rules.specs.Document.Pyramid.{Family}
use Rattle.rules.specs.Document.Passes.{Entry, significant?, negative?, bit?, set?, to_lip, to_lsp, stays, moves, refined}
use Rattle.rules.specs.Document.Passes.{Lists, Side, Course, listed, listing, passed}
use Rattle.rules.specs.Laws.Family.Lawful.{Lawful}
use Rattle.rules.specs.Laws.Pass.Steps.{sign_noted, bit_noted}
use Rattle.rules.specs.Laws.Pass.Kept.{Kept}
use Rattle.rules.proofs.Laws.Pass.Kept.{kept_pass}
use Rattle.rules.specs.Laws.Pass.Slots.{Room}
use Rattle.rules.proofs.Laws.Pass.Slots.{room_test, room_past, room_open, room_fewer, room_held, room_slots}
use Rattle.rules.specs.Laws.Pass.Bounds.{Taking, Fits, Bounded}

module _ {F : Family} (L : Lawful F) (k n : ℕ) {S : Type 0} {C : Side S} {bits : S → ℕ} (T : Taking C bits) where
  pub fits_kept : (known first : ℕ) → Kept F k (listing C) (Fits F k n known first bits)
  unfolding listed sign_noted bit_noted
  fits_kept known first = record {
    insignificant = λ c p ps es ks b h. record {
      visited = h.visited;
      room = room_fewer _ (omega (arith, length-append c.lip (p ∷ []))) (room_test h.room);
      past = h.past;
      taken = omega (
        arith,
        h.taken,
        length-append c.lip (p ∷ []),
        T.asked (significant? p) c.side,
        T.noted (to_lip p) (C.reply (significant? p) c.side).next,
      );
    };
    significant = λ c p ps es ks b h.
        let s : S = (C.reply (significant? p) c.side).next in
        record {
          visited = h.visited;
          room = room_fewer _ (omega (arith, length-append c.lsp (p ∷ []))) (room_test h.room);
          past = h.past;
          taken = omega (
            arith,
            h.taken,
            length-append c.lsp (p ∷ []),
            T.asked (significant? p) c.side,
            T.asked (negative? p) s,
            T.noted (to_lsp p (C.reply (negative? p) s).bit) (C.reply (negative? p) s).next,
          );
        };
    moving = λ c e es ks i h. record {
      visited = h.visited + 1;
      room = room_past L h.room;
      past = omega (arith, h.past, length-append c.moved (e ∷ []));
      taken = omega (arith, h.taken, T.noted (moves e) c.side);
    };
    staying = λ c e es ks i b h. record {
      visited = h.visited + 1;
      room = room_past L h.room;
      past = omega (arith, h.past, length-append c.lis (e ∷ []));
      taken = omega (arith, h.taken, T.asked (set? e) c.side, T.noted (stays e) (C.reply (set? e) c.side).next);
    };
    opening = λ c e es ks i b h. record {
      visited = h.visited + 1;
      room = room_open L i h.room;
      past = omega (arith, h.past);
      taken = omega (arith, h.taken, T.asked (set? e) c.side);
    };
    refining = λ c p ks h. record {
      visited = h.visited;
      room = h.room;
      past = h.past;
      taken = omega (
        arith,
        h.taken,
        T.asked (bit? p) c.side,
        T.noted (refined p (C.reply (bit? p) c.side).bit) (C.reply (bit? p) c.side).next,
      );
    };
  }

  pub passed_fits : (l : Lists) (s : S) → Room F k n (length l.lsp) 0 l.lip l.lis
      → Fits F k n (length l.lsp) (bits s) bits (passed F k C l s) [] [] []
  unfolding passed
  passed_fits l s r =
      kept_pass (fits_kept (length l.lsp) (bits s)) L l _
      (record { visited = 0; room = room_fewer _ (omega arith) r; past = omega arith; taken = omega arith })

pub fits_bounded : {F : Family} (L : Lawful F) {k n known first : ℕ} {S : Type 0} {bits : S → ℕ} {c : Course S}
    {ps : List ℕ} {es : List Entry} {ks : List ℕ} → Fits F k n known first bits c ps es ks → Bounded n first bits c
fits_bounded L h =
    record {
      coefficients = omega (arith, room_held h.room);
      sets = omega (arith, h.past, room_slots L h.room);
      taken = omega (arith, h.taken, room_held h.room, room_slots L h.room);
    }

pub passed_bounded : {F : Family} (L : Lawful F) {k n : ℕ} {S : Type 0} {C : Side S} {bits : S → ℕ} → Taking C bits → (l : Lists) (s : S)
    → Room F k n (length l.lsp) 0 l.lip l.lis → Bounded n (bits s) bits (passed F k C l s)
passed_bounded L {k} {n} T l s r = fits_bounded L (passed_fits L k n T l s r)
