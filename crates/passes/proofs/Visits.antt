-- Step 2: the next set of LIS is taken, and weighed or moved out; several visits in a row.
use mathlib.Core.Path.{◌≡◌, refl, sym, ap, ap₂, ◌∙◌, subst}
use mathlib.Core.Bool.{Bool, true, false}
use mathlib.Core.List.{List, [], ◌∷◌, ◌++◌}
use Prim.Native.Nat.{ℕ, suc, ◌+◌, ◌≤◌, ◌<◌}
use native.Mathlib.Nat.{le_refl}
use native.Mathlib.Numerals.{add-one}
use native.Mathlib.Omega.{arith}
use lib.ListN.{length, length-append}
use Rattle.rules.specs.Document.Pyramid.{Family}
use Rattle.rules.specs.Document.Passes.{Entry, moves, in_level, Side, Course, listed, listing, done}
use Rattle.rules.specs.Laws.Family.Lawful.{Lawful}
use Rattle.rules.proofs.Laws.Family.Sizes.{legal}
use Rattle.rules.specs.Laws.Pass.Kept.{Kept}
use Rattle.rules.proofs.Laws.Pass.Kept.{kept_visited_all}
use Rattle.rules.specs.Laws.Pass.Steps.{sign_noted, bit_noted, visited_all}
use Rattle.rules.proofs.Laws.Pass.Steps.{walk_moves}
use Rattle.rules.specs.Laws.Pass.Slots.{Room}
use Rattle.rules.proofs.Laws.Pass.Slots.{room_past}
use Rattle.trees.proofs.Lawful.{trees_lawful}
use Rattle.stretches.specs.Cut.{values_in}
use Rattle.lists.specs.declared.Fill.{Fill}
use Rattle.lists.specs.Lists.{held, past, Fits, NextSet, SetMoved, moved_length}
use Rattle.lists.specs.Besides.{beside_values}
use Rattle.testing.specs.declared.Run.{Run}
use Rattle.testing.specs.declared.Stand.{Stand}
use Rattle.testing.specs.Exchange.{Chan, chan, family_of, side, notes, quiet_moves, around_beside}
use Rattle.testing.specs.Finding.{course_of, course}
use Rattle.passes.specs.Steps.{visits_of, Proper, has_member, Queued, Underway, InHand, Visited}
use Rattle.passes.proofs.Sets.{visits_side}

-- The sets that have moved out only become more; one more where the next set has no member in the level.
module _ {F : Family} (L : Lawful F) (k : ℕ) {S : Type 0} (C : Side S) where
  moved_kept : (m : ℕ) → Kept F k (listing C) (λ c ps es ks. m ≤ length c.moved)
  unfolding listed sign_noted bit_noted
  moved_kept m =
      record {
        insignificant = λ c p ps es ks b h. h;
        significant = λ c p ps es ks b h. h;
        moving = λ c e es ks i h. omega (arith, length-append c.moved (e ∷ []));
        staying = λ c e es ks i b h. h;
        opening = λ c e es ks i b h. h;
        refining = λ c p ks h. h;
      }

  pub moved_more : (e : Entry) (es : List Entry) (c : Course S) → in_level F k e ≡ false
      → length c.moved < length (visited_all F k (listing C) (e ∷ es) c).moved
  unfolding listed
  moved_more e es c h =
      let d : Course S = listed (moves e) c (C.note (moves e) c.side) in
      omega (
        arith,
        length-append c.moved (e ∷ []),
        kept_visited_all (moved_kept (length d.moved)) L d es [] (le_refl _),
        ap (λ x. length x.moved) (walk_moves L k (listing C) e es done c h),
      )

module _ (run : Run) (P : Proper run) where
  abbrev F : Family
  F = family_of run

  abbrev k : ℕ
  k = run.level.0

  L : Lawful F
  L = trees_lawful run.z (legal run.z P.legal)

  -- the next set is taken
  module _ {body : List ℕ} {e : Entry} {s out : List ℕ} {w : Stand} (R : Underway run body s out w) (N : NextSet run.stretch s w.fill e) where
    abbrev f₀ : Fill
    f₀ = past w.fill

    abbrev es : List Entry
    es = (held run.stretch s f₀).todo

    abbrev c : Course Chan
    c = course run.stretch s out w

    abbrev C : Side Chan
    C = side run s body

    abbrev vs : List ℕ
    vs = values_in run.stretch.n s

    todo_taken : (held run.stretch s w.fill).todo ≡ e ∷ es
    todo_taken = ap (λ h. h.todo) N.holds

    room_taken : Room F k run.stretch.n (w.fill.lip + w.fill.lsp) w.fill.visited [] (e ∷ es)
    room_taken = rw todo_taken at R.room

    queue_taken : (in_level F k e ≡ has_member run w.fill.visited e) × Queued run (suc w.fill.visited) es
    unfolding Queued
    queue_taken = rw todo_taken at R.queue

    course_taken : course_of (held run.stretch s f₀) (chan out vs w.at.at) ≡ c
    course_taken = sym (ap (λ h. course_of h (chan out vs w.at.at)) N.holds)

    visits_taken : visits_of run body s (e ∷ es) (course_of (held run.stretch s f₀) (chan out vs w.at.at))
        ≡ visits_of run body s (held run.stretch s w.fill).todo c
    visits_taken = ap₂ (visits_of run body s) (sym todo_taken) course_taken

    module _ {f : Fill} (i : f ≡ past w.fill) where
      pub taken_fits : Fits run.stretch s f
      taken_fits = subst (Fits run.stretch s) (sym i) N.fits

      pub taken_hand : {h : Bool} → h ≡ has_member run w.fill.visited e → h ≡ true → 0 < w.fill.left
          → InHand run body e s out (record { fill = f; at = w.at })
      taken_hand j t l =
          subst (λ g. InHand run body e s out (record { fill = g; at = w.at })) (sym i)
          (record {
            before = w.fill.visited;
            count = refl;
            fits = N.fits;
            away = omega (arith, R.away, ap (λ x. length x.moved) visits_taken);
            there = queue_taken.0 ∙ sym j ∙ t;
            room = room_taken;
            queue = queue_taken.1;
            olds = omega (arith, R.olds);
            past = R.past;
            place = R.place;
          })

      -- one with no member in the level moves out: there is room for it
      module _ {h : Bool} (j : h ≡ has_member run w.fill.visited e) (gone : h ≡ false) where
        none_here : in_level F k e ≡ false
        none_here = queue_taken.0 ∙ sym j ∙ gone

        pub taken_room : run.stretch.away + f.moved < length s
        taken_room =
            omega (
              arith,
              R.away,
              ap (λ g. g.moved) i,
              moved_length run.stretch s w.fill R.fits,
              moved_more L k C e es c none_here,
              ap (λ x. length (visits_of run body s x c).moved) todo_taken,
            )

        module _ {s' : List ℕ} {g : Fill} (M₀ : SetMoved run.stretch s f e s' g) where
          M : SetMoved run.stretch s (past w.fill) e s' g
          M = subst (λ y. SetMoved run.stretch s y e s' g) i M₀

          moved_noted : C.note (moves e) (chan out vs w.at.at) ≡ chan out vs w.at.at
          moved_noted = notes run s body (moves e) out vs w.at.at ∙ ap (λ x. chan out x w.at.at) (quiet_moves run w.at.at e vs)

          moved_makes : visits_of run body s' (held run.stretch s' g).todo (course run.stretch s' out (record { fill = g; at = w.at }))
              ≡ visits_of run body s (held run.stretch s w.fill).todo c
          unfolding listed
          moved_makes =
              visits_side body _ _ (around_beside M.beside) R.fits.behind
              ∙ ap₂ (visited_all F k (listing C)) (ap (λ x. x.todo) M.holds)
              (ap₂ (λ x y. course_of x (chan out y w.at.at)) M.holds (beside_values M.beside)
              ∙ ap (λ y. record { lip = y.lip; lsp = y.lsp; lis = y.lis; moved = y.moved ++ (e ∷ []); side = y.side }) course_taken
              ∙ ap (λ y. record { lip = c.lip; lsp = c.lsp; lis = c.lis; moved = c.moved ++ (e ∷ []); side = y }) (sym moved_noted))
              ∙ sym (walk_moves L k (listing C) e es done c none_here)
              ∙ ap (λ y. visits_of run body s y c) (sym todo_taken)

          pub moved_count : g.visited ≡ w.fill.visited + 1
          moved_count = ap (λ x. x.visited) M.fill

          pub taken_moved : 0 < w.fill.left → Visited run body s out w s' out (record { fill = g; at = w.at })
          taken_moved l =
              let u : (held run.stretch s' g).todo ≡ es = ap (λ x. x.todo) M.holds in
              let a : g.lip ≡ w.fill.lip = ap (λ x. x.lip) M.fill in
              let b : g.lsp ≡ w.fill.lsp = ap (λ x. x.lsp) M.fill in
              let m : g.moved ≡ w.fill.moved + 1 = ap (λ x. x.moved) M.fill in
              record {
                makes = moved_makes;
                ready = record {
                  fits = M.fits;
                  away = omega (arith, R.away, ap (λ x. length x.moved) moved_makes, M.beside.long);
                  room = rw (u, a, b, moved_count) (room_past L room_taken);
                  queue = rw (u, moved_count, add-one) queue_taken.1;
                  olds = omega (arith, R.olds, ap (λ x. x.left) M.fill, moved_count);
                  past = omega (arith, R.past, ap (λ x. x.kept) M.fill, moved_count);
                  place = omega (arith, R.place, moved_count);
                };
                around = around_beside M.beside;
                moved = omega arith;
                known = M.known;
                lsp = omega arith;
              }
