-- The three steps of a pass, one after another: what they ask for, and what they make together.
use mathlib.Core.Bool.{true}
use mathlib.Core.Path.{◌≡◌, sym, ap, ap₂, ◌∙◌, subst}
use mathlib.Core.List.{List, map}
use Prim.Native.Nat.{ℕ, ◌+◌, ◌≤◌, ◌<◌, ◌^◌}
use native.Mathlib.Nat.{zero-add}
use native.Mathlib.Omega.{arith}
use lib.ListN.{length, get_or}
use lib.Pow.{pow_mono}
use Rattle.rules.specs.Document.Pyramid.{Family}
use Rattle.rules.specs.Document.Passes.{Lists, Side, Course, listing}
use Rattle.rules.specs.Laws.Counting.Sums.{All}
use Rattle.rules.proofs.Laws.Counting.Sums.{all_then}
use Rattle.rules.specs.Laws.Family.Lawful.{Lawful}
use Rattle.rules.proofs.Laws.Family.Sizes.{legal}
use Rattle.rules.proofs.Laws.Pass.Kept.{kept_tried_all, kept_visited_all}
use Rattle.rules.specs.Laws.Pass.Steps.{tried_all, visited_all, sharpened_all, begun}
use Rattle.rules.proofs.Laws.Pass.Steps.{visited_all_none, passed_steps, sharpened_lists}
use Rattle.rules.proofs.Laws.Pass.Slots.{room_tests, room_held, room_slots}
use Rattle.trees.proofs.Lawful.{trees_lawful}
use Rattle.bits.specs.declared.BitPosition.{BitPosition}
use Rattle.stretches.specs.Seg.{seg, seg_same}
use Rattle.stretches.specs.Cut.{values_in, lip_from, lsp_from, lis_from}
use Rattle.lists.specs.declared.Stretch.{Stretch}
use Rattle.lists.specs.declared.Fill.{Fill}
use Rattle.lists.specs.Lists.{entry, sets, waiting, known, held, emptied, Fits, todo_none, held_fresh, held_waiting, held_known, waiting_length}
use Rattle.lists.specs.Lists.{codes, Inside, coefficient, lip_at, raised, all_waiting, all_known}
use Rattle.lists.specs.Besides.{held_same, marks_kept}
use Rattle.testing.specs.declared.Run.{Run}
use Rattle.testing.specs.declared.Stand.{Stand}
use Rattle.testing.specs.Exchange.{Chan, chan, family_of, side, Around, around_then, side_same, reads, codes_reads}
use Rattle.testing.specs.Finding.{course_of, course, Testing, Tested, Refining, Refined, around_refined}
use Rattle.testing.specs.Growing.{Growth, growth_kept}
use Rattle.passes.specs.Steps.{visits_of, lists_of, pass_of, Underway, Visited, Fresh, Ran}
use Rattle.passes.proofs.Sets.{inside_level, visits_side}

-- Where nothing but values has changed, the lists are what they were.
module _ (t : Stretch) (s s' : List ℕ) {f : Fill} (long : length s' ≡ length s) (others : (i : ℕ) → t.n ≤ i → get_or s' i 0 ≡ get_or s i 0)
    (h : Fits t s f) where
  held_others : held t s' f ≡ held t s f
  unfolding held waiting known sets lip_from lsp_from lis_from
  held_others =
      held_same (ap (map coefficient) (same (t.n + 0) f.lip (omega arith))) (ap (map coefficient) (same (t.n + t.n) f.lsp (omega arith)))
      (ap (map entry) (same (t.n + t.n + t.n) f.kept (omega arith)))
      (ap (map entry) (same (t.n + t.n + t.n + f.visited) f.left (omega arith)))
      (ap (map entry) (same t.away f.moved (omega (arith, h.behind))))
    where
      same : (b m : ℕ) → t.n ≤ b → seg b m s' ≡ seg b m s
      same b m l = seg_same b m s s' long (λ i j k. others i (omega arith))

  fits_others : (codes t.role ≡ true → (i : ℕ) → i < t.n → get_or s' i 0 ≡ get_or s i 0) → Fits t s' f
  unfolding lip_at lip_from
  fits_others words =
      record {
        room = rw long h.room;
        marked = marks_kept words (λ i l. others (t.n + i) (omega arith)) h.marked;
        lip = h.lip;
        lsp = h.lsp;
        kept = h.kept;
        visits = h.visits;
        behind = h.behind;
        moved = rw long h.moved;
      }

module _ (run : Run) {body s out : List ℕ} {w : Stand} (H : Fresh run body s out w) where
  abbrev F : Family
  F = family_of run

  abbrev k : ℕ
  k = run.level.0

  abbrev t : Stretch
  t = run.stretch

  abbrev C : Side Chan
  C = side run s body

  abbrev l : Lists
  l = lists_of run s w

  abbrev x₀ : Chan
  x₀ = chan out (values_in run.stretch.n s) w.at.at

  L : Lawful F
  L = trees_lawful run.z (legal run.z H.proper.legal)

  -- where the pass begins, and what its first two steps make
  abbrev first : Stand
  first = record { fill = emptied w.fill; at = w.at }

  abbrev second : Course Chan
  second = visited_all F k (listing C) l.lis (tried_all (listing C) l.lip (begun l x₀))

  lip_count : length (held t s w.fill).lip ≡ w.fill.lip
  lip_count = ap length (held_waiting t s w.fill) ∙ waiting_length t.n 0 w.fill.lip s H.fits.room (omega (arith, H.fits.lip))

  first_fits : Fits t s (raised first.fill w.fill.lip)
  first_fits = subst (Fits t s) (ap with_lip (sym (zero-add w.fill.lip))) H.fits
    where
      with_lip : ℕ → Fill
      with_lip x =
          record {
            lip = x;
            lsp = w.fill.lsp;
            kept = w.fill.kept;
            visited = w.fill.visited;
            left = w.fill.left;
            moved = w.fill.moved;
          }

  both_fit : w.fill.lip + w.fill.lsp ≤ t.n
  both_fit = omega (arith, room_held H.room, lip_count)

  first_todo : (held t s first.fill).todo ≡ l.lis
  first_todo = ap (λ h. h.todo) (held_fresh t s w.fill H.kept H.moved)

  pass_moved : (pass_of run body s out w).moved ≡ second.moved
  pass_moved = ap (λ c. c.moved) (passed_steps F k C l x₀ ∙ sharpened_lists C l.lsp second)

  -- step 1, with the fill as the code has made it
  module _ {f : Fill} (e : f ≡ emptied w.fill) where
    pub lip_testing : Testing run w.fill.lip s (record { fill = f; at = w.at })
    lip_testing =
        subst (λ x. Testing run w.fill.lip s (record { fill = x; at = w.at })) (sym e)
        (record {
          plane = H.proper.plane;
          size = H.proper.size;
          fits = first_fits;
          room = omega (arith, both_fit);
          place = omega (arith, both_fit, H.place, H.proper.from, H.fits.lip);
          inside =
              all_waiting (Inside run.stretch) t.n 0 w.fill.lip s H.fits.room (omega (arith, H.fits.lip))
              (subst (All (Inside run.stretch)) (held_waiting t s w.fill) (all_then _ _ l.lip (inside_level H.proper) H.placed.lips));
        })

  module _ {f : Fill} (e : f ≡ emptied w.fill) {s₁ out₁ : List ℕ} {w₁ : Stand}
      (T₀ : Tested run body (waiting t.n f.lip w.fill.lip s) s out (record { fill = f; at = w.at }) s₁ out₁ w₁) where
    T : Tested run body (waiting t.n 0 w.fill.lip s) s out first s₁ out₁ w₁
    T = subst (λ x. Tested run body (waiting t.n x.lip w.fill.lip s) s out (record { fill = x; at = w.at }) s₁ out₁ w₁) e T₀

    tested_visits : visits_of run body s₁ (held t s₁ w₁.fill).todo (course t s₁ out₁ w₁) ≡ second
    tested_visits =
        visits_side body _ _ T.around H.fits.behind
        ∙ ap₂ (visited_all F k (listing C)) (T.todo ∙ first_todo)
        (T.makes
        ∙ ap₂ (tried_all (listing C)) (sym (held_waiting t s w.fill))
        (ap (λ h. course_of h x₀) (held_fresh t s w.fill H.kept H.moved)))

    pub tested_ready : Underway run body s₁ out₁ w₁
    tested_ready =
        let u : (held t s₁ w₁.fill).todo ≡ l.lis = T.todo ∙ first_todo in
        let v : w₁.fill.visited ≡ 0 = T.visited ∙ H.visited in
        let r = room_tests H.room in
        let c = ap length (held_waiting t s w.fill) in
        record {
          fits = T.fits;
          away = omega (arith, H.away, ap length pass_moved, ap (λ y. length y.moved) tested_visits, T.around.long);
          room =
              let b : w₁.fill.lip + w₁.fill.lsp ≡ w.fill.lsp + length l.lip = omega (arith, T.both) in
              rw (u, v, b) r;
          queue = rw (u, v) H.queue;
          olds = omega (arith, H.olds, T.left);
          past = omega (arith, T.kept, T.moved, H.kept, H.moved);
          place = omega (arith, T.place, T.both, H.place);
        }

    -- after step 2
    module _ {s₂ out₂ : List ℕ} {w₂ : Stand} (ended : Visited run body s₁ out₁ w₁ s₂ out₂ w₂ × (w₂.fill.left ≤ 0)) where
      U : Visited run body s₁ out₁ w₁ s₂ out₂ w₂
      U = ended.0

      visited_course : course t s₂ out₂ w₂ ≡ second
      visited_course =
          let c = course t s₂ out₂ w₂ in
          sym (visited_all_none F k (listing (side run s₂ body)) c)
          ∙ ap (λ y. visits_of run body s₂ y c) (sym (todo_none t s₂ w₂.fill (omega (arith, ended.1))))
          ∙ U.makes
          ∙ tested_visits

      visited_around : Around run w₂.fill.moved s s₂
      visited_around = around_then T.around U.around (omega (arith, T.moved, U.moved))

      known_same : known t.n w.fill.lsp s₂ ≡ l.lsp
      known_same =
          U.known w.fill.lsp T.lsp ∙ T.known w.fill.lsp (omega arith) ∙ sym (held_known t s w.fill)

      -- no word is too large to be refined
      known_growth : reads run ≡ true → Growth run.stretch.first run.plane.0 (2 ^ 30) (values_in t.n s₂) (known t.n w.fill.lsp s₂)
      known_growth r =
          let K = growth_kept run (2 ^ 30) (omega (arith, pow_mono {i = run.plane.0} {j = 17} (omega (arith, H.proper.plane)))) s body F k in
          let G : Growth run.stretch.first run.plane.0 (2 ^ 30) second.side.values l.lsp =
          kept_visited_all K L _ l.lis l.lsp (kept_tried_all K (begun l x₀) l.lip l.lis l.lsp (H.growth r)) in
          subst (Growth run.stretch.first run.plane.0 (2 ^ 30) (values_in t.n s₂)) (sym known_same)
          (subst (λ y. Growth run.stretch.first run.plane.0 (2 ^ 30) y.side.values l.lsp) (sym visited_course) G)

      pub visited_refining : Refining run w.fill.lsp s₂ w₂.at
      visited_refining =
          let R = U.ready in
          record {
            plane = H.proper.plane;
            size = H.proper.size;
            room = R.fits.room;
            few = H.fits.lsp;
            place = omega (arith, R.place, H.proper.from, room_held R.room, room_slots L R.room, H.fits.lsp);
            growth = known_growth;
            inside =
                all_known (Inside run.stretch) t.n w.fill.lsp s₂ R.fits.room H.fits.lsp
                (subst (All (Inside run.stretch)) (sym known_same) (all_then _ _ l.lsp (inside_level H.proper) H.placed.lsps));
          }

      -- the whole
      pub ran : {s₃ out₃ : List ℕ} {a : BitPosition} → Refined run body (known t.n w.fill.lsp s₂) s₂ out₂ w₂.at s₃ out₃ a
          → Ran run body s out w s₃ out₃ (record { fill = w₂.fill; at = a })
      ran {s₃} {out₃} {a} R =
          let x₂ = chan out₂ (values_in t.n s₂) w₂.at.at in
          record {
            makes =
                ap₂ course_of (held_others t s₂ s₃ R.long R.others U.ready.fits)
                (R.makes ∙ ap₂ (λ S ps. sharpened_all S ps x₂) (side_same visited_around H.fits.behind body) known_same)
                ∙ sym (sharpened_lists C l.lsp (course t s₂ out₂ w₂))
                ∙ ap (sharpened_all (listing C) l.lsp) visited_course
                ∙ sym (passed_steps F k C l x₀);
            fits = fits_others t s₂ s₃ R.long R.others U.ready.fits (λ c. R.values (codes_reads t.role c));
            around = around_then visited_around (around_refined w₂.fill.moved R H.fits.behind) (omega arith);
          }
