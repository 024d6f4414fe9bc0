-- Step 1, and the offspring of an opened set: what the test of a coefficient makes of lists and side, and several tests in order.
use mathlib.Core.Path.{◌≡◌, refl, sym, ap, ap₂, ◌∙◌, subst}
use mathlib.Core.Bool.{Bool, true, false}
use mathlib.Core.List.{List, [], ◌∷◌, ◌++◌, map}
use Prim.Native.Nat.{ℕ, ◌+◌, ◌*◌, ◌≤◌, ◌<◌}
use native.Mathlib.Omega.{arith}
use lib.ListN.{length, length-append}
use Rattle.bits.specs.declared.BitPosition.{BitPosition}
use Rattle.bits.specs.declared.BitRead.{BitRead}
use Rattle.rules.specs.Document.Passes.{Event, significant?, negative?, to_lip, to_lsp, Side, listing}
use Rattle.rules.specs.Laws.Pass.Steps.{sign_noted, tried, tried_all}
use Rattle.rules.proofs.Laws.Pass.Steps.{tried_insignificant, tried_significant, tried_to_lip, tried_to_lsp, tried_all_append}
use Rattle.stretches.specs.Seg.{seg, seg_same}
use Rattle.stretches.specs.Cut.{lip_from, lsp_from, lis_from, values_in}
use Rattle.lists.specs.declared.Stretch.{Stretch}
use Rattle.lists.specs.declared.Fill.{Fill}
use Rattle.lists.specs.Lists.{Inside, Marked, coefficient, entry, sets, waiting, known, Held, held, Fits, LipPushed, LspPushed, PushedBy}
use Rattle.lists.specs.Lists.{lip_at, waiting_add, waiting_one, waiting_none, waiting_length}
use Rattle.lists.specs.Besides.{beside_values, held_same, marked_same, marks_kept, fits_fewer, spared_pushed}
use Rattle.testing.specs.declared.Run.{Run}
use Rattle.testing.specs.declared.Stand.{Stand}
use Rattle.testing.specs.declared.Told.{Told}
use Rattle.testing.specs.declared.Ends.{Ends}
use Rattle.testing.specs.Exchange.{Chan, chan, codes_reads, noted_values, side, notes, Replied, Noted, Around, quiet_to_lip}
use Rattle.testing.specs.Exchange.{around_then, around_beside, around_noted, side_same}
use Rattle.testing.specs.Telling.{Answered, NotedBy}
use Rattle.testing.specs.Finding.{course_of, course, ends_of, moved_to, Testing, Tested, stood, tested_none}

one_tried : {S : Type 0} (C : Side S) (p : ℕ) (s : S) → tried_all C (p ∷ []) s ≡ tried C p s
unfolding tried_all
one_tried C p s = refl

-- lists are as they were where a value was noted
module _ {run : Run} {at : ℕ} {e : Event} {s s' : List ℕ} (N : Noted run at e s s') where
  abbrev n : ℕ
  n = run.stretch.n

  noted_seg : (b m : ℕ) → n ≤ b → seg b m s' ≡ seg b m s
  noted_seg b m l = seg_same b m s s' N.long (λ j k _. N.others j (omega arith))

  noted_sets : (b m : ℕ) → n ≤ b → sets b m s' ≡ sets b m s
  unfolding sets
  noted_sets b m l = ap (map entry) (noted_seg b m l)

  noted_waiting : (i m : ℕ) → waiting n i m s' ≡ waiting n i m s
  unfolding waiting lip_from
  noted_waiting i m = ap (map coefficient) (noted_seg (n + i) m (omega arith))

  noted_lip : (i : ℕ) → lip_at n i s' ≡ lip_at n i s
  unfolding lip_at lip_from
  noted_lip i = N.others (n + i) (omega arith)

  pub noted_known : (m : ℕ) → known n m s' ≡ known n m s
  unfolding known lsp_from
  noted_known m = ap (map coefficient) (noted_seg (n + n) m (omega arith))

  module _ {f : Fill} (g : Fits run.stretch s f) where
    noted_held : held run.stretch s' f ≡ held run.stretch s f
    unfolding held lis_from
    noted_held =
        held_same (noted_waiting 0 f.lip) (noted_known f.lsp) (noted_sets (n + n + n) f.kept (omega arith))
        (noted_sets (n + n + n + f.visited) f.left (omega arith)) (noted_sets run.stretch.away f.moved (omega (arith, g.behind)))

    noted_fits : Fits run.stretch s' f
    noted_fits =
        record {
          room = rw N.long g.room;
          marked = marks_kept (λ c. noted_values N (codes_reads run.stretch.role c)) (λ i k. noted_lip i) g.marked;
          lip = g.lip;
          lsp = g.lsp;
          kept = g.kept;
          visits = g.visits;
          behind = g.behind;
          moved = rw N.long g.moved;
        }

module _ (run : Run) (body : List ℕ) (x : ℕ) (s out : List ℕ) (w : Stand) (found : BitRead) (out₁ : List ℕ)
    (R : Replied (side run s body) (significant? x) out w.at found out₁) where
  abbrev C : Side Chan
  C = side run s body

  abbrev t : Stretch
  t = run.stretch

  abbrev vs : List ℕ
  vs = values_in run.stretch.n s

  abbrev y : Chan
  y = chan out vs w.at.at

  insignificant_side : found.bit ≡ false → tried C x y ≡ chan out₁ vs found.next.at
  insignificant_side h =
      tried_insignificant C x y (R.bit vs ∙ h) ∙ ap (C.note (to_lip x)) (R.next vs) ∙ notes run s body (to_lip x) out₁ vs found.next.at
      ∙ ap (λ v. chan out₁ v found.next.at) (quiet_to_lip run found.next.at x vs)

  tested_insignificant : {s' : List ℕ} {f : Fill} → found.bit ≡ false → LipPushed run.stretch s w.fill x s' f
      → Tested run body (x ∷ []) s out w s' out₁ (record { fill = f; at = found.next })
  tested_insignificant {s'} h L =
      record {
        makes =
            ap₂ course_of L.holds (ap (λ v. chan out₁ v found.next.at) (beside_values L.beside) ∙ sym (insignificant_side h))
            ∙ sym (tried_to_lip C x (course t s out w) (R.bit vs ∙ h)) ∙ sym (one_tried (listing C) x (course t s out w));
        todo = ap (λ h. h.todo) L.holds;
        fits = L.fits;
        around = subst (λ (m : ℕ). Around run m s s') (ap (λ h. h.moved) L.fill) (around_beside L.beside);
        ahead = λ i a b. L.ahead i (omega arith) b;
        known = L.known;
        visited = ap (λ h. h.visited) L.fill;
        left = ap (λ h. h.left) L.fill;
        kept = ap (λ h. h.kept) L.fill;
        moved = ap (λ h. h.moved) L.fill;
        both = omega (arith, ap (λ h. h.lip) L.fill, ap (λ h. h.lsp) L.fill);
        lip = omega (arith, ap (λ h. h.lip) L.fill);
        lsp = omega (arith, ap (λ h. h.lsp) L.fill);
        place = omega (arith, R.place);
      }

  module _ (sign : BitRead) (out₂ : List ℕ) (s₁ : List ℕ) (Q : Replied (side run s body) (negative? x) out₁ found.next sign out₂)
      (h : found.bit ≡ true) (N : Noted run sign.next.at (to_lsp x sign.bit) s s₁) where
    significant_side : tried C x y ≡ chan out₂ (values_in run.stretch.n s₁) sign.next.at
    unfolding sign_noted
    significant_side =
        tried_significant C x y (R.bit vs ∙ h)
        ∙ ap (λ z. sign_noted C x (C.reply (negative? x) z)) (R.next vs)
        ∙ ap₂ (λ b z. C.note (to_lsp x b) z) (Q.bit vs) (Q.next vs)
        ∙ notes run s body (to_lsp x sign.bit) out₂ vs sign.next.at
        ∙ ap (λ v. chan out₂ v sign.next.at) (sym N.values)

    tested_significant : {s' : List ℕ} {f : Fill} → Fits run.stretch s w.fill → LspPushed run.stretch s₁ w.fill x s' f
        → Tested run body (x ∷ []) s out w s' out₂ (record { fill = f; at = sign.next })
    tested_significant {s'} F L =
        let e : held t s₁ w.fill ≡ held t s w.fill = noted_held N F in
        let pushed : Held → Held =
        λ h. record { lip = h.lip; lsp = h.lsp ++ (x ∷ []); kept = h.kept; todo = h.todo; moved = h.moved } in
        record {
          makes =
              ap₂ course_of (L.holds ∙ ap pushed e) (ap (λ v. chan out₂ v sign.next.at) (beside_values L.beside) ∙ sym significant_side)
              ∙ sym (tried_to_lsp C x (course t s out w) (R.bit vs ∙ h)) ∙ sym (one_tried (listing C) x (course t s out w));
          todo = ap (λ h. h.todo) L.holds ∙ ap (λ h. h.todo) e;
          fits = L.fits;
          around =
              subst (λ (m : ℕ). Around run m s s') (ap (λ h. h.moved) L.fill)
              (around_then (around_noted 0 N F.behind) (around_beside L.beside) (omega arith));
          ahead = λ i a b. L.ahead i (omega arith) b ∙ noted_lip N i;
          known = λ m a. L.known m a ∙ noted_known N m;
          visited = ap (λ h. h.visited) L.fill;
          left = ap (λ h. h.left) L.fill;
          kept = ap (λ h. h.kept) L.fill;
          moved = ap (λ h. h.moved) L.fill;
          both = omega (arith, ap (λ h. h.lip) L.fill, ap (λ h. h.lsp) L.fill);
          lip = omega (arith, ap (λ h. h.lip) L.fill);
          lsp = omega (arith, ap (λ h. h.lsp) L.fill);
          place = omega (arith, R.place, Q.place);
        }

-- a coefficient, found or not
pub noted_by_fits : {bit : Bool} {run : Run} {at x : ℕ} {negative : Bool} {f : Fill} {s s' : List ℕ} → NotedBy bit run at x negative f s s'
    → Fits run.stretch s f → Fits run.stretch s' f
noted_by_fits {bit} {run} {f = f} {s' = s'} N g = by bit refl
  where
    by : (b : Bool) → bit ≡ b → Fits run.stretch s' f
    by true e = noted_fits (N.found e) g
    by false e = (N.missed e).fits

-- the same of a coefficient by another name
pub noted_as : {bit : Bool} {run : Run} {at x y : ℕ} {negative : Bool} {f : Fill} {s s' : List ℕ} → x ≡ y → NotedBy bit run at x negative f s s'
    → NotedBy bit run at y negative f s s'
noted_as {bit} {run} {at} {negative = negative} {f} {s} {s'} e N = subst (λ (z : ℕ). NotedBy bit run at z negative f s s') e N

-- An entry that is marked stays so where nothing but what is noted has changed.
pub noted_by_marked : {bit : Bool} {run : Run} {at x : ℕ} {negative : Bool} {f : Fill} {s s' : List ℕ} {e : ℕ}
    → NotedBy bit run at x negative f s s' → Marked run.stretch s e → Marked run.stretch s' e
noted_by_marked {bit} {run} {s' = s'} {e} N m = by bit refl
  where
    by : (b : Bool) → bit ≡ b → Marked run.stretch s' e
    by true d = marked_same (λ c. noted_values (N.found d) (codes_reads run.stretch.role c)) m
    by false d = marked_same (λ c. (N.missed d).beside.values) m

pub tested_by : {run : Run} {body : List ℕ} {x : ℕ} {s out : List ℕ} {w : Stand} {r : Told} {s₁ out' s' : List ℕ} {f : Fill}
    → Answered (side run s body) x out w.at r out' → NotedBy r.found run r.next.at x r.negative w.fill s s₁
    → PushedBy r.found run.stretch s₁ w.fill x s' f → Fits run.stretch s w.fill
    → Tested run body (x ∷ []) s out w s' out' (record { fill = f; at = r.next })
tested_by {run} {body} {x} {s} {out} {w} {r} {s₁} {out'} {s'} {f} A N P g = by r.found refl
  where
    by : (b : Bool) → r.found ≡ b → Tested run body (x ∷ []) s out w s' out' (record { fill = f; at = r.next })
    by true e =
        let told = A.found e in
        tested_significant run body x s out w told.first told.between told.significant (record { bit = r.negative; next = r.next }) out' s₁
        told.negative told.found (N.found e) g (P.to_lsp_lem e)
    by false e =
        tested_insignificant run body x s out w (record { bit = false; next = r.next }) out' (A.missed e) refl
        (spared_pushed (N.missed e) (P.to_lip_lem e))

-- nothing but the ends has moved
stand_same : {k k' v v' l l' m m' : ℕ} (x y : ℕ) (a : BitPosition) → k ≡ k' → v ≡ v' → l ≡ l' → m ≡ m'
    → ◌≡◌ {A = Stand} (record { fill = record { lip = x; lsp = y; kept = k; visited = v; left = l; moved = m }; at = a })
    (record { fill = record { lip = x; lsp = y; kept = k'; visited = v'; left = l'; moved = m' }; at = a })
stand_same x y a k v l m = cc

pub ends_moved : {run : Run} {body ps s out s' out' : List ℕ} {w r : Stand} {e : Ends} → Tested run body ps s out w s' out' r → e ≡ ends_of r
    → Tested run body ps s out w s' out' (moved_to w e)
ends_moved {w = w} {r} T q =
    stood (ap (moved_to w) q ∙ stand_same r.fill.lip r.fill.lsp r.at (sym T.kept) (sym T.visited) (sym T.left) (sym T.moved)) T

pub moved_from : {run : Run} {body ps s out s' out' : List ℕ} {w v : Stand} {e : Ends} → w ≡ v → Tested run body ps s out w s' out' (moved_to w e)
    → Tested run body ps s out v s' out' (moved_to v e)
moved_from {run} {body} {ps} {s} {out} {s'} {out'} {e = e} q T = subst (λ x. Tested run body ps s out x s' out' (moved_to x e)) q T

-- one after another
pub tested_on : {run : Run} {body ps qs s out s₁ out₁ s₂ out₂ : List ℕ} {w w₁ w₂ : Stand}
    → Tested run body ps s out w s₁ out₁ w₁ → Tested run body qs s₁ out₁ w₁ s₂ out₂ w₂ → Tested run body (ps ++ qs) s out w s₂ out₂ w₂
tested_on {run} {body} {ps} {qs} {s} {out} {s₁} {out₁} {s₂} {w = w} {w₁} a b =
    let l : length (ps ++ qs) ≡ length ps + length qs = length-append ps qs in
    let C : Side Chan = side run s body in
    let same : side run s₁ body ≡ C = side_same a.around a.fits.behind body in
    record {
      makes =
          b.makes ∙ ap (λ D. tried_all (listing D) qs (course run.stretch s₁ out₁ w₁)) same ∙ ap (tried_all (listing C) qs) a.makes
          ∙ sym (tried_all_append (listing C) ps qs (course run.stretch s out w));
      todo = b.todo ∙ a.todo;
      fits = b.fits;
      around = subst (λ (m : ℕ). Around run m s s₂) a.moved (around_then a.around b.around (omega (arith, a.moved)));
      ahead = λ i g h. b.ahead i (omega (arith, a.both, a.lsp)) h ∙ a.ahead i (omega arith) h;
      known = λ m g. b.known m (omega (arith, a.lsp)) ∙ a.known m g;
      visited = b.visited ∙ a.visited;
      left = b.left ∙ a.left;
      kept = b.kept ∙ a.kept;
      moved = b.moved ∙ a.moved;
      both = omega (arith, a.both, b.both);
      lip = omega (arith, a.lip, b.lip);
      lsp = omega (arith, a.lsp, b.lsp);
      place = omega (arith, a.place, b.place);
    }

-- the loop: the next entry is the one that waited there at the beginning
module _ (run : Run) {body : List ℕ} {m i : ℕ} {s out : List ℕ} {w : Stand} {s₁ out₁ : List ℕ} {w₁ : Stand} (H : Testing run m s w)
    (T : Tested run body (waiting run.stretch.n w.fill.lip i s) s out w s₁ out₁ w₁) (more : i < m) where
  abbrev size : ℕ
  size = run.stretch.n

  abbrev first : ℕ
  first = w.fill.lip

  pub each-length : length (waiting size first i s) ≡ i
  each-length = waiting_length size first i s H.fits.room (omega (arith, H.room))

  pub each_there : (4 * size ≤ length s₁) × (first + i < size)
  each_there = (T.fits.room, omega (arith, H.room))

  module _ {e : ℕ} (at : e ≡ lip_at size (first + i) s₁) where
    each-is : e ≡ lip_at size (first + i) s
    each-is = at ∙ T.ahead (first + i) (omega (arith, each-length)) each_there.1

    pub each_inside : Inside run.stretch (coefficient e)
    each_inside = subst (λ (y : ℕ). Inside run.stretch (coefficient y)) (sym each-is) (H.inside i more)

    pub each_marked : Marked run.stretch s₁ e
    each_marked =
        marked_same (λ c. T.around.values (codes_reads run.stretch.role c))
        (subst (Marked run.stretch s) (sym each-is) (H.fits.marked (first + i) (omega arith)))

    pub each_next : {s₂ out₂ : List ℕ} {w₂ : Stand} → Tested run body (coefficient e ∷ []) s₁ out₁ w₁ s₂ out₂ w₂
        → Tested run body (waiting size first (i + 1) s) s out w s₂ out₂ w₂
    each_next {s₂} {out₂} {w₂} U =
        let one = waiting_one size (first + i) s H.fits.room each_there.1 ∙ ap (λ (y : ℕ). coefficient y ∷ []) (sym each-is) in
        let a : waiting size first i s ++ (coefficient e ∷ []) ≡ waiting size first (i + 1) s =
        sym (waiting_add size first i 1 s ∙ ap (λ z. waiting size first i s ++ z) one) in
        subst (λ ps. Tested run body ps s out w s₂ out₂ w₂) a (tested_on T U)

pub each_none : (run : Run) (body s out : List ℕ) (w : Stand) {m : ℕ} → Testing run m s w
    → Tested run body (waiting run.stretch.n w.fill.lip 0 s) s out w s out w
each_none run body s out w {m} H =
    subst (λ ps. Tested run body ps s out w s out w) (sym (waiting_none run.stretch.n w.fill.lip s))
    (tested_none run body s out w (fits_fewer m H.fits))
