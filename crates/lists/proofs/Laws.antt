-- What a store at the end of a list makes of all that the stretch holds.
use mathlib.Core.Path.{◌≡◌, refl, sym, ap, ap₂, ◌∙◌, subst}
use mathlib.Core.Bool.{Bool, true, false, cond}
use mir.Val.{bool_byte}
use mathlib.Core.List.{List, [], ◌∷◌, ◌++◌, map, map-append, append_assoc}
use Prim.Native.Nat.{ℕ, zero, suc, ◌+◌, ◌-◌, ◌*◌, ◌/◌, ◌%◌, ◌^◌, ◌≤◌, ◌<◌}
use lib.Pow.{pow_mono}
use Rattle.std.proofs.Math.Nat.{add-zero, zero-add}
use Rattle.std.proofs.lemmas.List.{append-nil, length-take}
use native.Mathlib.Omega.{arith}
use native.Mathlib.Decide.{dec_lt}
use borrow.Author.Tests.{eq-eqb, ne_eqb}
use lib.ListN.{length, get_or, set, take, drop, length-set, length-append}
use lib.Seq.{get_or-set_same, get_or-set_other, take_at, drop_at}
use Rattle.rules.specs.Document.Pyramid.{planes_of}
use Rattle.rules.specs.Document.Passes.{Entry, typeA, typeB}
use Rattle.rules.proofs.Laws.Rounding.Planes.{planes_of_counts}
use Rattle.stretches.specs.Seg.{seg, seg-cons, seg_below, seg_above, seg_snoc}
use Rattle.stretches.specs.Cut.{set_room, lip_from, lsp_from, lis_from, maxima_from, values_in, values_at}
use Rattle.lists.specs.declared.Role.TheVariants.{Reads}
use Rattle.lists.specs.declared.Stretch.{Stretch}
use Rattle.lists.specs.declared.Fill.{Fill}
use Rattle.lists.specs.Lists.{coefficient, mark_of, Marked, Inside, entry, four_from, sets, waiting, known, lip_at, lsp_at, held, Fits, Beside}
use Rattle.lists.specs.Lists.{LipPushed, LspPushed, PushedBy, raised, LinedUp}
use Rattle.lists.specs.Lists.{NextSet, SetAdded, SetKept, SetMoved, waiting_add, waiting_length}
use Rattle.lists.specs.Besides.{held_same, beside_none, beside_then, marked_same, marked_none, marks_kept}

-- entry
pub entry_even : (m : ℕ) → m % 2 ≡ 0 → entry m ≡ typeA (m / 2)
unfolding entry
entry_even m h = rw (eq-eqb (m % 2) 0 h)

pub entry_odd : (m : ℕ) → (m % 2 ≡ 0 → ⊥) → entry m ≡ typeB (m / 2)
unfolding entry
entry_odd m h = rw (ne_eqb (m % 2) 0 h)

pub entry_a : (p : ℕ) → entry (p * 2) ≡ typeA p
entry_a p = entry_even (p * 2) (omega arith) ∙ ap typeA (omega arith)

pub entry_b : (p : ℕ) → entry (p * 2 + 1) ≡ typeB p
entry_b p = entry_odd (p * 2 + 1) (λ e. omega arith) ∙ ap typeB (omega arith)

-- a list of what entries stand for, and a store before it, behind it and at its end; its first
module _ {X : Type 0} (f : ℕ → X) (b m : ℕ) (s : List ℕ) where
  below : (i a : ℕ) → i < b → map f (seg b m (set s i a)) ≡ map f (seg b m s)
  below i a h = ap (map f) (seg_below b m s i a h)

  above : (i a : ℕ) → b + m ≤ i → map f (seg b m (set s i a)) ≡ map f (seg b m s)
  above i a h = ap (map f) (seg_above b m s i a h)

  snoc : (i a : ℕ) (e : X) → f a ≡ e → i ≡ b + m → i < length s → map f (seg b (m + 1) (set s i a)) ≡ map f (seg b m s) ++ (e ∷ [])
  snoc i a e q j h =
      ap (map f) (seg_snoc b m s i a j h) ∙ map-append f (seg b m s) (a ∷ []) ∙ ap (λ x. map f (seg b m s) ++ (x ∷ [])) q

sets_cons : (b c m : ℕ) (s : List ℕ) (e : Entry) → entry (get_or s b 0) ≡ e → c ≡ b + 1 → b < length s → 0 < m → sets b m s ≡ e ∷ sets c (m - 1) s
unfolding sets
sets_cons b c m s e q j h l = ap (map entry) (seg-cons b m s h l) ∙ rw (q, j)

-- a mark, and an entry with it or without
pub planes_few : (m : ℕ) → m < 2 ^ 31 → planes_of m < 32
planes_few m h = by (dec_lt (planes_of m) 32)
  where
    by : Dec (planes_of m < 32) → planes_of m < 32
    by (yes l) = l
    by (no l) = absurd (omega (arith, (planes_of_counts m (omega arith)).least, pow_mono {i = 32} {j = planes_of m} (omega arith)))

module _ (t : Stretch) (s : List ℕ) (x : ℕ) (small : x < 2 ^ 26) where
  pub unmarked_made : t.role ≡ Reads → (coefficient (64 * x) ≡ x) × (64 * x < 2 ^ 32) × Marked t s (64 * x)
  unfolding coefficient
  unmarked_made r = (omega arith, omega arith, marked_none r)

  pub marked_made : {v m : ℕ} → Inside t x → v ≡ get_or (values_in t.n s) (x - t.first) 0 → (m ≡ mark_of v) × (m < 64)
      → (coefficient (64 * x + m) ≡ x) × (64 * x + m < 2 ^ 32) × Marked t s (64 * x + m)
  unfolding coefficient
  marked_made {v} {m} i e k =
      let at : (64 * x + m) / 64 ≡ x = omega (arith, k.1) in (
        at,
        omega (arith, k.1),
        record {
          inside = λ c. (omega (arith, at, i.0), omega (arith, at, i.1));
          mark =
              λ c. omega (arith, k.1) ∙ k.0 ∙ ap mark_of (e ∙ values_at t.n s (x - t.first) (omega (arith, i.0, i.1)))
              ∙ ap (λ (y : ℕ). mark_of (get_or s (y - t.first) 0)) (sym at);
        },
      )

-- an entry read
pub lip_read : (n i at : ℕ) (s : List ℕ) → at ≡ lip_from n + i → get_or s at 0 ≡ lip_at n i s
unfolding lip_at
lip_read n i at s e = ap (λ (x : ℕ). get_or s x 0) e

pub lsp_read : (n i at : ℕ) (s : List ℕ) → at ≡ lsp_from n + i → get_or s at 0 ≡ lsp_at n i s
unfolding lsp_at
lsp_read n i at s e = ap (λ (x : ℕ). get_or s x 0) e

module _ (t : Stretch) (s : List ℕ) (f : Fill) (h : Fits t s f) where
  -- a store to one of the three lists, and one to the sets that move out
  listed_beside : (m i a : ℕ) → t.n ≤ i → i < maxima_from t.n → Beside t m s (set s i a)
  unfolding maxima_from
  listed_beside m i a b e =
      let out = h.behind in
      record {
        long = length-set s i a;
        values = λ j k. get_or-set_other s i j a 0 (λ x. omega arith);
        others = λ j k l. get_or-set_other s i j a 0 (λ x. omega arith);
        rest = λ j k. get_or-set_other s i j a 0 (λ x. omega arith);
      }

  moved_beside : (i a : ℕ) → i ≡ t.away + f.moved → Beside t (f.moved + 1) s (set s i a)
  moved_beside i a e =
      let out = h.behind in
      record {
        long = length-set s i a;
        values = λ j k. get_or-set_other s i j a 0 (λ x. omega arith);
        others = λ j k l. get_or-set_other s i j a 0 (λ x. omega arith);
        rest = λ j k. get_or-set_other s i j a 0 (λ x. omega arith);
      }

  -- LIP's entries stay marked, and so does one more
  still_marked : (i a : ℕ) → t.n + f.lip ≤ i → (j : ℕ) → j < f.lip → Marked t (set s i a) (lip_at t.n j (set s i a))
  unfolding lip_at lip_from
  still_marked i a l =
      marks_kept (λ c j k. get_or-set_other s i j a 0 (λ x. omega arith)) (λ j k. get_or-set_other s i (t.n + j) a 0 (λ x. omega arith)) h.marked

  one_more_marked : (i e : ℕ) → Marked t s e → i ≡ t.n + f.lip → i < length s → (j : ℕ) → j < f.lip + 1
      → Marked t (set s i e) (lip_at t.n j (set s i e))
  unfolding lip_at lip_from
  one_more_marked i e m q r j l = by (dec_lt j f.lip)
    where
      by : Dec (j < f.lip) → Marked t (set s i e) (get_or (set s i e) (t.n + j) 0)
      by (yes k) = still_marked i e (omega arith) j k
      by (no k) =
          let at : t.n + j ≡ i = omega arith in
          subst (Marked t (set s i e)) (sym (ap (λ (x : ℕ). get_or (set s i e) x 0) at ∙ get_or-set_same s i e 0 r))
          (marked_same (λ c x y. get_or-set_other s i x e 0 (λ z. omega arith)) m)

  pub push_lip_law : {x : ℕ} (e i : ℕ) → coefficient e ≡ x → Marked t s e → i ≡ lip_from t.n + f.lip → f.lip < t.n
      → LipPushed t s f x (set s i e)
      (record { lip = f.lip + 1; lsp = f.lsp; kept = f.kept; visited = f.visited; left = f.left; moved = f.moved })
  unfolding held waiting known sets lip_at lip_from lsp_from lis_from maxima_from
  push_lip_law {x} e i q m j l =
      let n : ℕ = t.n in
      let room = h.room in
      let out = h.behind in
      record {
        fill = refl;
        holds =
            held_same (snoc coefficient (n + 0) f.lip s i e x q (omega arith) (omega arith)) (below coefficient (n + n) f.lsp s i e (omega arith))
            (below entry (n + n + n) f.kept s i e (omega arith)) (below entry (n + n + n + f.visited) f.left s i e (omega arith))
            (below entry t.away f.moved s i e (omega arith));
        fits = record {
          room = rw (length-set s i e) room;
          marked = one_more_marked i e m (omega arith) (omega arith);
          lip = omega arith;
          lsp = h.lsp;
          kept = h.kept;
          visits = h.visits;
          behind = out;
          moved = rw (length-set s i e) h.moved;
        };
        beside = listed_beside f.moved i e (omega arith) (omega arith);
        ahead = λ b a c. get_or-set_other s i (n + b) e 0 (λ y. omega arith);
        known = λ b a. below coefficient (n + n) b s i e (omega arith);
      }

  pub push_lsp_law : {x : ℕ} (e i : ℕ) → coefficient e ≡ x → i ≡ lsp_from t.n + f.lsp → f.lsp < t.n
      → LspPushed t s f x (set s i e)
      (record { lip = f.lip; lsp = f.lsp + 1; kept = f.kept; visited = f.visited; left = f.left; moved = f.moved })
  unfolding held waiting known sets lip_at lip_from lsp_from lis_from maxima_from
  push_lsp_law {x} e i q j l =
      let n : ℕ = t.n in
      let room = h.room in
      let out = h.behind in
      let a = h.lip in
      record {
        fill = refl;
        holds =
            held_same (above coefficient (n + 0) f.lip s i e (omega arith)) (snoc coefficient (n + n) f.lsp s i e x q j (omega arith))
            (below entry (n + n + n) f.kept s i e (omega arith)) (below entry (n + n + n + f.visited) f.left s i e (omega arith))
            (below entry t.away f.moved s i e (omega arith));
        fits = record {
          room = rw (length-set s i e) room;
          marked = still_marked i e (omega arith);
          lip = a;
          lsp = omega arith;
          kept = h.kept;
          visits = h.visits;
          behind = out;
          moved = rw (length-set s i e) h.moved;
        };
        beside = listed_beside f.moved i e (omega arith) (omega arith);
        ahead = λ b a c. get_or-set_other s i (n + b) e 0 (λ y. omega arith);
        known = λ m a. above coefficient (n + n) m s i e (omega arith);
      }

  -- the end of the one list or the other, by a bit
  module _ (b : Bool) (i : ℕ) {lsp lip : ℕ} (e : i ≡ cond b lsp lip) (at-lsp : lsp ≡ lsp_from t.n + f.lsp) (at-lip : lip ≡ lip_from t.n + f.lip)
      (l : f.lip + f.lsp < t.n) where
    pub end_inside : i < length s
    unfolding lip_from lsp_from
    end_inside = by b e
      where
        by : (b : Bool) → i ≡ cond b lsp lip → i < length s
        by true d = omega (arith, h.room)
        by false d = omega (arith, h.room)

    pub push_by_law : {x : ℕ} (p : ℕ) → coefficient p ≡ x → Marked t s p → PushedBy b t s f x (set s i p)
        (record { lip = f.lip + 1 - bool_byte b; lsp = f.lsp + bool_byte b; kept = f.kept; visited = f.visited; left = f.left; moved = f.moved })
    push_by_law {x} p q m =
        record {
          to_lsp_lem =
              λ y. subst (λ r. LspPushed t s f x (set s i p) r) (ap₂ filled (omega (arith, ap bool_byte y)) (omega (arith, ap bool_byte y)))
              (push_lsp_law p i q (e ∙ ap (λ c. cond c lsp lip) y ∙ at-lsp) (omega arith));
          to_lip_lem =
              λ y. subst (λ r. LipPushed t s f x (set s i p) r) (ap₂ filled (omega (arith, ap bool_byte y)) (omega (arith, ap bool_byte y)))
              (push_lip_law p i q m (e ∙ ap (λ c. cond c lsp lip) y ∙ at-lip) (omega arith));
        }
      where
        filled : ℕ → ℕ → Fill
        filled x y = record { lip = x; lsp = y; kept = f.kept; visited = f.visited; left = f.left; moved = f.moved }

  pub next_set_law : (e : Entry) (i : ℕ) → i ≡ lis_from t.n + f.visited → entry (get_or s i 0) ≡ e → 0 < f.left → NextSet t s f e
  unfolding held lis_from set_room
  next_set_law e i j q l =
      let n : ℕ = t.n in
      let room = h.room in
      let v = h.visits in
      record {
        holds =
            held_same refl refl refl
            (rw (← j) (sets_cons i (n + n + n + (f.visited + 1)) f.left s e q (omega arith) (omega arith) l)) refl;
        fits = record {
          room = room;
          marked = h.marked;
          lip = h.lip;
          lsp = h.lsp;
          kept = omega (arith, h.kept);
          visits = omega arith;
          behind = h.behind;
          moved = h.moved;
        };
      }

  module _ (e : Entry) (a : ℕ) (q : entry a ≡ e) where
    pub add_set_law : (i : ℕ) → i ≡ lis_from t.n + f.visited + f.left → f.visited + f.left < set_room t.n
        → SetAdded t s f e (set s i a)
        (record { lip = f.lip; lsp = f.lsp; kept = f.kept; visited = f.visited; left = f.left + 1; moved = f.moved })
    unfolding held waiting known sets lip_from lsp_from lis_from maxima_from set_room
    add_set_law i j l =
        let n : ℕ = t.n in
        let room = h.room in
        let out = h.behind in
        let b = h.lip in
        let c = h.lsp in
        let d = h.kept in
        record {
          fill = refl;
          holds =
              held_same (above coefficient (n + 0) f.lip s i a (omega arith)) (above coefficient (n + n) f.lsp s i a (omega arith))
              (above entry (n + n + n) f.kept s i a (omega arith))
              (snoc entry (n + n + n + f.visited) f.left s i a e q j (omega arith))
              (below entry t.away f.moved s i a (omega arith));
          fits = record {
            room = rw (length-set s i a) room;
            marked = still_marked i a (omega arith);
            lip = b;
            lsp = c;
            kept = d;
            visits = omega arith;
            behind = out;
            moved = rw (length-set s i a) h.moved;
          };
          beside = listed_beside f.moved i a (omega arith) (omega arith);
          known = λ m g. above coefficient (n + n) m s i a (omega arith);
        }

    pub keep_set_law : (i : ℕ) → i ≡ lis_from t.n + f.kept → f.kept < f.visited
        → SetKept t s f e (set s i a)
        (record { lip = f.lip; lsp = f.lsp; kept = f.kept + 1; visited = f.visited; left = f.left; moved = f.moved })
    unfolding held waiting known sets lip_from lsp_from lis_from maxima_from set_room
    keep_set_law i j l =
        let n : ℕ = t.n in
        let room = h.room in
        let out = h.behind in
        let b = h.lip in
        let c = h.lsp in
        let d = h.visits in
        record {
          fill = refl;
          holds =
              held_same (above coefficient (n + 0) f.lip s i a (omega arith)) (above coefficient (n + n) f.lsp s i a (omega arith))
              (snoc entry (n + n + n) f.kept s i a e q j (omega arith))
              (below entry (n + n + n + f.visited) f.left s i a (omega arith))
              (below entry t.away f.moved s i a (omega arith));
          fits = record {
            room = rw (length-set s i a) room;
            marked = still_marked i a (omega arith);
            lip = b;
            lsp = c;
            kept = omega arith;
            visits = d;
            behind = out;
            moved = rw (length-set s i a) h.moved;
          };
          beside = listed_beside f.moved i a (omega arith) (omega arith);
          known = λ m g. above coefficient (n + n) m s i a (omega arith);
        }

    pub move_set_law : (i : ℕ) → i ≡ t.away + f.moved → t.away + f.moved < length s
        → SetMoved t s f e (set s i a)
        (record { lip = f.lip; lsp = f.lsp; kept = f.kept; visited = f.visited; left = f.left; moved = f.moved + 1 })
    unfolding held waiting known sets lip_from lsp_from lis_from set_room
    move_set_law i j l =
        let n : ℕ = t.n in
        let out = h.behind in
        let b = h.lip in
        let c = h.lsp in
        let d = h.visits in
        let g = h.kept in
        record {
          fill = refl;
          holds =
              held_same (above coefficient (n + 0) f.lip s i a (omega arith)) (above coefficient (n + n) f.lsp s i a (omega arith))
              (above entry (n + n + n) f.kept s i a (omega arith))
              (above entry (n + n + n + f.visited) f.left s i a (omega arith))
              (snoc entry t.away f.moved s i a e q j (omega arith));
          fits = record {
            room = rw (length-set s i a) h.room;
            marked = still_marked i a (omega arith);
            lip = b;
            lsp = c;
            kept = g;
            visits = d;
            behind = out;
            moved = rw (length-set s i a) (omega arith);
          };
          beside = moved_beside i a j;
          known = λ m x. above coefficient (n + n) m s i a (omega arith);
        }

-- Several coefficients were put at the end of LIP, one after another.
pub record Lengthened (xs : List ℕ) (t : Stretch) (s : List ℕ) (f : Fill) (s' : List ℕ) (r : Fill) : Type 0 where
  pub fill : r ≡ raised f (length xs)
  pub holds : held t s' r ≡ record {
    lip = (held t s f).lip ++ xs;
    lsp = (held t s f).lsp;
    kept = (held t s f).kept;
    todo = (held t s f).todo;
    moved = (held t s f).moved;
  }
  pub fits : Fits t s' r
  pub beside : Beside t r.moved s s'
  pub ahead : (i : ℕ) → f.lip + length xs ≤ i → i < t.n → lip_at t.n i s' ≡ lip_at t.n i s
  pub known : (m : ℕ) → m ≤ f.lsp → known t.n m s' ≡ known t.n m s

longer_one : {t : Stretch} {s s' : List ℕ} {f r : Fill} {x : ℕ} → LipPushed t s f x s' r → Lengthened (x ∷ []) t s f s' r
longer_one a =
    record {
      fill = a.fill;
      holds = a.holds;
      fits = a.fits;
      beside = a.beside;
      ahead = λ i h k. a.ahead i (omega arith) k;
      known = a.known;
    }

longer_on : {xs ys : List ℕ} {t : Stretch} {s s₁ s₂ : List ℕ} {f f₁ f₂ : Fill} → Lengthened xs t s f s₁ f₁ → Lengthened ys t s₁ f₁ s₂ f₂
    → Lengthened (xs ++ ys) t s f s₂ f₂
longer_on {xs} {ys} {t} {s} {f = f} a b =
    record {
      fill =
          b.fill
          ∙ ap (λ g. record { lip = g.lip + length ys; lsp = g.lsp; kept = g.kept; visited = g.visited; left = g.left; moved = g.moved }) a.fill
          ∙ ap (λ (x : ℕ). record { lip = x; lsp = f.lsp; kept = f.kept; visited = f.visited; left = f.left; moved = f.moved })
          (omega (arith, length-append xs ys));
      holds =
          b.holds
          ∙ ap (λ h. record { lip = h.lip ++ ys; lsp = h.lsp; kept = h.kept; todo = h.todo; moved = h.moved }) a.holds
          ∙ ap (λ x. record { lip = x; lsp = (held t s f).lsp; kept = (held t s f).kept; todo = (held t s f).todo; moved = (held t s f).moved })
          (append_assoc (held t s f).lip xs ys);
      fits = b.fits;
      beside = beside_then a.beside b.beside (omega (arith, ap (λ g. g.moved) b.fill));
      ahead = λ i h k.
          let l = length-append xs ys in
          b.ahead i (omega (arith, ap (λ g. g.lip) a.fill)) k ∙ a.ahead i (omega arith) k;
      known = λ m h. b.known m (omega (arith, ap (λ g. g.lsp) a.fill)) ∙ a.known m h;
    }

-- the two parts of a list, told by the length of the first
both_parts : (a b c d : List ℕ) → length a ≡ length b → a ++ c ≡ b ++ d → (a ≡ b) × (c ≡ d)
both_parts a b c d l e = (
  sym (take_at a c (length a) refl) ∙ ap (take (length a)) e ∙ take_at b d (length a) (sym l),
  sym (drop_at a c (length a) refl) ∙ ap (drop (length a)) e ∙ drop_at b d (length a) (sym l),
)

-- They wait behind LIP where its length is taken as it was.
lined : {xs : List ℕ} {t : Stretch} {s s' : List ℕ} {f r : Fill} → Fits t s f → f.lip + length xs ≤ t.n → Lengthened xs t s f s' r → LinedUp xs t s f s'
unfolding held
lined {xs} {t} {s} {s'} {f} {r} h l a =
    let n : ℕ = t.n in
    let g : Fits t s' (raised f (length xs)) = subst (Fits t s') a.fill a.fits in
    let e = ap (held t s') (sym a.fill) ∙ a.holds in
    let p : _ = both_parts (waiting n 0 f.lip s') (waiting n 0 f.lip s) (waiting n f.lip (length xs) s') xs
    (waiting_length n 0 f.lip s' g.room (omega arith) ∙ sym (waiting_length n 0 f.lip s h.room (omega arith)))
    (ap (λ (b : ℕ). waiting n 0 f.lip s' ++ waiting n b (length xs) s') (sym (zero-add f.lip))
    ∙ sym (waiting_add n 0 f.lip (length xs) s') ∙ ap (λ x. x.lip) e) in
    record {
      waits = p.1;
      holds = held_same p.0 (ap (λ x. x.lsp) e) (ap (λ x. x.kept) e) (ap (λ x. x.todo) e) (ap (λ x. x.moved) e);
      fits = g;
      beside = subst (λ (m : ℕ). Beside t m s s') (ap (λ x. x.moved) a.fill) a.beside;
      ahead = a.ahead;
      known = a.known;
    }

-- Of four numbers in a row so many are lined up.
four_next : (x i : ℕ) → i < 4 → take (i + 1) (four_from x) ≡ take i (four_from x) ++ ((x + i) ∷ [])
four_next x zero h = rw (add-zero x)
four_next x (suc zero) h = refl
four_next x (suc (suc zero)) h = refl
four_next x (suc (suc (suc zero))) h = refl
four_next x (suc (suc (suc (suc i)))) h = absurd (omega arith)

abbrev pub LinedBy : ℕ → ℕ → Stretch → List ℕ → Fill → List ℕ → Fill → Type 0
LinedBy i x t s f s' r = Lengthened (take i (four_from x)) t s f s' r

pub by_none : (x : ℕ) {t : Stretch} {s : List ℕ} {f : Fill} → Fits t s f → LinedBy 0 x t s f s f
by_none x {t} {s} {f} h =
    record {
      fill = rw (add-zero f.lip);
      holds = rw (append-nil (held t s f).lip);
      fits = h;
      beside = beside_none t f.moved s;
      ahead = λ i a b. refl;
      known = λ m a. refl;
    }

pub by_next : (i x : ℕ) {t : Stretch} {s s₁ s' : List ℕ} {f r₁ r : Fill} → LinedBy i x t s f s₁ r₁ → LipPushed t s₁ r₁ (x + i) s' r → i < 4
    → LinedBy (i + 1) x t s f s' r
by_next i x {t} {s} {s' = s'} {f} {r = r} a b h =
    subst (λ xs. Lengthened xs t s f s' r) (sym (four_next x i h)) (longer_on a (longer_one b))

pub by_room : (i x : ℕ) {t : Stretch} {s s' : List ℕ} {f r : Fill} → LinedBy i x t s f s' r → i < 4 → f.lip + 4 ≤ t.n → r.lip < t.n
by_room i x a h l = omega (arith, ap (λ g. g.lip) a.fill, length-take i (four_from x))

pub lined_up : (i x : ℕ) {t : Stretch} {s s' : List ℕ} {f r : Fill} → Fits t s f → f.lip + 4 ≤ t.n → LinedBy i x t s f s' r → i ≡ 4
    → LinedUp (four_from x) t s f s'
lined_up i x {t} {s} {s'} {f} {r} h l a e = lined h l (let at : LinedBy 4 x t s f s' r = rw e at a in at)
