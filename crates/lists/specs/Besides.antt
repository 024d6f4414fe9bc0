-- What the list operations leave alone, and what a word at the place behind LIP leaves of the lists.
use Rattle.std.specs.Prelude.{◌≡◌, refl, true, List, [], ◌∷◌, ◌++◌, map, get_or}
use Rattle.std.proofs.Common.{sym, ◌∙◌, subst, true≢false, arith}
use Rattle.std.proofs.Math.Path.{ap}
use Prim.Native.Nat.{ℕ, ◌+◌, ◌-◌, ◌≤◌, ◌<◌}
use Rattle.rules.specs.Document.Passes.{Entry}
use Rattle.stretches.specs.Seg.{seg, seg_same}
use Rattle.stretches.specs.Cut.{lip_from, lsp_from, lis_from, maxima_from, values_in, ButAt, values_same}
use Rattle.lists.specs.declared.Role.{Role}
use Rattle.lists.specs.declared.Role.TheVariants.{Reads}
use Rattle.lists.specs.declared.Stretch.{Stretch}
use Rattle.lists.specs.declared.Fill.{Fill}
use Rattle.lists.specs.Lists.{codes, coefficient, mark_of, Marked, lip_at, entry, sets, waiting, known, Held, held, Fits, Beside}
use Rattle.lists.specs.Lists.{LipPushed, Spared, raised}

pub beside_none : (t : Stretch) (m : ℕ) (s : List ℕ) → Beside t m s s
beside_none t m s = record { long = refl; values = λ i h. refl; others = λ i h k. refl; rest = λ i h. refl }

pub beside_then : {t : Stretch} {m m' : ℕ} {s s₁ s₂ : List ℕ} → Beside t m s s₁ → Beside t m' s₁ s₂ → m ≤ m' → Beside t m' s s₂
beside_then a b l =
    record {
      long = b.long ∙ a.long;
      values = λ i h. b.values i h ∙ a.values i h;
      others = λ i h k. b.others i h k ∙ a.others i h k;
      rest = λ i h. b.rest i h ∙ a.rest i (omega arith);
    }

pub beside_values : {t : Stretch} {m : ℕ} {s s' : List ℕ} → Beside t m s s' → values_in t.n s' ≡ values_in t.n s
beside_values {t} {m} {s} {s'} b = values_same t.n s s' b.long b.values

-- two that hold the same lists
pub held_same : {a a' b b' : List ℕ} {k k' t t' m m' : List Entry} → a ≡ a' → b ≡ b' → k ≡ k' → t ≡ t' → m ≡ m'
    → ◌≡◌ {A = Held} (record { lip = a; lsp = b; kept = k; todo = t; moved = m }) (record { lip = a'; lsp = b'; kept = k'; todo = t'; moved = m' })
held_same a b k t m = cc

-- An entry stays marked where the words are as they were, whatever lies behind the stretch; and so do those of LIP.
pub marked_lent : {role : Role} {n first away away' : ℕ} {s s' : List ℕ} {e : ℕ} → (codes role ≡ true → (i : ℕ) → i < n → get_or s' i 0 ≡ get_or s i 0)
    → Marked (record { role = role; n = n; first = first; away = away }) s e → Marked (record { role = role; n = n; first = first; away = away' }) s' e
marked_lent {first = first} {e = e} same m =
    record {
      inside = m.inside;
      mark = λ c. m.mark c ∙ ap mark_of (sym (same c (coefficient e - first) (omega (arith, m.inside c))));
    }

pub marked_same : {t : Stretch} {s s' : List ℕ} {e : ℕ} → (codes t.role ≡ true → (i : ℕ) → i < t.n → get_or s' i 0 ≡ get_or s i 0)
    → Marked t s e → Marked t s' e
marked_same {t} same m = marked_lent {away = t.away} same m

pub marks_kept : {t : Stretch} {s s' : List ℕ} {m : ℕ} → (codes t.role ≡ true → (i : ℕ) → i < t.n → get_or s' i 0 ≡ get_or s i 0)
    → ((i : ℕ) → i < m → lip_at t.n i s' ≡ lip_at t.n i s) → ((i : ℕ) → i < m → Marked t s (lip_at t.n i s))
    → (i : ℕ) → i < m → Marked t s' (lip_at t.n i s')
marks_kept {t} {s' = s'} words lips marked i h = subst (Marked t s') (sym (lips i h)) (marked_same words (marked i h))

-- the decoder's have no mark
pub marked_none : {t : Stretch} {s : List ℕ} {e : ℕ} → t.role ≡ Reads → Marked t s e
marked_none r = record { inside = λ c. absurd (true≢false (sym c ∙ ap codes r)); mark = λ c. absurd (true≢false (sym c ∙ ap codes r)) }

pub fits_fewer : {t : Stretch} {s : List ℕ} {f : Fill} (m : ℕ) → Fits t s (raised f m) → Fits t s f
fits_fewer m h =
    record {
      room = h.room;
      marked = λ i l. h.marked i (omega arith);
      lip = omega (arith, h.lip);
      lsp = h.lsp;
      kept = h.kept;
      visits = h.visits;
      behind = h.behind;
      moved = h.moved;
    }

-- a number behind LIP, and an entry of LIP over it
pub spared_none : (t : Stretch) (s : List ℕ) (f : Fill) → Fits t s f → Spared t s f s
spared_none t s f g =
    record { holds = refl; fits = g; beside = beside_none t f.moved s; ahead = λ i a b. refl; known = λ m a. refl }

module _ {t : Stretch} {s s' : List ℕ} {f : Fill} (g : Fits t s f) (room : f.lip < t.n) (h : ButAt (lip_from t.n + f.lip) s s') where
  spared_before : (b m : ℕ) → b + m ≤ t.n + f.lip → seg b m s' ≡ seg b m s
  unfolding lip_from
  spared_before b m l = seg_same b m s s' h.long (λ j k e. h.others j (λ x. omega arith))

  spared_behind : (b m : ℕ) → t.n + f.lip < b → seg b m s' ≡ seg b m s
  unfolding lip_from
  spared_behind b m l = seg_same b m s s' h.long (λ j k e. h.others j (λ x. omega arith))

  spared_sets : (b m : ℕ) → t.n + f.lip < b → sets b m s' ≡ sets b m s
  unfolding sets
  spared_sets b m l = ap (map entry) (spared_behind b m l)

  pub spared_at : Spared t s f s'
  unfolding held waiting known lip_at lip_from lsp_from lis_from maxima_from
  spared_at =
      let n : ℕ = t.n in
      let out = g.behind in
      record {
        holds =
            held_same (ap (map coefficient) (spared_before (n + 0) f.lip (omega arith)))
            (ap (map coefficient) (spared_behind (n + n) f.lsp (omega arith)))
            (spared_sets (n + n + n) f.kept (omega arith)) (spared_sets (n + n + n + f.visited) f.left (omega arith))
            (spared_sets t.away f.moved (omega arith));
        fits = record {
          room = rw h.long g.room;
          marked = marks_kept (λ c i k. h.others i (λ x. omega arith)) (λ i k. h.others (n + i) (λ x. omega arith)) g.marked;
          lip = g.lip;
          lsp = g.lsp;
          kept = g.kept;
          visits = g.visits;
          behind = out;
          moved = rw h.long g.moved;
        };
        beside = record {
          long = h.long;
          values = λ i k. h.others i (λ x. omega arith);
          others = λ i k l. h.others i (λ x. omega arith);
          rest = λ i k. h.others i (λ x. omega arith);
        };
        ahead = λ i a b. h.others (n + i) (λ x. omega arith);
        known = λ m a. ap (map coefficient) (spared_behind (n + n) m (omega arith));
      }

pub spared_pushed : {t : Stretch} {s s₁ s' : List ℕ} {f r : Fill} {x : ℕ} → Spared t s f s₁ → LipPushed t s₁ f x s' r → LipPushed t s f x s' r
spared_pushed {x = x} S L =
    let pushed : Held → Held =
    λ h. record { lip = h.lip ++ (x ∷ []); lsp = h.lsp; kept = h.kept; todo = h.todo; moved = h.moved } in
    record {
      fill = L.fill;
      holds = L.holds ∙ ap pushed S.holds;
      fits = L.fits;
      beside = beside_then S.beside L.beside (omega (arith, ap (λ h. h.moved) L.fill));
      ahead = λ i a b. L.ahead i a b ∙ S.ahead i a b;
      known = λ m a. L.known m a ∙ S.known m a;
    }
