-- The planes reached, held level 1 first: what they are before any part and after one, and the test whether a part is usable.
use Rattle.std.proofs.Math.Path.{◌≡◌, refl, ap}
use Rattle.std.proofs.Common.{ap₂, sym, ◌∙◌, add-one, length-take-le}
use mathlib.Core.List.{List, [], ◌∷◌, ◌++◌, map}
use Rattle.std.specs.Prelude.{true, false, leb, eqb, length, replicate, take, drop}
use Rattle.std.proofs.Math.Bool.{cond, and-false}
use Prim.Native.Nat.{ℕ, zero, suc, ◌+◌, ◌-◌, ◌≤◌, ◌<◌}
use native.Mathlib.Omega.{arith}
use Rattle.std.proofs.Math.Decide.{dec_le}
use Rattle.std.proofs.Math.ListN.{set, get_or-eq_default}
use borrow.Author.Tests.{le-leb, lt-leb, eq-eqb, ne_eqb}
use Rattle.rules.specs.declared.Size.{Size}
use Rattle.rules.specs.declared.Plane.{Plane}
use Rattle.rules.specs.declared.Header.{Header}
use Rattle.rules.specs.Document.Pyramid.{legal_size, levels}
use Rattle.rules.specs.Document.Numbers.{top_level}
use Rattle.rules.specs.Document.Passes.{PartName, from}
use Rattle.rules.specs.Document.Layout.{reached}
use Rattle.rules.specs.Document.Calls.{level_places, plane_in, reached_plane, reached_planes}
use Rattle.rules.proofs.Laws.Family.Sizes.{legal}
use Rattle.rules.proofs.Laws.Reading.Usable.{reached_none, reached_beyond}
use Rattle.rules.specs.Laws.Reading.OneWalk.{usable_now, reached_now}
use Rattle.rules.proofs.Laws.Rounding.Run.{map_from}

-- the plane that level k reached, of planes that stand level 1 first
abbrev pub reached_at : List Plane → ℕ → ℕ
reached_at reached k = plane_in reached (k - 1)

-- Beyond the sixth place there is nothing.
pub reached_at_beyond : (planes : List Plane) (k : ℕ) → length planes ≡ level_places → level_places ≤ k - 1 → 0 ≡ reached_at planes k
unfolding plane_in
reached_at_beyond planes k six l = ap (λ (p : Plane). p.0) (sym (get_or-eq_default planes (record { 0 = 0 }) {n = k - 1} (omega arith)))

-- The test: own and coarser are what was found of the part's level and of the next.
module _ (R : ℕ → ℕ) (p : PartName) (own coarser : ℕ) (o : own ≡ R p.level) (c : coarser ≡ R (p.level + 1)) where
  pub test_plane_above : own ≡ p.plane + 1 → leb coarser p.plane ≡ usable_now R p
  unfolding usable_now
  test_plane_above e =
      let a : R p.level ≡ suc p.plane = omega arith in
      let n : p.level + 1 ≡ suc p.level = omega arith in
      let b : coarser ≡ R (suc p.level) = c ∙ ap R n in
      rw (eq-eqb (R p.level) (suc p.plane) a, b)

  pub test_other_plane : (own ≡ p.plane + 1 → ⊥) → false ≡ usable_now R p
  unfolding usable_now
  test_other_plane d = rw (ne_eqb (R p.level) (suc p.plane) (λ e. d (omega arith)))

-- only the part's level and the next are looked at
pub usable_now_same : (R S : ℕ → ℕ) (p : PartName) → 1 ≤ p.level → ((k : ℕ) → 1 ≤ k → R k ≡ S k) → usable_now R p ≡ usable_now S p
unfolding usable_now
usable_now_same R S p f e = rw (e p.level f, e (suc p.level) (omega arith))

-- Lists of one thing a level.
pub from_same : {X : Type 0} (f g : ℕ → X) (q m : ℕ) → ((j : ℕ) → q ≤ j → f j ≡ g j) → map f (from q m) ≡ map g (from q m)
unfolding from
from_same f g q zero h = refl
from_same f g q (suc m) h = ap₂ (λ x l. x ∷ l) (h q (omega arith)) (from_same f g (suc q) m (λ j l. h j (omega arith)))

pub from_set : {X : Type 0} (f g : ℕ → X) (q m i : ℕ) (x : X) → x ≡ g (q + i) → ((j : ℕ) → q ≤ j → (j ≡ q + i → ⊥) → f j ≡ g j)
    → set (map f (from q m)) i x ≡ map g (from q m)
unfolding from
from_set f g q zero i x e h = refl
from_set f g q (suc m) zero x e h =
    let n : q + 0 ≡ q = omega arith in
    ap₂ (λ y l. y ∷ l) (e ∙ ap g n) (from_same f g (suc q) m (λ j l. h j (omega arith) (λ a. omega arith)))
from_set f g q (suc m) (suc i) x e h =
    let n : q + suc i ≡ suc q + i = omega arith in
    ap₂ (λ y l. y ∷ l) (h q (omega arith) (λ a. omega arith))
    (from_set f g (suc q) m i x (e ∙ ap g n) (λ j l d. h j (omega arith) (λ a. d (omega arith))))

pub size_levels : (z : Size) → legal_size z ≡ true → levels z ≤ level_places
size_levels z l = omega (arith, (legal z l).few)

module _ (h : Header) (there : List PartName) where
  pub six_planes : length (reached_planes h there) ≡ level_places
  unfolding reached_planes from
  six_planes = refl

  -- what a place of six holds
  plane_at : (k : ℕ) → 1 ≤ k → k ≤ level_places → reached_at (reached_planes h there) k ≡ (reached_plane h there k).0
  unfolding plane_in reached_planes
  plane_at k f l =
      let e : 1 + (k - 1) ≡ k = omega arith in
      ap (λ (x : Plane). x.0) (map_from (reached_plane h there) (record { 0 = 0 }) 1 level_places (k - 1) (omega arith) ∙ ap (reached_plane h there) e)

  plane_reached : (k : ℕ) → (reached_plane h there k).0 ≡ reached (top_level h) h.planes there k
  unfolding reached_plane
  plane_reached k = cases (dec_le k (top_level h))
    where
      cases : Dec (k ≤ top_level h) → cond (leb k (top_level h)) (reached (top_level h) h.planes there k) 0
          ≡ reached (top_level h) h.planes there k
      cases (yes l) = rw (le-leb k (top_level h) l)
      cases (no l) = rw (lt-leb k (top_level h) (omega arith), reached_beyond (top_level h) h.planes there k (omega arith))

  -- What stands at a level is what it reached.
  pub reached_at_planes : legal_size h.size ≡ true → (k : ℕ) → 1 ≤ k
      → reached_at (reached_planes h there) k ≡ reached (top_level h) h.planes there k
  reached_at_planes lawful k f = cases (dec_le k level_places)
    where
      cases : Dec (k ≤ level_places) → reached_at (reached_planes h there) k ≡ reached (top_level h) h.planes there k
      cases (yes l) = plane_at k f l ∙ plane_reached k
      cases (no l) =
          sym (reached_at_beyond (reached_planes h there) k six_planes (omega arith))
          ∙ sym (reached_beyond (top_level h) h.planes there k (omega (arith, size_levels h.size lawful)))

-- One part more: a usable one changes what its level reached, one that is not changes nothing.
module _ (h : Header) (there more : List PartName) (R : ℕ → ℕ) (p : PartName) (x : Plane) (e : x.0 ≡ p.plane)
    (f : 1 ≤ p.level) (l : p.level ≤ top_level h)
    (was : (k : ℕ) → reached (top_level h) h.planes there k ≡ R k)
    (is : (k : ℕ) → 1 ≤ k → reached (top_level h) h.planes more k ≡ reached_now R p k) where
  pub reached_planes_used : usable_now R p ≡ true → set (reached_planes h there) (p.level - 1) x ≡ reached_planes h more
  unfolding reached_planes reached_plane reached_now
  reached_planes_used u = from_set (reached_plane h there) (reached_plane h more) 1 level_places (p.level - 1) x own other
    where
      own : x ≡ record { 0 = cond (leb (1 + (p.level - 1)) (top_level h)) (reached (top_level h) h.planes more (1 + (p.level - 1))) 0 }
      own =
          let n : 1 + (p.level - 1) ≡ p.level = omega arith in
          rw (n, le-leb p.level (top_level h) l, is p.level f, eq-eqb p.level p.level refl, u) (λ i. record { 0 = e i })

      other : (j : ℕ) → 1 ≤ j → (j ≡ 1 + (p.level - 1) → ⊥)
          → ◌≡◌ {A = Plane} (record { 0 = cond (leb j (top_level h)) (reached (top_level h) h.planes there j) 0 })
          (record { 0 = cond (leb j (top_level h)) (reached (top_level h) h.planes more j) 0 })
      other j a d = rw (is j a, ne_eqb j p.level (λ b. d (omega arith)), was j)

  pub reached_planes_over : usable_now R p ≡ false → reached_planes h there ≡ reached_planes h more
  unfolding reached_planes reached_plane reached_now
  reached_planes_over u =
      from_same (reached_plane h there) (reached_plane h more) 1 level_places (λ j a.
      rw (is j a, u, and-false (eqb j p.level), was j))

-- Without any part: the first levels, as many as are done, have all planes before them, the others nothing.
unfoldable pub not_reached : ℕ → ℕ → ℕ → Plane
not_reached planes done k = record { 0 = cond (leb k done) planes 0 }

-- The loop that sets them, after some of the levels.
pub record Begun (h : Header) (levels done : ℕ) (found : List Plane) : Type 0 where
  pub every : levels ≡ top_level h
  pub few : levels ≤ level_places
  pub within : done ≤ levels
  pub holds : found ≡ map (not_reached h.planes done) (from 1 level_places)

module _ (h : Header) {levels : ℕ} where
  pub begun_none : legal_size h.size ≡ true → levels ≡ h.size.n + 1 → Begun h levels 0 (replicate level_places (record { 0 = 0 }))
  unfolding not_reached from
  begun_none l e =
      record { every = omega arith; few = omega (arith, size_levels h.size l); within = omega arith; holds = refl }

  module _ {done : ℕ} {found : List Plane} (b : Begun h levels done found) where
    pub begun_more : done < levels → Begun h levels (done + 1) (set found done (record { 0 = h.planes }))
    unfolding not_reached
    begun_more l =
        record {
          every = b.every;
          few = b.few;
          within = omega arith;
          holds =
              ap (λ (x : List Plane). set x done (record { 0 = h.planes })) b.holds
              ∙ from_set (not_reached h.planes done) (not_reached h.planes (done + 1)) 1 level_places done (record { 0 = h.planes })
              (rw (le-leb (1 + done) (done + 1) (omega arith)))
              (λ j f d. other j (dec_le j done) d);
        }
      where
        other : (j : ℕ) → Dec (j ≤ done) → (j ≡ 1 + done → ⊥)
            → ◌≡◌ {A = Plane} (record { 0 = cond (leb j done) h.planes 0 }) (record { 0 = cond (leb j (done + 1)) h.planes 0 })
        other j (yes m) d = rw (le-leb j done m, le-leb j (done + 1) (omega arith))
        other j (no m) d = rw (lt-leb j done (omega arith), lt-leb j (done + 1) (omega arith))

    pub begun_all : levels ≤ done → found ≡ reached_planes h []
    unfolding not_reached reached_planes reached_plane
    begun_all l =
        b.holds ∙ ap (λ (n : ℕ). map (not_reached h.planes n) (from 1 level_places)) every_level
        ∙ from_same (not_reached h.planes (top_level h)) (reached_plane h []) 1 level_places (λ k f. level k f (dec_le k (top_level h)))
      where
        every_level : done ≡ top_level h
        every_level = omega (arith, b.every, b.within)

        level : (k : ℕ) → 1 ≤ k → Dec (k ≤ top_level h)
            → ◌≡◌ {A = Plane} (record { 0 = cond (leb k (top_level h)) h.planes 0 })
            (record { 0 = cond (leb k (top_level h)) (reached (top_level h) h.planes [] k) 0 })
        level k f (yes m) = rw (le-leb k (top_level h) m, reached_none (top_level h) h.planes k f m)
        level k f (no m) = rw (lt-leb k (top_level h) (omega arith))

-- The first levels filled with all planes, of six places that hold nothing.
abbrev pub no_planes : List Plane
no_planes = replicate level_places (record { 0 = 0 })

pub levels_within : (z : Size) → legal_size z ≡ true → length (take (z.n + 1) no_planes) ≡ z.n + 1
levels_within z l = length-take-le (z.n + 1) no_planes (omega (arith, size_levels z l))

set_next : {X : Type 0} (i : ℕ) (xs : List X) (x : X) → i < length xs
    → replicate (suc i) x ++ drop (suc i) xs ≡ set (replicate i x ++ drop i xs) i x
set_next i [] x l = absurd (omega arith)
set_next zero (y ∷ ys) x l = refl
set_next (suc i) (y ∷ ys) x l = ap (λ zs. x ∷ zs) (set_next i ys x (omega arith))

module _ (h : Header) (lawful : legal_size h.size ≡ true) where
  filled : (levels : ℕ) → levels ≡ h.size.n + 1 → (done : ℕ) → done ≤ levels
      → Begun h levels done (replicate done (record { 0 = h.planes }) ++ drop done no_planes)
  filled levels e zero l = begun_none h lawful e
  filled levels e (suc i) l =
      let six : i < length no_planes = omega (arith, size_levels h.size lawful) in
      let b : Begun h levels (i + 1) _ = begun_more h (filled levels e i (omega arith)) (omega arith) in
      rw (set_next i no_planes (record { 0 = h.planes }) six) (rw add-one at b)

  pub filled_all : (front : List Plane) → front ≡ replicate (length (take (h.size.n + 1) no_planes)) (record { 0 = h.planes })
      → front ++ drop (h.size.n + 1) no_planes ≡ reached_planes h []
  filled_all front e =
      rw (e, levels_within h.size lawful) (begun_all h (filled (h.size.n + 1) refl (h.size.n + 1) (omega arith)) (omega arith))
