-- How the lists begin: coefficients of the LL band listed one after another by their tree numbers, in the stretch of level N+1.
use mathlib.Core.Path.{◌≡◌, refl, sym, ap, ap₂, ◌∙◌, subst}
use mathlib.Core.Bool.{Bool, true, false, cond, ◌&&◌, ◌||◌}
use mathlib.Core.List.{List, [], ◌∷◌, ◌++◌, map, map-append, append_assoc, append-nil}
use mathlib.Core.Logic.{◌≢◌}
use Prim.Native.Nat.{ℕ, zero, suc, ◌+◌, ◌-◌, ◌*◌, ◌/◌, ◌%◌, ◌≤◌, ◌<◌, ◌^◌}
use native.Mathlib.Nat.{add-zero}
use native.Mathlib.Numerals.{add-one}
use native.Mathlib.Omega.{arith}
use native.Mathlib.Decide.{ℕ_discrete}
use lib.Dec.{leb}
use lib.ListN.{length, length-append, length-map, get_or, set, replicate, take, drop}
use lib.Pow.{shr_le}
use lib.Seq.{take_at, get_or-set_same, get_or-set_other}
use borrow.Author.Tests.{le-leb, eq-eqb, ne_eqb}
use borrow.Rule.Slice.PartMut.{mid_of, put_mid, post_of, mid_len, same_len_mid}
use Rattle.std.proofs.lemmas.List.{nil_from_length}
use Rattle.rules.specs.declared.Size.{Size}
use Rattle.rules.specs.Document.Notation.{flat, if_any}
use Rattle.rules.specs.Document.Pyramid.{legal_size, area, levels, level_of, odd, block, offspring_of}
use Rattle.rules.specs.Document.Passes.{Entry, typeA, Lists, from, rows, band_ll}
use Rattle.rules.specs.Document.Calls.{level_places, work_for}
use Rattle.rules.specs.Laws.Counting.Sums.{All}
use Rattle.rules.proofs.Laws.Counting.Sums.{every_all, if_any_some, flat_append}
use Rattle.rules.specs.Laws.Family.Sizes.{level_start, level_size}
use Rattle.rules.proofs.Laws.Family.Sizes.{legal, area_bound, span_most, level_start_top, level_size_top}
use Rattle.rules.specs.Laws.Offspring.Block.{block_ll}
use Rattle.rules.proofs.Laws.Offspring.Block.{row_index, column_index, offspring_band}
use Rattle.rules.proofs.Laws.Offspring.Level.{level_area}
use Rattle.rules.proofs.Laws.Offspring.Once.{band_level}
use Rattle.rules.proofs.Laws.Offspring.Start.{band_length}
use Rattle.rules.proofs.Laws.Pass.Slots.{room_slots}
use Rattle.rules.specs.Promises.Vocabulary.{Legal}
use Rattle.trees.specs.Family.{tree_level, tree_offspring, coefficient_of}
use Rattle.trees.proofs.Family.{level_same, offspring_same}
use Rattle.trees.proofs.Lawful.{trees_lawful}
use Rattle.trees.specs.Run.{number_of, tree_root, tree_start}
use Rattle.trees.proofs.Run.{coefficient_number}
use Rattle.trees.proofs.Sound.{tree_start_sound, tree_part_room, tree_level_area}
use Rattle.stretches.specs.Seg.{seg, seg_same}
use Rattle.stretches.specs.Cut.{set_room, maxima_in, stretch_of}
use Rattle.stretches.specs.Workspace.{word_in, maximum_in}
use Rattle.lists.specs.declared.Role.{Role}
use Rattle.lists.specs.declared.Stretch.{Stretch}
use Rattle.lists.specs.declared.Fill.{Fill}
use Rattle.lists.specs.Lists.{Inside, Marked, lip_at, known, held, lists_in, Fits, Beside, LipPushed, SetAdded}
use Rattle.lists.specs.Lists.{sets_fit, todo_none, waiting_none, held_waiting, held_known, known_none, held_begins, lists_none}
use Rattle.lists.specs.Besides.{beside_none, beside_then, marked_lent}
use Rattle.parts.specs.declared.Lengths.{Lengths}
use Rattle.parts.specs.declared.Counts.{Counts}
use Rattle.parts.specs.Standing.{unlisted, count_at, nothing, lists_at, state_of, stretch_by, Started}
use Rattle.parts.specs.Begin.{empty, lengths, row_of, band_at, InBand, Listing, Listed}
use Rattle.stretches.specs.Levels.{level_place, level_some, level_before, stretch_at, word_in_lem, put_behind}

-- lists joined
all_first : {X : Type 0} (P : X → Type 0) (xs ys : List X) → All P (xs ++ ys) → All P xs
unfolding All
all_first P [] ys a = tt
all_first P (x ∷ xs) ys a = (a.0, all_first P xs ys a.1)

all_others : {X : Type 0} (P : X → Type 0) (xs ys : List X) → All P (xs ++ ys) → All P ys
unfolding All
all_others P [] ys a = a
all_others P (x ∷ xs) ys a = all_others P xs ys a.1

-- the next coefficient of a row, and the next row
pub from_next : (p j e : ℕ) → j < e → from (p + j) (e - j) ≡ ((p + j) ∷ []) ++ from (p + (j + 1)) (e - (j + 1))
unfolding from
from_next p j e h =
    let i : e - j ≡ suc (e - (j + 1)) = omega arith in
    let n : suc (p + j) ≡ p + (j + 1) = omega arith in
    ap (from (p + j)) i ∙ ap (λ (q : ℕ). (p + j) ∷ from q (e - (j + 1))) n

pub from_none : (p j e : ℕ) → e ≤ j → from (p + j) (e - j) ≡ []
unfolding from
from_none p j e h = let i : e - j ≡ 0 = omega arith in ap (from (p + j)) i

pub rows_next : (z : Size) (i e : ℕ) → i < e → rows z i (e - i) ≡ row_of z i ++ rows z (i + 1) (e - (i + 1))
unfolding rows
rows_next z i e h =
    let j : e - i ≡ suc (e - (i + 1)) = omega arith in
    ap (rows z i) j ∙ ap (λ (x : ℕ). row_of z i ++ rows z x (e - (i + 1))) (sym (add-one i))

pub rows_none : (z : Size) (i e : ℕ) → e ≤ i → rows z i (e - i) ≡ []
unfolding rows
rows_none z i e h = let j : e - i ≡ 0 = omega arith in ap (rows z i) j

-- the sets that the listing of coefficients makes
abbrev roots_of : Size → List ℕ → List Entry
roots_of z ps = flat (tree_root z) (map (number_of z) ps)

roots_append : (z : Size) (ps qs : List ℕ) → roots_of z (ps ++ qs) ≡ roots_of z ps ++ roots_of z qs
roots_append z ps qs =
    ap (flat (tree_root z)) (map-append (number_of z) ps qs) ∙ flat_append (tree_root z) (map (number_of z) ps) (map (number_of z) qs)

roots_length : (z : Size) (ps qs : List ℕ) → length (roots_of z (ps ++ qs)) ≡ length (roots_of z ps) + length (roots_of z qs)
roots_length z ps qs = ap length (roots_append z ps qs) ∙ length-append (roots_of z ps) (roots_of z qs)

-- Which coefficients of the band have offspring, by row and column.
module _ (z : Size) (Z : Legal z) {i j : ℕ} (h : InBand z i j) (top : level_of z (band_at z i j) ≡ levels z) where
  offspring_count : length (tree_offspring z (number_of z (band_at z i j))) ≡ length (offspring_of z (band_at z i j))
  offspring_count =
      let q : ℕ = band_at z i j in
      let x : ℕ = number_of z q in
      sym (ap length (sym (ap (offspring_of z) (coefficient_number z Z q (level_area z Z q (omega arith)))) ∙ offspring_same z Z x)
      ∙ length-map (tree_offspring z x) (coefficient_of z))

  by_parity : (b : Bool) → odd i || odd j ≡ b → offspring_of z (band_at z i j) ≡ cond b (block_ll z i j) []
  by_parity b e =
      let l : j < z.w = omega (arith, h.1, shr_le z.w z.n) in
      offspring_band z Z (band_at z i j) (omega arith)
      ∙ ap₂ (λ (x y : ℕ). cond (odd x || odd y) (block_ll z x y) []) (row_index z i j l) (column_index z i j l)
      ∙ ap (λ x. cond x (block_ll z i j) []) e

  even_none : i % 2 + j % 2 ≡ 0 → tree_offspring z (number_of z (band_at z i j)) ≡ []
  even_none e =
      let p : odd i || odd j ≡ false = ap₂ ◌||◌ (ne_eqb (i % 2) 1 (λ u. omega arith)) (ne_eqb (j % 2) 1 (λ u. omega arith)) in
      nil_from_length _ (offspring_count ∙ ap length (by_parity false p))

  odd_some : i % 2 + j % 2 ≢ 0 → 1 ≤ length (tree_offspring z (number_of z (band_at z i j)))
  unfolding block
  odd_some d = omega (arith, offspring_count, ap length (by_parity true (either (ℕ_discrete (i % 2) 1))))
    where
      either : Dec (i % 2 ≡ 1) → odd i || odd j ≡ true
      either (yes e) = rw (eq-eqb (i % 2) 1 e)
      either (no e) = rw (ne_eqb (i % 2) 1 e) (eq-eqb (j % 2) 1 (odd_last (ℕ_discrete (j % 2) 1) e))
        where
          odd_last : Dec (j % 2 ≡ 1) → i % 2 ≢ 1 → j % 2 ≡ 1
          odd_last (yes g) f = g
          odd_last (no g) f = absurd (d (omega arith))

module _ (z : Size) where
  listed_none : (t : Stretch) (s : List ℕ) (f : Fill) → Fits t s f → Listed z [] t s f s f
  unfolding flat
  listed_none t s f h =
      record {
        fill =
            ap₂ (λ (x y : ℕ). lengths f x y)
            (sym (add-zero f.lip)) (sym (add-zero f.left));
        lip = sym (append-nil (held t s f).lip);
        todo = sym (append-nil (held t s f).todo);
        fits = h;
        beside = beside_none t f.moved s;
      }

  listed_on : {ps qs : List ℕ} {t : Stretch} {s s₁ s₂ : List ℕ} {f f₁ f₂ : Fill} → Listed z ps t s f s₁ f₁ → Listed z qs t s₁ f₁ s₂ f₂
      → Listed z (ps ++ qs) t s f s₂ f₂
  listed_on {ps} {qs} {t} {s} {s₁} {s₂} {f = f} a b =
      let x : f.lip + length ps + length qs ≡ f.lip + length (ps ++ qs) = omega (arith, length-append ps qs) in
      let y : f.left + length (roots_of z ps) + length (roots_of z qs) ≡ f.left + length (roots_of z (ps ++ qs)) = omega (arith, roots_length z ps qs) in
      record {
        fill =
            b.fill
            ∙ ap (λ g. lengths g (g.lip + length qs) (g.left + length (roots_of z qs))) a.fill
            ∙ ap₂ (λ (u v : ℕ). lengths f u v) x y;
        lip =
            b.lip ∙ ap (λ l. l ++ map (number_of z) qs) a.lip ∙ append_assoc (held t s f).lip (map (number_of z) ps) (map (number_of z) qs)
            ∙ ap (λ l. (held t s f).lip ++ l) (sym (map-append (number_of z) ps qs));
        todo =
            b.todo ∙ ap (λ l. l ++ roots_of z qs) a.todo ∙ append_assoc (held t s f).todo (roots_of z ps) (roots_of z qs)
            ∙ ap (λ l. (held t s f).todo ++ l) (sym (roots_append z ps qs));
        fits = b.fits;
        beside =
            beside_then a.beside (subst (λ (m : ℕ). Beside t m s₁ s₂) (ap (λ g. g.moved) a.fill) b.beside) (omega arith);
      }

  -- one coefficient: without offspring, and with some
  root_none : (p : ℕ) → tree_offspring z (number_of z p) ≡ [] → roots_of z (p ∷ []) ≡ []
  unfolding flat tree_root if_any
  root_none p e = rw e

  root_some : (p : ℕ) → 1 ≤ length (tree_offspring z (number_of z p)) → roots_of z (p ∷ []) ≡ typeA (number_of z p) ∷ []
  unfolding flat tree_root
  root_some p h = rw (if_any_some (tree_offspring z (number_of z p)) (typeA (number_of z p) ∷ []) h)

  module _ (p : ℕ) {x : ℕ} (i : x ≡ number_of z p) {t : Stretch} {s s₁ : List ℕ} {f f₁ : Fill} (P : LipPushed t s f x s₁ f₁) where
    pushed : (held t s₁ f₁).lip ≡ (held t s f).lip ++ (number_of z p ∷ [])
    pushed = ap (λ h. h.lip) P.holds ∙ ap (λ (y : ℕ). (held t s f).lip ++ (y ∷ [])) i

    pushed_beside : Beside t f.moved s s₁
    pushed_beside = subst (λ (m : ℕ). Beside t m s s₁) (ap (λ g. g.moved) P.fill) P.beside

    listed_leaf : tree_offspring z (number_of z p) ≡ [] → Listed z (p ∷ []) t s f s₁ f₁
    listed_leaf e =
        let j = root_none p e in
        let y : f.left ≡ f.left + length (roots_of z (p ∷ [])) = omega (arith, ap length j) in
        record {
          fill = P.fill ∙ ap (λ (v : ℕ). lengths f (f.lip + 1) v) y;
          lip = pushed;
          todo = ap (λ h. h.todo) P.holds ∙ sym (append-nil (held t s f).todo) ∙ ap (λ l. (held t s f).todo ++ l) (sym j);
          fits = P.fits;
          beside = pushed_beside;
        }

    listed_root : {s₂ : List ℕ} {f₂ : Fill} → 1 ≤ length (tree_offspring z (number_of z p)) → SetAdded t s₁ f₁ (typeA x) s₂ f₂
        → Listed z (p ∷ []) t s f s₂ f₂
    listed_root {s₂} h A =
        let j = ap (λ (y : ℕ). typeA y ∷ []) i ∙ sym (root_some p h) in
        let y : f.left + 1 ≡ f.left + length (roots_of z (p ∷ [])) = omega (arith, ap length j) in
        record {
          fill =
              A.fill
              ∙ ap (λ g. lengths g g.lip (g.left + 1)) P.fill
              ∙ ap (λ (v : ℕ). lengths f (f.lip + 1) v) y;
          lip = ap (λ h. h.lip) A.holds ∙ pushed;
          todo =
              ap (λ h. h.todo) A.holds ∙ ap (λ h. h.todo ++ (typeA x ∷ [])) P.holds ∙ ap (λ l. (held t s f).todo ++ l) j;
          fits = A.fits;
          beside =
              beside_then pushed_beside
              (subst (λ (m : ℕ). Beside t m s₁ s₂) (ap (λ g. g.moved) A.fill ∙ ap (λ g. g.moved) P.fill) A.beside) (omega arith);
        }

  -- what one coefficient asks for
  module _ {p : ℕ} {t : Stretch} {s : List ℕ} {f : Fill} (A : Listing z (p ∷ []) t s f) where
    one_top : level_of z p ≡ levels z
    unfolding All
    one_top = A.band.0

    -- its tree number is one of level N+1
    pub one_inside : {x : ℕ} → x ≡ number_of z p → Inside t x × (x < 2 ^ 26)
    one_inside {x} e =
        let Z = legal z A.legal in
        let top : tree_level z x ≡ levels z =
        ap (tree_level z) e ∙ sym (level_same z Z (number_of z p))
        ∙ ap (level_of z) (coefficient_number z Z p (level_area z Z p (omega (arith, one_top)))) ∙ one_top in
        let place = level_place z Z (levels z) x top (omega arith) in
        let small = tree_level_area z Z x (omega (arith, top)) in
        ((omega (arith, place.1, A.first), omega (arith, place.2, A.first, A.count)), omega (arith, small, area_bound z A.legal))

    one_slot : {x : ℕ} {s₁ : List ℕ} {f₁ : Fill} → 1 ≤ length (tree_offspring z (number_of z p)) → LipPushed t s f x s₁ f₁
        → f₁.visited + f₁.left < set_room t.n
    one_slot h P = omega (arith, A.sets, ap length (root_some p h), ap (λ g. g.visited) P.fill, ap (λ g. g.left) P.fill)

  -- of the band, by row and column
  module _ {i j : ℕ} {t : Stretch} {s : List ℕ} {f : Fill} (A : Listing z (band_at z i j ∷ []) t s f) (h : InBand z i j) {x : ℕ}
      (e : x ≡ number_of z (band_at z i j)) {s₁ : List ℕ} {f₁ : Fill} (P : LipPushed t s f x s₁ f₁) where
    some : i % 2 + j % 2 ≢ 0 → 1 ≤ length (tree_offspring z (number_of z (band_at z i j)))
    some d = odd_some z (legal z A.legal) h (one_top A) d

    pub listed_even : i % 2 + j % 2 ≡ 0 → Listed z (band_at z i j ∷ []) t s f s₁ f₁
    listed_even d = listed_leaf (band_at z i j) e P (even_none z (legal z A.legal) h (one_top A) d)

    pub odd_slot : i % 2 + j % 2 ≢ 0 → f₁.visited + f₁.left < set_room t.n
    odd_slot d = one_slot A (some d) P

    pub listed_odd : i % 2 + j % 2 ≢ 0 → {s₂ : List ℕ} {f₂ : Fill} → SetAdded t s₁ f₁ (typeA x) s₂ f₂ → Listed z (band_at z i j ∷ []) t s f s₂ f₂
    listed_odd d B = listed_root (band_at z i j) e P (some d) B

  -- The first of what is to be listed, and the rest.
  listing_first : {ps : List ℕ} (qs : List ℕ) {t : Stretch} {s : List ℕ} {f : Fill} → Listing z (ps ++ qs) t s f → Listing z ps t s f
  listing_first {ps} qs A =
      record {
        legal = A.legal;
        band = all_first _ ps qs A.band;
        fits = A.fits;
        size = A.size;
        first = A.first;
        count = A.count;
        coefficients = omega (arith, A.coefficients, length-append ps qs);
        sets = omega (arith, A.sets, roots_length z ps qs);
      }

  listing_rest : {ps qs : List ℕ} {t : Stretch} {s s₁ : List ℕ} {f f₁ : Fill} → Listing z (ps ++ qs) t s f → Listed z ps t s f s₁ f₁
      → Listing z qs t s₁ f₁
  listing_rest {ps} {qs} A L =
      record {
        legal = A.legal;
        band = all_others _ ps qs A.band;
        fits = L.fits;
        size = A.size;
        first = A.first;
        count = A.count;
        coefficients = omega (arith, A.coefficients, length-append ps qs, ap (λ g. g.lip) L.fill);
        sets = omega (arith, A.sets, roots_length z ps qs, ap (λ g. g.visited) L.fill, ap (λ g. g.left) L.fill);
      }

-- In the midst of a loop: what is left can be listed, and makes of the lists what was to be made at its beginning.
pub record Left (z : Size) (all : List ℕ) (t : Stretch) (s₀ : List ℕ) (f₀ : Fill) (rest : List ℕ) (s : List ℕ) (f : Fill) : Type 0 where
  pub asks : Listing z rest t s f
  pub makes : (s' : List ℕ) (r : Fill) → Listed z rest t s f s' r → Listed z all t s₀ f₀ s' r

left_all : {z : Size} {all : List ℕ} {t : Stretch} {s : List ℕ} {f : Fill} → Listing z all t s f → Left z all t s f all s f
left_all A = record { asks = A; makes = λ s' r L. L }

module _ {z : Size} {all : List ℕ} {t : Stretch} {s₀ : List ℕ} {f₀ : Fill} {s : List ℕ} {f : Fill} where
  pub left_first : {rest ps : List ℕ} (qs : List ℕ) → rest ≡ ps ++ qs → Left z all t s₀ f₀ rest s f → Listing z ps t s f
  left_first qs i T = listing_first z qs (subst (λ l. Listing z l t s f) i T.asks)

  pub left_rest : {rest ps qs : List ℕ} → rest ≡ ps ++ qs → Left z all t s₀ f₀ rest s f → {s₁ : List ℕ} {f₁ : Fill} → Listed z ps t s f s₁ f₁
      → Left z all t s₀ f₀ qs s₁ f₁
  left_rest i T L =
      record {
        asks = listing_rest z (subst (λ l. Listing z l t s f) i T.asks) L;
        makes = λ s' r M. T.makes s' r (subst (λ l. Listed z l t s f s' r) (sym i) (listed_on z L M));
      }

  pub left_none : {rest : List ℕ} → rest ≡ [] → Left z all t s₀ f₀ rest s f → Listed z all t s₀ f₀ s f
  left_none i T = T.makes s f (subst (λ l. Listed z l t s f s f) (sym i) (listed_none z t s f T.asks.fits))

-- at the beginning of the band's loop
pub left_band : {z : Size} {t : Stretch} {s : List ℕ} {f : Fill} → Listing z (band_ll z) t s f → Left z (band_ll z) t s f (rows z 0 (z.h / 2 ^ z.n - 0)) s f
unfolding band_ll
left_band {z} {t} {s} {f} A =
    let e : z.h / 2 ^ z.n ≡ z.h / 2 ^ z.n - 0 = omega arith in
    subst (λ (x : ℕ). Left z (band_ll z) t s f (rows z 0 x) s f) e (left_all A)

-- the size of level N+1, as the code counts it
pub top_size : (z : Size) {n : ℕ} → n ≡ level_size z (z.n + 1) → n ≡ level_size z (levels z)
top_size z i = i ∙ ap (level_size z) (add-one z.n)

pub top_under : (z : Size) {n : ℕ} → legal_size z ≡ true → n ≡ level_size z (z.n + 1) → (n ≤ area z) × (n < 2 ^ 32)
top_under z {n} e i =
    let Z : Legal z = legal z e in
    let l : n ≤ area z = omega (arith, top_size z i, level_size_top z Z, span_most z Z z.n (omega arith)) in
    (l, omega (arith, area_bound z e))

pub top_room : (z : Size) {n m : ℕ} → legal_size z ≡ true → n ≡ level_size z (z.n + 1) → work_for z ≤ m → 4 * n ≤ m
top_room z e i h = omega (arith, (top_under z e i).0)

abbrev top_stretch : Role → ℕ → Stretch
top_stretch role n = record { role = role; n = n; first = 0; away = 4 * n }

start_lis : (z : Size) → tree_start z (levels z) ≡ record { lip = map (number_of z) (band_ll z); lis = roots_of z (band_ll z); lsp = [] }
unfolding tree_start
start_lis z = rw (eq-eqb (levels z) (levels z) refl)

start_none : (z : Size) (k : ℕ) → k ≢ levels z → tree_start z k ≡ nothing
unfolding tree_start
start_none z k d = rw (ne_eqb k (levels z) d)

-- The LL band can be listed in the stretch of level N+1.
pub band_listing : (role : Role) (z : Size) (n : ℕ) (work : List ℕ) → legal_size z ≡ true → n ≡ level_size z (levels z) → 4 * n ≤ length work
    → Listing z (band_ll z) (top_stretch role n) (mid_of 0 (4 * n - 0) work) empty
band_listing role z n work e i h =
    let Z : Legal z = legal z e in
    let room : 4 * n ≤ length (mid_of 0 (4 * n - 0) work) = omega (arith, mid_len 0 (4 * n) work h) in
    record {
      legal = e;
      band = every_all _ (band_ll z) (band_level z Z);
      fits = record {
        room = room;
        marked = λ j l. absurd (omega arith);
        lip = omega arith;
        lsp = omega arith;
        kept = omega arith;
        visits = omega arith;
        behind = omega arith;
        moved = omega arith;
      };
      size = omega (arith, level_size_top z Z, span_most z Z z.n (omega arith), area_bound z e);
      first = sym (level_start_top z);
      count = i;
      coefficients = omega (arith, level_size_top z Z, band_length z);
      sets =
          sets_fit n _
          (omega (
            arith,
            room_slots (trees_lawful z Z) (tree_part_room z Z (tree_start_sound z Z) (levels z) (omega arith) (omega arith)),
            ap (λ l. length l.lis) (start_lis z),
          ));
    }

-- the counts: none but those of level N+1
abbrev none : List Lengths
none = replicate level_places unlisted

none_at : (i : ℕ) → get_or none i unlisted ≡ unlisted
none_at i = go level_places i
  where
    go : (m j : ℕ) → get_or (replicate m unlisted) j unlisted ≡ unlisted
    go zero j = refl
    go (suc m) zero = refl
    go (suc m) (suc j) = go m j

module _ (role : Role) (z : Size) (r : Fill) where
  abbrev top : Lengths
  top = record { lip = r.lip; lsp = 0; lis = r.left }

  abbrev counts : Counts
  counts = record { levels = set none z.n top }

  counts_top : z.n < level_places → count_at counts (levels z) ≡ top
  counts_top h = let i : levels z - 1 ≡ z.n = omega arith in ap (λ (j : ℕ). get_or counts.levels j unlisted) i ∙ get_or-set_same none z.n top unlisted h

  counts_else : (k : ℕ) → 1 ≤ z.n → k ≢ levels z → count_at counts k ≡ unlisted
  counts_else k h d = get_or-set_other none z.n (k - 1) top unlisted (λ i. d (omega arith)) ∙ none_at (k - 1)

  module _ (e : legal_size z ≡ true) (n : ℕ) (i : n ≡ level_size z (levels z)) (work ys : List ℕ) (h : 4 * n ≤ length work)
      (l : length ys ≡ length (mid_of 0 (4 * n - 0) work))
      (B : Listed z (band_ll z) (top_stretch role n) (mid_of 0 (4 * n - 0) work) empty ys r) where
    abbrev work' : List ℕ
    work' = put_mid 0 (4 * n - 0) work ys

    Z : Legal z
    Z = legal z e

    many : length ys ≡ 4 * n
    many = omega (arith, mid_len 0 (4 * n) work h)

    top_stretch_lem : stretch_of z (levels z) work' ≡ ys
    unfolding stretch_of seg
    top_stretch_lem =
        let a : 4 * level_start z (levels z) ≡ 0 = omega (arith, level_start_top z) in
        let b : 4 * level_size z (levels z) ≡ 4 * n = omega arith in
        ap₂ (λ (x y : ℕ). take y (drop x work')) a b ∙ take_at ys (post_of 0 (4 * n - 0) work) (4 * n) many

    top_before : stretch_of z (levels z) work ≡ mid_of 0 (4 * n - 0) work
    unfolding stretch_of seg
    top_before =
        let a : 4 * level_start z (levels z) ≡ 0 = omega (arith, level_start_top z) in
        let b : 4 * level_size z (levels z) ≡ 4 * n - 0 = omega arith in
        ap₂ (λ (x y : ℕ). take y (drop x work)) a b

    band_held : ◌≡◌ {A = Lists}
        (record { lip = (held (top_stretch role n) ys r).lip; lis = (held (top_stretch role n) ys r).todo; lsp = (held (top_stretch role n) ys r).lsp })
        (record { lip = map (number_of z) (band_ll z); lis = roots_of z (band_ll z); lsp = [] })
    band_held =
        let t : Stretch = top_stretch role n in
        let xs : List ℕ = mid_of 0 (4 * n - 0) work in
        let a : (held t ys r).lip ≡ map (number_of z) (band_ll z) =
        B.lip ∙ ap (λ l. l ++ map (number_of z) (band_ll z)) (held_waiting t xs empty ∙ waiting_none n 0 xs) in
        let b : (held t ys r).todo ≡ roots_of z (band_ll z) = B.todo ∙ ap (λ l. l ++ roots_of z (band_ll z)) (todo_none t xs empty refl) in
        let c : (held t ys r).lsp ≡ [] = held_known t ys r ∙ ap (λ (m : ℕ). known n m ys) (ap (λ f. f.lsp) B.fill) ∙ known_none n ys in
        rw (a, b, c)

    top_lists : state_of z work' counts (levels z) ≡ tree_start z (levels z)
    unfolding state_of lists_at
    top_lists =
        let few : z.n < level_places = omega (arith, Z.few) in
        let v : r.visited ≡ 0 = ap (λ f. f.visited) B.fill in
        let p : r.lsp ≡ 0 = ap (λ f. f.lsp) B.fill in
        rw (
          le-leb 1 (levels z) (omega arith),
          le-leb (levels z) (levels z) (omega arith),
          top_stretch_lem,
          ← i,
          counts_top few,
        )
        (ap (λ (m : ℕ). lists_in n ys r.lip r.left m) (sym p) ∙ held_begins (top_stretch role n) ys r v ∙ band_held ∙ sym (start_lis z))

    other_lists : (k : ℕ) → k ≢ levels z → state_of z work' counts k ≡ tree_start z k
    unfolding state_of lists_at
    other_lists k d =
        rw (
          counts_else k Z.some d,
          lists_none (level_size z k) (stretch_of z k work'),
          start_none z k d,
        )
        (either (leb 1 k && leb k (levels z)))
      where
        either : (b : Bool) → cond {A = Lists} b nothing nothing ≡ nothing
        either true = refl
        either false = refl

    -- what is no list of level N+1 is as it was
    behind : (p : ℕ) → 4 * n ≤ p → get_or work' p 0 ≡ get_or work p 0
    behind p g = put_behind 0 (4 * n) work ys p (omega arith) h (omega (arith, many)) g

    other_at : (k j : ℕ) → 1 ≤ k → k ≤ z.n → j < 4 * level_size z k → get_or (stretch_of z k work') j 0 ≡ get_or (stretch_of z k work) j 0
    other_at k j a b g =
        stretch_at z Z work' k j g ∙ behind _ (omega (arith, level_before z Z (levels z) k a (omega arith) (omega arith))) ∙ sym (stretch_at z Z work k j g)

    top_at : (j : ℕ) → j < n → get_or (stretch_of z (levels z) work') j 0 ≡ get_or (stretch_of z (levels z) work) j 0
    top_at j g = ap (λ s. get_or s j 0) top_stretch_lem ∙ B.beside.values j g ∙ ap (λ s. get_or s j 0) (sym top_before)

    words_same : (x : ℕ) → x < area z → word_in z work' x ≡ word_in z work x
    words_same x g = by (ℕ_discrete (tree_level z x) (levels z))
      where
        some : 1 ≤ tree_level z x
        some = level_some z Z x g

        by : Dec (tree_level z x ≡ levels z) → word_in z work' x ≡ word_in z work x
        by (yes u) =
            let p = level_place z Z (levels z) x u (omega arith) in
            word_in_lem z Z work' (levels z) x u (omega arith) ∙ top_at _ (omega (arith, p.1, p.2)) ∙ sym (word_in_lem z Z work (levels z) x u (omega arith))
        by (no d) =
            let k = tree_level z x in
            let p = level_place z Z k x refl some in
            word_in_lem z Z work' k x refl some
            ∙ other_at k _ some (omega (arith, p.0)) (omega (arith, p.1, p.2))
            ∙ sym (word_in_lem z Z work k x refl some)

    maxima_same : (k j : ℕ) → 1 ≤ k → k ≤ z.n → maximum_in z work' k j ≡ maximum_in z work k j
    unfolding maximum_in stretch_of
    maxima_same k j a b =
        ap (λ s. get_or (maxima_in (level_size z k) s) j 0)
        (seg_same (4 * level_start z k) (4 * level_size z k) work work' (same_len_mid 0 (4 * n - 0) work ys l)
        (λ p u v. behind p (omega (arith, level_before z Z (levels z) k a (omega arith) (omega arith)))))

    -- LIP's entries are marked; the other levels have none
    top_marks : (i : ℕ) → i < r.lip
        → Marked (stretch_by role z (levels z)) (stretch_of z (levels z) work') (lip_at (level_size z (levels z)) i (stretch_of z (levels z) work'))
    top_marks j l = rw (top_stretch_lem, ← i, level_start_top z) (marked_lent (λ c x g. refl) (B.fits.marked j l))

    pub started : Started role z work counts work'
    started =
        record {
          lists = record { lists = λ k. by k (ℕ_discrete k (levels z)) };
          same = same_len_mid 0 (4 * n - 0) work ys l;
          words = words_same;
          maxima = maxima_same;
          marks = record { lips = λ k j a b l. marked k j (ℕ_discrete k (levels z)) l };
        }
      where
        marked : (k j : ℕ) → Dec (k ≡ levels z) → j < (count_at counts k).lip
            → Marked (stretch_by role z k) (stretch_of z k work') (lip_at (level_size z k) j (stretch_of z k work'))
        marked k j (yes d) l =
            subst (λ (x : ℕ). Marked (stretch_by role z x) (stretch_of z x work') (lip_at (level_size z x) j (stretch_of z x work'))) (sym d)
            (top_marks j (omega (arith, ap (λ (x : ℕ). (count_at counts x).lip) d, ap (λ l. l.lip) (counts_top (omega (arith, Z.few))))))
        marked k j (no d) l = absurd (omega (arith, ap (λ l. l.lip) (counts_else k Z.some d)))

        by : (k : ℕ) → Dec (k ≡ levels z) → state_of z work' counts k ≡ tree_start z k
        by k (yes j) = subst (λ (x : ℕ). state_of z work' counts x ≡ tree_start z x) (sym j) top_lists
        by k (no d) = other_lists k d
