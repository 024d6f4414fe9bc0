-- Room in a level's lists for a pass, whatever the bits. Each coefficient of level k comes once into LIP_k or LSP_k. A set takes a slot of LIS_k
-- as type A and one as type B, and its members of the level pay for the slots of all that comes of it: three quarters of them are enough.
use Rattle.std.specs.Prelude.{◌≡◌, Bool, ℕ, ◌+◌, ◌*◌, ◌≤◌, length}
use Rattle.std.proofs.Math.Path.{refl}
use Rattle.std.proofs.Common.{◌∙◌}
use mathlib.Core.List.{List, [], ◌∷◌, ◌++◌, map}
use Rattle.std.proofs.Math.Bool.{true, false}
use native.Mathlib.Omega.{arith}
use Rattle.rules.specs.Document.Notation.{if_any}
use Rattle.rules.specs.Document.Pyramid.{Family}
use Rattle.rules.specs.Document.Passes.{Entry, typeA, typeB, Lists, members, in_level, opened, added}
use Rattle.rules.specs.Laws.Counting.Sums.{sum, is, ◌∈◌, All}
use Rattle.rules.proofs.Laws.Counting.Sums.{sum_append, sum-map, sum_same, sum_one, is_yes, all_then, all_append, all_map, in_some}
use Rattle.rules.specs.Laws.Family.Lawful.{Lawful}
use Rattle.rules.proofs.Laws.Family.Lawful.{level_some, set_splits, offspring_some, grandchild}
use Rattle.rules.specs.Laws.Pass.Lists.{lists_weight}
use Rattle.rules.specs.Laws.Pass.Levels.{Met, Settled, Placed}
use Rattle.rules.proofs.Laws.Pass.Levels.{opened_placed, type_a_met, added_settled}
use Rattle.rules.specs.Laws.Pass.Slots.{here, as_type_b, slots_twice, Room}

pub level_length : (F : Family) (k : ℕ) (ps : List ℕ) → All (λ p. F.level p ≡ k) ps → sum (λ q. is k (F.level q)) ps ≡ length ps
level_length F k ps a = sum_one (λ q. is k (F.level q)) ps (all_then _ _ ps (λ q e. is_yes k (F.level q) e) a)

-- No list grows past its part of the workspace: at the start of a pass, and after each test.
module _ {F : Family} {k n : ℕ} where
  pub room_start : (l : Lists) → Placed F k l → lists_weight F (λ q. is k (F.level q)) l ≤ n → 2 * sum (slots_twice F k) l.lis ≤ 3 * n
      → Room F k n (length l.lsp) 0 l.lip l.lis
  unfolding lists_weight
  room_start l h a b =
      record {
        coefficients = omega (arith, level_length F k l.lip h.lips, level_length F k l.lsp h.lsps);
        slots = omega arith;
        settled = h.sets;
      }

  module _ {held visited : ℕ} where
    pub room_held : {ps : List ℕ} {es : List Entry} → Room F k n held visited ps es → held + length ps ≤ n
    room_held r = omega (arith, r.coefficients)

    pub room_test : {p : ℕ} {ps : List ℕ} {es : List Entry} → Room F k n held visited (p ∷ ps) es → Room F k n (held + 1) visited ps es
    room_test r = record { coefficients = omega (arith, r.coefficients); slots = r.slots; settled = r.settled }

    pub room_tests : {ps : List ℕ} {es : List Entry} → Room F k n held visited ps es → Room F k n (held + length ps) visited [] es
    room_tests r = record { coefficients = omega (arith, r.coefficients); slots = r.slots; settled = r.settled }

    pub room_fewer : {ps : List ℕ} {es : List Entry} (fewer : ℕ) → fewer ≤ held → Room F k n held visited ps es → Room F k n fewer visited ps es
    room_fewer fewer h r = record { coefficients = omega (arith, r.coefficients); slots = r.slots; settled = r.settled }

length_if_any : {X : Type 0} (xs : List X) (e : Entry) → length (if_any xs (e ∷ [])) ≤ 1
unfolding if_any
length_if_any [] e = omega arith
length_if_any (x ∷ xs) e = omega arith

module _ (F : Family) (k : ℕ) where
  slots_there : (e : Entry) → in_level F k e ≡ true → slots_twice F k e ≡ here F k e + as_type_b e
  unfolding slots_twice
  slots_there e h = rw h

  pub slots_gone : (e : Entry) → in_level F k e ≡ false → slots_twice F k e ≡ 2
  unfolding slots_twice
  slots_gone e h = rw h

  slots_most : (e : Entry) → slots_twice F k e ≤ here F k e + 2
  unfolding as_type_b
  slots_most e = by e (in_level F k e) refl
    where
      by : (e : Entry) (b : Bool) → in_level F k e ≡ b → slots_twice F k e ≤ here F k e + 2
      by e false h = omega (arith, slots_gone e h)
      by (typeA p) true h = omega (arith, slots_there (typeA p) h)
      by (typeB p) true h = omega (arith, slots_there (typeB p) h)

  sum_most : (es : List Entry) → sum (slots_twice F k) es ≤ sum (here F k) es + 2 * length es
  unfolding sum
  sum_most [] = omega arith
  sum_most (e ∷ es) = omega (arith, slots_most e, sum_most es)

some_le : {X : Type 0} (w : X → ℕ) (m : ℕ) (xs : List X) → 1 ≤ length xs → All (λ x. m ≤ w x) xs → m ≤ sum w xs
unfolding All sum
some_le w m [] l a = absurd (omega arith)
some_le w m (x ∷ xs) l a = omega (arith, a.0)

module _ {F : Family} (L : Lawful F) (k : ℕ) where
  here_splits : (e : Entry) → Met F k e → here F k e ≡ length (opened F e) + sum (here F k) (added F e)
  here_splits e m = omega (arith, set_splits F L (λ q. is k (F.level q)) e, level_length F k (opened F e) (opened_placed L k e m))

  offspring_four : (p : ℕ) → in_level F k (typeA p) ≡ true → 4 ≤ length (F.offspring p)
  unfolding members
  offspring_four p h =
      let w : (q : ℕ) × (q ∈ F.descendants p) × (F.level q ≡ k) = level_some F k (typeA p) h in
      let r : (r : ℕ) × (r ∈ F.offspring p) = offspring_some F L p w.0 w.1 in
      L.four p r.0 r.1

  here_type_a : (p : ℕ) → Met F k (typeA p) → 4 ≤ here F k (typeA p)
  unfolding opened
  here_type_a p m = omega (arith, here_splits (typeA p) m, offspring_four p m.there)

  here_type_b : (p : ℕ) → Met F k (typeB p) → 4 ≤ here F k (typeB p)
  unfolding opened added
  here_type_b p m =
      let w : (q : ℕ) × (q ∈ members F (typeB p)) × (F.level q ≡ k) = level_some F k (typeB p) m.there in
      let g : _ = grandchild F L p w.0 w.1 in
      omega (
        arith,
        here_splits (typeB p) m,
        sum-map (here F k) typeA (F.offspring p),
        some_le (λ q. here F k (typeA q)) 4 (F.offspring p) (in_some g.0 (F.offspring p) g.1)
            (all_then _ _ (F.offspring p) here_type_a (type_a_met L k p m)),
      )

  pub here_four : (e : Entry) → Met F k e → 4 ≤ here F k e
  here_four (typeA p) m = here_type_a p m
  here_four (typeB p) m = here_type_b p m

  -- A set takes a slot at least; one that opens has paid for its own and for those of the sets that are added for it.
  slots_least : (e : Entry) → Settled F k e → 2 ≤ slots_twice F k e
  unfolding as_type_b
  slots_least e s = by e (in_level F k e) refl s
    where
      by : (e : Entry) (b : Bool) → in_level F k e ≡ b → Settled F k e → 2 ≤ slots_twice F k e
      by e false h s = omega (arith, slots_gone F k e h)
      by (typeA p) true h s = omega (arith, slots_there F k (typeA p) h, here_type_a p (record { up_to = s.up_to; there = h }))
      by (typeB p) true h s = omega (arith, slots_there F k (typeB p) h)

  slots_opened : (e : Entry) → Met F k e → 2 + sum (slots_twice F k) (added F e) ≤ slots_twice F k e
  unfolding added as_type_b opened
  slots_opened (typeA p) m =
      omega (
        arith,
        slots_there F k (typeA p) m.there,
        here_splits (typeA p) m,
        sum_most F k (added F (typeA p)),
        length_if_any (members F (typeB p)) (typeB p),
        offspring_four p m.there,
      )
  slots_opened (typeB p) m =
      omega (
        arith,
        slots_there F k (typeB p) m.there,
        here_splits (typeB p) m,
        sum_same (slots_twice F k) (here F k) (map typeA (F.offspring p))
            (all_map _ typeA (F.offspring p)
            (all_then _ _ (F.offspring p) (λ q a. slots_there F k (typeA q) a.there ∙ omega arith) (type_a_met L k p m))),
      )

  -- What a set holds of the level pays for all its slots.
  pub slots_paid : (e : Entry) → Met F k e → 2 * slots_twice F k e ≤ 3 * here F k e
  slots_paid e m = omega (arith, slots_most F k e, here_four e m)

  lengths_least : (es : List Entry) → All (Settled F k) es → 2 * length es ≤ sum (slots_twice F k) es
  unfolding sum All
  lengths_least [] a = omega arith
  lengths_least (e ∷ es) a = omega (arith, slots_least e a.0, lengths_least es a.1)

  -- Where each set of a level's LIS has members in the level, these pay for all its slots.
  pub met_paid : (es : List Entry) → All (Met F k) es → 2 * sum (slots_twice F k) es ≤ 3 * sum (here F k) es
  unfolding sum All
  met_paid [] a = omega arith
  met_paid (e ∷ es) a = omega (arith, slots_paid e a.0, met_paid es a.1)

-- The same after each visit of a set.
module _ {F : Family} (L : Lawful F) {k n held visited : ℕ} where
  pub room_slots : {ps : List ℕ} {es : List Entry} → Room F k n held visited ps es → 4 * (visited + length es) ≤ 3 * n
  room_slots {es = es} r = omega (arith, r.slots, lengths_least L k es r.settled)

  pub room_past : {e : Entry} {es : List Entry} → Room F k n held visited [] (e ∷ es) → Room F k n held (visited + 1) [] es
  unfolding sum All
  room_past {e} {es} r =
      record {
        coefficients = omega (arith, r.coefficients);
        slots = omega (arith, r.slots, slots_least L k e r.settled.0);
        settled = r.settled.1;
      }

  pub room_open : {e : Entry} {es : List Entry} → in_level F k e ≡ true → Room F k n held visited [] (e ∷ es)
      → Room F k n held (visited + 1) (opened F e) (es ++ added F e)
  unfolding sum All
  room_open {e} {es} h r =
      let m : Met F k e = record { up_to = r.settled.0.up_to; there = h } in
      record {
        coefficients = omega (arith, r.coefficients, here_splits L k e m, sum_append (here F k) es (added F e));
        slots = omega (arith, r.slots, slots_opened L k e m, sum_append (slots_twice F k) es (added F e));
        settled = all_append (Settled F k) es (added F e) r.settled.1 (added_settled L k e m);
      }
