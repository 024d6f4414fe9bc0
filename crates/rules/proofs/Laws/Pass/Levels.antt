-- The levels of what a pass makes, whatever the bits: LIP_k and LSP_k hold level k, the sets of LIS_k hold level k and finer ones, what moves
-- out of level k has members in the next, and nothing leaves level 1.
use Rattle.std.specs.Prelude.{◌≡◌, Bool, true, false, ◌≢◌}
use Rattle.std.proofs.Math.Path.{refl}
use Rattle.std.proofs.Common.{sym, ◌∙◌, subst, true≢false, arith}
use mathlib.Core.List.{List, [], ◌∷◌}
use Prim.Native.Nat.{ℕ, zero, suc, ◌≤◌}
use Rattle.std.proofs.Math.ListN.{length}
use Rattle.rules.specs.Document.Notation.{if_any}
use Rattle.rules.specs.Document.Pyramid.{Family}
use Rattle.rules.specs.Document.Passes.{Entry, typeA, typeB, Lists, members, in_level, opened, added, Side, passed}
use Rattle.rules.specs.Laws.Counting.Sums.{sum, is, ◌∈◌, All, Every}
use Rattle.rules.proofs.Laws.Counting.Sums.{all_then, all_both, all_map, map_all, every_all, in_some}
use Rattle.rules.specs.Laws.Family.Lawful.{Lawful, UpTo}
use Rattle.rules.proofs.Laws.Family.Lawful.{level_some, level_none, offspring_some, grandchild, set_splits, opened_level, added_level}
use Rattle.rules.proofs.Laws.Family.Lawful.{leaves_b, leaves_never}
use Rattle.rules.specs.Laws.Pass.Lists.{Fates, Sorted, set_weight}
use Rattle.rules.proofs.Laws.Pass.Lists.{passed_sorted}
use Rattle.rules.specs.Laws.Pass.Levels.{Met, Leaves, Settled, node_of, Placed, level_claims}

pub met_settled : {F : Family} {k : ℕ} {e : Entry} → Met F k e → Settled F k e
met_settled m = record { up_to = m.up_to; leaves = λ h. absurd (true≢false (sym m.there ∙ h)) }

pub leaves_met : {F : Family} {k : ℕ} {e : Entry} (j : ℕ) → suc j ≡ k → Leaves F k e → Met F j e
leaves_met {F} {k} {e} j i l = let t : l.to ≡ j = omega (arith, l.next) in subst (λ (x : ℕ). Met F x e) t l.met

pub leaves_next : {F : Family} (j : ℕ) (e : Entry) → UpTo F (suc j) e → in_level F (suc j) e ≡ false → in_level F j e ≡ true → Leaves F (suc j) e
leaves_next {F} j e u n t = record { to = j; next = refl; met = record { up_to = lower; there = t } }
  where
    lower : UpTo F j e
    lower q i = let d : F.level q ≢ suc j = level_none F (suc j) e n q i in omega (arith, u q i)

pub all_if_any : {Y Z : Type 0} (P : Z → Type 0) (ys : List Y) (z : Z) → (1 ≤ length ys → P z) → All P (if_any ys (z ∷ []))
unfolding All if_any
all_if_any P [] z h = tt
all_if_any P (y ∷ ys) z h = (h (omega arith), tt)

if_any_all : {Y Z : Type 0} (P : Z → Type 0) (ys : List Y) (z : Z) → 1 ≤ length ys → All P (if_any ys (z ∷ [])) → P z
unfolding All if_any
if_any_all P [] z l a = absurd (omega arith)
if_any_all P (y ∷ ys) z l a = a.0

-- A set of LIS_k has members, so its node has offspring.
pub settled_some : {F : Family} {k : ℕ} (e : Entry) → Settled F k e → (q : ℕ) × (q ∈ members F e)
settled_some {F} {k} e s = by (in_level F k e) refl
  where
    some : (j : ℕ) → in_level F j e ≡ true → (q : ℕ) × (q ∈ members F e)
    some j h = let w : (q : ℕ) × (q ∈ members F e) × (F.level q ≡ j) = level_some F j e h in (w.0, w.1)

    by : (b : Bool) → in_level F k e ≡ b → (q : ℕ) × (q ∈ members F e)
    by true h = some k h
    by false h = some (s.leaves h).to (s.leaves h).met.there

module _ {F : Family} (L : Lawful F) where
  pub settled_offspring : {k : ℕ} (e : Entry) → Settled F k e → 1 ≤ length (F.offspring (node_of e))
  settled_offspring e s = by e (settled_some e s)
    where
      by : (e : Entry) → (q : ℕ) × (q ∈ members F e) → 1 ≤ length (F.offspring (node_of e))
      by (typeA p) w = unfold node_of members in
          let r : (r : ℕ) × (r ∈ F.offspring p) = offspring_some F L p w.0 w.1 in
          in_some r.0 (F.offspring p) r.1
      by (typeB p) w = unfold node_of in
          let g : _ = grandchild F L p w.0 w.1 in
          in_some g.0 (F.offspring p) g.1

  -- What holds of all members of a set holds of all that it opens into.
  pub opened_members : (P : ℕ → Type 0) (e : Entry) → Every P (members F e) → All P (opened F e)
  opened_members P e h = every_all P (opened F e) (λ q i. h q (omega (arith, set_splits F L (is q) e)))

  pub members_apart : (P : ℕ → Type 0) (es : List Entry) → ((q : ℕ) → 1 ≤ sum (set_weight F (is q)) es → P q) → All (λ d. Every P (members F d)) es
  unfolding All sum
  members_apart P [] h = tt
  members_apart P (e ∷ es) h = ((λ q i. h q (omega arith)), members_apart P es (λ q i. h q (omega arith)))

  pub added_members : (P : ℕ → Type 0) (e : Entry) → Every P (members F e) → All (λ d. Every P (members F d)) (added F e)
  added_members P e h = members_apart P (added F e) (λ q i. h q (omega (arith, set_splits F L (is q) e)))

  -- A set that is opened in level k opens into coefficients of level k and sets of LIS_k.
  module _ (k : ℕ) where
    pub opened_placed : (e : Entry) → Met F k e → All (λ p. F.level p ≡ k) (opened F e)
    unfolding All opened
    opened_placed (typeA p) m = every_all _ (F.offspring p) (opened_level F L k p m.up_to m.there)
    opened_placed (typeB p) m = tt

    pub type_a_met : (p : ℕ) → Met F k (typeB p) → All (λ q. Met F k (typeA q)) (F.offspring p)
    unfolding added
    type_a_met p m =
        all_then _ _ (F.offspring p) (λ q a. record { up_to = a.0; there = a.1 })
        (all_both _ _ (F.offspring p)
        (map_all (UpTo F k) typeA (F.offspring p) (added_members _ (typeB p) m.up_to))
        (every_all _ (F.offspring p) (added_level F L k p m.up_to m.there)))

  type_b_leaves : (k p : ℕ) → Met F k (typeA p) → UpTo F k (typeB p) → 1 ≤ length (members F (typeB p)) → in_level F k (typeB p) ≡ false
      → Leaves F k (typeB p)
  unfolding members
  type_b_leaves zero p m u l n =
      let w : (q : ℕ) × (q ∈ F.descendants p) × (F.level q ≡ 0) = level_some F 0 (typeA p) m.there in
      absurd (omega (arith, L.from1 p w.0 w.1, w.2))
  type_b_leaves (suc j) p m u l n = leaves_next j (typeB p) u n (leaves_b F L j p m.up_to m.there l n)

  module _ (k : ℕ) where
    pub added_settled : (e : Entry) → Met F k e → All (Settled F k) (added F e)
    unfolding added
    added_settled (typeA p) m =
        all_if_any (Settled F k) (members F (typeB p)) (typeB p) (λ l. record { up_to = rest l; leaves = type_b_leaves k p m (rest l) l })
      where
        rest : 1 ≤ length (members F (typeB p)) → UpTo F k (typeB p)
        rest l = if_any_all (UpTo F k) (members F (typeB p)) (typeB p) l (added_members _ (typeA p) m.up_to)
    added_settled (typeB p) m =
        all_map (Settled F k) typeA (F.offspring p) (all_then _ _ (F.offspring p) (λ q a. met_settled a) (type_a_met k p m))

    pub levels_fates : {S : Type 0} (C : Side S) → Fates F k C (level_claims F k)
    levels_fates C = record {
      insignificant = λ s p b h. h;
      significant = λ s p b h. h;
      moving = λ e i h. h.leaves i;
      staying = λ s e i b h. record { up_to = h.up_to; there = i };
      opening = λ s e i b h. let m : Met F k e = record { up_to = h.up_to; there = i } in (opened_placed k e m, added_settled e m);
    }

    pub passed_levels : {S : Type 0} (C : Side S) (l : Lists) (s : S) → Placed F k l → Sorted (level_claims F k) (passed F k C l s) [] []
    passed_levels C l s h = passed_sorted (levels_fates C) L l s h.lips h.sets h.lsps

  -- Nothing ever leaves level 1.
  leaves_level1 : (e : Entry) → Leaves F 1 e → ⊥
  leaves_level1 e h =
      let m : Met F 0 e = leaves_met 0 refl h in
      let w : (q : ℕ) × (q ∈ members F e) × (F.level q ≡ 0) = level_some F 0 e m.there in
      let a : in_level F 1 e ≡ true = leaves_never F L e (λ q i. omega (arith, m.up_to q i)) (in_some w.0 (members F e) w.1) in
      let v : (q : ℕ) × (q ∈ members F e) × (F.level q ≡ 1) = level_some F 1 e a in
      omega (arith, m.up_to v.0 v.1, v.2)

  pub passed_level1 : {S : Type 0} (C : Side S) (l : Lists) (s : S) → Placed F 1 l → (passed F 1 C l s).moved ≡ []
  unfolding All
  passed_level1 C l s h = none (passed F 1 C l s).moved (passed_levels 1 C l s h).move
    where
      none : (es : List Entry) → All (Leaves F 1) es → es ≡ []
      none [] a = refl
      none (e ∷ es) a = absurd (leaves_level1 e a.0)
