-- Sets in their place: the level of the node that a set is named by, and where its tree number lies.
use mathlib.Core.Path.{◌≡◌, refl, ap, subst}
use mathlib.Core.Bool.{Bool, true, false}
use Prim.Native.Nat.{ℕ, suc, ◌+◌, ◌≤◌, ◌<◌}
use native.Mathlib.Omega.{arith}
use native.Mathlib.Decide.{dec_le}
use Rattle.rules.specs.declared.Size.{Size}
use Rattle.rules.specs.Document.Pyramid.{levels}
use Rattle.rules.specs.Document.Passes.{Entry, typeA, typeB, in_level, opened}
use Rattle.rules.specs.Laws.Counting.Sums.{◌∈◌}
use Rattle.rules.proofs.Laws.Counting.Sums.{all_every, some_in}
use Rattle.rules.specs.Laws.Family.Sizes.{span}
use Rattle.rules.specs.Laws.Pass.Levels.{Met, Settled, node_of}
use Rattle.rules.proofs.Laws.Pass.Levels.{met_settled, settled_offspring, opened_placed, type_a_met}
use Rattle.rules.specs.Promises.Vocabulary.{Legal}
use Rattle.trees.specs.Family.{tree_level, tree_offspring, trees}
use Rattle.trees.proofs.Family.{Lies, lies}
use Rattle.trees.proofs.Lawful.{trees_lawful, tree_offspring_level}
use Rattle.trees.proofs.Sound.{tree_node, tree_level_most}

-- Where the node of a set stands that is in its place in level k.
module _ (z : Size) (Z : Legal z) where
  node_lies : (k x : ℕ) → tree_level z x ≡ suc k → span z (levels z) ≤ x → (k ≤ z.n) × (span z (suc k) ≤ x) × (x < span z k)
  unfolding Lies
  node_lies k x e h =
      let l = subst (λ (j : ℕ). Lies z j x) e (lies z x) in
      (l.2, first l.2 l.1 (dec_le (suc k) z.n), l.0)
    where
      first : k ≤ z.n → (suc k ≤ z.n → span z (suc k) ≤ x) → Dec (suc k ≤ z.n) → span z (suc k) ≤ x
      first a f (yes m) = f m
      first a f (no m) = let i : suc k ≡ levels z = omega arith in omega (arith, ap (span z) i)

  type_a_level : (k x : ℕ) → Met (trees z) k (typeA x) → tree_level z x ≡ suc k
  unfolding opened node_of
  type_a_level k x m =
      let r : (q : ℕ) × (q ∈ tree_offspring z x) = some_in (tree_offspring z x) (settled_offspring (trees_lawful z Z) (typeA x) (met_settled m)) in
      let a : tree_level z r.0 ≡ k = all_every _ (tree_offspring z x) (opened_placed (trees_lawful z Z) k (typeA x) m) r.0 r.1 in
      omega (arith, tree_offspring_level z Z x r.0 r.1)

  type_b_level : (k x : ℕ) → Met (trees z) k (typeB x) → tree_level z x ≡ suc (suc k)
  unfolding node_of
  type_b_level k x m =
      let r : (q : ℕ) × (q ∈ tree_offspring z x) = some_in (tree_offspring z x) (settled_offspring (trees_lawful z Z) (typeB x) (met_settled m)) in
      let a = type_a_level k r.0 (all_every _ (tree_offspring z x) (type_a_met (trees_lawful z Z) k x m) r.0 r.1) in
      omega (arith, tree_offspring_level z Z x r.0 r.1)

  node_above : (k : ℕ) (e : Entry) → Met (trees z) k e → span z (levels z) ≤ node_of e
  node_above k e m = (tree_node z Z e (met_settled m)).0

  pub type_a_place : (k x : ℕ) → Met (trees z) k (typeA x) → (k ≤ z.n) × (span z (k + 1) ≤ x) × (x < span z k)
  unfolding node_of
  type_a_place k x m =
      let p = node_lies k x (type_a_level k x m) (node_above k (typeA x) m) in
      let i : span z (k + 1) ≡ span z (suc k) = ap (span z) (omega arith) in
      (p.0, omega (arith, p.1), p.2)

  pub type_b_place : (k x : ℕ) → Met (trees z) k (typeB x) → (k + 1 ≤ z.n) × (span z (k + 2) ≤ x) × (x < span z (k + 1))
  unfolding node_of
  type_b_place k x m =
      let p = node_lies (suc k) x (type_b_level k x m) (node_above k (typeB x) m) in
      let i : span z (k + 1) ≡ span z (suc k) = ap (span z) (omega arith) in
      let j : span z (k + 2) ≡ span z (suc (suc k)) = ap (span z) (omega arith) in
      (omega (arith, p.0), omega (arith, p.1), omega (arith, p.2))

  -- No set has a member in level N+1.
  top_never : (e : Entry) → Met (trees z) (levels z) e → ⊥
  top_never (typeA x) m = omega (arith, type_a_level (levels z) x m, tree_level_most z Z x)
  top_never (typeB x) m = omega (arith, type_b_level (levels z) x m, tree_level_most z Z x)

  pub top_none : (e : Entry) → Settled (trees z) (levels z) e → in_level (trees z) (levels z) e ≡ false
  top_none e s = by (in_level (trees z) (levels z) e) refl
    where
      by : (b : Bool) → in_level (trees z) (levels z) e ≡ b → in_level (trees z) (levels z) e ≡ false
      by false i = i
      by true i = absurd (top_never e (record { up_to = s.up_to; there = i }))
