-- Sets in tree numbers: in which levels their members are, told by the level of their node, and what comes of a set in its place.
use mathlib.Core.Path.{◌≡◌, refl, sym, ap, ◌∙◌, subst}
use mathlib.Core.Bool.{true, false}
use mathlib.Core.List.{List, [], ◌∷◌, map}
use Prim.Native.Nat.{ℕ, suc, ◌+◌, ◌*◌, ◌^◌, ◌≤◌, ◌<◌}
use native.Mathlib.Omega.{arith}
use lib.Dec.{ltb}
use lib.ListN.{length}
use borrow.Author.Tests.{le-ltb, ltb-true}
use Rattle.rules.specs.declared.Size.{Size}
use Rattle.rules.specs.Document.Notation.{if_any}
use Rattle.rules.specs.Document.Pyramid.{family, level_of, offspring_of, legal_size}
use Rattle.rules.specs.Document.Passes.{Entry, typeA, typeB, members, in_level, added}
use Rattle.rules.specs.Laws.Counting.Sums.{◌∈◌, All}
use Rattle.rules.proofs.Laws.Counting.Sums.{every_all, all_every, map_all, some_in, if_any_some}
use Rattle.rules.specs.Laws.Family.Lawful.{Lawful}
use Rattle.rules.proofs.Laws.Family.Lawful.{level_some, opened_level, grandchild, grandchild_in}
use Rattle.rules.proofs.Laws.Family.Sizes.{legal, span_whole, span_quarter, area_bound}
use Rattle.rules.specs.Promises.Vocabulary.{Legal}
use Rattle.rules.proofs.Laws.Offspring.Kin.{offspring_level}
use Rattle.rules.proofs.Laws.Offspring.Sets.{in_level_b, members_b_some, members_b_none}
use Rattle.rules.specs.Laws.Pass.Levels.{Met, node_of}
use Rattle.rules.proofs.Laws.Pass.Levels.{met_settled, settled_offspring}
use Rattle.trees.specs.Renamed.{name_entry}
use Rattle.trees.proofs.Renamed.{map_length, members_renamed, in_level_renamed}
use Rattle.trees.specs.Family.{trees, tree_level, tree_offspring, coefficient_of}
use Rattle.trees.proofs.Family.{level_same, offspring_same, trees_rename, tree_offspring_some}
use Rattle.trees.proofs.Lawful.{trees_lawful}
use Rattle.trees.proofs.Sound.{tree_node}
use Rattle.lists.specs.Lists.{four_from}

none_length : {X : Type 0} (xs : List X) → length xs ≡ 0 → xs ≡ []
none_length [] e = refl
none_length (x ∷ xs) e = absurd (omega arith)

module _ (z : Size) (Z : Legal z) where
  -- Offspring are one level under their parent.
  tree_offspring_level : (p q : ℕ) → q ∈ tree_offspring z p → suc (tree_level z q) ≡ tree_level z p
  tree_offspring_level p q i =
      ap suc (sym (level_same z Z q)) ∙ all_every _ (tree_offspring z p) (map_all under (coefficient_of z) (tree_offspring z p) above) q i
    where
      under : ℕ → Type 0
      under r = suc (level_of z r) ≡ tree_level z p

      above : All under (map (coefficient_of z) (tree_offspring z p))
      above =
          subst (All under) (offspring_same z Z p)
          (every_all under (offspring_of z (coefficient_of z p)) (λ r j. offspring_level z Z (coefficient_of z p) r j ∙ level_same z Z p))

  module _ (p : ℕ) (some : 1 ≤ length (tree_offspring z p)) where
    some_there : 1 ≤ length (offspring_of z (coefficient_of z p))
    some_there = omega (arith, some, ap length (offspring_same z Z p), map_length (coefficient_of z) (tree_offspring z p))

    -- L has members of the levels from two under that of the node, down to 1.
    tree_in_level_b : (k : ℕ) → 1 ≤ k → in_level (trees z) k (typeB p) ≡ ltb (suc k) (tree_level z p)
    unfolding name_entry
    tree_in_level_b k h =
        sym (in_level_renamed (coefficient_of z) (family z) (trees z) (trees_rename z Z) k (typeB p))
        ∙ in_level_b z Z (coefficient_of z p) some_there k h
        ∙ ap (ltb (suc k)) (level_same z Z p)

    -- L is empty exactly if the node is of level 2.
    members_there : length (members (family z) (typeB (coefficient_of z p))) ≡ length (members (trees z) (typeB p))
    unfolding name_entry
    members_there =
        ap length (members_renamed (coefficient_of z) (family z) (trees z) (trees_rename z Z) (typeB p))
        ∙ map_length (coefficient_of z) (members (trees z) (typeB p))

    tree_added_some : 2 < tree_level z p → added (trees z) (typeA p) ≡ typeB p ∷ []
    unfolding added
    tree_added_some h =
        if_any_some (members (trees z) (typeB p)) (typeB p ∷ [])
        (omega (arith, members_there, members_b_some z Z (coefficient_of z p) some_there (omega (arith, level_same z Z p))))

    tree_added_none : tree_level z p ≤ 2 → added (trees z) (typeA p) ≡ []
    unfolding added if_any
    tree_added_none h =
        ap (λ ms. if_any ms (typeB p ∷ []))
        (none_length (members (trees z) (typeB p))
        (sym members_there ∙ ap length (members_b_none z Z (coefficient_of z p) some_there (omega (arith, level_same z Z p)))))

  -- A set in its place in level k: D has its highest members one level under the node, L two levels.
  module _ (k : ℕ) (from1 : 1 ≤ k) (p : ℕ) where
    L : Lawful (trees z)
    L = trees_lawful z Z

    met_some_a : Met (trees z) k (typeA p) → 1 ≤ length (tree_offspring z p)
    unfolding node_of
    met_some_a m = settled_offspring L (typeA p) (met_settled m)

    met_some_b : Met (trees z) k (typeB p) → 1 ≤ length (tree_offspring z p)
    unfolding node_of
    met_some_b m = settled_offspring L (typeB p) (met_settled m)

    met_level_a : Met (trees z) k (typeA p) → tree_level z p ≡ k + 1
    met_level_a m =
        let r : (r : ℕ) × (r ∈ tree_offspring z p) = some_in (tree_offspring z p) (met_some_a m) in
        omega (arith, tree_offspring_level p r.0 r.1, opened_level (trees z) L k p m.up_to m.there r.0 r.1)

    pub met_level_b : Met (trees z) k (typeB p) → tree_level z p ≡ k + 2
    met_level_b m =
        let i : suc k < tree_level z p = ltb-true _ _ (sym (tree_in_level_b p (met_some_b m) k from1) ∙ m.there) in
        let w : (q : ℕ) × (q ∈ members (trees z) (typeB p)) × (tree_level z q ≡ k) = level_some (trees z) k (typeB p) m.there in
        let g : _ = grandchild (trees z) L p w.0 w.1 in
        let t : (t : ℕ) × (t ∈ tree_offspring z g.0) = g.3 in
        omega (
          arith,
          tree_offspring_level p g.0 g.1,
          tree_offspring_level g.0 t.0 t.1,
          m.up_to t.0 (grandchild_in (trees z) L p g.0 t.0 g.1 t.1),
        )

    -- what comes of it: four offspring; of one of type A itself as type B, but in level 1
    pub met_four_a : Met (trees z) k (typeA p) → tree_offspring z p ≡ four_from (4 * p)
    unfolding node_of
    met_four_a m = let n : _ = tree_node z Z (typeA p) (met_settled m) in tree_offspring_some z p n.0 n.1

    pub met_four_b : Met (trees z) k (typeB p) → tree_offspring z p ≡ four_from (4 * p)
    unfolding node_of
    met_four_b m = let n : _ = tree_node z Z (typeB p) (met_settled m) in tree_offspring_some z p n.0 n.1

    pub met_added_more : Met (trees z) k (typeA p) → 1 < k → added (trees z) (typeA p) ≡ typeB p ∷ []
    met_added_more m h = tree_added_some p (met_some_a m) (omega (arith, met_level_a m))

    pub met_added_less : Met (trees z) k (typeA p) → k ≤ 1 → added (trees z) (typeA p) ≡ []
    met_added_less m h = tree_added_none p (met_some_a m) (omega (arith, met_level_a m))

    -- that set of type B has its members in finer levels
    pub met_b_finer : Met (trees z) k (typeA p) → in_level (trees z) k (typeB p) ≡ false
    met_b_finer m = tree_in_level_b p (met_some_a m) k from1 ∙ le-ltb (suc k) (tree_level z p) (omega (arith, met_level_a m))

-- the numbers of its offspring are small
pub met_bound : (z : Size) → legal_size z ≡ true → {k : ℕ} (e : Entry) → Met (trees z) k e → 4 * node_of e + 4 < 2 ^ 26
met_bound z h e m =
    let Z : Legal z = legal z h in
    omega (arith, (tree_node z Z e (met_settled m)).1, span_quarter z Z 0 (omega arith), span_whole z, area_bound z h)
