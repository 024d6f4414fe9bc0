-- What a set of document 01's family has, told by the level of its coefficient: the tests that the code makes.
use Rattle.std.specs.Prelude.{◌≡◌, refl, [], Bool, false, ltb, length}
use Rattle.std.proofs.Common.{sym, ◌∙◌, arith, lt-ltb, le-ltb}
use Rattle.std.proofs.Math.Bool.{true}
use Prim.Native.Nat.{ℕ, zero, suc, ◌+◌, ◌-◌, ◌≤◌, ◌<◌}
use Rattle.std.proofs.Math.Decide.{dec_lt}
use Rattle.rules.specs.declared.Size.{Size}
use Rattle.rules.specs.Document.Pyramid.{family, level_of, offspring_of, descendants_of}
use Rattle.rules.specs.Document.Passes.{typeB, members, in_level}
use Rattle.rules.specs.Laws.Counting.Sums.{◌∈◌}
use Rattle.rules.proofs.Laws.Counting.Sums.{in_flat, in_some, some_in, none_in}
use Rattle.rules.proofs.Laws.Family.Lawful.{level_test, level_some, offspring_descend, further_descend, grandchild}
use Rattle.rules.specs.Promises.Vocabulary.{Legal}
use Rattle.rules.proofs.Laws.Offspring.Kin.{offspring_level}
use Rattle.rules.proofs.Laws.Offspring.Lawful.{descendants_level, offspring_further, lawful}

-- a test that holds exactly if m < n
test_is : (b : Bool) (m n : ℕ) → (b ≡ true → m < n) → (m < n → b ≡ true) → b ≡ ltb m n
test_is b m n f g = go (dec_lt m n) b refl
  where
    go : Dec (m < n) → (c : Bool) → b ≡ c → b ≡ ltb m n
    go (yes l) c e = g l ∙ sym (lt-ltb m n l)
    go (no l) true e = absurd (l (f e))
    go (no l) false e = e ∙ sym (le-ltb m n (omega arith))

module _ (z : Size) (Z : Legal z) where
  -- A coefficient with offspring has descendants of every level under its own.
  descendant_at : (d k p : ℕ) → 1 ≤ k → k + suc d ≡ level_of z p → 1 ≤ length (offspring_of z p) → (t : ℕ) × (t ∈ descendants_of z p) × (level_of z t ≡ k)
  descendant_at zero k p h e l =
      let r : (r : ℕ) × (r ∈ offspring_of z p) = some_in (offspring_of z p) l in
      (r.0, offspring_descend (family z) (lawful z Z) p r.0 r.1, omega (arith, offspring_level z Z p r.0 r.1))
  descendant_at (suc d) k p h e l =
      let r : (r : ℕ) × (r ∈ offspring_of z p) = some_in (offspring_of z p) l in
      let j : suc (level_of z r.0) ≡ level_of z p = offspring_level z Z p r.0 r.1 in
      let t : _ = descendant_at d k r.0 h (omega arith) (offspring_further z Z p r.0 r.1 (omega arith)) in
      (t.0, further_descend (family z) (lawful z Z) p r.0 t.0 r.1 t.1, t.2)

  module _ (p : ℕ) (some : 1 ≤ length (offspring_of z p)) where
    members_b_level : (q : ℕ) → q ∈ members (family z) (typeB p) → suc (level_of z q) < level_of z p
    members_b_level q i =
        let g : _ = grandchild (family z) (lawful z Z) p q i in
        omega (arith, descendants_level z Z g.0 q g.2, offspring_level z Z p g.0 g.1)

    -- L has members of the levels from two under it, down to 1.
    pub in_level_b : (k : ℕ) → 1 ≤ k → in_level (family z) k (typeB p) ≡ ltb (suc k) (level_of z p)
    unfolding members
    in_level_b k h = test_is (in_level (family z) k (typeB p)) (suc k) (level_of z p) up down
      where
        up : in_level (family z) k (typeB p) ≡ true → suc k < level_of z p
        up e =
            let q : _ = level_some (family z) k (typeB p) e in
            omega (arith, members_b_level q.0 q.1, q.2)

        down : suc k < level_of z p → in_level (family z) k (typeB p) ≡ true
        down l =
            let r : (r : ℕ) × (r ∈ offspring_of z p) = some_in (offspring_of z p) some in
            let j : suc (level_of z r.0) ≡ level_of z p = offspring_level z Z p r.0 r.1 in
            let t : _ = descendant_at (level_of z r.0 - suc k) k r.0 h (omega arith) (offspring_further z Z p r.0 r.1 (omega arith)) in
            level_test (family z) k t.0 (typeB p) (in_flat (descendants_of z) (offspring_of z p) r.0 t.0 r.1 t.1) t.2

    -- L is empty exactly if the coefficient is of level 2.
    pub members_b_some : 2 < level_of z p → 1 ≤ length (members (family z) (typeB p))
    members_b_some h =
        let q : _ = level_some (family z) 1 (typeB p) (in_level_b 1 (omega arith) ∙ lt-ltb 2 (level_of z p) h) in
        in_some q.0 (members (family z) (typeB p)) q.1

    pub members_b_none : level_of z p ≤ 2 → members (family z) (typeB p) ≡ []
    members_b_none h =
        none_in (members (family z) (typeB p)) (λ q i.
        let g : _ = grandchild (family z) (lawful z Z) p q i in
        omega (arith, members_b_level q i, (lawful z Z).from1 g.0 q g.2))
