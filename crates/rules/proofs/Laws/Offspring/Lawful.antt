-- Document 01's family is lawful, for every legal size.
use Rattle.std.specs.Prelude.{◌≡◌, Bool, length}
use Rattle.std.proofs.Math.Path.{refl, ap, sym}
use Rattle.std.proofs.Common.{◌∙◌}
use mathlib.Core.List.{[], ◌++◌}
use Rattle.std.proofs.Math.Bool.{true, false}
use Prim.Native.Nat.{ℕ, zero, suc, ◌*◌, ◌/◌, ◌≤◌, ◌<◌}
use native.Mathlib.Omega.{arith}
use Rattle.rules.specs.declared.Size.{Size}
use Rattle.rules.specs.Document.Notation.{flat}
use Rattle.rules.specs.Document.Pyramid.{family, area, odd, row, column, within, level_of, block, offspring_ll, offspring_at, offspring_of}
use Rattle.rules.specs.Document.Pyramid.{generations, descendants_of}
use Rattle.rules.specs.Laws.Counting.Sums.{◌∈◌, All}
use Rattle.rules.proofs.Laws.Counting.Sums.{in_some, some_in, none_in, all_then, all_append, all_flat, every_all, all_every, flat_same}
use Rattle.rules.specs.Laws.Family.Lawful.{Lawful}
use Rattle.rules.specs.Promises.Vocabulary.{Legal}
use Rattle.rules.proofs.Laws.Offspring.Level.{level_most, level_least}
use Rattle.rules.proofs.Laws.Offspring.Block.{offspring_inner}
use Rattle.rules.proofs.Laws.Offspring.Kin.{offspring_area, offspring_level}

module _ (z : Size) where
  four_ll : (a b : Bool) (i j : ℕ) → 1 ≤ length (offspring_ll z a b i j) → length (offspring_ll z a b i j) ≡ 4
  unfolding offspring_ll block
  four_ll false false i j h = absurd (omega arith)
  four_ll false true i j h = omega arith
  four_ll true false i j h = omega arith
  four_ll true true i j h = omega arith

  four_at : (a b : Bool) (i j : ℕ) → 1 ≤ length (offspring_at z a b i j) → length (offspring_at z a b i j) ≡ 4
  unfolding offspring_at block
  four_at true b i j h = four_ll (odd i) (odd j) (i / 2 * 2) (j / 2 * 2) h
  four_at false true i j h = omega arith
  four_at false false i j h = absurd (omega arith)

  -- Offspring come by four.
  pub offspring_four : (p : ℕ) → 1 ≤ length (offspring_of z p) → length (offspring_of z p) ≡ 4
  unfolding offspring_of
  offspring_four p h = four_at (within z z.n p) (within z 1 p) (row z p) (column z p) h

module _ (z : Size) (Z : Legal z) where
  descendants_unfold : (p : ℕ) → descendants_of z p ≡ offspring_of z p ++ flat (descendants_of z) (offspring_of z p)
  unfolding descendants_of generations
  descendants_unfold p = go (level_of z p) refl
    where
      go : (m : ℕ) → level_of z p ≡ m → generations z m p ≡ offspring_of z p ++ flat (descendants_of z) (offspring_of z p)
      go zero e =
          let n : offspring_of z p ≡ [] = none_in (offspring_of z p) (λ q i. omega (arith, offspring_level z Z p q i)) in
          rw n (unfold flat in refl)
      go (suc m) e =
          ap (λ l. offspring_of z p ++ l)
          (flat_same (generations z m) (descendants_of z) (offspring_of z p)
          (every_all _ (offspring_of z p) (λ q i.
          let k : m ≡ level_of z q = omega (arith, offspring_level z Z p q i) in
          ap (λ (g : ℕ). generations z g q) k)))

  -- What descends is in the pyramid, and of a lower level.
  generations_under : (g p : ℕ) → All (λ q. (q < area z) × (level_of z q < level_of z p)) (generations z g p)
  unfolding generations All
  generations_under zero p = tt
  generations_under (suc g) p =
      all_append _ (offspring_of z p) (flat (generations z g) (offspring_of z p))
      (every_all _ (offspring_of z p) (λ q i. (offspring_area z Z p q i, omega (arith, offspring_level z Z p q i))))
      (all_flat _ (generations z g) (offspring_of z p)
      (every_all _ (offspring_of z p) (λ r i.
      all_then _ _ (generations z g r) (λ q h. (h.0, omega (arith, h.1, offspring_level z Z p r i))) (generations_under g r))))

  pub descendants_area : (p q : ℕ) → q ∈ descendants_of z p → q < area z
  unfolding descendants_of
  descendants_area p q i = (all_every _ (descendants_of z p) (generations_under (level_of z p) p) q i).0

  pub descendants_level : (p q : ℕ) → q ∈ descendants_of z p → level_of z q < level_of z p
  unfolding descendants_of
  descendants_level p q i = (all_every _ (descendants_of z p) (generations_under (level_of z p) p) q i).1

  -- An offspring has offspring unless it is of level 1.
  pub offspring_further : (p r : ℕ) → r ∈ offspring_of z p → 2 ≤ level_of z r → 1 ≤ length (offspring_of z r)
  unfolding block
  offspring_further p r i h = rw (offspring_inner z Z r h (omega (arith, offspring_level z Z p r i, level_most z p))) (omega arith)

  pub lawful : Lawful (family z)
  lawful =
      record {
        unfolds = descendants_unfold;
        from1 = λ p q i. level_least z Z q (descendants_area p q i);
        highest = λ p r q i j. omega (arith, offspring_level z Z p r i, descendants_level p q j);
        near = λ p r i. omega (arith, offspring_level z Z p r i);
        alike = λ p r s q i j k.
            let l : 1 ≤ level_of z q = level_least z Z q (offspring_area z Z r q k) in
            let a : suc (level_of z r) ≡ suc (level_of z s) = offspring_level z Z p r i ∙ sym (offspring_level z Z p s j) in
            let e : level_of z s ≡ suc (level_of z q) = omega (arith, offspring_level z Z r q k) in
            let t : (t : ℕ) × (t ∈ offspring_of z s) = some_in (offspring_of z s) (offspring_further p s j (omega arith)) in
            (t.0, t.1, omega (arith, offspring_level z Z s t.0 t.1));
        four = λ p r i. omega (arith, offspring_four z p (in_some r (offspring_of z p) i));
      }
