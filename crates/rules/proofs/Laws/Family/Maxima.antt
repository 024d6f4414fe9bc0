-- The greatest of a list, and document 01's two maxima: a set's question is whether its maximum is at least 2^n.
use Rattle.std.specs.Prelude.{◌≡◌, Bool, true, false, ◌||◌, leb, length, get_or}
use Rattle.std.proofs.Math.Path.{refl, ap, sym}
use Rattle.std.proofs.Common.{ap₂, ◌∙◌, arith, pow_pos, leb-true, leb-false, le-leb}
use mathlib.Core.List.{List, [], ◌∷◌, ◌++◌}
use Prim.Native.Nat.{ℕ, zero, suc, ◌≤◌, ◌<◌, ◌^◌, max}
use Rattle.std.proofs.lemmas.Bool.{lt-leb}
use Rattle.rules.specs.declared.Size.{Size}
use Rattle.rules.specs.Document.Notation.{any, flat, greatest}
use Rattle.rules.specs.Document.Pyramid.{Family, family, level_of, offspring_of, generations, descendants_of, max_d, max_l}
use Rattle.rules.specs.Document.Passes.{Entry, typeA, typeB, set?, members, truth}
use Rattle.rules.specs.Laws.Counting.Sums.{◌∈◌, All, Every}
use Rattle.rules.proofs.Laws.Counting.Sums.{all_of, all_then, every_all, none_in}
use Rattle.rules.specs.Laws.Family.Lawful.{Lawful}

-- greatest: of lists put together, and of two measures that agree
pub greatest_append : {X : Type 0} (m : X → ℕ) (xs ys : List X) → greatest m (xs ++ ys) ≡ max (greatest m xs) (greatest m ys)
unfolding greatest
greatest_append m [] ys = omega arith
greatest_append m (x ∷ xs) ys = omega (arith, greatest_append m xs ys)

pub greatest_flat : {X Y : Type 0} (m : Y → ℕ) (f : X → List Y) (xs : List X) → greatest m (flat f xs) ≡ greatest (λ x. greatest m (f x)) xs
unfolding greatest flat
greatest_flat m f [] = refl
greatest_flat m f (x ∷ xs) = omega (arith, greatest_append m (f x) (flat f xs), greatest_flat m f xs)

pub greatest_same : {X : Type 0} (m n : X → ℕ) (xs : List X) → All (λ x. m x ≡ n x) xs → greatest m xs ≡ greatest n xs
unfolding greatest All
greatest_same m n [] a = refl
greatest_same m n (x ∷ xs) a = ap₂ max a.0 (greatest_same m n xs a.1)

-- greatest: none is greater, and it is the least of which that holds
pub greatest_most : {X : Type 0} (m : X → ℕ) (xs : List X) → All (λ x. m x ≤ greatest m xs) xs
unfolding greatest All
greatest_most m [] = tt
greatest_most m (x ∷ xs) = (omega arith, all_then _ _ xs (λ y h. omega arith) (greatest_most m xs))

pub greatest_at : {X : Type 0} (m : X → ℕ) (xs : List X) (i : ℕ) (d : X) → i < length xs → m (get_or xs i d) ≤ greatest m xs
unfolding greatest
greatest_at m [] i d h = absurd (omega arith)
greatest_at m (x ∷ xs) zero d h = omega arith
greatest_at m (x ∷ xs) (suc i) d h = omega (arith, greatest_at m xs i d (omega arith))

pub greatest_each : {X : Type 0} (m : X → ℕ) (xs : List X) (d : X) (bound : ℕ) → ((i : ℕ) → i < length xs → m (get_or xs i d) ≤ bound)
    → greatest m xs ≤ bound
unfolding greatest
greatest_each m [] d bound h = omega arith
greatest_each m (x ∷ xs) d bound h = omega (arith, h 0 (omega arith), greatest_each m xs d bound (λ i l. h (suc i) (omega arith)))

-- The greatest reaches t exactly if some element does.
pub greatest_reaches : {X : Type 0} (m : X → ℕ) (t : ℕ) (xs : List X) → 1 ≤ t → leb t (greatest m xs) ≡ any (λ x. leb t (m x)) xs
unfolding greatest any
greatest_reaches m t [] h = lt-leb t 0 h
greatest_reaches m t (x ∷ xs) h = cases (leb t (m x)) refl (leb t (greatest m xs)) refl ∙ ap (λ b. leb t (m x) || b) (greatest_reaches m t xs h)
  where
    cases : (a : Bool) → leb t (m x) ≡ a → (b : Bool) → leb t (greatest m xs) ≡ b
        → leb t (max (m x) (greatest m xs)) ≡ leb t (m x) || leb t (greatest m xs)
    cases true e b f = rw e (le-leb t (max (m x) (greatest m xs)) (omega (arith, leb-true t (m x) e)))
    cases false e true f = rw (e, f) (le-leb t (max (m x) (greatest m xs)) (omega (arith, leb-true t (greatest m xs) f)))
    cases false e false f = rw (e, f) (lt-leb t (max (m x) (greatest m xs)) (omega (arith, leb-false t (m x) e, leb-false t (greatest m xs) f)))

-- In any lawful family: the greatest in D is found from the offspring and the same node's L, the greatest in L from the D of each offspring.
module _ (F : Family) (m : ℕ → ℕ) where
  pub set_a : Lawful F → (p : ℕ) → greatest m (members F (typeA p)) ≡ max (greatest m (F.offspring p)) (greatest m (members F (typeB p)))
  unfolding members
  set_a L p = ap (greatest m) (L.unfolds p) ∙ greatest_append m (F.offspring p) (flat F.descendants (F.offspring p))

  pub set_b : (p : ℕ) → greatest m (members F (typeB p)) ≡ greatest (λ r. greatest m (members F (typeA r))) (F.offspring p)
  unfolding members
  set_b p = greatest_flat m F.descendants (F.offspring p)

-- Document 01's two maxima are those of the generations that they look at.
module _ (z : Size) (m : ℕ → ℕ) where
  pub max_d_generations : (g q : ℕ) → max_d z m g q ≡ greatest m (generations z g q)
  unfolding max_d generations greatest
  max_d_generations zero q = refl
  max_d_generations (suc g) q =
      ap (max (greatest m (offspring_of z q)))
      (greatest_same (max_d z m g) (λ p. greatest m (generations z g p)) (offspring_of z q) (all_of _ (offspring_of z q) (max_d_generations g))
      ∙ sym (greatest_flat m (generations z g) (offspring_of z q)))
      ∙ sym (greatest_append m (offspring_of z q) (flat (generations z g) (offspring_of z q)))

  -- The maximum of D, by the level.
  pub max_d_a : (q : ℕ) → greatest m (members (family z) (typeA q)) ≡ max_d z m (level_of z q) q
  unfolding members descendants_of
  max_d_a q = sym (max_d_generations (level_of z q) q)

  -- Where the level falls from a coefficient to its offspring, any number not under the level will do, and so for L.
  module _ (falls : (p q : ℕ) → q ∈ offspring_of z p → level_of z q < level_of z p) where
    max_d_none : (g q : ℕ) → level_of z q ≤ 0 → max_d z m g q ≡ 0
    unfolding max_d greatest
    max_d_none zero q h = refl
    max_d_none (suc g) q h = let e : offspring_of z q ≡ [] = none_in (offspring_of z q) (λ p i. omega (arith, falls q p i)) in rw e

    max_d_any : (g h q : ℕ) → level_of z q ≤ g → level_of z q ≤ h → max_d z m g q ≡ max_d z m h q
    unfolding max_d greatest
    max_d_any zero zero q a b = refl
    max_d_any zero (suc h) q a b = sym (max_d_none (suc h) q a)
    max_d_any (suc g) zero q a b = max_d_none (suc g) q b
    max_d_any (suc g) (suc h) q a b =
        ap (max (greatest m (offspring_of z q)))
        (greatest_same (max_d z m g) (max_d z m h) (offspring_of z q)
        (every_all _ (offspring_of z q) (λ p i. max_d_any g h p (omega (arith, falls q p i)) (omega (arith, falls q p i)))))

    pub max_d_enough : (g q : ℕ) → level_of z q ≤ g → max_d z m g q ≡ greatest m (members (family z) (typeA q))
    max_d_enough g q l = max_d_any g (level_of z q) q l (omega arith) ∙ sym (max_d_a q)

    pub max_l_b : (g q : ℕ) → Every (λ p. level_of z p ≤ g) (offspring_of z q) → greatest m (members (family z) (typeB q)) ≡ max_l z m g q
    unfolding max_l
    max_l_b g q l =
        set_b (family z) m q
        ∙ sym
        (greatest_same (max_d z m g) (λ p. greatest m (members (family z) (typeA p))) (offspring_of z q)
        (every_all _ (offspring_of z q) (λ p i. max_d_enough g p (l p i))))

-- In any family a set is significant exactly if some member is.
pub asks_some : (F : Family) (mag : ℕ → ℕ) (neg : ℕ → Bool) (n : ℕ) (e : Entry)
    → truth F mag neg n (set? e) ≡ any (λ q. leb (2 ^ n) (mag q)) (members F e)
unfolding truth
asks_some F mag neg n e = greatest_reaches mag (2 ^ n) (members F e) (pow_pos n)
