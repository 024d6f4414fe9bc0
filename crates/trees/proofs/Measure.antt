-- A measure of sets: as many planes as the largest magnitude has, and one more, so that 0 is none. And how the largest of any measure in a set
-- is found from four neighbours.
--
--   kept_of m          what is kept of a magnitude m
--   four_most f x      the largest that f gives for the four under x
--   largest_d z m x    the largest of the measure m in D of tree number x
--   largest_l z m x    and in L
use Rattle.std.specs.Prelude.{◌≡◌, List, [], ◌∷◌, Bool, ◌||◌, leb, ltb}
use Rattle.std.proofs.Math.Path.{refl, ap, sym}
use Rattle.std.proofs.Common.{ap₂, ◌∙◌, pow-suc, pow_mono, pow_pos, le-leb, lt-ltb, le-ltb, ne_eqb}
use Prim.Native.Nat.{ℕ, zero, suc, ◌+◌, ◌*◌, ◌≤◌, ◌<◌, ◌^◌, max}
use native.Mathlib.Omega.{arith}
use Rattle.std.proofs.Math.Decide.{dec_lt}
use Rattle.std.proofs.lemmas.Bool.{lt-leb}
use Rattle.rules.specs.declared.Size.{Size}
use Rattle.rules.specs.Document.Notation.{any, greatest}
use Rattle.rules.specs.Document.Pyramid.{Family, levels, log2_down, planes_of}
use Rattle.rules.specs.Document.Passes.{Entry, set?, members, truth}
use Rattle.rules.proofs.Laws.Counting.Sums.{every_all}
use Rattle.rules.specs.Laws.Family.Sizes.{span}
use Rattle.rules.proofs.Laws.Family.Sizes.{span_quarter, span_whole}
use Rattle.rules.proofs.Laws.Family.Maxima.{greatest_same, greatest_reaches, set_a, set_b}
use Rattle.rules.specs.Laws.Rounding.Planes.{Counts}
use Rattle.rules.proofs.Laws.Rounding.Planes.{planes_of_counts}
use Rattle.rules.specs.Promises.Vocabulary.{Legal}
use Rattle.trees.specs.Family.{trees, tree_level, tree_offspring, tree_max_d}
use Rattle.trees.proofs.Family.{Lies, lies, span_falls, tree_offspring_some, tree_offspring_none}
use Rattle.trees.proofs.Lawful.{trees_lawful, tree_offspring_level}
use Rattle.trees.specs.Measure.{kept_of, four_most, largest_d, largest_l}

pub four_same : (f g : ℕ → ℕ) (x y : ℕ) → ((i : ℕ) → i < 4 → f (4 * x + i) ≡ g (4 * y + i)) → four_most f x ≡ four_most g y
four_same f g x y e =
    let first : f (4 * x) ≡ g (4 * y) = ap f (omega arith) ∙ e 0 (omega arith) ∙ ap g (omega arith) in
    ap₂ max (ap₂ max first (e 1 (omega arith))) (ap₂ max (e 2 (omega arith)) (e 3 (omega arith)))

-- What is kept tells whether a magnitude, or the largest of several, is significant. Planes are counted up to 32.
planes_large : (m : ℕ) → 2 ^ 32 ≤ m → planes_of m ≡ 32
unfolding planes_of log2_down
planes_large m h = rw (ne_eqb m 0 (λ e. omega arith), le-leb (2 ^ 31) m (omega arith))

pub planes_tell : (n m : ℕ) → n < 32 → ltb n (planes_of m) ≡ leb (2 ^ n) m
planes_tell n m h = by (dec_lt m (2 ^ 32))
  where
    by : Dec (m < 2 ^ 32) → ltb n (planes_of m) ≡ leb (2 ^ n) m
    by (yes l) = few (planes_of_counts m l) (dec_lt n (planes_of m))
      where
        few : Counts m (planes_of m) → Dec (n < planes_of m) → ltb n (planes_of m) ≡ leb (2 ^ n) m
        few c (yes i) =
            lt-ltb n (planes_of m) i
            ∙ sym (le-leb (2 ^ n) m (omega (arith, c.least, pow_mono {i = suc n} {j = planes_of m} i, pow-suc 2 n)))
        few c (no i) =
            le-ltb n (planes_of m) (omega arith)
            ∙ sym (lt-leb (2 ^ n) m (omega (arith, c.enough, pow_mono {i = planes_of m} {j = n} (omega arith))))
    by (no l) =
        lt-ltb n (planes_of m) (omega (arith, planes_large m (omega arith)))
        ∙ sym (le-leb (2 ^ n) m (omega (arith, pow_mono {i = n} {j = 32} (omega arith))))

kept_tell : (n m : ℕ) → n < 32 → leb (n + 2) (kept_of m) ≡ leb (2 ^ n) m
unfolding kept_of
kept_tell n m h = shifted (dec_lt n (planes_of m)) ∙ planes_tell n m h
  where
    shifted : Dec (n < planes_of m) → leb (n + 2) (kept_of m) ≡ ltb n (planes_of m)
    shifted (yes l) = le-leb (n + 2) (kept_of m) (omega arith) ∙ sym (lt-ltb n (planes_of m) l)
    shifted (no d) = lt-leb (n + 2) (kept_of m) (omega arith) ∙ sym (le-ltb n (planes_of m) (omega arith))

ltb_leb : (a b : ℕ) → ltb (a + 1) b ≡ leb (a + 2) b
ltb_leb a b = by (dec_lt (a + 1) b)
  where
    by : Dec (a + 1 < b) → ltb (a + 1) b ≡ leb (a + 2) b
    by (yes l) = lt-ltb (a + 1) b l ∙ sym (le-leb (a + 2) b (omega arith))
    by (no d) = le-ltb (a + 1) b (omega arith) ∙ sym (lt-leb (a + 2) b (omega arith))

any_same : {X : Type 0} (t u : X → Bool) → ((x : X) → t x ≡ u x) → (xs : List X) → any t xs ≡ any u xs
unfolding any
any_same t u h [] = refl
any_same t u h (x ∷ xs) = ap₂ ◌||◌ (h x) (any_same t u h xs)

module _ (n : ℕ) (h : n < 32) where
  pub kept_tells : {X : Type 0} (mag : X → ℕ) (xs : List X) → ltb (n + 1) (greatest (λ x. kept_of (mag x)) xs) ≡ leb (2 ^ n) (greatest mag xs)
  kept_tells mag xs =
      ltb_leb n (greatest (λ x. kept_of (mag x)) xs)
      ∙ greatest_reaches (λ x. kept_of (mag x)) (n + 2) xs (omega arith)
      ∙ any_same _ _ (λ x. kept_tell n (mag x) h) xs
      ∙ sym (greatest_reaches mag (2 ^ n) xs (pow_pos n))

  -- so it answers the coder's questions
  module _ (F : Family) (mag : ℕ → ℕ) (neg : ℕ → Bool) where
    pub kept_set : (e : Entry) → truth F mag neg n (set? e) ≡ ltb (n + 1) (greatest (λ x. kept_of (mag x)) (members F e))
    unfolding truth
    kept_set e = sym (kept_tells mag (members F e))

-- Maxima of tree numbers, one step: D from the four under x and from L, L from the D of the four; there is none where there is no offspring.
most_assoc : (a b c : ℕ) → max a (max b c) ≡ max (max a b) c
most_assoc a b c = omega arith

most_last : (a : ℕ) → max a 0 ≡ a
most_last a = omega arith

four_most_lem : (z : Size) (f : ℕ → ℕ) (x : ℕ) → span z (levels z) ≤ x → x < span z 1 → greatest f (tree_offspring z x) ≡ four_most f x
unfolding greatest
four_most_lem z f x a b =
    ap (greatest f) (tree_offspring_some z x a b)
    ∙ most_assoc (f (4 * x)) (f (4 * x + 1)) _
    ∙ ap (λ (y : ℕ). max (max (f (4 * x)) (f (4 * x + 1))) (max (f (4 * x + 2)) y)) (most_last (f (4 * x + 3)))

module _ (z : Size) (Z : Legal z) (m : ℕ → ℕ) where
  pub largest_d_step : (x : ℕ) → largest_d z m x ≡ max (greatest m (tree_offspring z x)) (largest_l z m x)
  largest_d_step x = set_a (trees z) m (trees_lawful z Z) x

  pub largest_l_step : (x : ℕ) → largest_l z m x ≡ greatest (λ y. largest_d z m y) (tree_offspring z x)
  largest_l_step x = set_b (trees z) m x

  module _ (x : ℕ) (a : span z (levels z) ≤ x) where
    pub largest_d_four : x < span z 1 → largest_d z m x ≡ max (four_most m x) (largest_l z m x)
    largest_d_four b = largest_d_step x ∙ ap (λ (y : ℕ). max y (largest_l z m x)) (four_most_lem z m x a b)

    pub largest_l_four : x < span z 1 → largest_l z m x ≡ four_most (λ y. largest_d z m y) x
    largest_l_four b = largest_l_step x ∙ four_most_lem z (λ y. largest_d z m y) x a b

  -- nothing under x
  no_offspring : (x : ℕ) → tree_offspring z x ≡ [] → (largest_d z m x ≡ 0) × (largest_l z m x ≡ 0)
  unfolding greatest
  no_offspring x e =
      let l : largest_l z m x ≡ 0 = largest_l_step x ∙ ap (greatest (λ y. largest_d z m y)) e in
      (largest_d_step x ∙ ap (λ ys. max (greatest m ys) (largest_l z m x)) e ∙ omega arith, l)

  pub largest_d_leaf : (x : ℕ) → span z 1 ≤ x → largest_d z m x ≡ 0
  largest_d_leaf x h = (no_offspring x (tree_offspring_none z x h)).0

  -- nothing under the offspring of x
  pub largest_l_none : (x : ℕ) → span z 2 ≤ x → largest_l z m x ≡ 0
  largest_l_none x h = by (dec_lt x (span z 1))
    where
      q : span z 1 ≡ 4 * span z 2
      q = span_quarter z Z 1 Z.some

      by : Dec (x < span z 1) → largest_l z m x ≡ 0
      by (no d) = (no_offspring x (tree_offspring_none z x (omega arith))).1
      by (yes l) =
          largest_l_four x (omega (arith, span_falls z 2 (levels z) (omega (arith, Z.some)))) l
          ∙ four_same (λ y. largest_d z m y) (λ y. 0) x x (λ i f. largest_d_leaf (4 * x + i) (omega (arith, q)))

  -- tree_max_d finds them, over as many generations as there are levels below.
  pub tree_max_d_members : (g x : ℕ) → tree_level z x ≤ suc g → tree_max_d z m g x ≡ largest_d z m x
  unfolding tree_max_d Lies
  tree_max_d_members zero x h = sym (largest_d_leaf x (leaf (tree_level z x) refl (lies z x)))
    where
      leaf : (k : ℕ) → tree_level z x ≡ k → Lies z k x → span z 1 ≤ x
      leaf zero e l = omega (arith, span_falls z 0 1 (omega arith), span_whole z)
      leaf (suc zero) e l = l.1 Z.some
      leaf (suc (suc k)) e l = absurd (omega arith)
  tree_max_d_members (suc g) x h =
      ap (max (greatest m (tree_offspring z x)))
      (greatest_same (tree_max_d z m g) (λ y. largest_d z m y) (tree_offspring z x)
      (every_all _ (tree_offspring z x) (λ r i. tree_max_d_members g r (omega (arith, tree_offspring_level z Z x r i))))
      ∙ sym (largest_l_step x))
      ∙ sym (largest_d_step x)
