-- Counting: what lists hold is said once, for every weight. With the weight `is q` a sum says how often q stands in a list, with the weight 1
-- how long it is, with "is of level k" how much of a level it holds.
--
--   All P xs      P of each element of xs
--   sum w xs      the weights w x of all x in xs, added
--   one b         1 if b is true, else 0
--   is q p        1 if p is q, else 0
--   q ∈ xs        q stands in xs, once or more
--   Every P xs    P of each q that stands in xs: All, said by count
use Rattle.std.specs.Prelude.{◌≡◌, Bool, cond, ◌&&◌, ◌||◌, ◌≢◌, ℕ, zero, suc, ◌+◌, ◌*◌, ◌≤◌, ◌<◌, eqb, ltb, length}
use Rattle.std.proofs.Math.Path.{refl, sym}
use Rattle.std.proofs.Common.{ap, ap₂, ◌∙◌, subst, true≢false, mul-le-mul, mul-le-mul_left, eq-eqb, ne_eqb, lt-ltb, le-ltb}
use mathlib.Core.List.{List, [], ◌∷◌, ◌++◌, map, append_assoc}
use Rattle.std.proofs.Math.Bool.{true, false}
use Rattle.std.proofs.lemmas.Bool.{false≢true}
use native.Mathlib.Omega.{arith}
use Rattle.std.proofs.Math.Decide.{ℕ_discrete}
use Rattle.rules.specs.Document.Notation.{any, count, flat, if_any}
use Rattle.rules.specs.Document.Passes.{from}
use Rattle.rules.specs.Laws.Counting.Sums.{All, sum, one, is, ◌∈◌, Every}
use Rattle.rules.proofs.Promises.Cases.{cases_hold}

-- All
pub all_of : {X : Type 0} (P : X → Type 0) (xs : List X) → ((x : X) → P x) → All P xs
unfolding All
all_of P [] h = tt
all_of P (x ∷ xs) h = (h x, all_of P xs h)

pub all_then : {X : Type 0} (P Q : X → Type 0) (xs : List X) → ((x : X) → P x → Q x) → All P xs → All Q xs
unfolding All
all_then P Q [] f a = tt
all_then P Q (x ∷ xs) f a = (f x a.0, all_then P Q xs f a.1)

pub all_both : {X : Type 0} (P Q : X → Type 0) (xs : List X) → All P xs → All Q xs → All (λ x. P x × Q x) xs
unfolding All
all_both P Q [] a b = tt
all_both P Q (x ∷ xs) a b = ((a.0, b.0), all_both P Q xs a.1 b.1)

pub all_append : {X : Type 0} (P : X → Type 0) (xs ys : List X) → All P xs → All P ys → All P (xs ++ ys)
unfolding All
all_append P [] ys a b = b
all_append P (x ∷ xs) ys a b = (a.0, all_append P xs ys a.1 b)

pub all_flat : {X Y : Type 0} (P : Y → Type 0) (f : X → List Y) (xs : List X) → All (λ x. All P (f x)) xs → All P (flat f xs)
unfolding All flat
all_flat P f [] a = tt
all_flat P f (x ∷ xs) a = all_append P (f x) (flat f xs) a.0 (all_flat P f xs a.1)

pub all_map : {X Y : Type 0} (P : Y → Type 0) (f : X → Y) (xs : List X) → All (λ x. P (f x)) xs → All P (map f xs)
unfolding All
all_map P f [] a = tt
all_map P f (x ∷ xs) a = (a.0, all_map P f xs a.1)

pub map_all : {X Y : Type 0} (P : Y → Type 0) (f : X → Y) (xs : List X) → All P (map f xs) → All (λ x. P (f x)) xs
unfolding All
map_all P f [] a = tt
map_all P f (x ∷ xs) a = (a.0, map_all P f xs a.1)

-- sum: of a list put together
pub sum_append : {X : Type 0} (w : X → ℕ) (xs ys : List X) → sum w (xs ++ ys) ≡ sum w xs + sum w ys
unfolding sum
sum_append w [] ys = omega arith
sum_append w (x ∷ xs) ys = omega (arith, sum_append w xs ys)

pub sum_flat : {X Y : Type 0} (w : Y → ℕ) (f : X → List Y) (xs : List X) → sum w (flat f xs) ≡ sum (λ x. sum w (f x)) xs
unfolding sum flat
sum_flat w f [] = refl
sum_flat w f (x ∷ xs) = omega (arith, sum_append w (f x) (flat f xs), sum_flat w f xs)

pub sum-map : {X Y : Type 0} (w : Y → ℕ) (f : X → Y) (xs : List X) → sum w (map f xs) ≡ sum (λ x. w (f x)) xs
unfolding sum
sum-map w f [] = refl
sum-map w f (x ∷ xs) = omega (arith, sum-map w f xs)

-- of a single element that is left out where xs is empty
pub sum_if_any : {X Y : Type 0} (w : Y → ℕ) (xs : List X) (y : Y) → (xs ≡ [] → w y ≡ 0) → sum w (if_any xs (y ∷ [])) ≡ w y
unfolding sum if_any
sum_if_any w [] y h = sym (h refl)
sum_if_any w (x ∷ xs) y h = omega arith

-- sum: of several weights
pub sum_plus : {X : Type 0} (v w : X → ℕ) (xs : List X) → sum (λ x. v x + w x) xs ≡ sum v xs + sum w xs
unfolding sum
sum_plus v w [] = refl
sum_plus v w (x ∷ xs) = omega (arith, sum_plus v w xs)

pub sum_times : {X : Type 0} (c : ℕ) (w : X → ℕ) (xs : List X) → sum (λ x. c * w x) xs ≡ c * sum w xs
unfolding sum
sum_times c w [] = omega arith
sum_times c w (x ∷ xs) = omega (arith, sum_times c w xs)

pub sum_same : {X : Type 0} (v w : X → ℕ) (xs : List X) → All (λ x. v x ≡ w x) xs → sum v xs ≡ sum w xs
unfolding sum All
sum_same v w [] a = refl
sum_same v w (x ∷ xs) a = omega (arith, a.0, sum_same v w xs a.1)

pub sum_pointwise : {X : Type 0} (v w : X → ℕ) (xs : List X) → ((x : X) → v x ≡ w x) → sum v xs ≡ sum w xs
sum_pointwise v w xs h = sum_same v w xs (all_of _ xs h)

pub sum_le : {X : Type 0} (v w : X → ℕ) (xs : List X) → All (λ x. v x ≤ w x) xs → sum v xs ≤ sum w xs
unfolding sum All
sum_le v w [] a = omega arith
sum_le v w (x ∷ xs) a = omega (arith, a.0, sum_le v w xs a.1)

pub sum_zero : {X : Type 0} (w : X → ℕ) (xs : List X) → All (λ x. w x ≡ 0) xs → sum w xs ≡ 0
unfolding sum All
sum_zero w [] a = refl
sum_zero w (x ∷ xs) a = omega (arith, a.0, sum_zero w xs a.1)

pub sum_one : {X : Type 0} (w : X → ℕ) (xs : List X) → All (λ x. w x ≡ 1) xs → sum w xs ≡ length xs
unfolding sum All
sum_one w [] a = refl
sum_one w (x ∷ xs) a = omega (arith, a.0, sum_one w xs a.1)

-- one
pub one_most : (b : Bool) → one b ≤ 1
unfolding one
one_most true = omega arith
one_most false = omega arith

pub one_and : (a b : Bool) → one (a && b) ≡ one a * one b
unfolding one
one_and true true = refl
one_and true false = refl
one_and false b = omega arith

-- is
pub is_yes : (q p : ℕ) → p ≡ q → is q p ≡ 1
unfolding is one
is_yes q p e = rw (eq-eqb p q e)

pub is_no : (q p : ℕ) → p ≢ q → is q p ≡ 0
unfolding is one
is_no q p d = rw (ne_eqb p q d)

pub is_same : (q : ℕ) → is q q ≡ 1
is_same q = is_yes q q refl

pub is_most : (q p : ℕ) → is q p ≤ 1
unfolding is
is_most q p = one_most (eqb p q)

-- what holds together with p ≡ u, counted once at most
pub is_count : (c u p : ℕ) → c ≤ 1 → (1 ≤ c → p ≡ u) → (p ≡ u → 1 ≤ c) → c ≡ is u p
is_count c u p l f g = go (ℕ_discrete p u)
  where
    none : (m : ℕ) → c ≡ m → p ≢ u → c ≡ 0
    none zero e d = e
    none (suc m) e d = absurd (d (f (omega arith)))

    go : Dec (p ≡ u) → c ≡ is u p
    go (yes e) = omega (arith, is_yes u p e, g e)
    go (no d) = omega (arith, is_no u p d, none c refl d)

-- two tests multiplied
pub both_yes : (a b c d : ℕ) → b ≡ a → d ≡ c → is a b * is c d ≡ 1
both_yes a b c d e f = rw (is_yes a b e, is_yes c d f)

pub both_eq : (a b c d : ℕ) → 1 ≤ is a b * is c d → (b ≡ a) × (d ≡ c)
both_eq a b c d h = go (ℕ_discrete b a) (ℕ_discrete d c)
  where
    go : Dec (b ≡ a) → Dec (d ≡ c) → (b ≡ a) × (d ≡ c)
    go (yes e) (yes f) = (e, f)
    go (yes e) (no g) = absurd (omega (arith, rw (is_no c d g) at h))
    go (no g) x = absurd (omega (arith, rw (is_no a b g) at h))

pub both_most : (a b c d : ℕ) → is a b * is c d ≤ 1
both_most a b c d = mul-le-mul (is_most a b) (is_most c d)

-- ∈: of a list put together, and of one that is not empty
pub in_head : (x : ℕ) (xs : List ℕ) → x ∈ x ∷ xs
unfolding sum
in_head x xs = omega (arith, is_same x)

pub in_flat : (f : ℕ → List ℕ) (xs : List ℕ) (x q : ℕ) → x ∈ xs → q ∈ f x → q ∈ flat f xs
unfolding sum flat
in_flat f [] x q a b = absurd (omega arith)
in_flat f (y ∷ xs) x q a b = go (ℕ_discrete y x) (in_flat f xs x q)
  where
    go : Dec (y ≡ x) → (x ∈ xs → q ∈ f x → q ∈ flat f xs) → q ∈ f y ++ flat f xs
    go (yes e) r = omega (arith, sum_append (is q) (f y) (flat f xs), ap (λ (z : ℕ). sum (is q) (f z)) e)
    go (no d) r = omega (arith, sum_append (is q) (f y) (flat f xs), is_no x y d, r (omega (arith, is_no x y d)) b)

pub flat_in : (f : ℕ → List ℕ) (xs : List ℕ) (q : ℕ) → q ∈ flat f xs → (x : ℕ) × (x ∈ xs) × (q ∈ f x)
unfolding sum flat
flat_in f [] q h = absurd (omega arith)
flat_in f (x ∷ xs) q h = go (sum (is q) (f x)) refl (flat_in f xs q)
  where
    go : (m : ℕ) → sum (is q) (f x) ≡ m → (q ∈ flat f xs → (y : ℕ) × (y ∈ xs) × (q ∈ f y)) → (y : ℕ) × (1 ≤ is y x + sum (is y) xs) × (q ∈ f y)
    go zero e r = let s : (y : ℕ) × (y ∈ xs) × (q ∈ f y) = r (omega (arith, sum_append (is q) (f x) (flat f xs))) in (s.0, omega arith, s.2)
    go (suc m) e r = (x, omega (arith, is_same x), omega arith)

pub some_in : (xs : List ℕ) → 1 ≤ length xs → (q : ℕ) × (q ∈ xs)
some_in [] h = absurd (omega arith)
some_in (x ∷ xs) h = (x, in_head x xs)

pub in_some : (q : ℕ) (xs : List ℕ) → q ∈ xs → 1 ≤ length xs
unfolding sum
in_some q [] h = absurd (omega arith)
in_some q (x ∷ xs) h = omega arith

pub none_in : (xs : List ℕ) → ((q : ℕ) → q ∈ xs → ⊥) → xs ≡ []
none_in [] h = refl
none_in (x ∷ xs) h = absurd (h x (in_head x xs))

-- Every
pub every_all : (P : ℕ → Type 0) (xs : List ℕ) → Every P xs → All P xs
unfolding All sum
every_all P [] h = tt
every_all P (x ∷ xs) h = (h x (in_head x xs), every_all P xs (λ q i. h q (omega arith)))

pub all_every : (P : ℕ → Type 0) (xs : List ℕ) → All P xs → Every P xs
unfolding All sum
all_every P [] a q i = absurd (omega arith)
all_every P (x ∷ xs) a q i = go (ℕ_discrete x q) (all_every P xs a.1 q)
  where
    go : Dec (x ≡ q) → (q ∈ xs → P q) → P q
    go (yes e) r = subst P e a.0
    go (no d) r = r (omega (arith, is_no q x d))

-- if_any, flat and any of the notation
pub if_any_some : {X Y : Type 0} (xs : List X) (ys : List Y) → 1 ≤ length xs → if_any xs ys ≡ ys
unfolding if_any
if_any_some [] ys h = absurd (omega arith)
if_any_some (x ∷ xs) ys h = refl

pub flat_same : {X Y : Type 0} (f g : X → List Y) (xs : List X) → All (λ x. f x ≡ g x) xs → flat f xs ≡ flat g xs
unfolding All flat
flat_same f g [] a = refl
flat_same f g (x ∷ xs) a = ap₂ ◌++◌ a.0 (flat_same f g xs a.1)

pub flat_append : {X Y : Type 0} (f : X → List Y) (xs ys : List X) → flat f (xs ++ ys) ≡ flat f xs ++ flat f ys
unfolding flat
flat_append f [] ys = refl
flat_append f (x ∷ xs) ys = ap (λ l. f x ++ l) (flat_append f xs ys) ∙ sym (append_assoc (f x) (flat f xs) (flat f ys))

pub any_false : (t : ℕ → Bool) (xs : List ℕ) → any t xs ≡ false → Every (λ q. t q ≡ false) xs
any_false t xs h = all_every _ xs (each xs h)
  where
    each : (xs : List ℕ) → any t xs ≡ false → All (λ q. t q ≡ false) xs
    each [] h = unfold All in tt
    each (x ∷ xs) h = go (t x) refl (unfold any in h) (each xs)
      where
        go : (b : Bool) → t x ≡ b → b || any t xs ≡ false → (any t xs ≡ false → All (λ q. t q ≡ false) xs) → All (λ q. t q ≡ false) (x ∷ xs)
        go true e i r = absurd (true≢false i)
        go false e i r = unfold All in (e, r i)

pub any_true : (t : ℕ → Bool) (xs : List ℕ) → any t xs ≡ true → (q : ℕ) × (q ∈ xs) × (t q ≡ true)
unfolding any sum
any_true t [] h = absurd (false≢true h)
any_true t (x ∷ xs) h = go (t x) refl h (any_true t xs)
  where
    go : (b : Bool) → t x ≡ b → b || any t xs ≡ true → (any t xs ≡ true → (q : ℕ) × (q ∈ xs) × (t q ≡ true))
        → (q : ℕ) × (1 ≤ is q x + sum (is q) xs) × (t q ≡ true)
    go true e i r = (x, omega (arith, is_same x), e)
    go false e i r = ((r i).0, omega (arith, (r i).1), (r i).2)

pub any_at : (t : ℕ → Bool) (xs : List ℕ) (q : ℕ) → q ∈ xs → t q ≡ true → any t xs ≡ true
any_at t xs q i h = go (any t xs) refl
  where
    go : (b : Bool) → any t xs ≡ b → any t xs ≡ true
    go true e = e
    go false e = absurd (true≢false (sym h ∙ any_false t xs e q i))

-- from of the passes: each number of a range once
-- How many pass a test: of one more at the end, of such that don't, and at most.
count_sum : {X : Type 0} (t : X → Bool) (xs : List X) → count t xs ≡ sum (λ x. one (t x)) xs
unfolding count sum one
count_sum t [] = refl
count_sum t (x ∷ xs) = by (t x) (count_sum t xs)
  where
    by : (b : Bool) → count t xs ≡ sum (λ x. one (t x)) xs → cond b (suc (count t xs)) (count t xs) ≡ one b + sum (λ x. one (t x)) xs
    by true e = omega arith
    by false e = omega arith

pub count_last : {X : Type 0} (t : X → Bool) (xs : List X) (x : X) → count t (xs ++ (x ∷ [])) ≡ count t xs + one (t x)
unfolding sum
count_last t xs x =
    omega (arith, count_sum t (xs ++ (x ∷ [])), count_sum t xs, sum_append (λ x. one (t x)) xs (x ∷ []))

pub count_none : {X : Type 0} (t : X → Bool) (xs : List X) → All (λ x. t x ≡ false) xs → count t xs ≡ 0
unfolding one
count_none t xs a = count_sum t xs ∙ sum_zero (λ x. one (t x)) xs (all_then _ _ xs (λ x e. ap one e) a)

pub count_most : {X : Type 0} (t : X → Bool) (xs : List X) → count t xs ≤ length xs
count_most t xs =
    let ones : sum (λ x. 1) xs ≡ length xs = sum_one (λ x. 1) xs (all_of _ xs (λ x. refl)) in
    omega (arith, count_sum t xs, ones, sum_le (λ x. one (t x)) (λ x. 1) xs (all_of _ xs (λ x. one_most (t x))))

pub from_add : (a m k : ℕ) → from a (m + k) ≡ from a m ++ from (a + m) k
unfolding from
from_add a zero k = let e : 0 + k ≡ k = omega arith in let f : a + 0 ≡ a = omega arith in rw (e, f)
from_add a (suc m) k =
    let e : suc m + k ≡ suc (m + k) = omega arith in
    let f : a + suc m ≡ suc a + m = omega arith in
    rw (e, f) (ap (λ l. a ∷ l) (from_add (suc a) m k))

pub from_length : (a m : ℕ) → length (from a m) ≡ m
unfolding from
from_length a zero = refl
from_length a (suc m) = omega (arith, from_length (suc a) m)

pub from_all : (a m : ℕ) → All (λ q. (a ≤ q) × (q < a + m)) (from a m)
unfolding All from
from_all a zero = tt
from_all a (suc m) = ((omega arith, omega arith), all_then _ _ (from (suc a) m) (λ q h. (omega arith, omega arith)) (from_all (suc a) m))

from_before : (q a m : ℕ) → q < a → sum (is q) (from a m) ≡ 0
unfolding from sum
from_before q a zero h = refl
from_before q a (suc m) h = omega (arith, is_no q a (λ e. omega arith), from_before q (suc a) m (omega arith))

from_within : (q a m : ℕ) → a ≤ q → sum (is q) (from a m) ≡ one (ltb q (a + m))
unfolding from sum one
from_within q a zero h = rw (le-ltb q (a + 0) (omega arith))
from_within q a (suc m) h = go (ℕ_discrete a q) (from_within q (suc a) m)
  where
    go : Dec (a ≡ q) → (suc a ≤ q → sum (is q) (from (suc a) m) ≡ one (ltb q (suc a + m)))
        → is q a + sum (is q) (from (suc a) m) ≡ one (ltb q (a + suc m))
    go (yes e) r = rw (lt-ltb q (a + suc m) (omega arith)) (omega (arith, is_yes q a e, from_before q (suc a) m (omega arith)))
    go (no d) r = let e : a + suc m ≡ suc a + m = omega arith in rw e (omega (arith, is_no q a d, r (omega arith)))

pub from_once : (q m : ℕ) → sum (is q) (from 0 m) ≡ one (ltb q m)
from_once q m = let e : 0 + m ≡ m = omega arith in rw e at (from_within q 0 m (omega arith))

-- Every weight, number by number: so lists weigh alike that count alike.
module _ (w : ℕ → ℕ) (b : ℕ) where
  pick : (x : ℕ) → x < b → sum (λ q. w q * is q x) (from 0 b) ≡ w x
  pick x h =
      sum_pointwise (λ q. w q * is q x) (λ q. w x * is x q) (from 0 b) (λ q. go q (ℕ_discrete q x))
      ∙ sum_times (w x) (is x) (from 0 b)
      ∙ rw (from_once x b, lt-ltb x b h) (unfold one in omega arith)
    where
      go : (q : ℕ) → Dec (q ≡ x) → w q * is q x ≡ w x * is x q
      go q (yes e) = rw e
      go q (no d) = rw (is_no q x (λ e. d (sym e)), is_no x q d) (omega arith)

  sum_counts : (xs : List ℕ) → All (λ x. x < b) xs → sum w xs ≡ sum (λ q. w q * sum (is q) xs) (from 0 b)
  unfolding All sum
  sum_counts [] a = sym (sum_zero (λ q. w q * 0) (from 0 b) (all_of _ (from 0 b) (λ q. omega arith)))
  sum_counts (x ∷ xs) a =
      omega (
        arith,
        sum_counts xs a.1,
        pick x a.0,
        sum_plus (λ q. w q * is q x) (λ q. w q * sum (is q) xs) (from 0 b),
        sum_pointwise (λ q. w q * (is q x + sum (is q) xs)) (λ q. w q * is q x + w q * sum (is q) xs) (from 0 b) (λ q. omega arith),
      )

  pub sum_once : (xs : List ℕ) → All (λ x. x < b) xs → ((q : ℕ) → q < b → sum (is q) xs ≡ 1) → sum w xs ≡ sum w (from 0 b)
  sum_once xs a h =
      sum_counts xs a
      ∙ sum_same (λ q. w q * sum (is q) xs) w (from 0 b) (all_then _ _ (from 0 b) (λ q i. rw (h q (omega arith)) (omega arith)) (from_all 0 b))

  pub sum_most : (xs : List ℕ) → All (λ x. x < b) xs → ((q : ℕ) → q < b → sum (is q) xs ≤ 1) → sum w xs ≤ sum w (from 0 b)
  sum_most xs a h =
      omega (
        arith,
        sum_counts xs a,
        sum_le (λ q. w q * sum (is q) xs) w (from 0 b)
            (all_then _ _ (from 0 b) (λ q i. omega (arith, mul-le-mul_left (w q) (h q (omega arith)))) (from_all 0 b)),
      )
