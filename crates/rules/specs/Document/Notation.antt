-- Notation of the definitions. The library's is used as it is:
--
--   getD xs i d     what stands at place i of xs, d past its end
--   take, drop      the first elements of a list, the others
--   set xs i x      xs with x at place i; xs itself if i is past its end
--   leb, ltb, eqb   ≤, < and = of two numbers, as tests
--   cond b x y      x if b is true, else y
--
-- and these are added:
--
--   any t xs        some element of xs passes the test t
--   every t xs      each element of xs passes it
--   count t xs      how many elements of xs pass it
--   flat f xs       the lists f x, for each x of xs in order, joined
--   greatest m xs   the greatest m x of all x in xs, 0 if there is none
--   lowest t m      the lowest number under m that passes the test t, m if none does
--   if_any xs ys     ys if xs is not empty, else nothing
--   zeros n         n zeros
use Rattle.std.specs.Prelude.{List, [], ◌∷◌, ◌++◌, Bool, true, false, cond, ◌&&◌, ◌||◌, ℕ, zero, suc, max, replicate}

unfoldable pub any : {X : Type 0} → (X → Bool) → List X → Bool
any t [] = false
any t (x ∷ xs) = t x || any t xs

unfoldable pub every : {X : Type 0} → (X → Bool) → List X → Bool
every t [] = true
every t (x ∷ xs) = t x && every t xs

unfoldable pub count : {X : Type 0} → (X → Bool) → List X → ℕ
count t [] = 0
count t (x ∷ xs) = cond (t x) (suc (count t xs)) (count t xs)

unfoldable pub flat : {X Y : Type 0} → (X → List Y) → List X → List Y
flat f [] = []
flat f (x ∷ xs) = f x ++ flat f xs

unfoldable pub greatest : {X : Type 0} → (X → ℕ) → List X → ℕ
greatest m [] = 0
greatest m (x ∷ xs) = max (m x) (greatest m xs)

unfoldable pub lowest : (ℕ → Bool) → ℕ → ℕ
lowest t zero = 0
lowest t (suc m) = cond (t 0) 0 (suc (lowest (λ n. t (suc n)) m))

unfoldable pub if_any : {X Y : Type 0} → List X → List Y → List Y
if_any [] ys = []
if_any (x ∷ xs) ys = ys

abbrev pub zeros : ℕ → List ℕ
zeros n = replicate n 0
