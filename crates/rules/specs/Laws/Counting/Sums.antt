-- Counting: what lists hold is said once, for every weight. With the weight `is q` a sum says how often q stands in a list, with the weight 1
-- how long it is, with "is of level k" how much of a level it holds.
--
--   All P xs      P of each element of xs
--   sum w xs      the weights w x of all x in xs, added
--   one b         1 if b is true, else 0
--   is q p        1 if p is q, else 0
--   q ∈ xs        q stands in xs, once or more
--   Every P xs    P of each q that stands in xs: All, said by count
use Rattle.std.specs.Prelude.{Bool, ℕ, ◌+◌, ◌≤◌, eqb}
use mathlib.Core.List.{List, [], ◌∷◌}
use Rattle.std.proofs.Math.Bool.{true, false}

unfoldable pub All : {X : Type 0} → (X → Type 0) → List X → Type 0
All P [] = Unit {0}
All P (x ∷ xs) = P x × All P xs

unfoldable pub sum : {X : Type 0} → (X → ℕ) → List X → ℕ
sum w [] = 0
sum w (x ∷ xs) = w x + sum w xs

unfoldable pub one : Bool → ℕ
one true = 1
one false = 0

unfoldable pub is : ℕ → ℕ → ℕ
is q p = one (eqb p q)

infix 50 ◌∈◌
abbrev pub ◌∈◌ : ℕ → List ℕ → Type 0
q ∈ xs = 1 ≤ sum (is q) xs

abbrev pub Every : (ℕ → Type 0) → List ℕ → Type 0
Every P xs = (q : ℕ) → q ∈ xs → P q
