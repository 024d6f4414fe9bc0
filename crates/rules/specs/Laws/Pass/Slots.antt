-- Room in a level's lists for a pass, whatever the bits. Each coefficient of level k comes once into LIP_k or LSP_k. A set takes a slot of LIS_k
-- as type A and one as type B, and its members of the level pay for the slots of all that comes of it: three quarters of them are enough.
use Rattle.std.specs.Prelude.{cond, ℕ, ◌+◌, ◌*◌, ◌≤◌, length}
use mathlib.Core.List.{List}
use Rattle.rules.specs.Document.Pyramid.{Family}
use Rattle.rules.specs.Document.Passes.{Entry, typeA, typeB, in_level}
use Rattle.rules.specs.Laws.Counting.Sums.{sum, is, All}
use Rattle.rules.specs.Laws.Pass.Lists.{set_weight}
use Rattle.rules.specs.Laws.Pass.Levels.{Settled}

-- the coefficients of level k in a set
abbrev pub here : Family → ℕ → Entry → ℕ
here F k = set_weight F (λ q. is k (F.level q))

-- twice the slots of LIS_k that a set, and all that comes of it in a pass of level k, may take
unfoldable pub as_type_b : Entry → ℕ
as_type_b (typeA p) = 0
as_type_b (typeB p) = 2

unfoldable pub slots_twice : Family → ℕ → Entry → ℕ
slots_twice F k e = cond (in_level F k e) (here F k e + as_type_b e) 2

-- Where a pass of level k stands, with ps still to test and es still to visit: `held` coefficients are in LIP_k and LSP_k, and `visited` slots
-- of LIS_k were visited. The lists have room for the rest: n coefficients, and three quarters of n sets.
pub record Room (F : Family) (k n held visited : ℕ) (ps : List ℕ) (es : List Entry) : Type 0 where
  pub coefficients : held + length ps + sum (here F k) es ≤ n
  pub slots : 4 * visited + 2 * sum (slots_twice F k) es ≤ 3 * n
  pub settled : All (Settled F k) es
