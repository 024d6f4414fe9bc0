-- The lists of all levels, between parts: whatever parts were used and whatever their bits, each coefficient is in one place, each level's
-- lists hold that level, and there is room for the next part.
use Rattle.std.specs.Prelude.{◌≡◌, List, ℕ, ◌*◌, ◌≤◌, ◌<◌}
use Rattle.rules.specs.Document.Pyramid.{Family}
use Rattle.rules.specs.Document.Passes.{State}
use Rattle.rules.specs.Laws.Counting.Sums.{sum, is, All}
use Rattle.rules.specs.Laws.Pass.Levels.{Met, Placed}
use Rattle.rules.specs.Laws.Pass.Slots.{slots_twice}
use Rattle.rules.specs.Laws.State.Weight.{state_weight}

-- how many of the coefficients are of level k
abbrev pub level_count : Family → List ℕ → ℕ → ℕ
level_count F all k = sum (λ q. is k (F.level q)) all

-- `all` being all coefficients, and top the highest level:
pub record Sound (F : Family) (top : ℕ) (all : List ℕ) (s : State) : Type 0 where
  -- Each coefficient is in just one LIP, LSP or set.
  pub conserved : (w : ℕ → ℕ) → state_weight F w top s ≡ sum w all
  -- LIP_k and LSP_k hold level k only; a set of LIS_k has members of level k and finer only.
  pub placed : (k : ℕ) → Placed F k (s k)
  -- Under the top level, each set of LIS_k has members in level k.
  pub met : (k : ℕ) → k < top → All (Met F k) (s k).lis
  -- At the top level the sets may be those that it began with. They have their slots too.
  pub paid : 2 * sum (slots_twice F top) (s top).lis ≤ 3 * level_count F all top
