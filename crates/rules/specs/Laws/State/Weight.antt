-- The lists of all levels, after a pass of one of them: level by level, and what they weigh together.
use Prim.Native.Nat.{ℕ, suc}
use Rattle.rules.specs.Document.Pyramid.{Family}
use Rattle.rules.specs.Document.Passes.{State, from}
use Rattle.rules.specs.Laws.Counting.Sums.{sum}
use Rattle.rules.specs.Laws.Pass.Lists.{lists_weight}

-- what the lists of levels 0 to top weigh
unfoldable pub state_weight : Family → (ℕ → ℕ) → ℕ → State → ℕ
state_weight F w top s = sum (λ k. lists_weight F w (s k)) (from 0 (suc top))
