-- All levels, between parts, each known to a plane of its own: what a part changes, and what then stands in the pyramid.
use Rattle.std.specs.Prelude.{List, length, ℤ}
use Prim.Native.Nat.{ℕ, ◌≤◌, ◌<◌}
use Rattle.rules.specs.Laws.Counting.Sums.{sum, is, Every}

-- Each coefficient once, and with its place in the pyramid.
pub record Fits (all : List ℕ) (v : List ℤ) : Type 0 where
  pub once : (q : ℕ) → sum (is q) all ≤ 1
  pub inside : Every (λ q. q < length v) all
