-- How many planes there are: enough for every magnitude, and never more than a record may have.
use Rattle.std.specs.Prelude.{ℕ, ◌+◌, ◌*◌, ◌≤◌, ◌<◌, ◌^◌}

-- What is asked of a number of planes, and that there is one such number only.
pub record Counts (m planes : ℕ) : Type 0 where
  pub enough : m < 2 ^ planes
  pub least : 2 ^ planes ≤ 2 * m + 1
