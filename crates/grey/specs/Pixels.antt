-- Pixels as tones in the workspace.
use Rattle.std.specs.Prelude.{◌≡◌, List, ℕ, ◌+◌, ◌<◌, length, get_or}
use Rattle.pictures.specs.Laws.Tones.{bias}

-- The pixels stand at the front of the workspace, each as its tone.
pub record Loaded (pixels work work' : List ℕ) : Type 0 where
  pub same : length work' ≡ length work
  pub tones : (q : ℕ) → q < length pixels → get_or work' q 0 ≡ bias + get_or pixels q 0
