-- Two lines that are near each other, joined: how far apart what comes of them may be.
use Rattle.std.specs.Prelude.{cond, ℕ, ◌+◌, ◌≤◌, ltb}

-- The same of natural numbers: tones, and pixels.
abbrev pub Close : ℕ → ℕ → ℕ → Type 0
Close e s t = (s ≤ t + e) × (t ≤ s + e)

-- One line: where the highs are the same nothing is added, else their distance and one.
unfoldable pub line_far : ℕ → ℕ → ℕ
line_far a c = cond (ltb 0 c) (a + c + 1) a
