-- Reading looks at the bytes of what it reads and no others: a number or a part that stands elsewhere, in other bytes, reads the same.
use Rattle.std.specs.Prelude.{◌≡◌, List, ℕ, ◌+◌, ◌≤◌, ◌<◌, length, get_or}

-- The n bytes of s at a and those of t at b are the same, and all there.
pub record Same (s : List ℕ) (a : ℕ) (t : List ℕ) (b n : ℕ) : Type 0 where
  pub there : b + n ≤ length t
  pub bytes : (i : ℕ) → i < n → get_or t (b + i) 0 ≡ get_or s (a + i) 0
