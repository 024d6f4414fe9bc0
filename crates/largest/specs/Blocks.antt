-- What is made of one level's stretch, block by block, in the numbers of a slice.
--
--   word_measure w    the measure of the coefficient whose word is w
--   near s b         the largest measure of the four values of block b
--   far n s b        the largest in L of the block's parent, from the stretch behind, that of four times as many; 0 if there is none
--   four n s c       the largest in D that stands with blocks 4 c to 4 c + 3
use Rattle.std.specs.Prelude.{◌≡◌, List, ℕ, ◌+◌, ◌*◌, ◌^◌, ◌≤◌, ◌<◌, max, length, get_or}
use Rattle.trees.specs.Measure.{four_most}
use Rattle.coefficients.specs.Words.{magnitude_word}
use Rattle.stretches.specs.Cut.{maxima_from, maxima_in, largest_d, largest_l}
use Rattle.stretches.specs.Workspace.{measured}

abbrev pub word_measure : ℕ → ℕ
word_measure w = measured (magnitude_word w)

unfoldable pub near : List ℕ → ℕ → ℕ
near s b = four_most (λ i. word_measure (get_or s i 0)) b

unfoldable pub far : ℕ → List ℕ → ℕ → ℕ
far n s b = largest_l (get_or s (19 * n + 4 * b) 0)

unfoldable pub four : ℕ → List ℕ → ℕ → ℕ
four n s c = four_most (λ i. largest_d (get_or (maxima_in n s) i 0)) c

-- Of the numbers of a slice only maxima of its first stretch, for n coefficients, were changed.
pub record Apart (n : ℕ) (s s' : List ℕ) : Type 0 where
  pub long : length s' ≡ length s
  pub before : (i : ℕ) → i < maxima_from n → get_or s' i 0 ≡ get_or s i 0
  pub behind : (i : ℕ) → 4 * n ≤ i → get_or s' i 0 ≡ get_or s i 0

-- D is there for the first blocks, as many as count.
pub record SomeD (n : ℕ) (s : List ℕ) (count : ℕ) (s' : List ℕ) : Type 0 where
  pub apart : Apart n s s'
  pub made : (b : ℕ) → b < count → get_or (maxima_in n s') b 0 ≡ max (near s b) (far n s b)

-- L is there for the first fours of blocks; D is as it was.
pub record SomeL (n : ℕ) (s : List ℕ) (count : ℕ) (s' : List ℕ) : Type 0 where
  pub apart : Apart n s s'
  pub made : (c : ℕ) → c < count → largest_l (get_or (maxima_in n s') (4 * c) 0) ≡ four n s c
  pub kept : (b : ℕ) → largest_d (get_or (maxima_in n s') b 0) ≡ largest_d (get_or (maxima_in n s) b 0)
  pub small : (b : ℕ) → get_or (maxima_in n s) b 0 < 2 ^ 10 → get_or (maxima_in n s') b 0 < 2 ^ 10
  pub left : (b : ℕ) → 4 * count ≤ b → get_or (maxima_in n s') b 0 ≡ get_or (maxima_in n s) b 0
