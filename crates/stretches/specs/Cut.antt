-- How a level's stretch is cut. Of the 4 n numbers for n coefficients:
--
--   values    n              a word for each coefficient, in tree order
--   LIP       n
--   LSP       n
--   LIS       3/4 n
--   maxima    1/4 n          one for each block of four coefficients: the largest in D of its parent; and, where it is the first of four blocks,
--                            the largest in L of the parent's parent, 32 times
--
-- The sets that move out of the level go straight to the end of the next level's LIS.
use Rattle.std.specs.Prelude.{◌≡◌, Bool, true, false, List, ℕ, ◌+◌, ◌*◌, ◌/◌, ◌%◌, ◌≤◌, ◌<◌, length, get_or, set}
use Rattle.std.proofs.Common.{ap, ◌∙◌, zero-add, arith}
use Rattle.rules.specs.declared.Size.{Size}
use Rattle.rules.specs.Laws.Family.Sizes.{level_start, level_size}
use Rattle.stretches.specs.Seg.{seg, seg_length, seg_at, seg_same}

unfoldable pub set_room : ℕ → ℕ
set_room n = 3 * n / 4

unfoldable pub lip_from : ℕ → ℕ
lip_from n = n

unfoldable pub lsp_from : ℕ → ℕ
lsp_from n = n + n

unfoldable pub lis_from : ℕ → ℕ
lis_from n = n + n + n

unfoldable pub maxima_from : ℕ → ℕ
maxima_from n = n + n + n + 3 * n / 4

-- the values and the maxima in a stretch
unfoldable pub values_in : ℕ → List ℕ → List ℕ
values_in n s = seg 0 n s

unfoldable pub maxima_in : ℕ → List ℕ → List ℕ
maxima_in n s = seg (maxima_from n) (n / 4) s

-- of the maximum of a block: the largest in D, and the largest in L
unfoldable pub largest_d : ℕ → ℕ
largest_d m = m % 32

unfoldable pub largest_l : ℕ → ℕ
largest_l m = m / 32

-- The stretch of level k: four numbers for each of its coefficients, the levels one after another, coarsest first.
unfoldable pub stretch_of : Size → ℕ → List ℕ → List ℕ
stretch_of z k work = seg (4 * level_start z k) (4 * level_size z k) work

-- A value was set; all else is as it was.
pub record ValueSet (n : ℕ) (s : List ℕ) (i v : ℕ) (s' : List ℕ) : Type 0 where
  pub long : length s' ≡ length s
  pub values : values_in n s' ≡ set (values_in n s) i v
  pub others : (j : ℕ) → n ≤ j → get_or s' j 0 ≡ get_or s j 0

-- At most the number at one place is another.
pub record ButAt (p : ℕ) (s s' : List ℕ) : Type 0 where
  pub long : length s' ≡ length s
  pub others : (j : ℕ) → (j ≡ p → ⊥) → get_or s' j 0 ≡ get_or s j 0

-- A value was set where a bit is 1; where it is 0, at most the number at place p is another.
pub record SetOr (bit : Bool) (n : ℕ) (s : List ℕ) (i v p : ℕ) (s' : List ℕ) : Type 0 where
  pub written : bit ≡ true → ValueSet n s i v s'
  pub spared : bit ≡ false → ButAt p s s'

-- A maximum was set; all else is as it was.
pub record MaximumSet (n : ℕ) (s : List ℕ) (i v : ℕ) (s' : List ℕ) : Type 0 where
  pub long : length s' ≡ length s
  pub maxima : maxima_in n s' ≡ set (maxima_in n s) i v
  pub before : (j : ℕ) → j < maxima_from n → get_or s' j 0 ≡ get_or s j 0
  pub behind : (j : ℕ) → 4 * n ≤ j → get_or s' j 0 ≡ get_or s j 0

-- laws for those who don't open the cut: how many there are, and which
pub values_length : (n : ℕ) (s : List ℕ) → 4 * n ≤ length s → length (values_in n s) ≡ n
unfolding values_in
values_length n s h = seg_length 0 n s (omega arith)

pub maxima_length : (n : ℕ) (s : List ℕ) → 4 * n ≤ length s → length (maxima_in n s) ≡ n / 4
unfolding maxima_in maxima_from
maxima_length n s h = seg_length (n + n + n + 3 * n / 4) (n / 4) s (omega arith)

pub values_at : (n : ℕ) (s : List ℕ) (i : ℕ) → i < n → get_or (values_in n s) i 0 ≡ get_or s i 0
unfolding values_in
values_at n s i h = seg_at 0 n s i h ∙ ap (λ (j : ℕ). get_or s j 0) (zero-add i)

pub maxima_at : (n : ℕ) (s : List ℕ) (i : ℕ) → i < n / 4 → get_or (maxima_in n s) i 0 ≡ get_or s (maxima_from n + i) 0
unfolding maxima_in
maxima_at n s i h = seg_at (maxima_from n) (n / 4) s i h

pub values_same : (n : ℕ) (s s' : List ℕ) → length s' ≡ length s → ((i : ℕ) → i < n → get_or s' i 0 ≡ get_or s i 0) → values_in n s' ≡ values_in n s
unfolding values_in
values_same n s s' l e = seg_same 0 n s s' l (λ i _ h. e i (omega arith))

pub maxima_same : (n : ℕ) (s s' : List ℕ) → length s' ≡ length s → ((i : ℕ) → maxima_from n ≤ i → i < 4 * n → get_or s' i 0 ≡ get_or s i 0)
    → maxima_in n s' ≡ maxima_in n s
unfolding maxima_in maxima_from
maxima_same n s s' l e = seg_same (n + n + n + 3 * n / 4) (n / 4) s s' l (λ i b h. e i b (omega arith))
