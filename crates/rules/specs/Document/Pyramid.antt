-- Document 01, "Pyramid, levels and families".
use Rattle.std.specs.Prelude.{List, [], ◌∷◌, ◌++◌, Bool, true, false, cond, ◌&&◌, ℕ, zero, suc, ◌+◌, ◌*◌, ◌/◌, ◌%◌, ◌^◌, max, leb, ltb, eqb, get_or}
use Rattle.std.specs.Prelude.{ℤ, pos, negsuc, nat_abs}
use Rattle.rules.specs.declared.Size.{Size}
use Rattle.rules.specs.Document.Notation.{flat, greatest}

-- "Width W and height H are 4 to 512, both multiples of 2^(N+1); N, the decomposition count, is 1 to 5."
abbrev pub least_side : ℕ
least_side = 4

abbrev pub greatest_side : ℕ
greatest_side = 512

abbrev pub most_decompositions : ℕ
most_decompositions = 5

unfoldable pub legal_side : ℕ → ℕ → Bool
legal_side n x = leb least_side x && leb x greatest_side && eqb (x % 2 ^ (n + 1)) 0

unfoldable pub legal_size : Size → Bool
legal_size z = leb 1 z.n && leb z.n most_decompositions && legal_side z.n z.w && legal_side z.n z.h

abbrev pub area : Size → ℕ
area z = z.w * z.h

-- no picture has more coefficients
abbrev pub most_area : ℕ
most_area = greatest_side * greatest_side

-- "Coefficients are signed 32-bit numbers, row by row, exactly W x H of them, magnitude at most 65,535."
abbrev pub most_magnitude : ℕ
most_magnitude = 65535

unfoldable pub magnitude : List ℤ → ℕ → ℕ
magnitude pyramid q = nat_abs (get_or pyramid q (pos 0))

abbrev pub below0 : ℤ → Bool
below0 (pos m) = false
below0 (negsuc m) = true

unfoldable pub negative : List ℤ → ℕ → Bool
negative pyramid q = below0 (get_or pyramid q (pos 0))

abbrev pub odd : ℕ → Bool
odd i = eqb (i % 2) 1

-- A family: the offspring of each coefficient, all its descendants (D), and its level.
pub record Family : Type 0 where
  pub offspring : ℕ → List ℕ
  pub descendants : ℕ → List ℕ
  pub level : ℕ → ℕ

module _ (z : Size) where
  -- "(row i, column j) has index i x W + j."
  abbrev pub index : ℕ → ℕ → ℕ
  index i j = i * z.w + j

  abbrev pub row : ℕ → ℕ
  row q = q / z.w

  abbrev pub column : ℕ → ℕ
  column q = q % z.w

  -- in the first H / 2^k rows and W / 2^k columns
  unfoldable pub within : ℕ → ℕ → Bool
  within k q = ltb (row q) (z.h / 2 ^ k) && ltb (column q) (z.w / 2 ^ k)

  -- "Level N+1 is the top left block of h rows and w columns (the LL band). Level k, 1 to N, is what lies in the first H / 2^(k-1) rows
  -- and W / 2^(k-1) columns and not in the first H / 2^k rows and W / 2^k columns. Level 1 is finest."
  unfoldable pub level_up_to : ℕ → ℕ → ℕ
  level_up_to zero q = 0
  level_up_to (suc k) q = cond (within k q) (suc k) (level_up_to k q)

  abbrev pub levels : ℕ
  levels = suc z.n

  unfoldable pub level_of : ℕ → ℕ
  level_of q = level_up_to levels q

  -- "Order in a block: top left, top right, bottom left, bottom right."
  unfoldable pub block : ℕ → ℕ → List ℕ
  block i j = index i j ∷ index i (j + 1) ∷ index (i + 1) j ∷ index (i + 1) (j + 1) ∷ []

  -- "In the LL band let i0, j0 be i, j rounded down to even. (even i, even j): none. (even, odd): the 2 x 2 block at (i0, w+j0).
  -- (odd, even): at (h+i0, j0). (odd, odd): at (h+i0, w+j0)."
  unfoldable pub offspring_ll : Bool → Bool → ℕ → ℕ → List ℕ
  offspring_ll false false i0 j0 = []
  offspring_ll false true i0 j0 = block i0 (z.w / 2 ^ z.n + j0)
  offspring_ll true false i0 j0 = block (z.h / 2 ^ z.n + i0) j0
  offspring_ll true true i0 j0 = block (z.h / 2 ^ z.n + i0) (z.w / 2 ^ z.n + j0)

  -- "Elsewhere: the block at (2i, 2j), for levels 2 to N; none in level 1."
  unfoldable pub offspring_at : Bool → Bool → ℕ → ℕ → List ℕ
  offspring_at true coarser i j = offspring_ll (odd i) (odd j) (i / 2 * 2) (j / 2 * 2)
  offspring_at false true i j = block (2 * i) (2 * j)
  offspring_at false false i j = []

  unfoldable pub offspring_of : ℕ → List ℕ
  offspring_of q = offspring_at (within z.n q) (within 1 q) (row q) (column q)

  -- "D is all descendants, L is D less the offspring."
  unfoldable pub generations : ℕ → ℕ → List ℕ
  generations zero q = []
  generations (suc g) q = offspring_of q ++ flat (generations g) (offspring_of q)

  unfoldable pub descendants_of : ℕ → List ℕ
  descendants_of q = generations (level_of q) q

  abbrev pub family : Family
  family = record { offspring = offspring_of; descendants = descendants_of; level = level_of }

  -- "The largest magnitude in D is found from the offspring and the same node's L, the largest in L from the D of each offspring;
  -- the level falls at each turn."
  unfoldable pub max_d : (ℕ → ℕ) → ℕ → ℕ → ℕ
  max_d m zero q = 0
  max_d m (suc g) q = max (greatest m (offspring_of q)) (greatest (max_d m g) (offspring_of q))

  unfoldable pub max_l : (ℕ → ℕ) → ℕ → ℕ → ℕ
  max_l m g q = greatest (max_d m g) (offspring_of q)

-- "Planes: for a largest magnitude M above 0, n_max is log2 M rounded up, as both documents print, and there are n_max + 1 planes,
-- numbered n_max down to 0. For M = 0 there are none." So the coder counted until document 02's W5; such records are read for good.
abbrev pub most_planes : ℕ
most_planes = 17

-- the least exponent, of those up to the first, whose power of two is not under M
unfoldable pub log2_up : ℕ → ℕ → ℕ
log2_up zero m = 0
log2_up (suc e) m = cond (leb m (2 ^ e)) (log2_up e m) (suc e)

unfoldable pub earlier_planes_of : ℕ → ℕ
earlier_planes_of m = cond (eqb m 0) 0 (suc (log2_up most_planes m))

-- W5: "From now on the coder rounds down: M = 5 gives 3 planes and 65,535 gives 16." M is a magnitude of 32 bits.
-- the greatest exponent, of those up to the first, whose power of two is not over M; 0 if there is none
unfoldable pub log2_down : ℕ → ℕ → ℕ
log2_down zero m = 0
log2_down (suc e) m = cond (leb (2 ^ suc e) m) (suc e) (log2_down e m)

unfoldable pub planes_of : ℕ → ℕ
planes_of m = cond (eqb m 0) 0 (suc (log2_down 31 m))
