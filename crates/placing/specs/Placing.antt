-- Between the pyramid's rows and the trees: where the blocks of four coefficients of a level stand, and what copying in and laying out leave.
use Rattle.std.specs.Prelude.{◌≡◌, ◌≢◌, List, true, ℕ, ◌*◌, ◌/◌, ◌≤◌, ◌<◌, length, get_or, ℤ, pos}
use Rattle.rules.specs.declared.Size.{Size}
use Rattle.rules.specs.Document.Pyramid.{legal_size, area, most_magnitude, level_of}
use Rattle.rules.specs.Document.Calls.{work_for, first_over}
use Rattle.rules.specs.Laws.Family.Sizes.{level_size}
use Rattle.trees.specs.Places.{raster_of}
use Rattle.trees.specs.Family.{tree_level, coefficient_of}
use Rattle.trees.specs.Run.{number_of}
use Rattle.coefficients.specs.Words.{worded, value_of}
use Rattle.stretches.specs.Workspace.{word_in, drawn_in, maximum_in}

-- a size and a workspace that are in order
pub record Roomy (z : Size) (work : List ℕ) : Type 0 where
  pub legal : legal_size z ≡ true
  pub room : work_for z ≤ length work

-- The place of each block's first coefficient stands where its maximum will: row by row, as the pyramid is.
pub record BlocksOf (z : Size) (k : ℕ) (work : List ℕ) : Type 0 where
  pub at : (b : ℕ) → b < level_size z k / 4 → maximum_in z work k b ≡ raster_of z k (4 * b)

pub record Blocks (z : Size) (work : List ℕ) : Type 0 where
  pub of : (k : ℕ) → 1 ≤ k → k ≤ z.n → BlocksOf z k work

pub record LevelPlaced (z : Size) (k : ℕ) (work work' : List ℕ) : Type 0 where
  pub same : length work' ≡ length work
  pub words : (x : ℕ) → x < area z → word_in z work' x ≡ word_in z work x
  pub own : BlocksOf z k work'
  pub others : (j : ℕ) → 1 ≤ j → j ≤ z.n → j ≢ k → BlocksOf z j work → BlocksOf z j work'

pub record Placed (z : Size) (work work' : List ℕ) : Type 0 where
  pub same : length work' ≡ length work
  pub words : (x : ℕ) → x < area z → word_in z work' x ≡ word_in z work x
  pub blocks : Blocks z work'

-- a pyramid to copy in
pub record Given (v : List ℤ) (z : Size) (work : List ℕ) : Type 0 where
  pub roomy : Roomy z work
  pub whole : length v ≡ area z
  pub range : first_over most_magnitude v ≡ length v

-- Each coefficient's word stands at its tree number: for one level, and for all.
pub record LevelCopied (v : List ℤ) (z : Size) (k : ℕ) (work work' : List ℕ) : Type 0 where
  pub same : length work' ≡ length work
  pub own : (x : ℕ) → x < area z → tree_level z x ≡ k → word_in z work' x ≡ worded (get_or v (coefficient_of z x) (pos 0))
  pub others : (x : ℕ) → x < area z → tree_level z x ≢ k → word_in z work' x ≡ word_in z work x
  pub blocks : Blocks z work → Blocks z work'

pub record LevelsCopied (v : List ℤ) (z : Size) (k : ℕ) (work work' : List ℕ) : Type 0 where
  pub same : length work' ≡ length work
  pub words : (x : ℕ) → x < area z → k < tree_level z x → tree_level z x ≤ z.n → word_in z work' x ≡ worded (get_or v (coefficient_of z x) (pos 0))
  pub blocks : Blocks z work'

pub record CopiedIn (v : List ℤ) (z : Size) (work work' : List ℕ) : Type 0 where
  pub same : length work' ≡ length work
  pub words : (x : ℕ) → x < area z → word_in z work' x ≡ worded (get_or v (coefficient_of z x) (pos 0))

-- Each coefficient of the pyramid has the value of its word: for one level, for those over k, and for all.
pub record LevelLaid (z : Size) (k : ℕ) (work : List ℕ) (out out' : List ℤ) : Type 0 where
  pub same : length out' ≡ length out
  pub own : (q : ℕ) → q < area z → level_of z q ≡ k → get_or out' q (pos 0) ≡ value_of (word_in z work (number_of z q))
  pub others : (q : ℕ) → q < area z → level_of z q ≢ k → get_or out' q (pos 0) ≡ get_or out q (pos 0)

pub record LevelsLaid (z : Size) (k : ℕ) (work : List ℕ) (out out' : List ℤ) : Type 0 where
  pub same : length out' ≡ length out
  pub values : (q : ℕ) → q < area z → k < level_of z q → level_of z q ≤ z.n → get_or out' q (pos 0) ≡ value_of (word_in z work (number_of z q))

pub record LaidOut (z : Size) (work : List ℕ) (out : List ℤ) (work' : List ℕ) (out' : List ℤ) : Type 0 where
  pub same : length work' ≡ length work
  pub whole : length out' ≡ length out
  pub values : (q : ℕ) → q < area z → get_or out' q (pos 0) ≡ get_or (drawn_in z work) (number_of z q) (pos 0)

-- Every word is 0: of one level, and of all.
pub record LevelCleared (z : Size) (k : ℕ) (work work' : List ℕ) : Type 0 where
  pub same : length work' ≡ length work
  pub own : (x : ℕ) → x < area z → tree_level z x ≡ k → word_in z work' x ≡ 0
  pub others : (x : ℕ) → x < area z → tree_level z x ≢ k → word_in z work' x ≡ word_in z work x

pub record Cleared (z : Size) (work work' : List ℕ) : Type 0 where
  pub same : length work' ≡ length work
  pub words : (x : ℕ) → x < area z → word_in z work' x ≡ 0
