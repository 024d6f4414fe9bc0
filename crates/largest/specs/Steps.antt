-- What a step makes of the workspace: D, or L, of one level's blocks.
--
--   Level k's D is of the nodes whose offspring are in level k, its L of those whose offspring's offspring are.
use Rattle.std.specs.Prelude.{◌≡◌, List, true, ℕ, ◌+◌, ◌-◌, ◌*◌, ◌^◌, ◌≤◌, ◌<◌, max, length, get_or}
use Rattle.rules.specs.declared.Size.{Size}
use Rattle.rules.specs.Document.Notation.{greatest}
use Rattle.rules.specs.Document.Pyramid.{legal_size, area}
use Rattle.rules.specs.Document.Passes.{typeA, typeB, members}
use Rattle.rules.specs.Document.Calls.{work_for}
use Rattle.rules.specs.Laws.Family.Sizes.{span, level_start, level_size}
use Rattle.trees.specs.Family.{trees}
use Rattle.trees.specs.Measure.{four_most}
use Rattle.stretches.specs.Cut.{largest_d, largest_l}
use Rattle.stretches.specs.Workspace.{word_in, maximum_in}
use Rattle.stretches.specs.Levels.{blocks_from}
use Rattle.largest.specs.Filling.{measure_in}

-- Level k is one that has maxima, and there is room.
pub record Placed (z : Size) (k : ℕ) (work : List ℕ) : Type 0 where
  pub legal : legal_size z ≡ true
  pub some : 1 ≤ k
  pub most : k ≤ z.n
  pub room : work_for z ≤ length work

-- Only maxima of level k were changed.
pub record OnlyMaxima (z : Size) (k : ℕ) (work work' : List ℕ) : Type 0 where
  pub long : length work' ≡ length work
  pub before : (i : ℕ) → i < blocks_from z k → get_or work' i 0 ≡ get_or work i 0
  pub behind : (i : ℕ) → 4 * level_start z k + 4 * level_size z k ≤ i → get_or work' i 0 ≡ get_or work i 0

-- D from the measures of the offspring and from L, which stands in the next finer level; level 0 has none.
pub record LevelD (z : Size) (k : ℕ) (work work' : List ℕ) : Type 0 where
  pub apart : OnlyMaxima z k work work'
  pub made : (x : ℕ) → span z (k + 1) ≤ x → x < span z k
      → maximum_in z work' k (x - span z (k + 1))
      ≡ max (four_most (measure_in z work) x) (largest_l (maximum_in z work (k - 1) (4 * (x - span z (k + 1)))))

-- L from the D of the offspring.
pub record LevelL (z : Size) (k : ℕ) (work work' : List ℕ) : Type 0 where
  pub apart : OnlyMaxima z k work work'
  pub made : (x : ℕ) → span z (k + 2) ≤ x → x < span z (k + 1)
      → largest_l (maximum_in z work' k (4 * (x - span z (k + 2)))) ≡ four_most (λ y. largest_d (maximum_in z work k (y - span z (k + 1)))) x
  pub kept : (b : ℕ) → largest_d (maximum_in z work' k b) ≡ largest_d (maximum_in z work k b)
  pub small : (b : ℕ) → maximum_in z work k b < 2 ^ 10 → maximum_in z work' k b < 2 ^ 10

-- D is there for the levels under d, L for those under l; the words are as they were.
pub record FilledTo (z : Size) (d l : ℕ) (work work' : List ℕ) : Type 0 where
  pub same : length work' ≡ length work
  pub words : (x : ℕ) → x < area z → word_in z work' x ≡ word_in z work x
  pub of_d : (k x : ℕ) → 1 ≤ k → k < d → span z (k + 1) ≤ x → x < span z k
      → largest_d (maximum_in z work' k (x - span z (k + 1))) ≡ greatest (measure_in z work) (members (trees z) (typeA x))
  pub of_l : (k x : ℕ) → 1 ≤ k → k < l → span z (k + 2) ≤ x → x < span z (k + 1)
      → largest_l (maximum_in z work' k (4 * (x - span z (k + 2)))) ≡ greatest (measure_in z work) (members (trees z) (typeB x))
  pub small : (k x : ℕ) → 1 ≤ k → k < d → span z (k + 1) ≤ x → x < span z k → maximum_in z work' k (x - span z (k + 1)) < 2 ^ 10
