-- What filling the maxima leaves.
use Rattle.std.specs.Prelude.{◌≡◌, List, true, ℕ, ◌≤◌, ◌<◌, ◌^◌, length}
use Rattle.rules.specs.declared.Size.{Size}
use Rattle.rules.specs.Document.Pyramid.{legal_size, area}
use Rattle.rules.specs.Document.Calls.{work_for}
use Rattle.coefficients.specs.Words.{magnitude_word}
use Rattle.stretches.specs.Workspace.{word_in, measured, Maxima}

-- the measure of a coefficient, by its word
unfoldable pub measure_in : Size → List ℕ → ℕ → ℕ
measure_in z work x = measured (magnitude_word (word_in z work x))

-- Words are there, none too large for its measure to be kept.
pub record Fillable (z : Size) (work : List ℕ) : Type 0 where
  pub legal : legal_size z ≡ true
  pub room : work_for z ≤ length work
  pub small : (x : ℕ) → x < area z → word_in z work x < 2 ^ 18

-- The maxima are there; the words are as they were.
pub record Filled (z : Size) (work work' : List ℕ) : Type 0 where
  pub same : length work' ≡ length work
  pub words : (x : ℕ) → x < area z → word_in z work' x ≡ word_in z work x
  pub maxima : Maxima z (measure_in z work) work'
