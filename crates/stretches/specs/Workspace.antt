-- What stands in the workspace beside the lists, for all levels: the word of each coefficient, by its tree number, and the maxima of sets.
--
--   word_in z work x        the word of tree number x
--   drawn_in z work         the values of all, in the order of their tree numbers
--   maximum_in z work k i   the maximum of block i of level k
--   Maxima z μ work        the maxima are those of the measure μ: type A of the nodes whose offspring are in level k, type B of those whose offspring's are
use Rattle.std.specs.Prelude.{◌≡◌, ◌≢◌, List, map, ℕ, ◌+◌, ◌-◌, ◌*◌, ◌≤◌, ◌<◌, length, get_or, ℤ, pos}
use Rattle.std.proofs.Common.{ap, ◌∙◌, zero-add}
use Rattle.std.proofs.lemmas.List.{length-map}
use Rattle.rules.specs.declared.Size.{Size}
use Rattle.rules.specs.Document.Notation.{greatest}
use Rattle.rules.specs.Document.Pyramid.{area, magnitude, planes_of}
use Rattle.rules.specs.Document.Passes.{typeA, typeB, members, from}
use Rattle.rules.specs.Laws.Family.Sizes.{span, level_start, level_size}
use Rattle.rules.proofs.Laws.Rounding.Run.{map_from}
use Rattle.rules.proofs.Laws.Counting.Sums.{from_length}
use Rattle.trees.specs.Family.{tree_level, coefficient_of, trees}
use Rattle.coefficients.specs.Words.{worded, value_of}
use Rattle.stretches.specs.Cut.{maxima_in, largest_d, largest_l, stretch_of}

unfoldable pub word_in : Size → List ℕ → ℕ → ℕ
word_in z work x = get_or work (3 * level_start z (tree_level z x) + x) 0

unfoldable pub drawn_in : Size → List ℕ → List ℤ
drawn_in z work = map (λ x. value_of (word_in z work x)) (from 0 (area z))

pub drawn_length : (z : Size) (work : List ℕ) → length (drawn_in z work) ≡ area z
unfolding drawn_in
drawn_length z work = length-map (from 0 (area z)) (λ x. value_of (word_in z work x)) ∙ from_length 0 (area z)

pub drawn_at : (z : Size) (work : List ℕ) (x : ℕ) → x < area z → get_or (drawn_in z work) x (pos 0) ≡ value_of (word_in z work x)
unfolding drawn_in
drawn_at z work x h =
    map_from (λ x. value_of (word_in z work x)) (pos 0) 0 (area z) x h ∙ ap (λ (y : ℕ). value_of (word_in z work y)) (zero-add x)

unfoldable pub maximum_in : Size → List ℕ → ℕ → ℕ → ℕ
maximum_in z work k i = get_or (maxima_in (level_size z k) (stretch_of z k work)) i 0

-- every word is under b, and none is a 0 with the sign of a negative
pub record Words (z : Size) (b : ℕ) (work : List ℕ) : Type 0 where
  pub under : (x : ℕ) → x < area z → word_in z work x < b
  pub proper : (x : ℕ) → x < area z → word_in z work x ≢ 1

pub record Maxima (z : Size) (μ : ℕ → ℕ) (work : List ℕ) : Type 0 where
  pub of_d : (k x : ℕ) → 1 ≤ k → k ≤ z.n → span z (k + 1) ≤ x → x < span z k
      → largest_d (maximum_in z work k (x - span z (k + 1))) ≡ greatest μ (members (trees z) (typeA x))
  pub of_l : (k x : ℕ) → 1 ≤ k → k + 1 ≤ z.n → span z (k + 2) ≤ x → x < span z (k + 1)
      → largest_l (maximum_in z work k (4 * (x - span z (k + 2)))) ≡ greatest μ (members (trees z) (typeB x))

-- a magnitude's measure: the number of its planes, and one more, so that 0 is left for a set without members
abbrev pub measured : ℕ → ℕ
measured m = planes_of m + 1

-- The workspace holds a pyramid: its words, and the maxima of its sets.
pub record Holds (z : Size) (v : List ℤ) (work : List ℕ) : Type 0 where
  pub words : (x : ℕ) → x < area z → word_in z work x ≡ worded (get_or v (coefficient_of z x) (pos 0))
  pub maxima : Maxima z (λ x. measured (magnitude v (coefficient_of z x))) work
