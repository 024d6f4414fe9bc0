-- What the passes start with: every coefficient in one LIP or in one set.
use Rattle.std.specs.Prelude.{◌≡◌, refl, ◌≢◌, ℕ, ◌+◌, ◌*◌, ◌/◌, ◌^◌, ◌<◌, length}
use Rattle.std.proofs.Math.Path.{ap₂, sym}
use Rattle.std.proofs.Common.{◌∙◌, arith, eq-eqb, ne_eqb}
use mathlib.Core.List.{List, [], ◌++◌}
use Rattle.rules.specs.declared.Size.{Size}
use Rattle.rules.specs.Document.Notation.{flat}
use Rattle.rules.specs.Document.Pyramid.{family, area, levels, offspring_of, descendants_of}
use Rattle.rules.specs.Document.Passes.{typeA, members, from, band_ll, root_of, start}
use Rattle.rules.specs.Laws.Counting.Sums.{All, sum, is}
use Rattle.rules.proofs.Laws.Counting.Sums.{sum_append, sum_flat, sum_pointwise, sum_one, sum_if_any, sum_once, all_of, all_append}
use Rattle.rules.proofs.Laws.Counting.Sums.{all_flat, every_all, from_length}
use Rattle.rules.specs.Laws.Family.Sizes.{span}
use Rattle.rules.specs.Promises.Vocabulary.{Legal}
use Rattle.rules.proofs.Laws.Offspring.Level.{level_area}
use Rattle.rules.proofs.Laws.Offspring.Grid.{band_sum}
use Rattle.rules.proofs.Laws.Offspring.Lawful.{descendants_area, lawful}
use Rattle.rules.proofs.Laws.Offspring.Once.{band_level, coefficients_once}

module _ (z : Size) where
  pub start_top : start z (levels z) ≡ record { lip = band_ll z; lis = flat (root_of z) (band_ll z); lsp = [] }
  unfolding start
  start_top = rw (eq-eqb (levels z) (levels z) refl)

  pub start_else : (k : ℕ) → k ≢ levels z → start z k ≡ record { lip = []; lis = []; lsp = [] }
  unfolding start
  start_else k d = rw (ne_eqb k (levels z) d)

  pub band_length : length (band_ll z) ≡ span z z.n
  unfolding span
  band_length =
      sym (sum_one (λ q. 1 * 1) (band_ll z) (all_of _ (band_ll z) (λ q. refl)))
      ∙ band_sum z (λ i. 1) (λ j. 1)
      ∙ ap₂ (λ (x y : ℕ). x * y) (ones (z.h / 2 ^ z.n)) (ones (z.w / 2 ^ z.n))
    where
      ones : (m : ℕ) → sum (λ i. 1) (from 0 m) ≡ m
      ones m = sum_one (λ i. 1) (from 0 m) (all_of _ (from 0 m) (λ i. refl)) ∙ from_length 0 m

module _ (z : Size) (Z : Legal z) where
  -- A set of type A stands for every coefficient with descendants.
  roots_weigh : (w : ℕ → ℕ) (ps : List ℕ)
      → sum (λ e. sum w (members (family z) e)) (flat (root_of z) ps) ≡ sum (λ p. sum w (descendants_of z p)) ps
  unfolding root_of members sum flat
  roots_weigh w ps = sum_flat (λ e. sum w (members (family z) e)) (root_of z) ps ∙ sum_pointwise _ (λ p. sum w (descendants_of z p)) ps root
    where
      root : (p : ℕ) → sum (λ e. sum w (members (family z) e)) (root_of z p) ≡ sum w (descendants_of z p)
      root p =
          sum_if_any (λ e. sum w (members (family z) e)) (offspring_of z p) (typeA p) (λ e.
          let n : descendants_of z p ≡ [] = (lawful z Z).unfolds p ∙ rw e in
          rw n)

  everything : List ℕ
  everything = band_ll z ++ flat (descendants_of z) (band_ll z)

  everything_weighs : (w : ℕ → ℕ) → sum w everything ≡ sum w (band_ll z) + sum (λ p. sum w (descendants_of z p)) (band_ll z)
  unfolding everything
  everything_weighs w = omega (arith, sum_append w (band_ll z) (flat (descendants_of z) (band_ll z)), sum_flat w (descendants_of z) (band_ll z))

  everything_area : All (λ q. q < area z) everything
  unfolding everything
  everything_area =
      all_append _ (band_ll z) (flat (descendants_of z) (band_ll z))
      (every_all _ (band_ll z) (λ p i. level_area z Z p (omega (arith, band_level z Z p i))))
      (all_flat _ (descendants_of z) (band_ll z) (all_of _ (band_ll z) (λ p. every_all _ (descendants_of z p) (descendants_area z Z p))))

  -- In every weight, what the passes start with is the pyramid.
  pub start_weighs : (w : ℕ → ℕ)
      → sum w (band_ll z) + sum (λ e. sum w (members (family z) e)) (flat (root_of z) (band_ll z)) ≡ sum w (from 0 (area z))
  start_weighs w =
      omega (
        arith,
        roots_weigh w (band_ll z),
        everything_weighs w,
        sum_once w (area z) everything everything_area (λ q v. everything_weighs (is q) ∙ coefficients_once z Z q v),
      )
