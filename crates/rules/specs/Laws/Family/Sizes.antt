-- Sizes: that the test of a legal one is the statement Legal, and n_k, how many coefficients level k has.
--
--   span z k          coefficients in the first H / 2^k rows and W / 2^k columns
--   level_start z k    coefficients of the levels over k: where level k starts when they are laid out coarsest first
--   level_end z k      and where it ends
--   level_size z k     n_k
use Rattle.std.specs.Prelude.{cond, leb}
use Prim.Native.Nat.{ℕ, ◌-◌, ◌*◌, ◌/◌, ◌^◌}
use Rattle.rules.specs.declared.Size.{Size}

module _ (z : Size) where
  unfoldable pub span : ℕ → ℕ
  span k = (z.h / 2 ^ k) * (z.w / 2 ^ k)

  unfoldable pub level_start : ℕ → ℕ
  level_start k = cond (leb k z.n) (span k) 0

  unfoldable pub level_end : ℕ → ℕ
  level_end k = span (k - 1)

  unfoldable pub level_size : ℕ → ℕ
  level_size k = level_end k - level_start k
