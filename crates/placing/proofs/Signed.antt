-- A signed number of 32 bits that a call gave, handed on or stored.
use mathlib.Core.Path.{◌≡◌, ap, ◌∙◌}
use mathlib.Core.List.{List}
use Prim.Native.Nat.{ℕ, ◌^◌, ◌<◌}
use lib.ListN.{get_or}
use lib.IntN.{ℤ}
use lib.Signed.{mag}
use mir.Syntax.{w32}
use mir.Val.{to_z, of_z}
use mir.ValLaws.{to_z-of_z}
use Rattle.coefficients.specs.Words.{value_of}

pub handed : (r v : ℤ) → mag r < 2 ^ 31 → r ≡ v → to_z w32 (of_z w32 r) ≡ v
handed r v h e = to_z-of_z w32 r (record { sfits = h }) ∙ e

pub value_read : (s : List ℕ) (r : ℤ) (at to : ℕ) → mag r < 2 ^ 31 → r ≡ value_of (get_or s at 0) → at ≡ to → to_z w32 (of_z w32 r) ≡ value_of (get_or s to 0)
value_read s r at to h e i = handed r (value_of (get_or s at 0)) h e ∙ ap (λ (x : ℕ). value_of (get_or s x 0)) i
