-- The test that one walk over a record can make: what came by before a part decides whether it is usable, by document 01's definition over
-- all the parts there are.
use Rattle.std.specs.Prelude.{Bool, cond, ◌&&◌, ℕ, suc, leb}
use Rattle.std.proofs.Math.Dec.{eqb}
use Rattle.rules.specs.Document.Passes.{PartName}

-- With R the planes reached by the parts that came by: a part is usable if its level had reached the plane above, and the next coarser level
-- its own plane; and the planes reached with it.
unfoldable pub usable_now : (ℕ → ℕ) → PartName → Bool
usable_now R p = eqb (R p.level) (suc p.plane) && leb (R (suc p.level)) p.plane

unfoldable pub reached_now : (ℕ → ℕ) → PartName → ℕ → ℕ
reached_now R p k = cond (eqb k p.level && usable_now R p) p.plane (R k)
