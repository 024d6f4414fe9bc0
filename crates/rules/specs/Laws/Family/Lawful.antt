-- What the theory needs of a family, in one record. Levels are part levels and not depths: where coarser levels are merged into one, offspring
-- are of their parent's own level, so no field says that a level falls. A mask takes nothing out of a family: inside or not is a weight.
use Rattle.std.specs.Prelude.{◌≡◌, length}
use mathlib.Core.List.{◌++◌}
use Prim.Native.Nat.{ℕ, suc, ◌≤◌}
use Rattle.rules.specs.Document.Notation.{flat}
use Rattle.rules.specs.Document.Pyramid.{Family}
use Rattle.rules.specs.Document.Passes.{Entry, members}
use Rattle.rules.specs.Laws.Counting.Sums.{◌∈◌, Every}

pub record Lawful (F : Family) : Type 0 where
  -- Descendants are the offspring and their descendants.
  pub unfolds : (p : ℕ) → F.descendants p ≡ F.offspring p ++ flat F.descendants (F.offspring p)
  -- Levels are counted from 1: so nothing leaves level 1.
  pub from1 : (p q : ℕ) → q ∈ F.descendants p → 1 ≤ F.level q
  -- No descendant is above an offspring: so a set opened in its highest level has all its offspring there.
  pub highest : (p r q : ℕ) → r ∈ F.offspring p → q ∈ F.descendants p → F.level q ≤ F.level r
  -- Offspring are one level under their parent at most: so a set that leaves a level has members in the next.
  pub near : (p r : ℕ) → r ∈ F.offspring p → F.level p ≤ suc (F.level r)
  -- Offspring of one parent have offspring alike: so the sets that come of a set of type B all have members where it had.
  pub alike : (p r s q : ℕ) → r ∈ F.offspring p → s ∈ F.offspring p → q ∈ F.offspring r
      → (t : ℕ) × (t ∈ F.offspring s) × (F.level q ≤ F.level t)
  -- Offspring come by four: so a set's members pay for the slots that come of it.
  pub four : (p r : ℕ) → r ∈ F.offspring p → 4 ≤ length (F.offspring p)

-- All members of a set are of level k or finer.
abbrev pub UpTo : Family → ℕ → Entry → Type 0
UpTo F k e = Every (λ q. F.level q ≤ k) (members F e)
