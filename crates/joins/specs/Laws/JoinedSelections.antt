-- "For two selections of one coder's record the join never refuses with room enough, and demand 3 speaks of it." The record may have the coder's number
-- of planes or the earlier one, and each selection may be cut anywhere behind its header.
use Rattle.std.specs.Prelude.{Bool, ◌||◌}
use mathlib.Core.List.{List}
use Prim.Native.Nat.{ℕ}
use Rattle.rules.specs.Document.Passes.{PartName}
use Rattle.rules.specs.Document.Layout.{CodedPart}
use Rattle.rules.specs.Promises.Vocabulary.{present, names, kept, whole_in}

-- the parts that are whole in the first n bytes behind the header of a selection
abbrev pub whole_there : List CodedPart → (PartName → Bool) → ℕ → PartName → Bool
whole_there ps keep n x = present (names (whole_in n (kept keep ps))) x

-- those that are whole in one or the other of two
abbrev pub in_either : List CodedPart → (PartName → Bool) → ℕ → (PartName → Bool) → ℕ → List CodedPart
in_either ps keep₁ n₁ keep₂ n₂ = kept (λ x. whole_there ps keep₁ n₁ x || whole_there ps keep₂ n₂ x) ps
