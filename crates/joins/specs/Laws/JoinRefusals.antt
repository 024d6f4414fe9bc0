-- Demand 1 of joining: a call comes back with a number and place exactly where the case of that refusal holds for it (JoinCauses), with 0 exactly where it
-- is accepted; and what it leaves in the memory lent to it is what coding leaves. For the export: what its routine leaves, with the answer written.
use Rattle.std.specs.Prelude.{ℕ}
use mathlib.Core.List.{List, [], ◌∷◌}

-- The numbers that joining may give.
abbrev pub joining_numbers : List ℕ
joining_numbers = 0 ∷ 1 ∷ 5 ∷ 6 ∷ 7 ∷ 8 ∷ 9 ∷ 12 ∷ 14 ∷ 15 ∷ []
