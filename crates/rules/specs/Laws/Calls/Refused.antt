-- Demand 1, for Promises/One: number and place tell refusals apart, each routine gives its own numbers only, and so a call whose result has its
-- case, and no other's, comes back with a number and a place exactly where that case holds.
use Rattle.rules.specs.Document.Numbers.{Accepted, Refused, Verdict}
use Rattle.rules.specs.Document.Calls.{Result, refused, accepted}

unfoldable pub verdict_of : {X : Type 0} → Result X → Verdict
verdict_of (refused r) = Refused r
verdict_of (accepted x) = Accepted
