-- "It checks as serving with r = 1, p = 0 does": what serving a record whole answers, in any room, is told by its survey.
use Rattle.std.specs.Prelude.{◌≡◌, List, ℕ, ◌-◌, length, take}
use Rattle.rules.specs.Document.Numbers.{Verdict}
use Rattle.rules.specs.Document.Numbers.{Accepted, Refused}
use Rattle.rules.specs.Document.Calls.{Served}
use Rattle.rules.specs.Document.Calls.{Result, refused, Portion, portioned}
use Rattle.survey.specs.Surveyed.{Survey}

-- What serving whole makes of a record with this verdict and tail: refused for the same cause, or all but the tail in the room that there is.
unfoldable pub whole_by : List ℕ → ℕ → ℕ → Verdict → Result Portion
whole_by s t room Accepted = portioned (take (length s - t) s) t room
whole_by s t room (Refused r) = refused r

-- The same verdict, so the same number and place; and the same tail.
pub record Alike (found : Survey) (answer : Served) : Type 0 where
  pub verdict : found.verdict ≡ answer.verdict
  pub tail : found.tail ≡ answer.tail
