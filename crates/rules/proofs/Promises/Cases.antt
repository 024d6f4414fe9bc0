-- The cases that document 01 names, P1 to P12, and its record in full, with some more that only one reading of it gives, and bytes of which W2 says
-- why they are refused: one table, and one claim about all its rows, by computation. What is stated is numbers and bytes; of a call the answer that its
-- export writes and the output it leaves.
use Rattle.std.specs.Prelude.{◌≡◌, refl, map}
use Rattle.rules.specs.Promises.Cases.{opens_answers, opens_example, opens_others, opens_five, coded_as, served_as, decoded_as, table, opens_document}

pub cases_hold : map (λ r. r.given) table ≡ map (λ r. r.stated) table
unfolding table opens_example opens_others opens_five opens_document opens_answers coded_as served_as decoded_as
cases_hold = refl
