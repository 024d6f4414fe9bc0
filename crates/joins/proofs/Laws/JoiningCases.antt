-- Joins of what is left of document 01's record where a request or a link leaves some parts out, and each refusal: one table, and one claim about all
-- its rows, by computation. Of a join the answer that its export writes and the output are stated; the records are those of rules' Cases.
use Rattle.std.specs.Prelude.{◌≡◌, refl, map}
use Rattle.rules.specs.Promises.Cases.{coded_as}
use Rattle.rules.specs.Promises.Cases.{opens_document, opens_answers}
use Rattle.joins.specs.Laws.JoiningCases.{opens_joining, opens_records, table}

pub cases_hold : map (λ r. r.given) table ≡ map (λ r. r.stated) table
unfolding table opens_records opens_document opens_answers opens_joining coded_as
cases_hold = refl
