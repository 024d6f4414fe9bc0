-- What the routines hand back, as the document's answers: accepted with what is told of the result, or refused with "0 in all but number and place".
use Rattle.std.specs.Prelude.{ℕ, ⊤, replicate, Result, Ok, Err}
use Rattle.rules.specs.declared.Refusal.{Refusal}
use Rattle.rules.specs.declared.Extent.{Extent}
use Rattle.rules.specs.declared.Reach.{Reach}
use Rattle.rules.specs.Document.Notation.{zeros}
use Rattle.rules.specs.Document.Numbers.{Verdict, Accepted, Refused}
use Rattle.rules.specs.Document.Calls.{Coded, Served, Decoded, level_places}

unfoldable pub as_verdict : Result ⊤ Refusal → Verdict
as_verdict (Ok _) = Accepted
as_verdict (Err r) = Refused r

unfoldable pub as_coded : Result ℕ Refusal → Coded
as_coded (Ok length) = record { verdict = Accepted; length = length }
as_coded (Err r) = record { verdict = Refused r; length = 0 }

unfoldable pub as_served : Result Extent Refusal → Served
as_served (Ok x) = record { verdict = Accepted; length = x.length; tail = x.tail }
as_served (Err r) = record { verdict = Refused r; length = 0; tail = 0 }

unfoldable pub as_decoded : Result Reach Refusal → Decoded
as_decoded (Ok x) = record { verdict = Accepted; tail = x.tail; reached = x.reached; skipped = x.skipped }
as_decoded (Err r) = record { verdict = Refused r; tail = 0; reached = replicate level_places (record { 0 = 0 }); skipped = zeros level_places }
