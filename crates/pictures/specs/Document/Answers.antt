-- What the routines hand back, as the answers of the way in and the way back (rules, Answers).
use Rattle.std.specs.Prelude.{Result, Ok, Err}
use Rattle.rules.specs.declared.Refusal.{Refusal}
use Rattle.rules.specs.Document.Numbers.{Accepted, Refused}
use Rattle.pictures.specs.declared.Sides.{Sides}
use Rattle.pictures.specs.declared.Printed.{Printed}
use Rattle.pictures.specs.Document.Calls.{GreyRead, GreyWritten}

unfoldable pub as_grey_read : Result Sides Refusal → GreyRead
as_grey_read (Ok x) = record { verdict = Accepted; w = x.w; h = x.h }
as_grey_read (Err r) = record { verdict = Refused r; w = 0; h = 0 }

unfoldable pub as_grey_written : Result Printed Refusal → GreyWritten
as_grey_written (Ok x) = record { verdict = Accepted; length = x.length; clipped = x.clipped }
as_grey_written (Err r) = record { verdict = Refused r; length = 0; clipped = 0 }
