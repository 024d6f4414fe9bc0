-- What the routines hand back is one, too: where two are the same answer, they are the same.
use Rattle.std.specs.Prelude.{◌≡◌, Result, Ok, Err}
use Rattle.std.proofs.Common.{ap, arith}
use Rattle.rules.specs.declared.Refusal.{Refusal}
use Rattle.rules.proofs.Promises.Handed.{refused_once, accepted_refused, refused_accepted}
use Rattle.pictures.specs.declared.Sides.{Sides}
use Rattle.pictures.specs.declared.Printed.{Printed}
use Rattle.pictures.specs.Document.Calls.{GreyRead, GreyWritten}
use Rattle.pictures.specs.Document.Answers.{as_grey_read, as_grey_written}

pub as_grey_read_once : (x y : Result Sides Refusal) → as_grey_read x ≡ as_grey_read y → x ≡ y
unfolding as_grey_read
as_grey_read_once (Ok m) (Ok n) e = ap (λ (a : GreyRead). Ok (record { w = a.w; h = a.h })) e
as_grey_read_once (Ok m) (Err q) e = absurd (omega (arith, accepted_refused (ap (λ a. a.verdict) e)))
as_grey_read_once (Err r) (Ok n) e = absurd (omega (arith, refused_accepted (ap (λ a. a.verdict) e)))
as_grey_read_once (Err r) (Err q) e = ap Err (refused_once (ap (λ a. a.verdict) e))

pub as_grey_written_once : (x y : Result Printed Refusal) → as_grey_written x ≡ as_grey_written y → x ≡ y
unfolding as_grey_written
as_grey_written_once (Ok m) (Ok n) e = ap (λ (a : GreyWritten). Ok (record { length = a.length; clipped = a.clipped })) e
as_grey_written_once (Ok m) (Err q) e = absurd (omega (arith, accepted_refused (ap (λ a. a.verdict) e)))
as_grey_written_once (Err r) (Ok n) e = absurd (omega (arith, refused_accepted (ap (λ a. a.verdict) e)))
as_grey_written_once (Err r) (Err q) e = ap Err (refused_once (ap (λ a. a.verdict) e))
