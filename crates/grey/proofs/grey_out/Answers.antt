-- `grey::grey_out`: what was lent is cleared, the file on a refusal alone.
use mathlib.Core.Path.{ap, sym, ◌∙◌}
use Rattle.rules.specs.Document.Notation.{zeros}
use Rattle.grey.proofs.Printing.{out_back, out_back_refused}
use Rattle.grey.proofs.grey_out.Goals.{then-is_err, else-is_err}
use Rattle.grey.proofs.grey_out.Goals as goal

pub returns : goal.returns
returns c =
    let way = c.print-printed.ensures in
    let clear = c.zero-2.ensures ∙ ap zeros c.print-printed.auto.work in
    let told = sym c.is_err.ensures.value in
    elim c.if-is_err.branch [
      | then-is_err w ↦ out_back_refused clear way (told ∙ w.if-is_err.true) (w.out-is ∙ w.zero.ensures ∙ ap zeros c.print-printed.auto.out)
      | else-is_err w ↦ rw w.out-is (out_back clear way (told ∙ w.if-is_err.false))
    ]
