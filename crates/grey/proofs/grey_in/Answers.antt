-- `grey::grey_in`: what was lent is cleared, the pyramid on a refusal alone.
use mathlib.Core.Path.{ap, sym, ◌∙◌}
use lib.ListN.{replicate}
use lib.IntN.{pos}
use Rattle.rules.specs.Document.Notation.{zeros}
use Rattle.grey.proofs.Taking.{in_back, in_back_refused}
use Rattle.grey.proofs.grey_in.Goals.{then-is_err, else-is_err}
use Rattle.grey.proofs.grey_in.Goals as goal

pub returns : goal.returns
returns c =
    let way = c.lift-lifted.ensures in
    let clear = c.zero-2.ensures ∙ ap zeros c.lift-lifted.auto.work in
    let told = sym c.is_err.ensures.value in
    elim c.if-is_err.branch [
      | then-is_err w ↦
          in_back_refused clear way (told ∙ w.if-is_err.true) (w.out-is ∙ w.zero.ensures ∙ ap (λ n. replicate n (pos 0)) c.lift-lifted.auto.out)
      | else-is_err w ↦ rw w.out-is (in_back clear way (told ∙ w.if-is_err.false))
    ]
