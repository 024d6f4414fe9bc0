-- `survey::walk`: what `next` gives goes on, ends or refuses the survey; the cursor's place rises.
use Rattle.std.proofs.Common.{Ok, ap, ◌∙◌}
use Rattle.std.proofs.lemmas.Result.{err_from_is_err_and}
use Rattle.record.specs.Walk.{next_falls}
use Rattle.survey.proofs.Laws.{surveying_first, surveying_legal, surveying_past, surveying_whole, surveying_fault}
use borrow.Author.Rules.{rules}
use Rattle.survey.proofs.walk.Goals as goal

pub loop-p-init : goal.loop-p-init
loop-p-init c = search (rules, surveying_first)

pub next-requires : goal.next-requires
next-requires c = search (rules, surveying_legal)

pub returns-in_err-p : goal.returns-in_err-p
returns-in_err-p c =
    let p = err_from_is_err_and c.from_residual.result c.from_residual.ensures.1 in
    rw (p.1, p.2) (surveying_fault _ _ _ _ c.loop-p.invariant _ c.next.ensures _ c.in_err-p.was)

pub loop-p-smaller : goal.loop-p-smaller
loop-p-smaller c = next_falls _ _ _ _ c.next.ensures _ _ (c.in_ok-p.was ∙ ap (λ x. Ok x) c.in-Part.is) c.past-cursor.ensures

pub loop-p-preserved : goal.loop-p-preserved
loop-p-preserved c = surveying_past _ _ _ _ c.loop-p.invariant _ c.next.ensures _ _ (c.in_ok-p.was ∙ ap (λ x. Ok x) c.in-Part.is) c.past-cursor.ensures

pub returns : goal.returns
returns c = surveying_whole _ _ _ _ c.loop-p.invariant _ c.next.ensures _ c.in_ok-p.was c.in_default.not-Part
