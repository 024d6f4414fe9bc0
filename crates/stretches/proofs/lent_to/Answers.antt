use mathlib.Core.Path.{sym, ◌∙◌}
use native.Mathlib.Omega.{arith}
use Rattle.rules.proofs.Laws.Family.Sizes.{legal}
use Rattle.stretches.specs.Levels.{lent_first, lent_next, next_start}
use Rattle.stretches.proofs.lent_to.Goals as goal

pub returns-then-k-lt2 : goal.returns-then-k-lt2
returns-then-k-lt2 c =
    let E = c.stretch_to.ensures in
    (E.0 ∙ sym (lent_first _ _ c.if-k-lt2.true), omega (arith, E.0), E.1, E.2)

pub returns-else-k-lt2 : goal.returns-else-k-lt2
returns-else-k-lt2 c =
    let E = c.stretch_to-else-k-lt2.ensures in
    let behind = next_start _ (legal _ c.requires.0) _ c.if-k-lt2.false c.requires.2 in
    (E.0 ∙ sym (lent_next _ _ c.if-k-lt2.false), omega (arith, E.0, behind), E.1, E.2)
