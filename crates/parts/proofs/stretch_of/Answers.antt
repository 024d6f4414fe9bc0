use native.Mathlib.Omega.{arith}
use mathlib.Core.Path.{◌≡◌, ap, ◌∙◌}
use Rattle.rules.proofs.Laws.Family.Sizes.{legal}
use Rattle.parts.specs.Workspace.{away_for}
use Rattle.parts.proofs.Running.{cut_under, next_under, first_away, next_away, stretch_is}
use Rattle.parts.proofs.stretch_of.Goals as goal
use Rattle.parts.proofs.stretch_of.Goals.{then-k-lt2, else-k-lt2}

pub overflow_mul-away : goal.overflow_mul-away
overflow_mul-away c = omega (arith, c.level_size-n.ensures, cut_under c.requires)

pub fill_of-there-requires : goal.fill_of-there-requires
fill_of-there-requires c =
    let C = c.requires in
    (omega (arith, c.if-k-lt2.false), omega (arith, C.level, (legal _ C.legal).few))

pub overflow_mul-n : goal.overflow_mul-n
overflow_mul-n c = omega (arith, c.level_size-n.ensures, cut_under c.requires)

pub lis_end-away-requires : goal.lis_end-away-requires
lis_end-away-requires c =
    let C = c.requires in
    let size = c.level_size-n.ensures in
    let own = cut_under C in
    let next = next_under C c.if-k-lt2.false in
    let left = ap (λ f. f.left) c.fill_of-there.ensures.0 in
    (omega (arith, size, own), omega (arith, c.level_size.ensures, next), omega (arith, left, C.few))

pub returns : goal.returns
returns c =
    let a = c.args in
    let size = c.level_size-n.ensures in
    let away : c.if-k-lt2.away ≡ away_for a.z a.k.0 a.counts =
    elim c.if-k-lt2.branch [
      | then-k-lt2 w ↦ first_away a.role a.z a.k.0 a.counts size w.if-k-lt2.true w.away-is
      | else-k-lt2 w ↦
          next_away a.role a.z a.k.0 a.counts size w.if-k-lt2.false w.level_size.ensures w.fill_of-there.ensures.0
          (w.away-is ∙ w.lis_end-away.ensures)
    ] in
    stretch_is _ _ _ _ size c.level_start.ensures away
