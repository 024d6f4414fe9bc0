-- `fill_d` and `fill_l`, which call each other: 2 x level + 1 falls for D, 2 x level for L.
use Rattle.std.proofs.Common.{◌-◌, rules}
use Rattle.largest.specs.Steps.{FilledTo}
use Rattle.largest.proofs.Steps.{none_d, next_d, next_l}
use Rattle.largest.proofs.+fill_d_fill_l.Goals as goal
use Rattle.largest.proofs.+fill_d_fill_l.Goals.{fill_d-then-k-gt2, fill_d-else-k-gt2}

pub fill_d-returns : goal.fill_d-returns
fill_d-returns t c =
    let k = c.args.k.0 in
    let under : FilledTo c.args.z (k - 1) (k - 1) c.args.work.now c.if-k-gt2.work =
    elim c.if-k-gt2.branch [
      | fill_d-then-k-gt2 w ↦ rw w.work-is w.fill_l.ensures
      | fill_d-else-k-gt2 w ↦ rw w.work-is (none_d c.requires.1 w.if-k-gt2.false)
    ] in
    next_d c.requires.0 c.requires.2 c.requires.1 under c.fill_level_d.ensures

pub fill_l-returns : goal.fill_l-returns
fill_l-returns t c = search (rules, next_l)
