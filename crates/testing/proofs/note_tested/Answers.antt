use Rattle.testing.proofs.Leaves.{tested_coder, tested_past, tested_drawn, spare_inside}
use native.Mathlib.Omega.{arith}
use borrow.Author.Rules.{rules}
use Rattle.testing.proofs.note_tested.Goals as goal

pub set_value_or-requires : goal.set_value_or-requires
set_value_or-requires c =
    let start = c.requires in
    (start.1.room, omega (arith, start.4), spare_inside start.1 start.3 c.lip_end-spare.ensures)

pub returns-in-Codes : goal.returns-in-Codes
returns-in-Codes c = search (rules, tested_coder)

pub returns-then-at-run : goal.returns-then-at-run
returns-then-at-run c = search (rules, tested_drawn)

pub returns-else-at-run : goal.returns-else-at-run
returns-else-at-run c = search (rules, tested_past)
