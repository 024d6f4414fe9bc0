use Rattle.answers.proofs.Laws.{reported}
use Rattle.answers.proofs.report.Goals as goal

pub returns : goal.returns
returns g c = reported g.row.N c.zero.ensures c.copy_from_slice.ensures.after c.copy_from_slice.ensures.len c.requires.1
