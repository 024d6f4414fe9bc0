use Rattle.lists.proofs.Laws.{entry_a, entry_b}
use mathlib.Core.Path.{ap, sym, ◌∙◌}
use Rattle.lists.specs.Lists.{entry_of}
use Rattle.lists.proofs.number_of.Goals as goal

pub returns-in-TypeA : goal.returns-in-TypeA
returns-in-TypeA c = entry_a _ ∙ sym (ap entry_of c.in-TypeA.is)

pub returns-in-TypeB : goal.returns-in-TypeB
returns-in-TypeB c = entry_b _ ∙ sym (ap entry_of c.in-TypeB.is)
