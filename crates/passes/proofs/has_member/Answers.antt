use Rattle.passes.proofs.Sets.{has_none, has_a, has_b}
use borrow.Author.Rules.{rules}
use Rattle.passes.proofs.has_member.Goals as goal

pub returns-in-TypeA : goal.returns-in-TypeA
returns-in-TypeA c = search (rules, has_a)

pub returns-in-TypeB : goal.returns-in-TypeB
returns-in-TypeB c = search (rules, has_b)

pub returns-else-run : goal.returns-else-run
returns-else-run c = search (rules, has_none)
