use Rattle.parts.proofs.Running.{ready_cuts, coding_runs, coding_done}
use borrow.Author.Rules.{rules}
use Rattle.parts.proofs.code_part.Goals as goal

pub run_of-run-requires : goal.run_of-run-requires
run_of-run-requires c = ready_cuts c.requires.ready

pub run_part-requires : goal.run_part-requires
run_part-requires c = coding_runs c.requires c.run_of-run.ensures

pub returns : goal.returns
returns c = search (rules, coding_done)
