use Rattle.parts.proofs.Running.{ready_cuts, decoding_runs, decoding_done}
use borrow.Author.Rules.{rules}
use Rattle.parts.proofs.decode_part.Goals as goal

pub run_of-run-requires : goal.run_of-run-requires
run_of-run-requires c = ready_cuts c.requires.0.ready

pub run_part-requires : goal.run_part-requires
run_part-requires c = decoding_runs c.requires c.run_of-run.ensures

pub returns : goal.returns
returns c = search (rules, decoding_done)
