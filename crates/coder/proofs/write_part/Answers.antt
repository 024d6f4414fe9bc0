-- `coder::write_part`: the pass writes the body, the head comes before it.
use borrow.Author.Rules.{rules}
use Rattle.coder.proofs.Parts.{part_ready, part_bits, part_written}
use Rattle.coder.proofs.write_part.Goals as goal

pub code_part-passed-requires : goal.code_part-passed-requires
code_part-passed-requires c = search (rules, part_ready)

pub put_head-place-requires : goal.put_head-place-requires
put_head-place-requires c = search (rules, part_bits)

pub returns : goal.returns
returns c = search (rules, part_written)
