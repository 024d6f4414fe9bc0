-- `coder::write_record`: header, then all parts.
use borrow.Author.Rules.{rules}
use Rattle.coder.proofs.Records.{planes_few, header_clear, header_short, record_stored}
use Rattle.coder.proofs.write_record.Goals as goal

pub header-place-requires : goal.header-place-requires
header-place-requires c = search (rules, planes_few)

pub write_parts-requires : goal.write_parts-requires
write_parts-requires c = (search rules, search (rules, planes_few), search (rules, header_clear), search (rules, header_short))

pub returns : goal.returns
returns c = search (rules, record_stored)
