use Rattle.lists.proofs.Laws.{unmarked_made, marked_made}
use Rattle.lists.proofs.marked.Goals as goal

pub returns-in-Reads : goal.returns-in-Reads
returns-in-Reads c =
    unmarked_made c.args.stretch c.args.s.now c.args.x c.requires.2 c.in-Reads.is

pub returns-in-Codes : goal.returns-in-Codes
returns-in-Codes c =
    marked_made c.args.stretch c.args.s.now c.args.x c.requires.2 c.requires.1 c.value_at.ensures
    c.mark_of.ensures
