-- `decoder::decode_parts`: the walk begins, and goes on to its end, where the pyramid is laid out.
use Rattle.decoder.proofs.LawsWalk.{lent_roomy, walking_first}
use borrow.Author.Rules.{rules}
use Rattle.decoder.proofs.decode_parts.Goals as goal

pub clear-requires : goal.clear-requires
clear-requires c = search (rules, lent_roomy)

pub first_walk-first-requires : goal.first_walk-first-requires
first_walk-first-requires c = search (rules, lent_roomy)

pub walk_all-requires : goal.walk_all-requires
walk_all-requires c = search (rules, walking_first)

pub lay_out-requires : goal.lay_out-requires
lay_out-requires c = search (rules, lent_roomy)
