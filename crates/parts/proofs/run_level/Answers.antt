use Rattle.parts.proofs.Workspace.{lent_order, lent_fresh, lent_back}
use borrow.Author.Rules.{rules}
use Rattle.parts.proofs.run_level.Goals as goal

pub slice_bounds-run_pass-count : goal.slice_bounds-run_pass-count
slice_bounds-run_pass-count c =
    let order = lent_order _ c.requires c.stretch_from-from.ensures.0 c.lent_to-to.ensures.0 in
    search rules

pub slice_bounds-run_pass-start : goal.slice_bounds-run_pass-start
slice_bounds-run_pass-start c =
    let order = lent_order _ c.requires c.stretch_from-from.ensures.0 c.lent_to-to.ensures.0 in
    search rules

pub run_pass-requires : goal.run_pass-requires
run_pass-requires c =
    let from = c.stretch_from-from.ensures.0 in
    lent_fresh _ c.requires from c.lent_to-to.ensures.0

pub returns : goal.returns
returns c = search (rules, lent_back)
