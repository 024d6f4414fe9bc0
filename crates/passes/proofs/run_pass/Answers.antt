use Rattle.passes.proofs.Pass.{lip_testing, tested_ready, visited_refining, ran}
use Rattle.testing.specs.Finding.{stood}
use borrow.Author.Rules.{rules}
use Rattle.passes.proofs.run_pass.Goals as goal

pub test_each-ends-requires : goal.test_each-ends-requires
test_each-ends-requires c = search (rules, lip_testing)

pub visit_lis-visited-requires : goal.visit_lis-visited-requires
visit_lis-visited-requires c = search (rules, stood, tested_ready)

pub refine_lsp-at-requires : goal.refine_lsp-at-requires
refine_lsp-at-requires c =
    let standing = stood c.moved_to-tested.ensures c.test_each-ends.ensures in
    (visited_refining _ c.requires c.empty_lip-fill.ensures standing c.visit_lis-visited.ensures, c.requires.silent)

pub returns : goal.returns
returns c =
    let standing = stood c.moved_to-tested.ensures c.test_each-ends.ensures in
    ran _ c.requires c.empty_lip-fill.ensures standing c.visit_lis-visited.ensures c.refine_lsp-at.ensures
