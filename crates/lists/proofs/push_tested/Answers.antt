use mathlib.Core.Path.{refl}
use Rattle.lists.proofs.Laws.{push_by_law}
use native.Mathlib.Omega.{arith}
use Rattle.lists.proofs.push_tested.Goals as goal

pub returns : goal.returns
returns c =
    let lsp-end = c.lsp_from.ensures in
    push_by_law _ _ _ c.requires.0 c.args.found _ c.select_unpredictable.ensures (omega (arith, lsp-end)) c.lip_end.ensures
    c.requires.2 _ refl c.requires.4
