use mathlib.Core.Path.{ap, ◌∙◌}
use Rattle.lists.specs.Lists.{coefficient}
use Rattle.lists.proofs.Laws.{lsp_read}
use native.Mathlib.Omega.{arith}
use Rattle.lists.proofs.lsp_at.Goals as goal

pub returns : goal.returns
returns c = c.coefficient_of.ensures ∙ ap coefficient (lsp_read _ _ _ _ (omega arith))
