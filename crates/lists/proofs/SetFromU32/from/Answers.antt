use Rattle.lists.proofs.Laws.{entry_even, entry_odd}
use mathlib.Core.Path.{sym}
use native.Mathlib.Omega.{arith}
use Rattle.lists.proofs.SetFromU32.from.Goals as goal

pub returns-then-m-eq0 : goal.returns-then-m-eq0
returns-then-m-eq0 c = (sym (entry_even _ c.if-m-eq0.true), omega arith)

pub returns-else-m-eq0 : goal.returns-else-m-eq0
returns-else-m-eq0 c = (sym (entry_odd _ c.if-m-eq0.false), omega arith)
