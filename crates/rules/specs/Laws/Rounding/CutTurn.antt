-- The run over a coder's parts at the turn of one that is cut: up to it the run is the same whether the part is there or not, and by the planes that
-- are reached with it the decoder's lists of its level are the coder's. So what is there of its bits are those that the decoder asks for.
use Rattle.std.specs.Prelude.{Bool, ℕ, leb}
use Rattle.rules.specs.Document.Passes.{PartName}

abbrev pub used_by : (ℕ → ℕ) → PartName → Bool
used_by R p = leb (R p.level) p.plane
