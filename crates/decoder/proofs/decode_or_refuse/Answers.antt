-- `decoder::decode_or_refuse`: the size that was read is legal.
use mathlib.Core.Path.{sym, ◌∙◌}
use Rattle.decoder.proofs.LawsAnswer.{area_fits, size_legal}
use Rattle.decoder.proofs.decode_or_refuse.Goals as goal

pub overflow_mul-h : goal.overflow_mul-h
overflow_mul-h c = area_fits _ _ (sym c.header.ensures ∙ c.in_ok-h.was)

pub work_for-requires : goal.work_for-requires
work_for-requires c = size_legal _ _ (sym c.header.ensures ∙ c.in_ok-h.was)
