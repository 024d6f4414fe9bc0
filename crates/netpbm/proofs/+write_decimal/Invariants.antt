-- `netpbm::write_decimal`, which calls itself: the number falls.
use Rattle.netpbm.proofs.+write_decimal.Given as goal

abbrev pub decreases-write_decimal : goal.decreases-write_decimal
decreases-write_decimal l = l.value
