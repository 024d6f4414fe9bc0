-- `grey::grey_size`: what is told of the file.
use Rattle.grey.proofs.Laws.{passed_on, refused_for}
use Rattle.grey.proofs.Taking.{size_none, size_told_lem}
use Rattle.grey.proofs.grey_size.Goals as goal

pub returns-in_err-w : goal.returns-in_err-w
returns-in_err-w c =
    let none = rw c.in_err-w.ensures.ok_part at c.read_grey.ensures in
    rw (passed_on _ c.from_residual.ensures.1, refused_for _ c.in_err-w.ensures.value) (size_none _ none)

pub returns : goal.returns
returns c = size_told_lem _ (rw c.in_ok-w.ensures.ok_part at c.read_grey.ensures)
