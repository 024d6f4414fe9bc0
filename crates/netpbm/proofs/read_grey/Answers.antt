use Rattle.netpbm.proofs.Laws.{p5, not_p5, rest_dropped_front, no_width, no_height, no_greatest, rest_of_file, greatest_wrong, greatest_right}
use Rattle.netpbm.proofs.read_grey.Goals as goal

pub returns-in_err-sides : goal.returns-in_err-sides
returns-in_err-sides c = rw c.from_residual.ensures (not_p5 _ (p5 _ c.in_err-sides.ensures.cases))

pub returns-in_err-w : goal.returns-in_err-w
returns-in_err-w c =
    let sides = c.in_ok-sides.ensures.cases in
    rw c.from_residual-in_err-w.ensures (no_width _ (p5 _ sides.0) sides.1 (rest_dropped_front 2 _ sides.1) c.in_err-w.ensures)

pub returns-in_err-h : goal.returns-in_err-h
returns-in_err-h c =
    let sides = c.in_ok-sides.ensures.cases in
    rw c.from_residual-in_err-h.ensures
    (no_height _ (p5 _ sides.0) sides.1 (rest_dropped_front 2 _ sides.1) c.in_ok-w.ensures c.in_err-h.ensures)

pub returns-in_err-greatest : goal.returns-in_err-greatest
returns-in_err-greatest c =
    let sides = c.in_ok-sides.ensures.cases in
    rw c.from_residual-in_err-greatest.ensures
    (no_greatest _ (p5 _ sides.0) sides.1 (rest_dropped_front 2 _ sides.1) c.in_ok-w.ensures c.in_ok-h.ensures c.in_err-greatest.ensures)

pub returns-then-greatest-ne255 : goal.returns-then-greatest-ne255
returns-then-greatest-ne255 c =
    let sides = c.in_ok-sides.ensures.cases in
    greatest_wrong _ (p5 _ sides.0) sides.1 (rest_dropped_front 2 _ sides.1) c.in_ok-w.ensures c.in_ok-h.ensures c.in_ok-greatest.ensures
    c.if-greatest-ne255.true

pub read_end-requires : goal.read_end-requires
read_end-requires c =
    let sides = c.in_ok-sides.ensures.cases in
    rest_of_file _ (p5 _ sides.0) sides.1 (rest_dropped_front 2 _ sides.1) c.in_ok-w.ensures c.in_ok-h.ensures c.in_ok-greatest.ensures

pub returns : goal.returns
returns c =
    let sides = c.in_ok-sides.ensures.cases in
    greatest_right _ (p5 _ sides.0) sides.1 (rest_dropped_front 2 _ sides.1) c.in_ok-w.ensures c.in_ok-h.ensures c.in_ok-greatest.ensures
    c.if-greatest-ne255.false c.read_end.ensures
