-- `grey::print`: the lines, and with room the pixels behind them.
use native.Mathlib.Omega.{arith}
use Rattle.rules.proofs.Laws.Family.Sizes.{area_bound}
use Rattle.grey.proofs.Laws.{passed_on, part_length}
use Rattle.grey.proofs.Printing.{back_refused, back_printing, back_short, back_printed}
use Rattle.grey.proofs.print.Goals as goal

pub returns-in_err-judged_out : goal.returns-in_err-judged_out
returns-in_err-judged_out c = rw (passed_on _ c.from_residual.ensures.1) (back_refused _ _ _ _ c.in_err-judged_out.ensures)

pub write_lines-at-requires : goal.write_lines-at-requires
write_lines-at-requires c = (back_printing _ _ c.args.out.now _ c.in_ok-judged_out.ensures).fits.legal

pub overflow_mul-length : goal.overflow_mul-length
overflow_mul-length c =
    let fits = (back_printing _ _ c.args.out.now _ c.in_ok-judged_out.ensures).fits in omega (arith, area_bound c.args.z fits.legal)

pub overflow_add-length : goal.overflow_add-length
overflow_add-length c =
    let fits = (back_printing _ _ c.args.out.now _ c.in_ok-judged_out.ensures).fits in omega (arith, area_bound c.args.z fits.legal)

pub returns-then-out-length : goal.returns-then-out-length
returns-then-out-length c = back_short _ _ _ _ c.in_ok-judged_out.ensures c.write_lines-at.ensures.0 (omega arith)

pub print_pixels-clipped-requires : goal.print_pixels-clipped-requires
print_pixels-clipped-requires c = (back_printing _ _ c.args.out.now _ c.in_ok-judged_out.ensures, part_length _ _ _ c.if-out-length.false)

pub returns : goal.returns
returns c =
    let lines = c.write_lines-at.ensures in
    let pixels = c.print_pixels-clipped.ensures in
    back_printed _ _ _ _ c.in_ok-judged_out.ensures lines.0 c.if-out-length.false lines.2 pixels.0 pixels.1
