-- `grey::lift`: the pixels are loaded, and their tones split.
use native.Mathlib.Omega.{arith}
use Rattle.grey.proofs.Laws.{passed_on, refused_for}
use Rattle.grey.proofs.Taking.{in_none, in_refused, in_there, in_room, in_splitting, in_lifted}
use Rattle.grey.proofs.lift.Goals as goal

pub returns-in_err-w : goal.returns-in_err-w
returns-in_err-w c =
    let none = rw c.in_err-w.ensures.ok_part at c.read_grey.ensures in
    rw (passed_on _ c.from_residual.ensures.1, refused_for _ c.in_err-w.ensures.value) (in_none _ _ _ _ none)

pub returns-in_err-judged_in : goal.returns-in_err-judged_in
returns-in_err-judged_in c =
    let told = rw c.in_ok-w.ensures.ok_part at c.read_grey.ensures in
    rw (passed_on _ c.from_residual-in_err-judged_in.ensures.1) (in_refused _ _ _ _ told c.in_err-judged_in.ensures)

pub overflow_mul-z : goal.overflow_mul-z
overflow_mul-z c =
    let told = rw c.in_ok-w.ensures.ok_part at c.read_grey.ensures in
    omega (arith, in_there _ _ _ _ told c.in_ok-judged_in.ensures)

pub overflow_add-at : goal.overflow_add-at
overflow_add-at c =
    let told = rw c.in_ok-w.ensures.ok_part at c.read_grey.ensures in
    omega (arith, in_there _ _ _ _ told c.in_ok-judged_in.ensures)

pub slice_bounds-load_pixels-end : goal.slice_bounds-load_pixels-end
slice_bounds-load_pixels-end c =
    let told = rw c.in_ok-w.ensures.ok_part at c.read_grey.ensures in
    let there = in_there _ _ _ _ told c.in_ok-judged_in.ensures in
    search arith

pub load_pixels-requires : goal.load_pixels-requires
load_pixels-requires c =
    let told = rw c.in_ok-w.ensures.ok_part at c.read_grey.ensures in
    in_room _ _ _ _ told c.in_ok-judged_in.ensures

pub split_picture-requires : goal.split_picture-requires
split_picture-requires c =
    let told = rw c.in_ok-w.ensures.ok_part at c.read_grey.ensures in
    in_splitting _ _ _ _ told c.in_ok-judged_in.ensures c.load_pixels.ensures (λ q. omega (arith, c.type_inv.file q))

pub returns : goal.returns
returns c =
    let told = rw c.in_ok-w.ensures.ok_part at c.read_grey.ensures in
    in_lifted _ _ _ _ told c.in_ok-judged_in.ensures c.load_pixels.ensures c.split_picture.ensures
