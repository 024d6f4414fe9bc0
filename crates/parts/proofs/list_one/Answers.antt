use Rattle.parts.proofs.Begin.{one_inside, listed_even, odd_slot, listed_odd}
use native.Mathlib.Omega.{arith}
use borrow.Author.Rules.{rules}
use Rattle.parts.proofs.list_one.Goals as goal

pub push_lip-r-requires : goal.push_lip-r-requires
push_lip-r-requires c =
    let asked = c.requires in
    let inside = one_inside _ asked.0 c.band_number-x.ensures.0 in
    (asked.0.fits, asked.0.size, omega (arith, asked.0.coefficients), inside.0, inside.1)

pub returns-then-row-column-eq0 : goal.returns-then-row-column-eq0
returns-then-row-column-eq0 c = let P = c.requires in
    let number = c.band_number-x.ensures in
    listed_even _ P.0 P.1 number.0 c.push_lip-r.ensures c.if-row-column-eq0.true

pub add_set-requires : goal.add_set-requires
add_set-requires c = let P = c.requires in
    let L = c.push_lip-r.ensures in
    let number = c.band_number-x.ensures in
    (L.fits, P.0.size, odd_slot _ P.0 P.1 number.0 L c.if-row-column-eq0.false, number.1)

pub returns-else-row-column-eq0 : goal.returns-else-row-column-eq0
returns-else-row-column-eq0 c = search (rules, listed_odd)
