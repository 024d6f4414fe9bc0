-- The way back: the tones of a pyramid's picture are its numbers, and header and pixels written one behind the other are the file.
use mathlib.Core.Path.{◌≡◌, refl, ap, sym, ◌∙◌}
use mathlib.Core.Bool.{true, false}
use mathlib.Core.List.{List, [], ◌++◌, map}
use Prim.Native.Nat.{ℕ, ◌+◌, ◌-◌, ◌≤◌, ◌<◌}
use native.Mathlib.Omega.{arith}
use lib.ListN.{length, get_or, take, drop, length-map, length-append, length-replicate}
use lib.Seq.{sets, ext_get_or, get_or-take, length-take-le, length-sets}
use lib.IntN.{ℤ, pos}
use Rattle.std.proofs.lemmas.List.Edits.{sets-eq}
use Rattle.std.proofs.lemmas.List.{append_assoc, get_or-map, drop-drop}
use borrow.Author.Tests.{le-leb, lt-leb}
use Rattle.rules.specs.declared.Size.{Size}
use Rattle.rules.specs.declared.Refusal.{Refusal}
use Rattle.rules.specs.declared.Refusal.TheVariants as refusal
use Rattle.std.specs.Prelude.{Ok, Err, is_err}
use Rattle.rules.specs.Document.Numbers.{Accepted}
use Rattle.rules.specs.Document.Notation.{zeros}
use Rattle.rules.specs.Document.Pyramid.{legal_size, area, row, column}
use Rattle.rules.specs.Document.Calls.{Result, refused, accepted, unless, filled}
use Rattle.rules.proofs.Laws.Counting.Booleans.{clash}
use Rattle.rules.proofs.Laws.Family.Sizes.{legal}
use Rattle.rules.specs.Promises.Vocabulary.{Legal}
use Rattle.rules.proofs.Laws.Rounding.Planes.{under_first}
use Rattle.rules.proofs.Laws.Bytes.Output.{clipped_nothing, clipped_append, clipped_fits}
use Rattle.rules.proofs.Laws.Offspring.Level.{column_lt, row_lt}
use Rattle.rules.proofs.Laws.Offspring.Block.{index_place}
use Rattle.pictures.specs.Document.Answers.{as_grey_written}
use Rattle.pictures.specs.Document.Lifting.{Grid, back, grid_of, picture_of}
use Rattle.pictures.specs.Document.Netpbm.{grey_lines, grey_file}
use Rattle.pictures.specs.Document.Calls.{clip, clipped_in, most_decoded, GreyPrint, print_of, printed, grey_out, grey_out_out, grey_out_answer, GreyOut}
use Rattle.pictures.specs.Laws.Tones.{toned}
use Rattle.pictures.proofs.Laws.Grids.{list_at, picture_length}
use Rattle.lifting.specs.Pictures.{TonesOf, NumbersOf, Joining}
use Rattle.grey.proofs.Laws.{numbers_in}
use Rattle.grey.specs.Outcomes.{judged_out, Fits, Printing, Written, WayBack}
use Rattle.grey.proofs.Judged.{ruled, ruled_out, judged_out_order}

-- What join_pyramid asks for.
pub joining : (pyramid : List ℤ) (z : Size) (work : List ℕ) → Printing pyramid z work → Joining z pyramid work
joining pyramid z work p =
    record {
      legal = p.fits.legal;
      room = p.fits.enough;
      exact = p.fits.exact;
      most = λ q l. under_first most_decoded pyramid q (omega (arith, p.range, p.fits.exact));
    }

-- The numbers that it leaves.
numbers_at : (count : ℕ) (s : List ℕ) (q : ℕ) → q < count → count ≤ length s → get_or (numbers_in count s) q (pos 0) ≡ toned (get_or s q 0)
unfolding numbers_in
numbers_at count s q l k =
    get_or-map toned (take count s) q 0 (pos 0) (omega (arith, length-take-le count s k)) ∙ ap toned (get_or-take count s q 0 l)

pub joined_numbers : {z : Size} {room space : ℕ} → Fits z room space → (pyramid : List ℤ) (work : List ℕ) → length work ≡ space
    → ((g : Grid) → NumbersOf z pyramid g → TonesOf z work (back z z.n g)) → numbers_in (area z) work ≡ picture_of z pyramid
unfolding picture_of numbers_in grid_of
joined_numbers {z} f pyramid work same joins =
    let Z : Legal z = legal z f.legal in
    let space : area z ≤ length work = omega (arith, f.enough) in
    let g : Grid = grid_of z.w pyramid in
    let long : length (numbers_in (area z) work) ≡ area z = length-map (take (area z) work) toned ∙ length-take-le (area z) work space in
    ext_get_or (pos 0) (numbers_in (area z) work) (picture_of z pyramid) (long ∙ sym (picture_length z pyramid))
    (λ q l.
    let h : q < area z = omega arith in
    numbers_at (area z) work q h space
    ∙ ap (λ n. toned (get_or work n 0)) (sym (index_place z q))
    ∙ joins g (λ i j a b. refl) (row z q) (column z q) (row_lt z Z q h) (column_lt z Z q)
    ∙ sym (list_at z (back z z.n g) q h))

-- Header and pixels, one behind the other.
print_length : (z : Size) (numbers : List ℤ) → length numbers ≡ area z → length (print_of z numbers).file ≡ length (grey_lines z) + area z
unfolding print_of grey_file
print_length z numbers whole =
    length-append (grey_lines z) (map clip numbers) ∙ ap (λ n. length (grey_lines z) + n) (length-map numbers clip ∙ whole)

module _ (z : Size) (room : ℕ) (numbers : List ℤ) (whole : length numbers ≡ area z) where
  abbrev print : GreyPrint
  print = print_of z numbers

  pub printed_short : room < length (grey_lines z) + area z → printed print room ≡ refused refusal.Room
  unfolding printed unless
  printed_short l = rw (lt-leb (length print.file) room (omega (arith, print_length z numbers whole)))

  pub printed_fits : length (grey_lines z) + area z ≤ room → printed print room ≡ accepted print
  unfolding printed unless
  printed_fits l = rw (le-leb (length print.file) room (omega (arith, print_length z numbers whole)))

  pub printed_bytes : length (grey_lines z) + area z ≤ room
      → sets (sets (zeros room) 0 (grey_lines z)) (length (grey_lines z)) (map clip numbers) ≡ filled room print.file
  unfolding print_of grey_file
  printed_bytes l =
      ap (λ s. sets (sets s 0 (grey_lines z)) (length (grey_lines z)) (map clip numbers)) (sym (clipped_nothing room))
      ∙ ap (λ s. sets s (length (grey_lines z)) (map clip numbers)) (clipped_append room [] (grey_lines z))
      ∙ clipped_append room (grey_lines z) (map clip numbers)
      ∙ clipped_fits room print.file (omega (arith, print_length z numbers whole))

lines_length : (z : Size) (out : List ℕ) {lines : List ℕ} → lines ≡ sets (zeros (length out)) 0 (grey_lines z) → length lines ≡ length out
lines_length z out e =
    ap length e ∙ length-sets (zeros (length out)) 0 (grey_lines z) ∙ length-replicate (length out) 0

-- Pixels in place of as many bytes of an output.
pub pixels_placed : (s vs : List ℕ) (at n : ℕ) → length vs ≡ n → at + n ≤ length s → take at s ++ (vs ++ drop (at + n - at) (drop at s)) ≡ sets s at vs
pixels_placed s vs at n e l =
    let many : at + n - at ≡ length vs = omega arith in
    ap (λ m. take at s ++ (vs ++ drop m (drop at s))) many ∙ ap (λ d. take at s ++ (vs ++ d)) (drop-drop (length vs) at s)
    ∙ sym (sets-eq vs s at (omega arith) ∙ append_assoc (take at s) vs (drop (at + length vs) s))

-- The way back, from what was judged.
module _ (pyramid : List ℤ) (z : Size) (out work : List ℕ) where
  abbrev numbers : List ℤ
  numbers = picture_of z pyramid

  abbrev whole_print : Result GreyPrint
  whole_print = printed (print_of z numbers) (length out)

  back_is : {x : Result GreyPrint} → grey_out pyramid z (length out) (length work) ≡ x → {r : Refusal} → x ≡ refused r → {out' : List ℕ}
      → WayBack pyramid z out work (Err r) out'
  unfolding as_grey_written grey_out_answer
  back_is e f = record { answers = sym (ap grey_out_answer (e ∙ f)); writes = tt }

  pub back_refused : {r : Refusal} → Err r ≡ judged_out pyramid z (length work) → {out' : List ℕ} → WayBack pyramid z out work (Err r) out'
  unfolding grey_out
  back_refused g = back_is (ruled_out pyramid z (length work) whole_print) (ap (λ x. ruled x whole_print) (sym g))

  module _ {u : Unit {0}} (g : Ok u ≡ judged_out pyramid z (length work)) where
    pub back_printing : Printing pyramid z work
    back_printing = judged_out_order pyramid z work (sym g)

    judged_print : grey_out pyramid z (length out) (length work) ≡ whole_print
    unfolding grey_out
    judged_print = ruled_out pyramid z (length work) whole_print ∙ ap (λ x. ruled x whole_print) (sym g)

    pub back_short : {at : ℕ} → at ≡ length (grey_lines z) → length out < at + area z → {out' : List ℕ}
        → WayBack pyramid z out work (Err refusal.Room) out'
    back_short a l = back_is judged_print (printed_short z (length out) numbers (picture_length z pyramid) (omega arith))

    pub back_printed : {at count : ℕ} {lines pixels : List ℕ} → at ≡ length (grey_lines z) → at + area z ≤ length lines
        → lines ≡ sets (zeros (length out)) 0 (grey_lines z) → count ≡ clipped_in numbers → pixels ≡ map clip numbers
        → WayBack pyramid z out work (Ok (record { length = at + area z; clipped = count }))
        (take at lines ++ (pixels ++ drop (at + area z - at) (drop at lines)))
    unfolding as_grey_written grey_out_answer grey_out_out print_of
    back_printed {at} {count} {lines} {pixels} a l w c p =
        let whole : length numbers ≡ area z = picture_length z pyramid in
        let same : length lines ≡ length out = lines_length z out w in
        let fits : length (grey_lines z) + area z ≤ length out = omega arith in
        let e = judged_print ∙ printed_fits z (length out) numbers whole fits in
        let long : at + area z ≡ length (grey_file z (map clip numbers)) = ap (λ n. n + area z) a ∙ sym (print_length z numbers whole) in
        record {
          answers = (λ i. record { verdict = Accepted; length = long i; clipped = c i }) ∙ sym (ap grey_out_answer e);
          writes =
              pixels_placed lines pixels at (area z) (ap length p ∙ length-map numbers clip ∙ whole) l
              ∙ rw (w, a, p) (printed_bytes z (length out) numbers whole fits) ∙ sym (ap (grey_out_out (length out)) e);
        }

-- What was lent is cleared.
out_cleared : (x : Result GreyPrint) (room : ℕ) (r : Refusal) → as_grey_written (Err r) ≡ grey_out_answer x → zeros room ≡ grey_out_out room x
unfolding as_grey_written grey_out_answer grey_out_out
out_cleared (refused s) room r e = refl
out_cleared (accepted y) room r e = clash (let v = ap (λ a. a.verdict) e in cc)

module _ {pyramid : List ℤ} {z : Size} {out work left work' : List ℕ} (c : work' ≡ zeros (length work)) where
  pub out_back_refused : {answer : Written} → WayBack pyramid z out work answer left → is_err answer ≡ true → {out' : List ℕ} → out' ≡ zeros (length out)
      → GreyOut pyramid z out work (as_grey_written answer) out' work'
  out_back_refused {answer = Err r} w e o = record { answers = w.answers; writes = o ∙ out_cleared _ (length out) r w.answers; clears = c }
  out_back_refused {answer = Ok x} w e o = clash (cc)

  pub out_back : {answer : Written} → WayBack pyramid z out work answer left → is_err answer ≡ false
      → GreyOut pyramid z out work (as_grey_written answer) left work'
  out_back {answer = Err r} w e = clash (cc)
  out_back {answer = Ok x} w e = record { answers = w.answers; writes = w.writes; clears = c }

-- A legal side has fewer than five digits.
pub sides_short : (z : Size) → legal_size z ≡ true → (z.w < 10000) × (z.h < 10000)
sides_short z e = let Z = legal z e in (omega (arith, Z.width.most), omega (arith, Z.height.most))
