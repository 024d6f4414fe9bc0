-- The way in: pixels loaded as tones are the picture's, and what is read, judged and lifted is what document 02 says.
use mathlib.Core.Path.{◌≡◌, refl, ap, ap₂, sym, ◌∙◌, subst}
use mathlib.Core.Bool.{Bool, true, false, true≢false}
use mathlib.Core.List.{List}
use Prim.Native.Nat.{ℕ, ◌+◌, ◌-◌, ◌*◌, ◌≤◌, ◌<◌}
use native.Mathlib.Nat.{mul_comm, min-eq_left}
use native.Mathlib.Omega.{arith}
use lib.Arith.{digits_lt}
use lib.ListN.{length, get_or, take, drop, length-drop}
use lib.Seq.{ext_get_or, get_or-take, get_or-drop, length-take-le}
use lib.IntN.{ℤ, pos}
use borrow.Author.Tests.{le-leb, lt-leb}
use Rattle.rules.specs.declared.Size.{Size}
use Rattle.rules.specs.declared.Refusal.{Refusal}
use Rattle.rules.specs.declared.Refusal.TheVariants as refusal
use Rattle.std.specs.Prelude.{Some, None, Ok, Err, is_err, replicate}
use Rattle.rules.specs.Document.Notation.{zeros}
use Rattle.rules.specs.Document.Numbers.{Accepted}
use Rattle.rules.specs.Document.Pyramid.{legal_size, area, row, column}
use Rattle.rules.specs.Document.Calls.{Result, refused, accepted}
use Rattle.rules.proofs.Laws.Counting.Booleans.{clash}
use Rattle.rules.proofs.Laws.Family.Sizes.{legal}
use Rattle.rules.specs.Promises.Vocabulary.{Legal}
use Rattle.rules.proofs.Laws.Offspring.Level.{column_lt, row_lt}
use Rattle.rules.proofs.Laws.Offspring.Block.{index_place}
use Rattle.pictures.specs.declared.Picture.{Picture}
use Rattle.pictures.specs.Document.Answers.{as_grey_read}
use Rattle.pictures.specs.Document.Lifting.{Grid, forward, grey_of, pyramid_of}
use Rattle.pictures.specs.Document.Netpbm.{GreyHeader, not_grey, picture, pixels_there, taken, read_grey, read_file, greatest_told, told}
use Rattle.pictures.specs.Document.Calls.{GreyPyramid, on_picture, lifted, grey_in, grey_in_out, grey_in_answer, GreyIn, grey_size, GreySize}
use Rattle.pictures.specs.Laws.Tones.{bias, toned}
use Rattle.pictures.proofs.Laws.Tones.{sub_least}
use Rattle.pictures.proofs.Laws.Grids.{list_at, pyramid_length}
use Rattle.netpbm.specs.Told.{Tells, no_header_lem, too_short, all_there}
use Rattle.lifting.specs.Pictures.{TonesOf, NumbersOf, Splitting, Split}
use Rattle.grey.specs.Pixels.{Loaded}
use Rattle.grey.specs.Outcomes.{judged_in, Fits, Read, WayIn}
use Rattle.grey.proofs.Laws.{part_length}
use Rattle.grey.proofs.Judged.{ruled, ruled_in, judged_in_order}

-- Pixels loaded.
module _ (file : List ℕ) (at : ℕ) (z : Size) where
  abbrev pub pixels : List ℕ
  pixels = take (area z) (drop at file)

  pixel_at : (q : ℕ) → q < area z → get_or pixels q 0 ≡ get_or file (at + q) 0
  pixel_at q l = get_or-take (area z) (drop at file) q 0 l ∙ get_or-drop at file q 0

  pub loaded_part : {work work' : List ℕ} → Loaded (take (at + area z - at) (drop at file)) work work' → Loaded pixels work work'
  loaded_part {work} {work'} L =
      let many : at + area z - at ≡ area z = omega arith in
      subst (λ n. Loaded (take n (drop at file)) work work') many L

  pub pixels_length : at + area z ≤ length file → length pixels ≡ area z
  pixels_length l = length-take-le (area z) (drop at file) (omega (arith, length-drop at file))

  module _ {work work' : List ℕ} (l : at + area z ≤ length file) (L : Loaded pixels work work') where
    pub loaded_splitting : {out : List ℤ} → Fits z (length out) (length work) → ((q : ℕ) → get_or file q 0 < 256) → Splitting z work' out
    loaded_splitting f b =
        let many = pixels_length l in
        record {
          legal = f.legal;
          room = omega (arith, L.same, f.enough);
          exact = f.exact;
          least = λ q k. omega (arith, L.tones q (omega arith));
          most = λ q k. omega (arith, L.tones q (omega arith), pixel_at q k, b (at + q));
        }

    loaded_tones : TonesOf z work' (grey_of z.w pixels)
    unfolding grey_of
    loaded_tones i j a b =
        let q : ℕ = i * z.w + j in
        let k : q < area z = omega (arith, digits_lt a b, mul_comm z.h z.w) in
        let v : ℕ = get_or pixels q 0 in
        let over : bias + v - bias ≡ v = omega arith in
        ap toned (L.tones q (omega (arith, pixels_length l))) ∙ sub_least (bias + v) bias (omega arith) ∙ ap pos over

    pub loaded_lifted : Legal z → {out' : List ℤ} → length out' ≡ area z
        → ((g : Grid) → TonesOf z work' g → NumbersOf z out' (forward z z.n g)) → out' ≡ pyramid_of z pixels
    unfolding pyramid_of
    loaded_lifted Z {out'} e lifts =
        let g : Grid = grey_of z.w pixels in
        ext_get_or (pos 0) out' (pyramid_of z pixels) (e ∙ sym (pyramid_length z pixels))
        (λ q k.
        let h : q < area z = omega arith in
        ap (λ n. get_or out' n (pos 0)) (sym (index_place z q))
        ∙ lifts g loaded_tones (row z q) (column z q) (row_lt z Z q h) (column_lt z Z q)
        ∙ sym (list_at z (forward z z.n g) q h))

-- What is told of a file.
pub told_none : (file : List ℕ) (x : GreyHeader) → Tells file x None → taken x ≡ not_grey
unfolding taken pixels_there
told_none file x no_header_lem = refl
told_none file x (too_short {w = w} {h = h} {at = at} a l) = rw (lt-leb (w * h) (length (drop at file)) (omega (arith, length-drop at file)))

pub record Found (file : List ℕ) (a b at : ℕ) (x : GreyHeader) : Type 0 where
  pub width : ℕ
  pub height : ℕ
  pub tells_width : a ≡ told width
  pub tells_height : b ≡ told height
  pub within : at ≤ length file
  pub there : width * height ≤ length file - at
  pub takes : taken x ≡ picture width height (take (width * height) (drop at file))

pub told_picture : (file : List ℕ) (x : GreyHeader) (a b at : ℕ) → Tells file x (Some (record { w = a; h = b; at = at })) → Found file a b at x
unfolding taken pixels_there
told_picture file x a b at (all_there {w = w} {h = h} i l) =
    record {
      width = w;
      height = h;
      tells_width = refl;
      tells_height = refl;
      within = i;
      there = l;
      takes = rw (le-leb (w * h) (length (drop at file)) (omega (arith, length-drop at file)));
    }

-- A side that is told is the side, where it is legal.
abbrev sized : ℕ → ℕ → ℕ → Size
sized w h n = record { w = w; h = h; n = n }

told_small : (v : ℕ) → v ≤ greatest_told → told v ≡ v
unfolding told
told_small v l = min-eq_left l

sized_told : (w h n : ℕ) → w ≤ greatest_told → h ≤ greatest_told → sized (told w) (told h) n ≡ sized w h n
sized_told w h n a b = rw (told_small w a, told_small h b)

told_same : (w h n : ℕ) → legal_size (sized (told w) (told h) n) ≡ true → sized (told w) (told h) n ≡ sized w h n
unfolding told
told_same w h n e =
    let Z = legal (sized (told w) (told h) n) e in
    sized_told w h n (omega (arith, Z.width.most)) (omega (arith, Z.height.most))

judged_told : (w h n room work : ℕ) → judged_in (sized (told w) (told h) n) room work ≡ judged_in (sized w h n) room work
unfolding judged_in
judged_told w h n room work = by (legal_size (sized (told w) (told h) n)) refl
  where
    true_size : legal_size (sized w h n) ≡ true → sized (told w) (told h) n ≡ sized w h n
    true_size e =
        let Z = legal (sized w h n) e in
        sized_told w h n (omega (arith, Z.width.most)) (omega (arith, Z.height.most))

    other : legal_size (sized (told w) (told h) n) ≡ false → (b : Bool) → legal_size (sized w h n) ≡ b
        → judged_in (sized (told w) (told h) n) room work ≡ judged_in (sized w h n) room work
    other e true g = absurd (true≢false (sym g ∙ ap legal_size (sym (true_size g)) ∙ e))
    other e false g = rw (e, g)

    by : (b : Bool) → legal_size (sized (told w) (told h) n) ≡ b
        → judged_in (sized (told w) (told h) n) room work ≡ judged_in (sized w h n) room work
    by true e = ap (λ z. judged_in z room work) (told_same w h n e)
    by false e = other e (legal_size (sized w h n)) refl

-- The outcomes of the way in.
module _ (file : List ℕ) (n : ℕ) (out : List ℤ) (work : List ℕ) where
  refused_in : (r : Refusal) → grey_in file n (length out) (length work) ≡ refused r → {out' : List ℤ} → WayIn file n out work (Err r) out'
  unfolding as_grey_read grey_in_answer
  refused_in r e = record { answers = sym (ap grey_in_answer e); writes = tt }

  pub in_none : Tells file (read_grey file) None → {out' : List ℤ} → WayIn file n out work (Err refusal.Grey) out'
  unfolding grey_in read_file on_picture
  in_none t = refused_in refusal.Grey (rw (told_none file (read_grey file) t))

  module _ {a b at : ℕ} (f : Found file a b at (read_grey file)) where
    abbrev true_size : Size
    true_size = sized f.width f.height n

    abbrev its_pyramid : Result GreyPyramid
    its_pyramid = accepted (record { size = true_size; pyramid = pyramid_of true_size (take (area true_size) (drop at file)) })

    ruled_grey_in : grey_in file n (length out) (length work) ≡ ruled (judged_in (sized a b n) (length out) (length work)) its_pyramid
    unfolding grey_in read_file on_picture lifted
    ruled_grey_in =
        rw f.takes
        (ruled_in true_size (length out) (length work) its_pyramid
        ∙ ap (λ v. ruled v its_pyramid)
        (sym (judged_told f.width f.height n (length out) (length work))
        ∙ ap₂ (λ x y. judged_in (sized x y n) (length out) (length work)) (sym f.tells_width) (sym f.tells_height)))

    found_refused : {r : Refusal} → Err r ≡ judged_in (sized a b n) (length out) (length work) → {out' : List ℤ} → WayIn file n out work (Err r) out'
    found_refused {r} g = refused_in r (ruled_grey_in ∙ ap (λ v. ruled v its_pyramid) (sym g))

    module _ (g : Ok tt ≡ judged_in (sized a b n) (length out) (length work)) where
      found_fits : Fits (sized a b n) (length out) (length work)
      found_fits = judged_in_order (sized a b n) (length out) (length work) (sym g)

      same_size : sized a b n ≡ true_size
      same_size =
          let told-size : sized a b n ≡ sized (told f.width) (told f.height) n = λ i. sized (f.tells_width i) (f.tells_height i) n in
          told-size ∙ told_same f.width f.height n (subst (λ z. legal_size z ≡ true) told-size found_fits.legal)

      found_there : at + area (sized a b n) ≤ length file
      found_there = omega (arith, f.within, f.there, ap area same_size)

      found_lifted : {out' : List ℤ} → out' ≡ pyramid_of (sized a b n) (take (area (sized a b n)) (drop at file))
          → WayIn file n out work (Ok (record { w = a; h = b })) out'
      unfolding as_grey_read grey_in_answer grey_in_out
      found_lifted d =
          let same = ruled_grey_in ∙ ap (λ v. ruled v its_pyramid) (sym g)
          ∙ ap (λ z. accepted (record { size = z; pyramid = pyramid_of z (take (area z) (drop at file)) })) (sym same_size) in
          record { answers = sym (ap grey_in_answer same); writes = d ∙ sym (ap (grey_in_out (length out)) same) }

-- The same, from what was read and judged.
module _ (file : List ℕ) (n : ℕ) (out : List ℤ) (work : List ℕ) {p : Picture} (t : Tells file (read_grey file) (Some p)) where
  abbrev found : Found file p.w p.h p.at (read_grey file)
  found = told_picture file (read_grey file) p.w p.h p.at t

  abbrev its_size : Size
  its_size = sized p.w p.h n

  pub in_refused : {r : Refusal} → Err r ≡ judged_in its_size (length out) (length work) → {out' : List ℤ} → WayIn file n out work (Err r) out'
  in_refused g = found_refused file n out work found g

  module _ (g : Ok tt ≡ judged_in its_size (length out) (length work)) where
    fits : Fits its_size (length out) (length work)
    fits = found_fits file n out work found g

    pub in_there : p.at + area its_size ≤ length file
    in_there = found_there file n out work found g

    pub in_room : length (take (p.at + area its_size - p.at) (drop p.at file)) ≤ length work
    in_room = omega (arith, part_length file p.at (area its_size) in_there, fits.enough)

    module _ {loaded : List ℕ} (L : Loaded (take (p.at + area its_size - p.at) (drop p.at file)) work loaded) where
      pub in_splitting : ((q : ℕ) → get_or file q 0 < 256) → Splitting its_size loaded out
      in_splitting b = loaded_splitting file p.at its_size in_there (loaded_part file p.at its_size L) fits b

      pub in_lifted : {work' : List ℕ} {out' : List ℤ} → Split its_size loaded out work' out' → WayIn file n out work (Ok (record { w = p.w; h = p.h })) out'
      in_lifted d =
          found_lifted file n out work found g
          (loaded_lifted file p.at its_size in_there (loaded_part file p.at its_size L) (legal its_size fits.legal) (d.same_out ∙ fits.exact) d.pyramid)

-- What was lent is cleared.
in_cleared : (x : Result GreyPyramid) (room : ℕ) (r : Refusal) → as_grey_read (Err r) ≡ grey_in_answer x → replicate room (pos 0) ≡ grey_in_out room x
unfolding as_grey_read grey_in_answer grey_in_out
in_cleared (refused s) room r e = refl
in_cleared (accepted y) room r e = clash (let v = ap (λ a. a.verdict) e in cc)

module _ {file : List ℕ} {n : ℕ} {out : List ℤ} {work : List ℕ} {lifted : List ℤ} {work' : List ℕ} (c : work' ≡ zeros (length work)) where
  pub in_back_refused : {answer : Read} → WayIn file n out work answer lifted → is_err answer ≡ true → {out' : List ℤ} → out' ≡ replicate (length out) (pos 0)
      → GreyIn file n out work (as_grey_read answer) out' work'
  in_back_refused {answer = Err r} w e o = record { answers = w.answers; writes = o ∙ in_cleared _ (length out) r w.answers; clears = c }
  in_back_refused {answer = Ok x} w e o = clash (cc)

  pub in_back : {answer : Read} → WayIn file n out work answer lifted → is_err answer ≡ false → GreyIn file n out work (as_grey_read answer) lifted work'
  in_back {answer = Err r} w e = clash (cc)
  in_back {answer = Ok x} w e = record { answers = w.answers; writes = w.writes; clears = c }

-- A file's size.
pub size_none : (file : List ℕ) → Tells file (read_grey file) None → GreySize file (as_grey_read (Err refusal.Grey))
unfolding as_grey_read grey_size read_file
size_none file t = record { answers = sym (ap grey_size (told_none file (read_grey file) t)) }

pub size_told_lem : (file : List ℕ) {p : Picture} → Tells file (read_grey file) (Some p) → GreySize file (as_grey_read (Ok (record { w = p.w; h = p.h })))
unfolding as_grey_read grey_size read_file told
size_told_lem file {p} t =
    let f = told_picture file (read_grey file) p.w p.h p.at t in
    record {
      answers =
          (λ i. record { verdict = Accepted; w = f.tells_width i; h = f.tells_height i })
          ∙ sym (ap grey_size f.takes);
    }
