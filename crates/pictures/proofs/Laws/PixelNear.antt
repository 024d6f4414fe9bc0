-- W3's question: of a picture's record, whatever arrives of it, how far is a printed pixel from the recorded one?
use Rattle.std.specs.Prelude.{◌≡◌, Bool, true, ℕ, zero, suc, ◌≤◌, ◌<◌, length, get_or, pos, negsuc}
use Rattle.std.proofs.Common.{ap, sym, subst, ◌∙◌, arith, length-append, le-leb, eq-eqb}
use mathlib.Core.List.{List, map}
use Rattle.std.proofs.Math.Nat.{min-eq_left}
use Rattle.std.proofs.lemmas.List.{length-map}
use Rattle.std.proofs.Math.ListN.{get_or-map}
use Rattle.std.proofs.Math.IntN.{ℤ}
use Rattle.rules.specs.declared.Size.{Size}
use Rattle.rules.specs.Document.Pyramid.{legal_size, area, magnitude}
use Rattle.rules.specs.Document.Passes.{PartName}
use Rattle.rules.specs.Document.Layout.{planes_in, parts_of}
use Rattle.rules.specs.Document.Calls.{Result, accepted, unless, work_for, first_over, Picture, decoding}
use Rattle.rules.proofs.Laws.Family.Sizes.{legal, size_legal}
use Rattle.rules.specs.Promises.Vocabulary.{Legal, Stated, kept, arrived}
use Rattle.rules.proofs.Laws.Rounding.Planes.{none_over}
use Rattle.pictures.specs.Document.Lifting.{pyramid_of, picture_of}
use Rattle.pictures.specs.Document.Netpbm.{picture, read_file, grey_file}
use Rattle.pictures.specs.Document.Calls.{GreyPyramid, clip, most_decoded, print_of, printed, grey_in, grey_out}
use Rattle.pictures.specs.Laws.Behind.{Bytes}
use Rattle.pictures.specs.Laws.GreyReturns.{Taken}
use Rattle.pictures.proofs.Laws.GreyReturns.{grey_in_takes, grey_returns}
use Rattle.pictures.proofs.Laws.Grids.{pyramid_length, picture_length, pixels_return}
use Rattle.pictures.specs.Laws.Turns.{Pixels}
use Rattle.pictures.proofs.Laws.Range.{picture_most_fits, picture_most_lem}
use Rattle.pictures.specs.Laws.Distance.{Nearby, pixel_most, halved, top_left, small_picture}
use Rattle.pictures.specs.Laws.NearLines.{Close}
use Rattle.pictures.proofs.Laws.NearLines.{nearby_pixels}
use Rattle.pictures.proofs.Laws.Error.{halved_legal, top_left_length, top_left_most}
use Rattle.pictures.specs.Laws.Printed.{Printed}
use Rattle.pictures.proofs.Laws.Printed.{picture_printed}
use Rattle.pictures.specs.Laws.PixelNear.{PrintsNear, PixelNear}

-- Setting to the nearer end brings no two numbers farther apart.
clip_near : (e : ℕ) (v u : ℤ) → Nearby e v u → Close e (clip v) (clip u)
unfolding clip
clip_near e (pos v) (pos u) h = let c = nearby_pixels e v u h in omega (arith, c)
clip_near e (pos v) (negsuc u) h = omega arith
clip_near e (negsuc v) (pos zero) h = omega arith
clip_near e (negsuc v) (pos (suc u)) h = omega arith
clip_near e (negsuc v) (negsuc u) h = omega arith

clip_byte : (v : ℕ) → v < 256 → clip (pos v) ≡ v
unfolding clip
clip_byte v h = min-eq_left (omega arith)

clip_at : (numbers : List ℤ) (q : ℕ) → get_or (map clip numbers) q 0 ≡ clip (get_or numbers q (pos 0))
unfolding clip
clip_at numbers q = get_or-map clip numbers q (pos 0)

file_length : (z : Size) (a b : List ℕ) → length a ≡ length b → length (grey_file z a) ≡ length (grey_file z b)
unfolding grey_file
file_length z a b e = simp length-append (omega arith)

way_back : (z : Size) (pyramid : List ℤ) (pixels : List ℕ) → legal_size z ≡ true → length pyramid ≡ area z
    → ((q : ℕ) → q < area z → magnitude pyramid q ≤ most_decoded) → length pixels ≡ area z
    → (room work : ℕ) → length (grey_file z pixels) ≤ room → work_for z ≤ work
    → grey_out pyramid z room work ≡ accepted (print_of z (picture_of z pyramid))
unfolding grey_out printed print_of unless
way_back z pyramid pixels e sized few whole room work enough space =
    let numbers : List ℤ = picture_of z pyramid in
    let long : length (map clip numbers) ≡ length pixels = length-map numbers clip ∙ picture_length z pyramid ∙ sym whole in
    let fits : length (grey_file z (map clip numbers)) ≤ room = omega (arith, file_length z (map clip numbers) pixels long) in
    let range : first_over most_decoded pyramid ≡ length pyramid = none_over most_decoded pyramid (λ q l. few q (omega (arith, sized))) in
    rw (
      e,
      eq-eqb (length pyramid) (area z) sized,
      le-leb (work_for z) work space,
      eq-eqb (first_over most_decoded pyramid) (length pyramid) range,
      le-leb (length (grey_file z (map clip numbers))) room fits,
    )

-- The picture and the picture halved, of what Printed says of them.
module _ {z : Size} {pixels : List ℕ} {result : Result Picture} (R : Printed z pixels result) (e : legal_size z ≡ true) (b : Bytes pixels) where
  printed_whole : length pixels ≡ area z → PrintsNear (pixel_most z R.picture.reached 0) z R.picture.pyramid pixels
  printed_whole whole =
      record {
        prints = way_back z R.picture.pyramid pixels e R.sized R.few whole;
        near = λ q h.
            rw (clip_at (picture_of z R.picture.pyramid) q)
            (subst (λ v. Close (pixel_most z R.picture.reached 0) (clip (get_or (picture_of z R.picture.pyramid) q (pos 0))) v)
            (clip_byte (get_or pixels q 0) (b q)) (clip_near _ _ (pos (get_or pixels q 0)) (R.near q h)));
      }

  printed_small : (s : ℕ) → s < z.n
      → PrintsNear (pixel_most z R.picture.reached s) (halved z s) (top_left z s R.picture.pyramid) (map clip (small_picture z s (pyramid_of z pixels)))
  unfolding small_picture
  printed_small s less =
      let x : Size = halved z s in
      let Z : Legal z = legal z e in
      let full : List ℤ = small_picture z s (pyramid_of z pixels) in
      record {
        prints = way_back x (top_left z s R.picture.pyramid) (map clip full) (size_legal x (halved_legal z Z s less))
            (top_left_length z s R.picture.pyramid) (top_left_most z Z s less R.picture.pyramid most_decoded R.few)
            (length-map full clip ∙ picture_length x (top_left z s (pyramid_of z pixels)));
        near = λ q h.
            rw (clip_at (small_picture z s R.picture.pyramid) q, clip_at full q) (clip_near _ _ _ (R.small s less q h));
      }

-- What was taken of a file.
module _ {file : List ℕ} {n : ℕ} {x : GreyPyramid} {pixels : List ℕ} (t : Taken file n x pixels) (b : Bytes file) where
  pixels_few : Pixels x.size pixels
  pixels_few q h = omega (arith, t.bytes b q)

  recorded : (room work : ℕ) → length (grey_file x.size pixels) ≤ room → work_for x.size ≤ work
      → grey_out x.pyramid x.size room work ≡ accepted (print_of x.size (picture_of x.size x.pyramid))
  recorded room work enough space =
      let z : Size = x.size in
      let few : (q : ℕ) → q < area z → magnitude (pyramid_of z pixels) q ≤ most_decoded =
      λ q h. omega (arith, picture_most_lem z pixels pixels_few (legal z t.legal_size_lem) q h, picture_most_fits) in
      subst (λ y. grey_out y z room work ≡ accepted (print_of z (picture_of z y))) (sym t.pyramid_is)
      (way_back z (pyramid_of z pixels) pixels t.legal_size_lem (pyramid_length z pixels) few t.whole room work enough space)

  pixel_near_of : {result : Result Picture} → Printed x.size pixels result → PixelNear x.size pixels result
  pixel_near_of R =
      let z : Size = x.size in
      let W = printed_whole R t.legal_size_lem (t.bytes b) t.whole in
      record {
        picture = R.picture;
        accepts = R.accepts;
        whole = W;
        small = printed_small R t.legal_size_lem (t.bytes b);
        exact = λ planes room work enough space.
            let same : picture_of z R.picture.pyramid ≡ picture_of z x.pyramid =
            R.exact planes ∙ sym (pixels_return z (legal z t.legal_size_lem) pixels t.whole) ∙ ap (picture_of z) (sym t.pyramid_is) in
            W.prints room work enough space
            ∙ ap (λ v. accepted (print_of z v)) same
            ∙ sym (recorded room work enough space)
            ∙ grey_returns t b room work enough space;
      }

  taken_near : (room work : ℕ) → Stated x.size room work → (keep : PartName → Bool) (cut : ℕ)
      → PixelNear x.size pixels (decoding (arrived x.size (planes_in x.pyramid) (kept keep (parts_of x.size x.pyramid)) cut) room work)
  taken_near room work sizes keep cut =
      subst (λ y. PixelNear x.size pixels (decoding (arrived x.size (planes_in y) (kept keep (parts_of x.size y)) cut) room work))
      (sym t.pyramid_is)
      (pixel_near_of (picture_printed x.size pixels pixels_few t.legal_size_lem t.whole room work sizes keep cut))

-- Of every file of bytes that the way in accepts: whatever parts of its pyramid's record arrive, cut anywhere behind the header.
pub pixel_near : (file : List ℕ) (n out space : ℕ) (x : GreyPyramid) → Bytes file → grey_in file n out space ≡ accepted x
    → (pixels : List ℕ)
    × (read_file file ≡ picture x.size.w x.size.h pixels)
    × ((room work : ℕ) → Stated x.size room work → (keep : PartName → Bool) (cut : ℕ)
    → PixelNear x.size pixels (decoding (arrived x.size (planes_in x.pyramid) (kept keep (parts_of x.size x.pyramid)) cut) room work))
pixel_near file n out space x b e = let t = grey_in_takes file n out space x e in (t.0, t.1.reads, taken_near t.1 b)
