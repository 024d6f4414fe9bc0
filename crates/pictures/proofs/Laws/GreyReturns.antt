-- The theorem of W3: what the way in takes of a file comes back, every pixel, by the way back; coded, decoded whole and printed too.
use Rattle.std.specs.Prelude.{◌≡◌, refl, true, ℕ, suc, ◌≤◌, leb, eqb, length, ℤ}
use Rattle.std.proofs.Math.Path.{ap}
use Rattle.std.proofs.Common.{ap₂, sym, ◌∙◌, subst, arith}
use mathlib.Core.List.{List, [], ◌∷◌, map}
use Rattle.std.proofs.Math.Nat.{min-eq_left}
use Rattle.std.proofs.Math.IntN.{pos}
use borrow.Author.Tests.{le-leb, eq-eqb, le-ltb}
use Rattle.rules.specs.declared.Size.{Size}
use Rattle.rules.specs.declared.Refusal.TheVariants as refusal
use Rattle.rules.specs.Document.Pyramid.{legal_size, area, most_magnitude}
use Rattle.rules.specs.Document.Layout.{record_of}
use Rattle.rules.specs.Document.Calls.{accepted, unless, work_for, first_over, coding, Picture, decoding}
use Rattle.rules.proofs.Laws.Calls.Results.{unless_accepted, accepted_same}
use Rattle.rules.proofs.Laws.Family.Sizes.{legal}
use Rattle.rules.specs.Promises.Vocabulary.{Codable}
use Rattle.rules.specs.Promises.Refusals.{InRange}
use Rattle.rules.proofs.Laws.Calls.Arrived.{this_count, codable_coded}
use Rattle.rules.proofs.Laws.Calls.Whole.{demand2_whole}
use Rattle.rules.proofs.Laws.Rounding.Planes.{none_over, under_first}
use Rattle.pictures.specs.Document.Lifting.{pyramid_of, picture_of}
use Rattle.pictures.specs.Document.Netpbm.{greatest_pixel, GreyFile, not_grey, picture, read_file, grey_file}
use Rattle.pictures.specs.Document.Calls.{GreyPyramid, on_picture, lifted, grey_in, clip, outside, clipped_in, most_decoded, print_of, printed, grey_out}
use Rattle.pictures.specs.Laws.Behind.{Bytes}
use Rattle.pictures.proofs.Laws.Behind.{file_pixels}
use Rattle.pictures.proofs.Laws.Grids.{pixels_return}
use Rattle.pictures.proofs.Laws.Range.{picture_codable}
use Rattle.pictures.specs.Laws.GreyReturns.{Taken}

-- Whatever the way in accepts was taken from the file.
lifted_accepted : (z : Size) (pixels : List ℕ) (room work : ℕ) (x : GreyPyramid) → lifted z pixels room work ≡ accepted x
    → (legal_size z ≡ true) × (◌≡◌ {A = GreyPyramid} (record { size = z; pyramid = pyramid_of z pixels }) x)
unfolding lifted
lifted_accepted z pixels room work x e =
    let size = unless_accepted (legal_size z) refusal.Size _ x e in
    let long = unless_accepted (eqb room (area z)) refusal.Length _ x size.1 in
    let space = unless_accepted (leb (work_for z) work) refusal.Work _ x long.1 in
    (size.0, accepted_same space.1)

pub grey_in_takes : (file : List ℕ) (n room work : ℕ) (x : GreyPyramid) → grey_in file n room work ≡ accepted x
    → (pixels : List ℕ) × Taken file n x pixels
unfolding grey_in on_picture
grey_in_takes file n room work x e = by (read_file file) refl e
  where
    by : (y : GreyFile) → read_file file ≡ y → on_picture y (λ w h pixels. lifted (record { w = w; h = h; n = n }) pixels room work) ≡ accepted x
        → (pixels : List ℕ) × Taken file n x pixels
    by not_grey r e = absurd (let z : ◌≡◌ {A = ℕ} 0 1 = cc in omega arith)
    by (picture w h pixels) r e =
        let z : Size = record { w = w; h = h; n = n } in
        let took = lifted_accepted z pixels room work x e in
        let there = file_pixels file w h pixels r in (
          pixels,
          subst (λ y. Taken file n y pixels) took.1
              (record { reads = r; asked = refl; legal_size_lem = took.0; whole = there.whole; bytes = there.bytes; pyramid_is = refl }),
        )

-- Pixels are printed as they are, and none is set to another value.
clip_pixels : (pixels : List ℕ) → Bytes pixels → map clip (map pos pixels) ≡ pixels
unfolding clip
clip_pixels [] b = refl
clip_pixels (v ∷ vs) b = ap₂ ◌∷◌ (min-eq_left (omega (arith, b 0))) (clip_pixels vs (λ q. b (suc q)))

none_clipped : (pixels : List ℕ) → Bytes pixels → clipped_in (map pos pixels) ≡ 0
unfolding clipped_in outside
none_clipped [] b = refl
none_clipped (v ∷ vs) b = rw (le-ltb greatest_pixel v (omega (arith, b 0))) (none_clipped vs (λ q. b (suc q)))

print_pixels : (z : Size) (pixels : List ℕ) → Bytes pixels
    → print_of z (map pos pixels) ≡ (record { file = grey_file z pixels; clipped = 0 })
unfolding print_of
print_pixels z pixels b = λ i. record { file = grey_file z (clip_pixels pixels b i); clipped = none_clipped pixels b i }

-- What coding takes can be printed: its magnitudes are within the way back's limit.
codable_in_range : {z : Size} {pyramid : List ℤ} → Codable z pyramid → first_over most_decoded pyramid ≡ length pyramid
codable_in_range {pyramid = pyramid} c =
    none_over most_decoded pyramid
    (λ i l. omega (arith, subst (InRange most_magnitude pyramid) c.in_range (under_first most_magnitude pyramid) i l))

module _ (z : Size) (pixels : List ℕ) (whole : length pixels ≡ area z) (bytes : Bytes pixels) (c : Codable z (pyramid_of z pixels)) where
  pub grey_out_prints : (room work : ℕ) → length (grey_file z pixels) ≤ room → work_for z ≤ work
      → grey_out (pyramid_of z pixels) z room work ≡ accepted (record { file = grey_file z pixels; clipped = 0 })
  unfolding grey_out printed unless
  grey_out_prints room work enough space =
      let same : picture_of z (pyramid_of z pixels) ≡ map pos pixels = pixels_return z (legal z c.legal_size_lem) pixels whole in
      rw (
        c.legal_size_lem,
        eq-eqb (length (pyramid_of z pixels)) (area z) c.sized,
        le-leb (work_for z) work space,
        eq-eqb (first_over most_decoded (pyramid_of z pixels)) (length (pyramid_of z pixels)) (codable_in_range c),
      )
      (ap (λ v. printed (print_of z v) room) same
      ∙ ap (λ v. printed v room) (print_pixels z pixels bytes)
      ∙ rw (le-leb (length (grey_file z pixels)) room enough))

-- So of a file of bytes that the way in took: its pyramid is coded, with room; and with room it is printed as the file of the same pixels, in
-- the one form in which files are written, whatever stood behind the pixels and however its header was written.
module _ {file : List ℕ} {n : ℕ} {x : GreyPyramid} {pixels : List ℕ} (t : Taken file n x pixels) (b : Bytes file) where
  pub taken_codable : Codable x.size x.pyramid
  taken_codable =
      subst (Codable x.size) (sym t.pyramid_is)
      (picture_codable x.size pixels (λ q l. omega (arith, t.bytes b q)) t.legal_size_lem)

  pub grey_returns : (room work : ℕ) → length (grey_file x.size pixels) ≤ room → work_for x.size ≤ work
      → grey_out x.pyramid x.size room work ≡ accepted (record { file = grey_file x.size pixels; clipped = 0 })
  grey_returns room work enough space =
      let c : Codable x.size (pyramid_of x.size pixels) = subst (Codable x.size) t.pyramid_is taken_codable in
      ap (λ v. grey_out v x.size room work) t.pyramid_is
      ∙ grey_out_prints x.size pixels t.whole (t.bytes b) c room work enough space

  pub grey_coded : (room work : ℕ) → length (record_of x.size x.pyramid) ≤ room → work_for x.size ≤ work
      → coding x.pyramid x.size room work ≡ accepted (record_of x.size x.pyramid)
  grey_coded = codable_coded taken_codable

  -- Coded, decoded whole and printed, it is the same file.
  pub grey_whole : (work room : ℕ) → work_for x.size ≤ work → length (grey_file x.size pixels) ≤ room
      → (y : Picture) → decoding (record_of x.size x.pyramid) (area x.size) work ≡ accepted y
      → grey_out y.pyramid x.size room work ≡ accepted (record { file = grey_file x.size pixels; clipped = 0 })
  unfolding record_of
  grey_whole work room space enough y e =
      let decoded = demand2_whole taken_codable (this_count taken_codable) (area x.size) work (record { whole = refl; enough = space }) in
      let same : x.pyramid ≡ y.pyramid = ap (λ v. v.pyramid) (accepted_same (sym decoded ∙ e)) in
      ap (λ v. grey_out v x.size room work) (sym same) ∙ grey_returns room work enough space
