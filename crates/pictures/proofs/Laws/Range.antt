-- Ranges: what is made of a picture is never refused by the coder.
--
-- Above this file only picture_codable and picture_most_fits are cited, never the number.
use Rattle.std.specs.Prelude.{◌≡◌, List, true, ℕ, ◌≤◌, ◌<◌}
use Rattle.std.proofs.Common.{arith}
use Rattle.rules.specs.declared.Size.{Size}
use Rattle.rules.specs.Document.Pyramid.{legal_size, area, row, column, most_magnitude, magnitude}
use Rattle.rules.proofs.Laws.Family.Sizes.{legal}
use Rattle.rules.specs.Promises.Vocabulary.{Legal, Codable}
use Rattle.rules.proofs.Laws.Offspring.Level.{column_lt, row_lt}
use Rattle.rules.proofs.Laws.Rounding.Planes.{none_over}
use Rattle.pictures.specs.Document.Lifting.{forward, grey_of, pyramid_of}
use Rattle.pictures.proofs.Laws.Grids.{list_at, pyramid_length}
use Rattle.pictures.specs.Laws.Turns.{most_pixel, Pixels, grown}
use Rattle.pictures.proofs.Laws.Turns.{grey_most, forward_most}
use Rattle.pictures.specs.Laws.Range.{picture_most}

pub picture_most_fits : picture_most ≤ most_magnitude
picture_most_fits = omega arith

module _ (z : Size) (pixels : List ℕ) (p : Pixels z pixels) where
  pub picture_most_lem : Legal z → (q : ℕ) → q < area z → magnitude (pyramid_of z pixels) q ≤ picture_most
  unfolding magnitude pyramid_of grown
  picture_most_lem Z q h =
      rw (list_at z (forward z z.n (grey_of z.w pixels)) q h)
      (forward_most z Z most_pixel (grey_of z.w pixels) (grey_most z pixels p) z.n 4 (omega arith) Z.few (omega arith)
      (row z q) (column z q) (row_lt z Z q h) (column_lt z Z q))

  pub picture_codable : legal_size z ≡ true → Codable z (pyramid_of z pixels)
  picture_codable e =
      record {
        legal_size_lem = e;
        sized = pyramid_length z pixels;
        in_range = none_over most_magnitude (pyramid_of z pixels)
            (λ q h. omega (arith, picture_most_lem (legal z e) q (omega (arith, pyramid_length z pixels))));
      }
