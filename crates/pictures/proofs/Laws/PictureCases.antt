-- A picture of 4 x 4, N = 1, and its pyramid, both ways: one table, and one claim about all its rows, by computation.
use Rattle.std.specs.Prelude.{◌≡◌, refl, map}
use Rattle.pictures.specs.Laws.PictureCases.{opens_lifting, four, pixels, coefficients, table}

pub cases_hold : map (λ r. r.given) table ≡ map (λ r. r.stated) table
unfolding table four pixels coefficients opens_lifting
cases_hold = refl
