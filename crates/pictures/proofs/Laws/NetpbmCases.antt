-- Grey files as they are met, read and written: one table, and one claim about all its rows, by computation.
use Rattle.std.specs.Prelude.{◌≡◌, refl, map}
use Rattle.rules.specs.Document.Passes.{from}
use Rattle.rules.specs.Promises.Cases.{four}
use Rattle.pictures.specs.Laws.PictureCases.{pixels}
use Rattle.pictures.specs.Laws.NetpbmCases.{opens_file, text, table}

pub cases_hold : map (λ r. r.given) table ≡ map (λ r. r.stated) table
unfolding table four pixels text from opens_file
cases_hold = refl
