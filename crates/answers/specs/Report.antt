-- What reporting an answer leaves: its numbers at the front of the slice, the rest 0; the first of them is returned.
use Rattle.std.specs.Prelude.{◌≡◌, List, ℕ, length, get_or}
use Rattle.rules.specs.Document.Calls.{filled}

pub record Reported (numbers answer : List ℕ) (number : ℕ) (answer' : List ℕ) : Type 0 where
  pub returns : number ≡ get_or numbers 0 0
  pub writes : answer' ≡ filled (length answer) numbers
