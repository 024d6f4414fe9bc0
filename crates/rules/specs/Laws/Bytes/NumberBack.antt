-- Numbers read back: their values and the place behind them, whatever follows; and where they are cut, one of them is cut off.
use Rattle.std.specs.Prelude.{◌≡◌, List, ◌++◌, ℕ, ◌+◌, ◌<◌, length, take, drop, Err}
use Rattle.rules.specs.declared.NoNumber.TheVariants.{CutOff}
use Rattle.rules.specs.Document.Notation.{flat}
use Rattle.rules.specs.Document.Layout.{number_bytes, read_number}
use Rattle.rules.specs.Laws.Counting.Sums.{All}
use Rattle.rules.specs.Laws.Bytes.Numbers.{too_large}
use Rattle.rules.specs.Promises.Refusals.{Numbers}

-- Several numbers, one behind the other.
abbrev pub AllSmall : List ℕ → Type 0
AllSmall vs = All (λ v. v < too_large) vs

-- Cut off behind c bytes, before the end, with more behind them: inside one of the numbers, or behind them all.
pub data Cut (s : List ℕ) (at : ℕ) (vs more : List ℕ) (c : ℕ) : Type 0 where
  inside : {ws : List ℕ} {e : ℕ} → Numbers s at ws e → length ws < length vs → read_number s e ≡ Err CutOff → c < length (flat number_bytes vs)
      → Cut s at vs more c
  behind : (d : ℕ) → d < length more → drop at s ≡ flat number_bytes vs ++ take d more → c ≡ length (flat number_bytes vs) + d → Cut s at vs more c
