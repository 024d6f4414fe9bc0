-- A part's name in the definitions, by what the code has of it; and what is left to judge behind a legal head.
use Rattle.std.specs.Prelude.{List, ℕ, Result, Ok, Err}
use Rattle.rules.specs.declared.Refusal.{Refusal}
use Rattle.rules.specs.declared.Refusal.TheVariants as refusal
use Rattle.rules.specs.declared.NoNumber.{NoNumber}
use Rattle.rules.specs.declared.NoNumber.TheVariants.{TooManyBytes, LongForm, CutOff}
use Rattle.rules.specs.declared.Part.{Part}
use Rattle.rules.specs.declared.Plane.{Plane}
use Rattle.rules.specs.declared.Level.{Level}
use Rattle.rules.specs.Document.Layout.{Number, read_number}
use Rattle.rules.specs.Document.Numbers.{headed}
use Rattle.rules.specs.Document.Passes.{PartName}
use Rattle.record.specs.declared.Name.{Name}

abbrev pub name_by : Plane → Level → PartName
name_by n k = record { plane = n.0; level = k.0 }

abbrev pub named : Name → PartName
named x = name_by x.plane x.level

-- A number read, with another fault where there is none; and what a number that is there leads on to.
abbrev pub or_fault : (NoNumber → Refusal) → Number → Result (ℕ × ℕ) Refusal
or_fault fault (Ok x) = Ok x
or_fault fault (Err why) = Err (fault why)

abbrev pub on_value : {X E : Type 0} → Result (ℕ × ℕ) E → (ℕ → ℕ → Result X E) → Result X E
on_value (Ok (v, end)) go = go v end
on_value (Err why) go = Err why

-- What a header is refused for where no number stands at a place, and one of its numbers.
abbrev pub header_fault : ℕ → NoNumber → Refusal
header_fault at TooManyBytes = refusal.Head at
header_fault at LongForm = refusal.LongForm at
header_fault at CutOff = refusal.Head at

abbrev pub header_number : List ℕ → ℕ → Result (ℕ × ℕ) Refusal
header_number s at = or_fault (header_fault at) (read_number s at)

-- The head at a place, by its three numbers, the first that is none deciding.
abbrev pub read_head : List ℕ → ℕ → Result Part NoNumber
read_head s place =
    on_value (read_number s place) (λ n a.
    on_value (read_number s a) (λ k b.
    on_value (read_number s b) (λ bits body.
    Ok (headed place n k bits body))))
