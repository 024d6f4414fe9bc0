-- What the last byte makes of a number.
use Rattle.std.specs.Prelude.{◌≡◌, refl, cond, ◌&&◌, ℕ, ◌+◌, ◌*◌, ◌<◌, ltb, eqb, Ok, Err}
use Rattle.std.proofs.Common.{lt-ltb, eq-eqb}
use Rattle.rules.specs.Document.Layout.{Number}
use Rattle.rules.specs.declared.NoNumber.TheVariants.{LongForm}
use Rattle.rules.proofs.Laws.Bytes.Numbers.{shortest_form}

-- Of several bytes the last may not be 0.
abbrev pub last_byte : ℕ → ℕ → ℕ → ℕ → Number
last_byte value worth byte end = cond (ltb 1 worth && eqb byte 0) (Err LongForm) (Ok (value + byte * worth, end))

pub last_byte_long : (value worth byte end : ℕ) → 1 < worth → byte ≡ 0 → last_byte value worth byte end ≡ Err LongForm
last_byte_long value worth byte end h z = rw (lt-ltb 1 worth h, eq-eqb byte 0 z) refl

pub last_byte_value : (value worth byte end : ℕ) → (1 < worth → 0 < byte)
    → last_byte value worth byte end ≡ Ok (value + byte * worth, end)
last_byte_value value worth byte end h = rw (shortest_form worth byte h) refl
