-- What the code's shifts and tests make of bits.
use Rattle.std.proofs.Common.{◌≡◌, refl, ap, ◌∙◌, Bool, true, false, not, ◌&&◌, List, ℕ, zero, suc, ◌-◌, ◌*◌, ◌%◌, ◌^◌, one-mul, zero-mul, add-one, arith}
use Rattle.std.specs.List.{list_all, range_with_len}
use Rattle.std.specs.Int.Bits.{bit_or}
use mir.Val.{bool_byte}
use lib.Bits.{or_zero_r}
use lib.Pow.{shl_exact}
use Rattle.rules.specs.Document.Layout.{bit_at, clear_from}
use Rattle.bits.specs.Bits.{with_bit}

pub shifted : (byte i : ℕ) (b : Bool) → bit_or byte (bool_byte b * 2 ^ (7 - i) % 256) ≡ with_bit byte i b
shifted byte i true = ap (bit_or byte) (shl_exact 1 (7 - i) 8 (omega arith) (omega arith) ∙ one-mul (2 ^ (7 - i)))
shifted byte i false = rw zero-mul (or_zero_r byte)

-- n bits from bit i on are clear
pub all_clear : (body : List ℕ) (i n : ℕ) → list_all (λ k. not (bit_at body k)) (range_with_len i n) ≡ clear_from body i n
unfolding clear_from
all_clear body i zero = refl
all_clear body i (suc n) = rw add-one (ap (λ b. not (bit_at body i) && b) (all_clear body (suc i) n))
