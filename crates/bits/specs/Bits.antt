-- Bits of a byte and bits in bytes, most significant bit first.
use Rattle.std.specs.Prelude.{Bool, true, false, List, [], ◌∷◌, ℕ, ◌+◌, ◌-◌, ◌/◌, ◌%◌, ◌^◌, eqb, get_or, set}
use Rattle.std.specs.Int.Bits.{bit_or}

-- Bit i of a byte, and the byte with that bit set where the bit written is 1.
abbrev pub bit_of : ℕ → ℕ → Bool
bit_of byte i = eqb (byte / 2 ^ (7 - i) % 2) 1

abbrev pub with_bit : ℕ → ℕ → Bool → ℕ
with_bit byte i true = bit_or byte (2 ^ (7 - i))
with_bit byte i false = byte

-- The same of bit t of the bytes; past their end nothing happens.
unfoldable pub set_bit : List ℕ → ℕ → Bool → List ℕ
set_bit out t b = set out (t / 8) (with_bit (get_or out (t / 8) 0) (t % 8) b)

-- Bits written one after the other, from bit t on.
unfoldable pub write_bits : List ℕ → ℕ → List Bool → List ℕ
write_bits out t [] = out
write_bits out t (b ∷ bs) = write_bits (set_bit out t b) (t + 1) bs
