-- Laws of writing bits one after the other: into zeros, from the start of a byte on, they make the packed body.
use Rattle.std.specs.Prelude.{◌≡◌, refl, Bool, true, false, List, [], ◌∷◌, ◌++◌, ℕ, zero, suc, ◌+◌, ◌-◌, ◌*◌, ◌/◌, ◌%◌, ◌^◌, ◌≤◌, ◌<◌, length, get_or, set}
use Rattle.std.proofs.Common.{sym, ap, ◌∙◌, pow-suc, zero-add, add-zero, add-mul, mul_assoc, mul_comm, zero-mul, one-mul, arith, length-set, get_or-set_other}
use Rattle.std.specs.Int.Bits.{bit_or}
use Rattle.std.proofs.lemmas.Nat.{or_shifted}
use Rattle.std.proofs.Math.Pow.{pow-lt}
use Rattle.std.proofs.Math.ListN.{get_or-eq_default}
use Rattle.std.proofs.lemmas.List.Edits.{sets}
use Rattle.std.proofs.Math.Seq.{set_out}
use Rattle.std.proofs.lemmas.List.{set-get_or}
use Rattle.rules.specs.Document.Layout.{bytes_for, bit_number, eight_bits, pack_from, packed}
use Rattle.bits.specs.Bits.{with_bit, set_bit, write_bits}

-- Writing a 0, or past the end, leaves all as it was; writing keeps the length, and goes on where it stopped.
pub set_bit_length : (out : List ℕ) (t : ℕ) (b : Bool) → length (set_bit out t b) ≡ length out
unfolding set_bit
set_bit_length out t b = length-set out (t / 8) (with_bit (get_or out (t / 8) 0) (t % 8) b)

pub set_bit_none : (out : List ℕ) (t : ℕ) → set_bit out t false ≡ out
unfolding set_bit
set_bit_none out t = set-get_or out (t / 8) 0

pub set_bit_past : (out : List ℕ) (t : ℕ) (b : Bool) → length out ≤ t / 8 → set_bit out t b ≡ out
unfolding set_bit
set_bit_past out t b h = set_out out (t / 8) (with_bit (get_or out (t / 8) 0) (t % 8) b) h

pub write_bits_append : (out : List ℕ) (t : ℕ) (bits more : List Bool)
    → write_bits out t (bits ++ more) ≡ write_bits (write_bits out t bits) (t + length bits) more
unfolding write_bits
write_bits_append out t [] more = ap (λ x. write_bits out x more) (omega arith)
write_bits_append out t (b ∷ bits) more =
    write_bits_append (set_bit out t b) (t + 1) bits more
    ∙ ap (λ x. write_bits (write_bits (set_bit out t b) (t + 1) bits) x more) (omega arith)

-- n bits of a list, from its place i on, with 0 past its end: what a byte is packed from.
write_from : List ℕ → ℕ → List Bool → ℕ → ℕ → List ℕ
write_from out t bits i zero = out
write_from out t bits i (suc n) = write_from (set_bit out t (get_or bits i false)) (t + 1) bits (suc i) n

write_from_tail : (out : List ℕ) (t : ℕ) (b : Bool) (bits : List Bool) (i n : ℕ)
    → write_from out t (b ∷ bits) (suc i) n ≡ write_from out t bits i n
unfolding write_from
write_from_tail out t b bits i zero = refl
write_from_tail out t b bits i (suc n) = write_from_tail (set_bit out t (get_or bits i false)) (t + 1) b bits (suc i) n

write_from_none : (out : List ℕ) (t : ℕ) (bits : List Bool) (i n : ℕ) → length bits ≤ i → write_from out t bits i n ≡ out
unfolding write_from
write_from_none out t bits i zero h = refl
write_from_none out t bits i (suc n) h =
    rw (get_or-eq_default bits false h, set_bit_none) (write_from_none out (t + 1) bits (suc i) n (omega arith))

write_from_add : (out : List ℕ) (t : ℕ) (bits : List Bool) (i n more : ℕ)
    → write_from out t bits i (n + more) ≡ write_from (write_from out t bits i n) (t + n) bits (i + n) more
unfolding write_from
write_from_add out t bits i zero more = rw (zero-add, add-zero, add-zero) refl
write_from_add out t bits i (suc n) more =
    let a : suc n + more ≡ suc (n + more) = omega arith in
    let b : t + suc n ≡ t + 1 + n = omega arith in
    let c : i + suc n ≡ suc i + n = omega arith in
    rw (a, b, c) (write_from_add (set_bit out t (get_or bits i false)) (t + 1) bits (suc i) n more)

write_bits_from : (out : List ℕ) (t : ℕ) (bits : List Bool) → write_bits out t bits ≡ write_from out t bits 0 (length bits)
unfolding write_bits write_from
write_bits_from out t [] = refl
write_bits_from out t (b ∷ bits) =
    write_bits_from (set_bit out t b) (t + 1) bits ∙ sym (write_from_tail (set_bit out t b) (t + 1) b bits 0 (length bits))

-- One byte: its bits are added from the highest to the lowest.
set_again : (out : List ℕ) (k x : ℕ) (f : ℕ → ℕ) → set (set out k x) k (f (get_or (set out k x) k 0)) ≡ set out k (f x)
set_again [] k x f = refl
set_again (y ∷ out) zero x f = refl
set_again (y ∷ out) (suc k) x f = ap (λ l. y ∷ l) (set_again out k x f)

next_bit : (a m : ℕ) (b : Bool) → a * 2 ^ suc m + bit_number b * 2 ^ m ≡ (a * 2 + bit_number b) * 2 ^ m
next_bit a m b =
    ap (λ x. x + bit_number b * 2 ^ m) (ap (λ x. a * x) (pow-suc 2 m ∙ mul_comm (2 ^ m) 2) ∙ sym (mul_assoc a 2 (2 ^ m)))
    ∙ sym (add-mul (a * 2) (bit_number b) (2 ^ m))

set_bit_adds : (out : List ℕ) (k a m : ℕ) (b : Bool) → m < 8
    → set_bit (set out k (a * 2 ^ suc m)) (8 * k + (7 - m)) b ≡ set out k (a * 2 ^ suc m + bit_number b * 2 ^ m)
unfolding set_bit
set_bit_adds out k a m true h =
    let p : (8 * k + (7 - m)) / 8 ≡ k = omega arith in
    let q : 7 - (8 * k + (7 - m)) % 8 ≡ m = omega arith in
    rw (p, q)
    (set_again out k (a * 2 ^ suc m) (λ x. bit_or x (2 ^ m))
    ∙ ap (set out k) (or_shifted a (suc m) (2 ^ m) (pow-lt (omega arith)) ∙ ap (λ x. a * 2 ^ suc m + x) (sym (one-mul (2 ^ m)))))
set_bit_adds out k a m false h = rw (zero-mul, add-zero) (set_bit_none (set out k (a * 2 ^ suc m)) (8 * k + (7 - m)))

byte_written : (out : List ℕ) (k : ℕ) (bits : List Bool) (i m a : ℕ) → m ≤ 8
    → write_from (set out k (a * 2 ^ m)) (8 * k + (8 - m)) bits i m ≡ set out k (a * 2 ^ m + eight_bits bits i m)
unfolding write_from eight_bits
byte_written out k bits i zero a h = rw add-zero refl
byte_written out k bits i (suc m) a h =
    let b = get_or bits i false in
    let p : 8 - suc m ≡ 7 - m = omega arith in
    let q : 8 * k + (7 - m) + 1 ≡ 8 * k + (8 - m) = omega arith in
    rw (p, set_bit_adds out k a m b h, q, next_bit a m b)
    (byte_written out k bits (suc i) m (a * 2 + bit_number b) (omega arith)
    ∙ ap (set out k) (ap (λ x. x + eight_bits bits (suc i) m) (sym (next_bit a m b)) ∙ omega arith))

-- All bytes, one after the other.
first_byte : (out : List ℕ) (k : ℕ) (bits : List Bool) (i : ℕ) → get_or out k 0 ≡ 0
    → write_from out (8 * k) bits i 8 ≡ set out k (eight_bits bits i 8)
first_byte out k bits i z =
    let clear : set out k 0 ≡ out = ap (set out k) (sym z) ∙ set-get_or out k 0 in
    rw (clear, add-zero, zero-add) at (byte_written out k bits i 8 0 (omega arith))

bytes_written : (out : List ℕ) (k : ℕ) (bits : List Bool) (i m : ℕ) → ((j : ℕ) → k ≤ j → get_or out j 0 ≡ 0)
    → write_from out (8 * k) bits i (8 * m) ≡ sets out k (pack_from bits i m)
unfolding write_from pack_from
bytes_written out k bits i zero h = refl
bytes_written out k bits i (suc m) h =
    let v = eight_bits bits i 8 in
    let p : 8 * suc m ≡ 8 + 8 * m = omega arith in
    let q : 8 * k + 8 ≡ 8 * suc k = omega arith in
    rw (p, write_from_add out (8 * k) bits i 8 (8 * m), first_byte out k bits i (h k (omega arith)), q)
    (bytes_written (set out k v) (suc k) bits (i + 8) m
    (λ j g. get_or-set_other out k j v 0 (λ e. omega arith) ∙ h j (omega arith)))

pub write_bits_packed : (out : List ℕ) (start : ℕ) (bits : List Bool) → ((j : ℕ) → start ≤ j → get_or out j 0 ≡ 0)
    → write_bits out (8 * start) bits ≡ sets out start (packed bits)
unfolding packed
write_bits_packed out start bits h =
    let n = length bits in
    let padding = 8 * bytes_for n - n in
    let written = write_from out (8 * start) bits 0 n in
    let e : n + padding ≡ 8 * bytes_for n = omega arith in
    write_bits_from out (8 * start) bits
    ∙ sym (write_from_none written (8 * start + n) bits (0 + n) padding (omega arith))
    ∙ sym (write_from_add out (8 * start) bits 0 n padding)
    ∙ ap (write_from out (8 * start) bits 0) e
    ∙ bytes_written out start bits 0 (bytes_for n) h
