-- A body reads back: the bits that were packed, then 0.
use Rattle.std.specs.Prelude.{◌≡◌, refl, List, Bool, true, false, not, ℕ, zero, suc, ◌+◌, ◌-◌, ◌*◌, ◌/◌, ◌%◌, ◌^◌, ◌≤◌, ◌<◌, eqb, length, get_or}
use Rattle.std.proofs.Common.{ap, sym, ◌∙◌, arith, pow-suc}
use Rattle.std.proofs.Math.Decide.{dec_lt}
use Rattle.std.proofs.Math.Nat.{zero-div}
use Rattle.std.proofs.Math.ListN.{get_or-eq_default}
use Rattle.std.proofs.Math.Pow.{field, mod-mod-pow, low, high}
use Rattle.std.proofs.lemmas.Bool.{not-true}
use Rattle.rules.specs.Document.Layout.{bytes_for, bit_number, eight_bits, pack_from, packed, bit_at, clear_from, pad_clear}
use Rattle.rules.specs.Promises.Vocabulary.{bits_from}
use Rattle.rules.proofs.Laws.Counting.Booleans.{both_left, both_right}

-- A digit of the low part is not changed by what stands above it.
low_digit : (hi lo m j : ℕ) → lo < 2 ^ m → j < m → (hi * 2 ^ m + lo) / 2 ^ j % 2 ≡ lo / 2 ^ j % 2
low_digit hi lo m j a b =
    let n : ℕ = hi * 2 ^ m + lo in
    let whole : m - (1 + j) + (1 + j) ≡ m = omega arith in
    let cut : n % 2 ^ (1 + j) ≡ lo % 2 ^ (1 + j)
    = sym (mod-mod-pow n (m - (1 + j)) (1 + j)) ∙ ap (λ x. n % 2 ^ x % 2 ^ (1 + j)) whole ∙ ap (λ x. x % 2 ^ (1 + j)) (low hi m a) in
    sym (field n 1 j) ∙ ap (λ x. x / 2 ^ j) cut ∙ field lo 1 j

bit_mod : (b : Bool) → bit_number b % 2 ≡ bit_number b
bit_mod true = refl
bit_mod false = refl

bit_test : (b : Bool) → eqb (bit_number b) 1 ≡ b
bit_test true = refl
bit_test false = refl

eight_under : (bits : List Bool) (i m : ℕ) → eight_bits bits i m < 2 ^ m
unfolding eight_bits
eight_under bits i zero = omega arith
eight_under bits i (suc m) = cases (get_or bits i false) (eight_under bits (suc i) m)
  where
    cases : (b : Bool) → eight_bits bits (suc i) m < 2 ^ m → bit_number b * 2 ^ m + eight_bits bits (suc i) m < 2 ^ suc m
    cases true h = omega (arith, pow-suc 2 m)
    cases false h = omega (arith, pow-suc 2 m)

eight_digit : (bits : List Bool) (i m r : ℕ) → r < m → eight_bits bits i m / 2 ^ (m - suc r) % 2 ≡ bit_number (get_or bits (i + r) false)
unfolding eight_bits
eight_digit bits i zero r h = absurd (omega arith)
eight_digit bits i (suc m) zero h =
    let e : suc m - 1 ≡ m = omega arith in
    let z : i + 0 ≡ i = omega arith in
    ap (λ x. (bit_number (get_or bits i false) * 2 ^ m + eight_bits bits (suc i) m) / 2 ^ x % 2) e
    ∙ ap (λ x. x % 2) (high (bit_number (get_or bits i false)) m (eight_under bits (suc i) m))
    ∙ bit_mod (get_or bits i false) ∙ ap (λ x. bit_number (get_or bits x false)) (sym z)
eight_digit bits i (suc m) (suc r) h =
    let e : suc m - suc (suc r) ≡ m - suc r = omega arith in
    let z : suc i + r ≡ i + suc r = omega arith in
    ap (λ x. (bit_number (get_or bits i false) * 2 ^ m + eight_bits bits (suc i) m) / 2 ^ x % 2) e
    ∙ low_digit (bit_number (get_or bits i false)) (eight_bits bits (suc i) m) m (m - suc r) (eight_under bits (suc i) m) (omega arith)
    ∙ eight_digit bits (suc i) m r (omega arith) ∙ ap (λ x. bit_number (get_or bits x false)) z

-- every byte of a body is one
pub pack_length : (bits : List Bool) (i m : ℕ) → length (pack_from bits i m) ≡ m
unfolding pack_from
pack_length bits i zero = refl
pack_length bits i (suc m) = ap suc (pack_length bits (i + 8) m)

pub packed_length : (bits : List Bool) → length (packed bits) ≡ bytes_for (length bits)
unfolding packed
packed_length bits = pack_length bits 0 (bytes_for (length bits))

pack_byte : (bits : List Bool) (i m j : ℕ) → j < m → get_or (pack_from bits i m) j 0 ≡ eight_bits bits (i + 8 * j) 8
unfolding pack_from
pack_byte bits i zero j h = absurd (omega arith)
pack_byte bits i (suc m) zero h = ap (λ x. eight_bits bits x 8) (omega arith)
pack_byte bits i (suc m) (suc j) h = pack_byte bits (i + 8) m j (omega arith) ∙ ap (λ x. eight_bits bits x 8) (omega arith)

-- past the end a bit is 0
pub bit_past : (body : List ℕ) (i : ℕ) → length body ≤ i / 8 → bit_at body i ≡ false
unfolding bit_at
bit_past body i h =
    ap (λ x. eqb (x / 2 ^ (7 - i % 8) % 2) 1) (get_or-eq_default body 0 {n = i / 8} h) ∙ ap (λ x. eqb (x % 2) 1) (zero-div (2 ^ (7 - i % 8)))

pub packed_bit : (bits : List Bool) (i : ℕ) → bit_at (packed bits) i ≡ get_or bits i false
unfolding bit_at packed
packed_bit bits i = cases (dec_lt (i / 8) (bytes_for (length bits)))
  where
    body : List ℕ
    body = pack_from bits 0 (bytes_for (length bits))

    cases : Dec (i / 8 < bytes_for (length bits)) → eqb (get_or body (i / 8) 0 / 2 ^ (7 - i % 8) % 2) 1 ≡ get_or bits i false
    cases (yes l) =
        ap (λ x. eqb (x / 2 ^ (7 - i % 8) % 2) 1) (pack_byte bits 0 (bytes_for (length bits)) (i / 8) l)
        ∙ ap (λ x. eqb (eight_bits bits (0 + 8 * (i / 8)) 8 / 2 ^ x % 2) 1) (omega arith)
        ∙ ap (λ x. eqb x 1) (eight_digit bits (0 + 8 * (i / 8)) 8 (i % 8) (omega arith))
        ∙ bit_test (get_or bits (0 + 8 * (i / 8) + i % 8) false)
        ∙ ap (λ x. get_or bits x false) (omega arith)
    cases (no l) =
        bit_past body i (omega (arith, pack_length bits 0 (bytes_for (length bits))))
        ∙ sym (get_or-eq_default bits false {n = i} (omega arith))

-- padding
clear_from_lem : (body : List ℕ) (i m : ℕ) → ((j : ℕ) → i ≤ j → bit_at body j ≡ false) → clear_from body i m ≡ true
unfolding clear_from
clear_from_lem body i zero h = refl
clear_from_lem body i (suc m) h = rw (h i (omega arith)) (clear_from_lem body (suc i) m (λ j l. h j (omega arith)))

pub packed_clear : (bits : List Bool) → pad_clear (packed bits) (length bits) ≡ true
unfolding pad_clear
packed_clear bits =
    clear_from_lem (packed bits) (length bits) _ (λ j l. packed_bit bits j ∙ get_or-eq_default bits false {n = j} l)

-- Any body whose padding is 0 is its bits, then 0.
pub first_length : (body : List ℕ) (i m : ℕ) → length (bits_from body i m) ≡ m
unfolding bits_from
first_length body i zero = refl
first_length body i (suc m) = ap suc (first_length body (suc i) m)

first_bit : (body : List ℕ) (i m j : ℕ) → j < m → get_or (bits_from body i m) j false ≡ bit_at body (i + j)
unfolding bits_from
first_bit body i zero j h = absurd (omega arith)
first_bit body i (suc m) zero h = ap (bit_at body) (omega arith)
first_bit body i (suc m) (suc j) h = first_bit body (suc i) m j (omega arith) ∙ ap (bit_at body) (omega arith)

pub pad_clear_lem : (body : List ℕ) (i m j : ℕ) → clear_from body i m ≡ true → i ≤ j → j < i + m → bit_at body j ≡ false
unfolding clear_from
pad_clear_lem body i zero j h a b = absurd (omega arith)
pad_clear_lem body i (suc m) j h a b = cases (dec_lt i j) (pad_clear_lem body (suc i) m j (both_right (not (bit_at body i)) _ h))
  where
    cases : Dec (i < j) → (suc i ≤ j → j < suc i + m → bit_at body j ≡ false) → bit_at body j ≡ false
    cases (yes l) r = r l (omega arith)
    cases (no l) r = ap (bit_at body) (omega arith) ∙ not-true (bit_at body i) (both_left _ _ h)

pub body_bit : (body : List ℕ) (n : ℕ) → length body ≤ bytes_for n → pad_clear body n ≡ true
    → (i : ℕ) → bit_at body i ≡ get_or (bits_from body 0 n) i false
unfolding pad_clear
body_bit body n l h i = cases (dec_lt i n) (dec_lt i (8 * bytes_for n))
  where
    past : n ≤ i → bit_at body i ≡ false → bit_at body i ≡ get_or (bits_from body 0 n) i false
    past a e = e ∙ sym (get_or-eq_default (bits_from body 0 n) false {n = i} (omega (arith, first_length body 0 n)))

    cases : Dec (i < n) → Dec (i < 8 * bytes_for n) → bit_at body i ≡ get_or (bits_from body 0 n) i false
    cases (yes a) d = ap (bit_at body) (omega arith) ∙ sym (first_bit body 0 n i a)
    cases (no a) (yes b) = past (omega arith) (pad_clear_lem body n _ i h (omega arith) (omega arith))
    cases (no a) (no b) = past (omega arith) (bit_past body i (omega arith))
