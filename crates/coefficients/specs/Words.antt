-- A coefficient as a word: magnitude x 2, and 1 more where it is negative.
--
--   word_of b m       the word of sign b and magnitude m
--   worded v         the word of a value
--   value_of w        the value of a word
use Rattle.std.specs.Prelude.{◌≡◌, refl, Bool, true, false, cond, ℕ, zero, suc, ◌+◌, ◌*◌, ◌/◌, ◌%◌, ◌<◌, eqb, ℤ, pos, nat_abs}
use Rattle.std.proofs.Common.{ap, ap₂, ◌∙◌, add-zero, suc-add, arith, eqb-true, eq-eqb, ne_eqb}
use Rattle.rules.specs.Document.Pyramid.{below0}
use Rattle.rules.specs.Document.Passes.{signed, grown}

unfoldable pub word_of : Bool → ℕ → ℕ
word_of b m = 2 * m + cond b 1 0

unfoldable pub worded : ℤ → ℕ
worded v = word_of (below0 v) (nat_abs v)

unfoldable pub negative_word : ℕ → Bool
negative_word w = eqb (w % 2) 1

unfoldable pub magnitude_word : ℕ → ℕ
magnitude_word w = w / 2

unfoldable pub value_of : ℕ → ℤ
value_of w = signed (negative_word w) (magnitude_word w)

-- a word's magnitude, sign and value
pub magnitude_word_lem : (b : Bool) (m : ℕ) → magnitude_word (word_of b m) ≡ m
unfolding magnitude_word word_of
magnitude_word_lem true m = omega arith
magnitude_word_lem false m = omega arith

pub negative_word_lem : (b : Bool) (m : ℕ) → negative_word (word_of b m) ≡ b
unfolding negative_word word_of
negative_word_lem true m = eq-eqb ((2 * m + 1) % 2) 1 (omega arith)
negative_word_lem false m = ne_eqb ((2 * m + 0) % 2) 1 (λ e. omega arith)

pub value_word : (b : Bool) (m : ℕ) → value_of (word_of b m) ≡ signed b m
unfolding value_of
value_word b m = ap₂ signed (negative_word_lem b m) (magnitude_word_lem b m)

pub value_zero : value_of 0 ≡ pos 0
unfolding value_of negative_word magnitude_word signed
value_zero = refl

-- A refinement adds to the word; but to a word of 1, a negative 0, it would give a negative value, and to the value 0 a positive one.
signed_grown : (b : Bool) (m a : ℕ) → (b ≡ true → 0 < m) → signed b (m + a) ≡ grown true a (signed b m)
unfolding signed grown
signed_grown false m a h = refl
signed_grown true zero a h = absurd (omega (arith, h refl))
signed_grown true (suc m) a h = rw (suc-add m a)

negative_some : (w : ℕ) → (w ≡ 1 → ⊥) → negative_word w ≡ true → 0 < w / 2
unfolding negative_word
negative_some w h e = let odd : w % 2 ≡ 1 = eqb-true (w % 2) 1 e in omega arith

pub value_refined : (w a : ℕ) (b : Bool) → (w ≡ 1 → ⊥) → value_of (w + cond b (2 * a) 0) ≡ grown b a (value_of w)
unfolding value_of negative_word magnitude_word grown
value_refined w a false h = ap value_of (add-zero w)
value_refined w a true h =
    let sign : (w + 2 * a) % 2 ≡ w % 2 = omega arith in
    let magnitude : (w + 2 * a) / 2 ≡ w / 2 + a = omega arith in
    ap₂ (λ (x y : ℕ). signed (eqb x 1) y) sign magnitude
    ∙ signed_grown (eqb (w % 2) 1) (w / 2) a (negative_some w h)
