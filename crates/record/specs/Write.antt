-- What writing a header and a head leaves, and how many bytes they take.
use Rattle.std.specs.Prelude.{◌≡◌, List, [], ◌∷◌, ℕ, ◌+◌, ◌-◌, ◌*◌, ◌^◌, ◌≤◌, ◌<◌, length, take, drop}
use Rattle.std.proofs.Common.{ap, append-nil, arith, length-append}
use Rattle.std.proofs.lemmas.List.Edits.{sets}
use Rattle.rules.specs.declared.Plane.{Plane}
use Rattle.rules.specs.declared.Level.{Level}
use Rattle.rules.specs.Document.Notation.{flat}
use Rattle.rules.specs.Document.Layout.{number_bytes, bytes_for}
use Rattle.rules.proofs.Laws.Bytes.Numbers.{number_bytes_last, number_bytes_length}

-- No part begins behind this place.
abbrev pub place_most : ℕ
place_most = 2 ^ 40

-- Numbers written one after the other from a place on, and the place after them.
pub record Wrote (out : List ℕ) (at : ℕ) (numbers : List ℕ) (end : ℕ) (out' : List ℕ) : Type 0 where
  pub place : end ≡ at + length (flat number_bytes numbers)
  pub bytes : out' ≡ sets out at (flat number_bytes numbers)

-- bytes of a part's head whose bit count takes one byte
abbrev pub short_head : ℕ
short_head = 3

-- The body, which stands behind the place of a short head, moved to where the bit count lets it begin.
unfoldable pub made_way : List ℕ → ℕ → ℕ → List ℕ
made_way out place bits =
    sets out (place + short_head + (length (number_bytes bits) - 1)) (take (bytes_for bits) (drop (place + short_head) out))

abbrev pub head_of : ℕ → ℕ → ℕ → List ℕ
head_of n k bits = flat number_bytes (n ∷ k ∷ bits ∷ [])

pub record HeadFits (place : ℕ) (n : Plane) (k : Level) (bits : ℕ) : Type 0 where
  pub near : place ≤ place_most
  pub plane : n.0 < 128
  pub level : k.0 < 128
  pub count : bits < 2 ^ 28

pub record Headed (out : List ℕ) (place n k bits end : ℕ) (out' : List ℕ) : Type 0 where
  pub after : end ≡ place + length (head_of n k bits) + bytes_for bits
  pub bytes : out' ≡ sets (made_way out place bits) place (head_of n k bits)

-- Each number takes at most four bytes.
pub wrote_near : {out : List ℕ} {at : ℕ} {numbers : List ℕ} {end : ℕ} {out' : List ℕ} → Wrote out at numbers end out' → end ≤ at + 4 * length numbers
unfolding flat
wrote_near {numbers = numbers} w = omega (arith, w.place, most numbers)
  where
    most : (vs : List ℕ) → length (flat number_bytes vs) ≤ 4 * length vs
    most [] = omega arith
    most (v ∷ vs) = omega (arith, length-append (number_bytes v) (flat number_bytes vs), number_bytes_length v, most vs)

-- A head's bytes: one for the plane, one for the level, and the bit count.
pub head_of_length : (n k bits : ℕ) → n < 128 → k < 128 → length (head_of n k bits) ≡ 2 + length (number_bytes bits)
unfolding flat
head_of_length n k bits a b = rw (number_bytes_last n a, number_bytes_last k b) (omega (arith, ap length (append-nil (number_bytes bits))))
