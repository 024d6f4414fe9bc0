-- Any two outcomes that a call's relation allows coincide. Isolation: so do those of two calls whose outputs, workspaces and answer slices
-- have the same lengths, whatever they held before; so nothing of that remains.
use Rattle.std.specs.Prelude.{◌≡◌, refl, List, ℕ, length, ℤ}
use Rattle.std.proofs.Common.{sym, ◌∙◌}
use Rattle.rules.specs.declared.Size.{Size}
use Rattle.rules.specs.Document.Calls.{Coding, Serving, Decoding, AfsCode, AfsServe, AfsDecode, returned, reported, lent_out, Decoded, Served, Coded}

-- Isolation of the routines.
pub coding_isolated : {pyramid : List ℤ} {z : Size} {out₁ out₂ work₁ work₂ : List ℕ} {a₁ a₂ : Coded} {out₁' out₂' work₁' work₂' : List ℕ}
    → Coding pyramid z out₁ work₁ a₁ out₁' work₁' → Coding pyramid z out₂ work₂ a₂ out₂' work₂'
    → length out₁ ≡ length out₂ → length work₁ ≡ length work₂ → (a₁ ≡ a₂) × (out₁' ≡ out₂') × (work₁' ≡ work₂')
coding_isolated x y o w =
    (x.answers ∙ rw (o, w) (sym y.answers), x.writes ∙ rw (o, w) (sym y.writes), x.clears ∙ rw w (sym y.clears))

pub serving_isolated : {s : List ℕ} {r p : ℕ} {out₁ out₂ : List ℕ} {a₁ a₂ : Served} {out₁' out₂' : List ℕ}
    → Serving s r p out₁ a₁ out₁' → Serving s r p out₂ a₂ out₂' → length out₁ ≡ length out₂ → (a₁ ≡ a₂) × (out₁' ≡ out₂')
serving_isolated x y o = (x.answers ∙ rw o (sym y.answers), x.writes ∙ rw o (sym y.writes))

pub decoding_isolated : {s : List ℕ} {out₁ out₂ : List ℤ} {work₁ work₂ : List ℕ} {a₁ a₂ : Decoded} {out₁' out₂' : List ℤ} {work₁' work₂' : List ℕ}
    → Decoding s out₁ work₁ a₁ out₁' work₁' → Decoding s out₂ work₂ a₂ out₂' work₂'
    → length out₁ ≡ length out₂ → length work₁ ≡ length work₂ → (a₁ ≡ a₂) × (out₁' ≡ out₂') × (work₁' ≡ work₂')
decoding_isolated x y o w =
    (x.answers ∙ rw (o, w) (sym y.answers), x.writes ∙ rw (o, w) (sym y.writes), x.clears ∙ rw w (sym y.clears))

-- Isolation of the exports.
pub afs_code_isolated : {pyramid : List ℤ} {z : Size} {out₁ out₂ work₁ work₂ answer₁ answer₂ : List ℕ} {n₁ n₂ : ℕ}
    {out₁' out₂' work₁' work₂' answer₁' answer₂' : List ℕ}
    → AfsCode pyramid z out₁ work₁ answer₁ n₁ out₁' work₁' answer₁' → AfsCode pyramid z out₂ work₂ answer₂ n₂ out₂' work₂' answer₂'
    → length out₁ ≡ length out₂ → length work₁ ≡ length work₂ → length answer₁ ≡ length answer₂
    → (n₁ ≡ n₂) × (out₁' ≡ out₂') × (work₁' ≡ work₂') × (answer₁' ≡ answer₂')
unfolding returned reported lent_out
afs_code_isolated x y o w l = (
  x.returns ∙ rw (o, w, l) (sym y.returns),
  x.writes ∙ rw (o, w, l) (sym y.writes),
  x.clears ∙ rw w (sym y.clears),
  x.reports ∙ rw (o, w, l) (sym y.reports),
)

pub afs_serve_isolated : {s : List ℕ} {r p : ℕ} {out₁ out₂ answer₁ answer₂ : List ℕ} {n₁ n₂ : ℕ} {out₁' out₂' answer₁' answer₂' : List ℕ}
    → AfsServe s r p out₁ answer₁ n₁ out₁' answer₁' → AfsServe s r p out₂ answer₂ n₂ out₂' answer₂'
    → length out₁ ≡ length out₂ → length answer₁ ≡ length answer₂ → (n₁ ≡ n₂) × (out₁' ≡ out₂') × (answer₁' ≡ answer₂')
unfolding returned reported lent_out
afs_serve_isolated x y o l = (
  x.returns ∙ rw (o, l) (sym y.returns),
  x.writes ∙ rw (o, l) (sym y.writes),
  x.reports ∙ rw (o, l) (sym y.reports),
)

pub afs_decode_isolated : {s : List ℕ} {out₁ out₂ : List ℤ} {work₁ work₂ answer₁ answer₂ : List ℕ} {n₁ n₂ : ℕ} {out₁' out₂' : List ℤ}
    {work₁' work₂' answer₁' answer₂' : List ℕ}
    → AfsDecode s out₁ work₁ answer₁ n₁ out₁' work₁' answer₁' → AfsDecode s out₂ work₂ answer₂ n₂ out₂' work₂' answer₂'
    → length out₁ ≡ length out₂ → length work₁ ≡ length work₂ → length answer₁ ≡ length answer₂
    → (n₁ ≡ n₂) × (out₁' ≡ out₂') × (work₁' ≡ work₂') × (answer₁' ≡ answer₂')
unfolding returned reported lent_out
afs_decode_isolated x y o w l = (
  x.returns ∙ rw (o, w, l) (sym y.returns),
  x.writes ∙ rw (o, w, l) (sym y.writes),
  x.clears ∙ rw w (sym y.clears),
  x.reports ∙ rw (o, w, l) (sym y.reports),
)

-- Determinacy: the same call, lent the same.
pub coding_determined : {pyramid : List ℤ} {z : Size} {out work : List ℕ} {a₁ a₂ : Coded} {out₁' out₂' work₁' work₂' : List ℕ}
    → Coding pyramid z out work a₁ out₁' work₁' → Coding pyramid z out work a₂ out₂' work₂' → (a₁ ≡ a₂) × (out₁' ≡ out₂') × (work₁' ≡ work₂')
coding_determined x y = coding_isolated x y refl refl

pub serving_determined : {s : List ℕ} {r p : ℕ} {out : List ℕ} {a₁ a₂ : Served} {out₁' out₂' : List ℕ}
    → Serving s r p out a₁ out₁' → Serving s r p out a₂ out₂' → (a₁ ≡ a₂) × (out₁' ≡ out₂')
serving_determined x y = serving_isolated x y refl

pub decoding_determined : {s : List ℕ} {out : List ℤ} {work : List ℕ} {a₁ a₂ : Decoded} {out₁' out₂' : List ℤ} {work₁' work₂' : List ℕ}
    → Decoding s out work a₁ out₁' work₁' → Decoding s out work a₂ out₂' work₂' → (a₁ ≡ a₂) × (out₁' ≡ out₂') × (work₁' ≡ work₂')
decoding_determined x y = decoding_isolated x y refl refl

pub afs_code_determined : {pyramid : List ℤ} {z : Size} {out work answer : List ℕ} {n₁ n₂ : ℕ} {out₁' out₂' work₁' work₂' answer₁' answer₂' : List ℕ}
    → AfsCode pyramid z out work answer n₁ out₁' work₁' answer₁' → AfsCode pyramid z out work answer n₂ out₂' work₂' answer₂'
    → (n₁ ≡ n₂) × (out₁' ≡ out₂') × (work₁' ≡ work₂') × (answer₁' ≡ answer₂')
afs_code_determined x y = afs_code_isolated x y refl refl refl

pub afs_serve_determined : {s : List ℕ} {r p : ℕ} {out answer : List ℕ} {n₁ n₂ : ℕ} {out₁' out₂' answer₁' answer₂' : List ℕ}
    → AfsServe s r p out answer n₁ out₁' answer₁' → AfsServe s r p out answer n₂ out₂' answer₂'
    → (n₁ ≡ n₂) × (out₁' ≡ out₂') × (answer₁' ≡ answer₂')
afs_serve_determined x y = afs_serve_isolated x y refl refl

pub afs_decode_determined : {s : List ℕ} {out : List ℤ} {work answer : List ℕ} {n₁ n₂ : ℕ} {out₁' out₂' : List ℤ}
    {work₁' work₂' answer₁' answer₂' : List ℕ}
    → AfsDecode s out work answer n₁ out₁' work₁' answer₁' → AfsDecode s out work answer n₂ out₂' work₂' answer₂'
    → (n₁ ≡ n₂) × (out₁' ≡ out₂') × (work₁' ≡ work₂') × (answer₁' ≡ answer₂')
afs_decode_determined x y = afs_decode_isolated x y refl refl refl
