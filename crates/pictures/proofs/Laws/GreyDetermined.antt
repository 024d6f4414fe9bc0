-- Any two outcomes that a call's relation allows coincide. Isolation: so do those of two calls whose outputs, workspaces and answer slices
-- have the same lengths, whatever they held before; so nothing of that remains.
use Rattle.std.specs.Prelude.{◌≡◌, refl, List, ℕ, length, ℤ}
use Rattle.std.proofs.Common.{sym, ◌∙◌}
use Rattle.rules.specs.declared.Size.{Size}
use Rattle.rules.specs.Document.Calls.{returned, reported, lent_out}
use Rattle.pictures.specs.Document.Calls.{GreyRead}
use Rattle.pictures.specs.Document.Calls.{GreyWritten}
use Rattle.pictures.specs.Document.Calls.{GreyIn, GreyOut, GreySize, AfsGreyIn, AfsGreyOut, AfsGreySize}

-- Isolation of the routines. A file's size is one equation of the file alone.
pub grey_in_isolated : {file : List ℕ} {n : ℕ} {out₁ out₂ : List ℤ} {work₁ work₂ : List ℕ} {a₁ a₂ : GreyRead} {out₁' out₂' : List ℤ} {work₁' work₂' : List ℕ}
    → GreyIn file n out₁ work₁ a₁ out₁' work₁' → GreyIn file n out₂ work₂ a₂ out₂' work₂'
    → length out₁ ≡ length out₂ → length work₁ ≡ length work₂ → (a₁ ≡ a₂) × (out₁' ≡ out₂') × (work₁' ≡ work₂')
grey_in_isolated x y o w =
    (x.answers ∙ rw (o, w) (sym y.answers), x.writes ∙ rw (o, w) (sym y.writes), x.clears ∙ rw w (sym y.clears))

pub grey_out_isolated : {pyramid : List ℤ} {z : Size} {out₁ out₂ work₁ work₂ : List ℕ} {a₁ a₂ : GreyWritten} {out₁' out₂' work₁' work₂' : List ℕ}
    → GreyOut pyramid z out₁ work₁ a₁ out₁' work₁' → GreyOut pyramid z out₂ work₂ a₂ out₂' work₂'
    → length out₁ ≡ length out₂ → length work₁ ≡ length work₂ → (a₁ ≡ a₂) × (out₁' ≡ out₂') × (work₁' ≡ work₂')
grey_out_isolated x y o w =
    (x.answers ∙ rw (o, w) (sym y.answers), x.writes ∙ rw (o, w) (sym y.writes), x.clears ∙ rw w (sym y.clears))

-- Isolation of the exports.
pub afs_grey_in_isolated : {file : List ℕ} {n : ℕ} {out₁ out₂ : List ℤ} {work₁ work₂ answer₁ answer₂ : List ℕ} {n₁ n₂ : ℕ} {out₁' out₂' : List ℤ}
    {work₁' work₂' answer₁' answer₂' : List ℕ}
    → AfsGreyIn file n out₁ work₁ answer₁ n₁ out₁' work₁' answer₁' → AfsGreyIn file n out₂ work₂ answer₂ n₂ out₂' work₂' answer₂'
    → length out₁ ≡ length out₂ → length work₁ ≡ length work₂ → length answer₁ ≡ length answer₂
    → (n₁ ≡ n₂) × (out₁' ≡ out₂') × (work₁' ≡ work₂') × (answer₁' ≡ answer₂')
unfolding returned reported lent_out
afs_grey_in_isolated x y o w l = (
  x.returns ∙ rw (o, w, l) (sym y.returns),
  x.writes ∙ rw (o, w, l) (sym y.writes),
  x.clears ∙ rw w (sym y.clears),
  x.reports ∙ rw (o, w, l) (sym y.reports),
)

pub afs_grey_out_isolated : {pyramid : List ℤ} {z : Size} {out₁ out₂ work₁ work₂ answer₁ answer₂ : List ℕ} {n₁ n₂ : ℕ}
    {out₁' out₂' work₁' work₂' answer₁' answer₂' : List ℕ}
    → AfsGreyOut pyramid z out₁ work₁ answer₁ n₁ out₁' work₁' answer₁' → AfsGreyOut pyramid z out₂ work₂ answer₂ n₂ out₂' work₂' answer₂'
    → length out₁ ≡ length out₂ → length work₁ ≡ length work₂ → length answer₁ ≡ length answer₂
    → (n₁ ≡ n₂) × (out₁' ≡ out₂') × (work₁' ≡ work₂') × (answer₁' ≡ answer₂')
unfolding returned reported lent_out
afs_grey_out_isolated x y o w l = (
  x.returns ∙ rw (o, w, l) (sym y.returns),
  x.writes ∙ rw (o, w, l) (sym y.writes),
  x.clears ∙ rw w (sym y.clears),
  x.reports ∙ rw (o, w, l) (sym y.reports),
)

pub afs_grey_size_isolated : {file answer₁ answer₂ : List ℕ} {n₁ n₂ : ℕ} {answer₁' answer₂' : List ℕ}
    → AfsGreySize file answer₁ n₁ answer₁' → AfsGreySize file answer₂ n₂ answer₂' → length answer₁ ≡ length answer₂
    → (n₁ ≡ n₂) × (answer₁' ≡ answer₂')
unfolding returned reported
afs_grey_size_isolated x y l = (x.returns ∙ rw l (sym y.returns), x.reports ∙ rw l (sym y.reports))

-- Determinacy: the same call, lent the same.
pub grey_in_determined : {file : List ℕ} {n : ℕ} {out : List ℤ} {work : List ℕ} {a₁ a₂ : GreyRead} {out₁' out₂' : List ℤ} {work₁' work₂' : List ℕ}
    → GreyIn file n out work a₁ out₁' work₁' → GreyIn file n out work a₂ out₂' work₂' → (a₁ ≡ a₂) × (out₁' ≡ out₂') × (work₁' ≡ work₂')
grey_in_determined x y = grey_in_isolated x y refl refl

pub grey_out_determined : {pyramid : List ℤ} {z : Size} {out work : List ℕ} {a₁ a₂ : GreyWritten} {out₁' out₂' work₁' work₂' : List ℕ}
    → GreyOut pyramid z out work a₁ out₁' work₁' → GreyOut pyramid z out work a₂ out₂' work₂' → (a₁ ≡ a₂) × (out₁' ≡ out₂') × (work₁' ≡ work₂')
grey_out_determined x y = grey_out_isolated x y refl refl

pub grey_size_determined : {file : List ℕ} {a₁ a₂ : GreyRead} → GreySize file a₁ → GreySize file a₂ → a₁ ≡ a₂
grey_size_determined x y = x.answers ∙ sym y.answers

pub afs_grey_in_determined : {file : List ℕ} {n : ℕ} {out : List ℤ} {work answer : List ℕ} {n₁ n₂ : ℕ} {out₁' out₂' : List ℤ}
    {work₁' work₂' answer₁' answer₂' : List ℕ}
    → AfsGreyIn file n out work answer n₁ out₁' work₁' answer₁' → AfsGreyIn file n out work answer n₂ out₂' work₂' answer₂'
    → (n₁ ≡ n₂) × (out₁' ≡ out₂') × (work₁' ≡ work₂') × (answer₁' ≡ answer₂')
afs_grey_in_determined x y = afs_grey_in_isolated x y refl refl refl

pub afs_grey_out_determined : {pyramid : List ℤ} {z : Size} {out work answer : List ℕ} {n₁ n₂ : ℕ} {out₁' out₂' work₁' work₂' answer₁' answer₂' : List ℕ}
    → AfsGreyOut pyramid z out work answer n₁ out₁' work₁' answer₁' → AfsGreyOut pyramid z out work answer n₂ out₂' work₂' answer₂'
    → (n₁ ≡ n₂) × (out₁' ≡ out₂') × (work₁' ≡ work₂') × (answer₁' ≡ answer₂')
afs_grey_out_determined x y = afs_grey_out_isolated x y refl refl refl

pub afs_grey_size_determined : {file answer : List ℕ} {n₁ n₂ : ℕ} {answer₁' answer₂' : List ℕ}
    → AfsGreySize file answer n₁ answer₁' → AfsGreySize file answer n₂ answer₂' → (n₁ ≡ n₂) × (answer₁' ≡ answer₂')
afs_grey_size_determined x y = afs_grey_size_isolated x y refl
