-- Any two outcomes that joining's relation allows coincide. Isolation: so do those of two calls whose outputs and answer slices have the same lengths,
-- whatever they held before; so nothing of that remains.
use Rattle.std.specs.Prelude.{◌≡◌, refl, List, ℕ, length}
use Rattle.std.proofs.Common.{sym, ◌∙◌}
use Rattle.rules.specs.Document.Calls.{Coded}
use Rattle.rules.specs.Document.Calls.{returned, reported, lent_out}
use Rattle.joins.specs.Document.Joining.{Joining, AfsJoin}

pub joining_isolated : {a b out₁ out₂ : List ℕ} {a₁ a₂ : Coded} {out₁' out₂' : List ℕ} → Joining a b out₁ a₁ out₁' → Joining a b out₂ a₂ out₂'
    → length out₁ ≡ length out₂ → (a₁ ≡ a₂) × (out₁' ≡ out₂')
joining_isolated x y o = (x.answers ∙ rw o (sym y.answers), x.writes ∙ rw o (sym y.writes))

pub afs_join_isolated : {a b out₁ out₂ answer₁ answer₂ : List ℕ} {n₁ n₂ : ℕ} {out₁' out₂' answer₁' answer₂' : List ℕ}
    → AfsJoin a b out₁ answer₁ n₁ out₁' answer₁' → AfsJoin a b out₂ answer₂ n₂ out₂' answer₂'
    → length out₁ ≡ length out₂ → length answer₁ ≡ length answer₂ → (n₁ ≡ n₂) × (out₁' ≡ out₂') × (answer₁' ≡ answer₂')
unfolding returned reported lent_out
afs_join_isolated x y o l = (
  x.returns ∙ rw (o, l) (sym y.returns),
  x.writes ∙ rw (o, l) (sym y.writes),
  x.reports ∙ rw (o, l) (sym y.reports),
)

-- Determinacy: the same call, lent the same.
pub joining_determined : {a b out : List ℕ} {a₁ a₂ : Coded} {out₁' out₂' : List ℕ} → Joining a b out a₁ out₁' → Joining a b out a₂ out₂'
    → (a₁ ≡ a₂) × (out₁' ≡ out₂')
joining_determined x y = joining_isolated x y refl

pub afs_join_determined : {a b out answer : List ℕ} {n₁ n₂ : ℕ} {out₁' out₂' answer₁' answer₂' : List ℕ}
    → AfsJoin a b out answer n₁ out₁' answer₁' → AfsJoin a b out answer n₂ out₂' answer₂' → (n₁ ≡ n₂) × (out₁' ≡ out₂') × (answer₁' ≡ answer₂')
afs_join_determined x y = afs_join_isolated x y refl refl
