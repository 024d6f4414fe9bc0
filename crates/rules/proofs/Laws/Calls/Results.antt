-- What comes of a test, a header and an ending, for whatever is claimed of a result; and a call that was accepted passed each of them.
use Rattle.std.proofs.Math.Path.{◌≡◌, refl}
use Rattle.std.specs.Prelude.{Bool, ℕ, ◌≤◌, Ok, Err}
use Rattle.std.proofs.Math.Bool.{true, false}
use Rattle.std.proofs.Common.{arith}
use Rattle.rules.specs.declared.Refusal.{Refusal}
use Rattle.rules.specs.declared.Refusal.TheVariants as refusal
use Rattle.rules.specs.declared.Header.{Header}
use Rattle.rules.specs.Document.Numbers.{refusal_number, verdict_number, Ending, tail, fault, Accepted, Refused, Verdict, HeaderRead}
use Rattle.rules.specs.Document.Calls.{Result, refused, accepted, unless, on_header, on_ending}
use Rattle.rules.proofs.Promises.Cases.{cases_hold}

module _ {X : Type 0} (P : Result X → Type 0) where
  pub unless_case : (b : Bool) (r : Refusal) (x : Result X) → (b ≡ false → P (refused r)) → (b ≡ true → P x) → P (unless b r x)
  unfolding unless
  unless_case true r x bad on = on refl
  unless_case false r x bad on = bad refl

  pub on_header_case : (y : HeaderRead) (go : Header → Result X) → ((r : Refusal) → y ≡ Err r → P (refused r))
      → ((h : Header) → y ≡ Ok h → P (go h)) → P (on_header y go)
  unfolding on_header
  on_header_case (Ok h) go bad on = on h refl
  on_header_case (Err r) go bad on = bad r refl

  pub on_ending_case : (y : Ending) (go : ℕ → Result X) → ((r : Refusal) → y ≡ fault r → P (refused r)) → ((t : ℕ) → y ≡ tail t → P (go t))
      → P (on_ending y go)
  unfolding on_ending
  on_ending_case (tail t) go bad on = on t refl
  on_ending_case (fault r) go bad on = bad r refl

module _ {X : Type 0} where
  pub accepted_same : {x y : X} → accepted x ≡ accepted y → x ≡ y
  accepted_same e = cc

  pub unless_accepted : (b : Bool) (r : Refusal) (y : Result X) (x : X) → unless b r y ≡ accepted x → (b ≡ true) × (y ≡ accepted x)
  unfolding unless
  unless_accepted true r y x e = (refl, e)
  unless_accepted false r y x e = absurd (let z : ◌≡◌ {A = ℕ} 0 1 = cc in omega arith)

  pub on_header_accepted : (y : HeaderRead) (go : Header → Result X) (x : X) → on_header y go ≡ accepted x
      → (h : Header) × (y ≡ Ok h) × (go h ≡ accepted x)
  unfolding on_header
  on_header_accepted (Ok h) go x e = (h, refl, e)
  on_header_accepted (Err r) go x e = absurd (let z : ◌≡◌ {A = ℕ} 0 1 = cc in omega arith)

  pub on_ending_accepted : (y : Ending) (go : ℕ → Result X) (x : X) → on_ending y go ≡ accepted x → (t : ℕ) × (y ≡ tail t) × (go t ≡ accepted x)
  unfolding on_ending
  on_ending_accepted (tail t) go x e = (t, refl, e)
  on_ending_accepted (fault r) go x e = absurd (let z : ◌≡◌ {A = ℕ} 0 1 = cc in omega arith)

-- No refusal has the number 0.
pub refusal_some : (r : Refusal) → 1 ≤ refusal_number r
refusal_some refusal.Size = omega arith
refusal_some refusal.Length = omega arith
refusal_some refusal.Work = omega arith
refusal_some (refusal.Range i) = omega arith
refusal_some refusal.Room = omega arith
refusal_some (refusal.Head i) = omega arith
refusal_some refusal.Version = omega arith
refusal_some (refusal.Part i) = omega arith
refusal_some (refusal.Pad i) = omega arith
refusal_some (refusal.Fit i) = omega arith
refusal_some refusal.Ask = omega arith
refusal_some (refusal.LongForm i) = omega arith
refusal_some refusal.Grey = omega arith
refusal_some refusal.Mixed = omega arith
refusal_some (refusal.Clash i) = omega arith

pub number_accepts : (v : Verdict) → verdict_number v ≡ 0 → v ≡ Accepted
number_accepts Accepted e = refl
number_accepts (Refused r) e = absurd (omega (arith, refusal_some r))
