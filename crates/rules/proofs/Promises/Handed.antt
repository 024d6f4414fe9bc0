-- What a routine hands back is one, too: where two are the same answer, they are the same.
use Rattle.std.specs.Prelude.{◌≡◌, ℕ, Result, Ok, Err}
use Rattle.std.proofs.Common.{ap, arith}
use Rattle.rules.specs.declared.Refusal.{Refusal}
use Rattle.rules.specs.declared.Extent.{Extent}
use Rattle.rules.specs.declared.Reach.{Reach}
use Rattle.rules.specs.Document.Numbers.{Accepted, Refused}
use Rattle.rules.specs.Document.Calls.{Served, Decoded}
use Rattle.rules.specs.Document.Answers.{as_coded, as_served, as_decoded}

pub refused_once : {r q : Refusal} → Refused r ≡ Refused q → r ≡ q
refused_once e = cc

pub accepted_refused : {r : Refusal} → Accepted ≡ Refused r → ◌≡◌ {A = ℕ} 0 1
accepted_refused e = cc

pub refused_accepted : {r : Refusal} → Refused r ≡ Accepted → ◌≡◌ {A = ℕ} 0 1
refused_accepted e = cc

pub as_coded_once : (x y : Result ℕ Refusal) → as_coded x ≡ as_coded y → x ≡ y
unfolding as_coded
as_coded_once (Ok m) (Ok n) e = ap Ok (ap (λ a. a.length) e)
as_coded_once (Ok m) (Err q) e = absurd (omega (arith, accepted_refused (ap (λ a. a.verdict) e)))
as_coded_once (Err r) (Ok n) e = absurd (omega (arith, refused_accepted (ap (λ a. a.verdict) e)))
as_coded_once (Err r) (Err q) e = ap Err (refused_once (ap (λ a. a.verdict) e))

pub as_served_once : (x y : Result Extent Refusal) → as_served x ≡ as_served y → x ≡ y
unfolding as_served
as_served_once (Ok m) (Ok n) e = ap (λ (a : Served). Ok (record { length = a.length; tail = a.tail })) e
as_served_once (Ok m) (Err q) e = absurd (omega (arith, accepted_refused (ap (λ a. a.verdict) e)))
as_served_once (Err r) (Ok n) e = absurd (omega (arith, refused_accepted (ap (λ a. a.verdict) e)))
as_served_once (Err r) (Err q) e = ap Err (refused_once (ap (λ a. a.verdict) e))

pub as_decoded_once : (x y : Result Reach Refusal) → as_decoded x ≡ as_decoded y → x ≡ y
unfolding as_decoded
as_decoded_once (Ok m) (Ok n) e = ap (λ (a : Decoded). Ok (record { tail = a.tail; reached = a.reached; skipped = a.skipped })) e
as_decoded_once (Ok m) (Err q) e = absurd (omega (arith, accepted_refused (ap (λ a. a.verdict) e)))
as_decoded_once (Err r) (Ok n) e = absurd (omega (arith, refused_accepted (ap (λ a. a.verdict) e)))
as_decoded_once (Err r) (Err q) e = ap Err (refused_once (ap (λ a. a.verdict) e))
