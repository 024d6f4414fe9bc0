-- Whatever arrives can be looked at: the way back never answers 4 to what decoding gave, of any bytes.
use Rattle.std.specs.Prelude.{◌≡◌, List, Bool, true, false, ℕ, leb, eqb, length, ℤ}
use Rattle.std.proofs.Common.{arith, eq-eqb}
use Rattle.rules.specs.declared.Size.{Size}
use Rattle.rules.specs.declared.Refusal.TheVariants as refusal
use Rattle.rules.specs.Document.Pyramid.{legal_size, area}
use Rattle.rules.specs.Document.Calls.{refused, accepted, unless, work_for, first_over, Picture, decoding}
use Rattle.rules.proofs.Laws.Rounding.Planes.{none_over}
use Rattle.rules.proofs.Laws.Rounding.Magnitudes.{decoded_most}
use Rattle.pictures.specs.Document.Lifting.{picture_of}
use Rattle.pictures.specs.Document.Calls.{most_decoded, print_of, printed, grey_out}

-- where the range is kept, every other refusal of the way back is another one
not_range : {X : Type 0} (x : X) (k q : ℕ) (size long space fits : Bool)
    → unless size refusal.Size (unless long refusal.Length (unless space refusal.Work
    (unless true (refusal.Range k) (unless fits refusal.Room (accepted x))))) ≡ refused (refusal.Range q)
    → ◌≡◌ {A = ℕ} 0 1
unfolding unless
not_range x k q false long space fits e = cc
not_range x k q true false space fits e = cc
not_range x k q true true false fits e = cc
not_range x k q true true true false e = cc
not_range x k q true true true true e = cc

pub decoded_prints : (s : List ℕ) (room work : ℕ) (x : Picture) → decoding s room work ≡ accepted x
    → (z : Size) (paper space q : ℕ) → grey_out x.pyramid z paper space ≡ refused (refusal.Range q) → ⊥
unfolding grey_out printed
decoded_prints s room work x e z paper space q h =
    let y : List ℤ = x.pyramid in
    let range : first_over most_decoded y ≡ length y = none_over most_decoded y (λ i l. decoded_most s room work x e i) in
    let none : ◌≡◌ {A = ℕ} 0 1 =
    not_range (print_of z (picture_of z y)) (first_over most_decoded y) q (legal_size z) (eqb (length y) (area z)) (leb (work_for z) space)
    (leb (length (print_of z (picture_of z y)).file) paper)
    (rw (eq-eqb (first_over most_decoded y) (length y) range) at h) in
    omega arith
