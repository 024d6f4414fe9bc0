-- What a search through a pyramid finds, and how many planes a magnitude has.
use Rattle.std.proofs.Common.{◌≡◌, refl, List, [], ◌∷◌, ℕ, ◌-◌, ◌^◌, ◌<◌, ◌≤◌, Bool, not, cond, ltb, max, ℤ, nat_abs, length, Some, None, unwrap_or}
use Rattle.std.proofs.Common.{ap, ◌∙◌, arith}
use Rattle.std.specs.List.{fold, position}
use Rattle.std.specs.Int.Count.{count_leading_zeros}
use Rattle.std.proofs.lemmas.Bool.Decides.{nat_tests}
use Rattle.std.proofs.lemmas.List.Recursion.{is_position_or_len}
use Rattle.std.proofs.lemmas.List.Sums.{prefix_len-le-length}
use Rattle.std.proofs.lemmas.Nat.{leading_length}
use Rattle.rules.specs.Document.Notation.{greatest, lowest}
use Rattle.rules.specs.Document.Pyramid.{magnitude, planes_of}
use Rattle.rules.specs.Document.Calls.{first_over}
use Rattle.rules.proofs.Laws.Rounding.Planes.{counts_once, planes_of_counts}

-- a place found, or the end
or_end : (n l : ℕ) → n ≤ l → n ≡ unwrap_or (cond (ltb n l) (Some n) None) l
or_end n l h = grind (arith, nat_tests)

pub first_over_position : (most : ℕ) (pyramid : List ℤ)
    → first_over most pyramid ≡ unwrap_or (position (λ v. ltb most (nat_abs v)) pyramid) (length pyramid)
unfolding first_over lowest magnitude
first_over_position most pyramid =
    let over : ℤ → Bool = λ v. ltb most (nat_abs v) in
    is_position_or_len (first_over most) over refl (λ x xs. ap (cond (over x) 0) (omega arith)) pyramid
    ∙ or_end _ _ (prefix_len-le-length (λ v. not (over v)) pyramid)

-- the largest so far and the rest give the largest of all
fold_onward : {X : Type 0} (m : X → ℕ) (a : ℕ) (xs : List X) → fold (λ b x. max b (m x)) a xs ≡ max a (greatest m xs)
unfolding greatest
fold_onward m a [] = omega arith
fold_onward m a (x ∷ xs) = omega (arith, fold_onward m (max a (m x)) xs)

pub fold_greatest : {X : Type 0} (m : X → ℕ) (xs : List X) → fold (λ b x. max b (m x)) 0 xs ≡ greatest m xs
fold_greatest m xs = omega (arith, fold_onward m 0 xs)

-- The planes of m are as many as it has bits: what is left of 32 without the zeros in front.
pub planes_left : (m : ℕ) → m < 2 ^ 32 → 32 - count_leading_zeros 32 m ≡ planes_of m
planes_left m h =
    let l = leading_length 32 m h in
    let same : l.0 ≡ planes_of m = counts_once m (record { enough = l.2; least = l.3 }) (planes_of_counts m h) in
    omega (arith, l.1, same)
