-- Step 2 of a pass without its bound on the visits: `turns` is enough of them, so each visit of a set is one equation.
use Rattle.std.specs.Prelude.{◌≡◌, Bool}
use Rattle.std.proofs.Math.Path.{refl, ap, fun_ext}
use Rattle.std.proofs.Common.{◌∙◌}
use mathlib.Core.List.{List, [], ◌∷◌, ◌++◌, map}
use Rattle.std.proofs.Math.Bool.{true, false}
use Prim.Native.Nat.{ℕ, zero, suc, ◌+◌, ◌*◌, ◌≤◌}
use native.Mathlib.Omega.{arith}
use Rattle.std.proofs.Math.Nat.{le_refl}
use Rattle.std.proofs.Math.ListN.{length, length-append}
use Rattle.rules.specs.Document.Notation.{flat, if_any}
use Rattle.rules.specs.Document.Pyramid.{Family}
use Rattle.rules.specs.Document.Passes.{Entry, typeA, typeB, set?, stays, moves, Talk, ask, tell, members, in_level, tests, opened}
use Rattle.rules.specs.Document.Passes.{added, weighed, visited, visits, turns, sets}
use Rattle.rules.specs.Laws.Family.Lawful.{Lawful}
use Rattle.rules.proofs.Promises.Cases.{cases_hold}

-- turns
module _ (F : Family) where
  turns_append : (xs ys : List Entry) → turns F (xs ++ ys) ≡ turns F xs + turns F ys
  unfolding turns
  turns_append [] ys = omega arith
  turns_append (typeA p ∷ xs) ys = omega (arith, turns_append xs ys)
  turns_append (typeB p ∷ xs) ys = omega (arith, turns_append xs ys)

  turns_if_any : (e : Entry) (xs : List ℕ) → turns F (if_any xs (e ∷ [])) ≤ turns F (e ∷ [])
  unfolding if_any turns
  turns_if_any (typeA p) [] = omega arith
  turns_if_any (typeB p) [] = omega arith
  turns_if_any e (x ∷ xs) = le_refl _

  turns_type_a : (ps : List ℕ) → turns F (map typeA ps) ≡ 2 * length (flat F.descendants ps) + 2 * length ps
  unfolding turns members flat
  turns_type_a [] = refl
  turns_type_a (p ∷ ps) = omega (arith, turns_type_a ps, length-append (F.descendants p) (flat F.descendants ps))

  -- a visit spends one
  pub turns_some : (e : Entry) (es : List Entry) → turns F es + 1 ≤ turns F (e ∷ es)
  unfolding turns
  turns_some (typeA p) es = omega arith
  turns_some (typeB p) es = omega arith

  -- it goes on with the same entries where the set stays or moves, and with those added where it opens
  visited_same : (e : Entry) (es : List Entry) (f g : List Entry → Talk) (b : Bool) → f es ≡ g es → f (es ++ added F e) ≡ g (es ++ added F e)
      → visited F e es f b ≡ visited F e es g b
  unfolding visited weighed
  visited_same e es f g false h i = ap (tell (moves e)) h
  visited_same e es f g true h i = ap (ask (set? e)) (fun_ext by)
    where
      by : (b : Bool) → weighed F e es f b ≡ weighed F e es g b
      by false = ap (tell (stays e)) h
      by true = ap (tests F (opened F e)) i

module _ {F : Family} (L : Lawful F) where
  -- what an opened set adds needs no more than is left of what the set had
  turns_added : (e : Entry) → turns F (added F e) + 1 ≤ turns F (e ∷ [])
  unfolding added turns members
  turns_added (typeA p) =
      let l : List ℕ = flat F.descendants (F.offspring p) in
      omega (arith, turns_if_any F (typeB p) l, ap length (L.unfolds p), length-append (F.offspring p) l)
  turns_added (typeB p) = omega (arith, turns_type_a F (F.offspring p))

  pub turns_opened : (e : Entry) (es : List Entry) → turns F (es ++ added F e) + 1 ≤ turns F (e ∷ es)
  turns_opened e es = omega (arith, turns_append F es (added F e), turns_append F (e ∷ []) es, turns_added e)

  visits_enough : (k t u : ℕ) (es : List Entry) (next : Talk) → turns F es ≤ t → turns F es ≤ u → visits F k t es next ≡ visits F k u es next
  unfolding visits
  visits_enough k zero zero es next a b = refl
  visits_enough k zero (suc u) [] next a b = refl
  visits_enough k zero (suc u) (e ∷ es) next a b = absurd (omega (arith, turns_some F e es))
  visits_enough k (suc t) zero [] next a b = refl
  visits_enough k (suc t) zero (e ∷ es) next a b = absurd (omega (arith, turns_some F e es))
  visits_enough k (suc t) (suc u) [] next a b = refl
  visits_enough k (suc t) (suc u) (e ∷ es) next a b =
      visited_same F e es (λ rest. visits F k t rest next) (λ rest. visits F k u rest next) (in_level F k e)
      (visits_enough k t u es next (omega (arith, turns_some F e es)) (omega (arith, turns_some F e es)))
      (visits_enough k t u (es ++ added F e) next (omega (arith, turns_opened e es)) (omega (arith, turns_opened e es)))

-- sets
pub sets_none : (F : Family) (k : ℕ) (next : Talk) → sets F k [] next ≡ next
unfolding sets visits turns
sets_none F k next = refl

module _ {F : Family} (L : Lawful F) (k : ℕ) (e : Entry) (es : List Entry) (next : Talk) where
  sets_one : sets F k (e ∷ es) next ≡ visited F e es (λ rest. sets F k rest next) (in_level F k e)
  unfolding sets visits
  sets_one =
      let t : ℕ = turns F (e ∷ es) in
      visits_enough L k t (suc t) (e ∷ es) next (le_refl _) (omega arith)
      ∙ visited_same F e es (λ rest. visits F k t rest next) (λ rest. sets F k rest next) (in_level F k e)
      (visits_enough L k t (turns F es) es next (omega (arith, turns_some F e es)) (le_refl _))
      (visits_enough L k t (turns F (es ++ added F e)) (es ++ added F e) next (omega (arith, turns_opened L e es)) (le_refl _))

  pub sets_moves : in_level F k e ≡ false → sets F k (e ∷ es) next ≡ tell (moves e) (sets F k es next)
  unfolding visited
  sets_moves h = sets_one ∙ ap (visited F e es (λ rest. sets F k rest next)) h

  pub sets_asks : in_level F k e ≡ true → sets F k (e ∷ es) next ≡ ask (set? e) (weighed F e es (λ rest. sets F k rest next))
  unfolding visited
  sets_asks h = sets_one ∙ ap (visited F e es (λ rest. sets F k rest next)) h
