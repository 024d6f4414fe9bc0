use Rattle.std.specs.Prelude.{Ok, Err}
-- From the walk in tree order to document 01's: it stops at the same part, or its pyramid is what was drawn, laid out.
use mathlib.Core.Path.{◌≡◌, refl, ap, ap₂, sym, ◌∙◌, subst}
use mathlib.Core.List.{List, [], ◌∷◌, ◌++◌, map}
use Prim.Native.Nat.{ℕ, ◌<◌}
use native.Mathlib.Omega.{arith}
use native.Mathlib.Decide.{dec_lt}
use lib.ListN.{length, replicate}
use lib.IntN.{ℤ, pos}
use lib.Seq.{ext_get_or}
use Rattle.rules.specs.declared.Size.{Size}
use Rattle.rules.specs.declared.Header.{Header}
use Rattle.rules.specs.declared.Part.{Part}
use Rattle.rules.specs.Document.Numbers.{PartRead}
use Rattle.rules.specs.declared.Piece.TheVariants as part
use Rattle.rules.specs.Document.Pyramid.{area}
use Rattle.rules.specs.Document.Passes.{State, start, from}
use Rattle.rules.specs.Document.Calls.{Progress, going, unfit, decode_parts, tail_onward}
use Rattle.rules.specs.Promises.Vocabulary.{Legal}
use Rattle.rules.specs.Laws.Counting.Sums.{All}
use Rattle.rules.proofs.Laws.Counting.Sums.{all_then, from_length, from_all}
use Rattle.trees.specs.Family.{trees, coefficient_of}
use Rattle.trees.proofs.Family.{coefficient_out}
use Rattle.trees.specs.Run.{number_of}
use Rattle.trees.proofs.Run.{coefficient_number, number_area}
use Rattle.trees.specs.Decoding.{Laid, Same, onward_of, decode_parts_of, tail_onward_of}
use Rattle.trees.proofs.Decoding.{laid_out, decoded_trees}
use Rattle.coefficients.specs.Words.{value_of, value_zero}
use Rattle.stretches.specs.Workspace.{word_in, drawn_in, drawn_length}
use Rattle.decoder.specs.Walking.{LaysOut, names, begin, walked, tail_walked}

-- What is drawn: a value for each coefficient, all 0 at first.
blanks : (f : ℕ → ℤ) (xs : List ℕ) → All (λ x. f x ≡ pos 0) xs → map f xs ≡ replicate (length xs) (pos 0)
unfolding All
blanks f [] a = refl
blanks f (x ∷ xs) a = ap₂ ◌∷◌ a.0 (blanks f xs a.1)

module _ (z : Size) (work : List ℕ) where
  pub drawn_blank : ((x : ℕ) → x < area z → word_in z work x ≡ 0) → drawn_in z work ≡ replicate (area z) (pos 0)
  unfolding drawn_in
  drawn_blank e =
      blanks (λ x. value_of (word_in z work x)) (from 0 (area z))
      (all_then _ _ (from 0 (area z)) (λ x i. ap value_of (e x (omega arith)) ∙ value_zero) (from_all 0 (area z)))
      ∙ ap (λ (n : ℕ). replicate n (pos 0)) (from_length 0 (area z))

-- A pyramid is laid out in one way only.
module _ (z : Size) (Z : Legal z) (work : List ℕ) (v : List ℤ) (l : Laid (coefficient_of z) v (drawn_in z work)) where
  laid_length : length v ≡ area z
  laid_length = by (dec_lt (length v) (area z)) (dec_lt (area z) (length v))
    where
      n : length (drawn_in z work) ≡ area z
      n = drawn_length z work

      by : Dec (length v < area z) → Dec (area z < length v) → length v ≡ area z
      by (yes h) d =
          absurd (omega (arith, (l.inside (number_of z (length v))).0 (omega (arith, n, number_area z Z (length v) h)), coefficient_number z Z (length v) h))
      by (no h) (yes d) = absurd (omega (arith, n, (l.inside (area z)).1 (omega (arith, coefficient_out z Z (area z) (omega arith)))))
      by (no h) (no d) = omega arith

  laid_same : (out : List ℤ) → length out ≡ area z → LaysOut z work out → v ≡ out
  laid_same out m e =
      ext_get_or (pos 0) v out (laid_length ∙ sym m)
      (λ q h. let i : q < area z = omega (arith, laid_length) in laid_out z Z v (drawn_in z work) l q i ∙ sym (e q i))

-- The walk in tree order, part by part.
module _ (h : Header) (s : List ℕ) where
  pub walked_append : (ps qs : List Part) (g : Progress) → walked h s (ps ++ qs) g ≡ walked h s qs (walked h s ps g)
  unfolding decode_parts_of
  walked_append [] qs g = refl
  walked_append (p ∷ ps) qs g = walked_append ps qs (onward_of (trees h.size) h s (names h s) p g)

  pub walked_unfit : (ps : List Part) (at : ℕ) → walked h s ps (unfit at) ≡ unfit at
  unfolding decode_parts_of onward_of
  walked_unfit [] at = refl
  walked_unfit (p ∷ ps) at = walked_unfit ps at

  -- what is behind the parts, x, can't be used any more
  pub tail_unfit : (x : PartRead) (at : ℕ) → tail_walked h s x (unfit at) ≡ unfit at
  unfolding tail_onward_of
  tail_unfit (Ok (part.Part p)) at = refl
  tail_unfit (Ok (part.Cut p)) at = refl
  tail_unfit (Ok part.Tail) at = refl
  tail_unfit (Err r) at = refl

  module _ (Z : Legal h.size) (ps : List Part) (x : PartRead) where
    abbrev defined : Progress
    defined = tail_onward h s (names h s) x (decode_parts h s (names h s) ps (going (start h.size) (replicate (area h.size) (pos 0))))

    same_as : {g : Progress} → tail_walked h s x (walked h s ps (begin h)) ≡ g → Same (coefficient_of h.size) defined g
    same_as e = subst (Same (coefficient_of h.size) defined) e (decoded_trees h Z s (names h s) ps x)

    pub defined_unfit : (at : ℕ) → tail_walked h s x (walked h s ps (begin h)) ≡ unfit at → defined ≡ unfit at
    unfolding Same
    defined_unfit at e = cases defined refl (same_as e)
      where
        cases : (g : Progress) → defined ≡ g → Same (coefficient_of h.size) g (unfit at) → defined ≡ unfit at
        cases (going st v) i m = absurd m
        cases (unfit b) i m = i ∙ ap unfit m

    pub record Defined (work : List ℕ) : Type 0 where
      pub lists : State
      pub pyramid : List ℤ
      pub goes : defined ≡ going lists pyramid
      pub laid : Laid (coefficient_of h.size) pyramid (drawn_in h.size work)

    pub defined_going : (st : State) (work : List ℕ) → tail_walked h s x (walked h s ps (begin h)) ≡ going st (drawn_in h.size work) → Defined work
    unfolding Same
    defined_going st work e = cases defined refl (same_as e)
      where
        cases : (g : Progress) → defined ≡ g → Same (coefficient_of h.size) g (going st (drawn_in h.size work)) → Defined work
        cases (going su v) i m = record { lists = su; pyramid = v; goes = i; laid = m.1 }
        cases (unfit b) i m = absurd m

    pub defined_out : (work : List ℕ) (d : Defined work) (out : List ℤ) → length out ≡ area h.size → LaysOut h.size work out
        → defined ≡ going d.lists out
    defined_out work d out m e = d.goes ∙ ap (going d.lists) (laid_same h.size Z work d.pyramid d.laid out m e)
