-- A part that was run by the coder: for every pyramid that the workspace holds, the stretch answers as document 01's coder does, and the bits are its
-- bits.
use mathlib.Core.Path.{◌≡◌, refl, sym, ap, ap₂, ◌∙◌}
use mathlib.Core.List.{List, [], ◌∷◌, ◌++◌}
use mathlib.Core.Bool.{Bool}
use Prim.Native.Nat.{ℕ, suc, ◌+◌, ◌-◌, ◌*◌, ◌/◌, ◌%◌, ◌≤◌, ◌<◌, ◌^◌}
use native.Mathlib.Nat.{add-zero}
use native.Mathlib.Omega.{arith}
use lib.Dec.{leb, ltb, eqb}
use lib.ListN.{length, length-append, get_or}
use lib.IntN.{ℤ, pos, nat_abs}
use borrow.Author.Tests.{le-leb}
use Rattle.rules.specs.declared.Size.{Size}
use Rattle.rules.specs.declared.Plane.{Plane}
use Rattle.rules.specs.declared.Level.{Level}
use Rattle.bits.specs.declared.BitPosition.{BitPosition}
use Rattle.bits.specs.Bits.{set_bit, write_bits}
use Rattle.bits.specs.Written.{write_bits_append}
use Rattle.rules.specs.Document.Notation.{greatest}
use Rattle.rules.specs.Document.Pyramid.{area, most_planes, magnitude, negative, below0}
use Rattle.rules.specs.Document.Passes.{Entry, typeA, typeB, members, Question, significant?, negative?, bit?, set?, Course, State, truth}
use Rattle.rules.specs.Document.Passes.{coder, coded}
use Rattle.rules.specs.Laws.Family.Sizes.{span, level_start, level_size}
use Rattle.rules.proofs.Laws.Family.Sizes.{level_size_fine, span_quarter}
use Rattle.rules.specs.Laws.Pass.Levels.{Met}
use Rattle.rules.specs.Promises.Vocabulary.{Legal}
use Rattle.trees.specs.Family.{tree_level, trees, coefficient_of}
use Rattle.trees.proofs.Lawful.{trees_lawful}
use Rattle.trees.specs.Measure.{kept_of}
use Rattle.trees.proofs.Measure.{kept_set}
use Rattle.trees.proofs.Sound.{tree_level_area}
use Rattle.trees.specs.Within.{QuestionOf, EventOf, Agreeing, Related}
use Rattle.trees.proofs.Within.{passed_related, after_related}
use Rattle.coefficients.specs.Words.{worded, magnitude_word, negative_word, magnitude_word_lem, negative_word_lem}
use Rattle.stretches.specs.Cut.{values_in, largest_d, largest_l, stretch_of}
use Rattle.stretches.specs.Workspace.{word_in, maximum_in, Maxima, Holds}
use Rattle.lists.specs.declared.Role.TheVariants.{Codes}
use Rattle.testing.specs.declared.Run.{Run}
use Rattle.testing.specs.Exchange.{Chan, chan, word_at, largest_at, words_tell, answer, noted, side}
use Rattle.parts.specs.declared.Counts.{Counts}
use Rattle.parts.specs.declared.Passed.{Passed}
use Rattle.parts.specs.Standing.{state_of, Ready, course_c, CodedFrom, PartCoded}
use Rattle.parts.specs.Workspace.{run_of, course_in, PartRun}
use Rattle.stretches.specs.Levels.{level_place, level_some, word_in_lem}
use Rattle.parts.proofs.Nodes.{type_a_place, type_b_place}
use Rattle.parts.proofs.Growing.{word_here}

-- a word's magnitude and sign
worded_half : (v : ℤ) → worded v / 2 ≡ nat_abs v
unfolding worded magnitude_word
worded_half v = magnitude_word_lem (below0 v) (nat_abs v)

worded_odd : (v : ℤ) → eqb (worded v % 2) 1 ≡ below0 v
unfolding worded negative_word
worded_odd v = negative_word_lem (below0 v) (nat_abs v)

-- The coder's bits as the bytes have them.
abbrev put : List ℕ → List ℕ → ℕ → List Bool → Chan
put out vs at bits = chan (write_bits out at bits) vs (at + length bits)

put_none : (out vs : List ℕ) (at : ℕ) → chan out vs at ≡ put out vs at []
unfolding write_bits
put_none out vs at = ap (chan out vs) (sym (add-zero at))

written_one : (out : List ℕ) (t : ℕ) (b : Bool) → write_bits out t (b ∷ []) ≡ set_bit out t b
unfolding write_bits
written_one out t b = refl

put_next : (out vs : List ℕ) (at : ℕ) (bits : List Bool) (b : Bool)
    → chan (set_bit (write_bits out at bits) (at + length bits) b) vs (at + length bits + 1) ≡ put out vs at (bits ++ (b ∷ []))
put_next out vs at bits b =
    let m : at + length bits + 1 ≡ at + length (bits ++ (b ∷ [])) = omega (arith, length-append bits (b ∷ [])) in
    ap₂ (λ x i. chan x vs i) (sym (write_bits_append out at bits (b ∷ []) ∙ written_one (write_bits out at bits) (at + length bits) b)) m

module _ (z : Size) (Z : Legal z) (plane : Plane) (level : Level) (counts : Counts) (at : BitPosition) (work : List ℕ) (a : 1 ≤ level.0) where
  abbrev R : Run
  R = run_of Codes z plane level counts at at

  abbrev k : ℕ
  k = level.0

  abbrev s : List ℕ
  s = stretch_of z k work

  module _ (low : plane.0 < most_planes) {v : List ℤ} (H : Holds z v work) where
    abbrev mag : ℕ → ℕ
    mag x = magnitude v (coefficient_of z x)

    abbrev neg : ℕ → Bool
    neg x = negative v (coefficient_of z x)

    word_worded : (x : ℕ) → tree_level z x ≡ k → word_at R s x ≡ worded (get_or v (coefficient_of z x) (pos 0))
    word_worded x e = word_here z Z work k x e a ∙ H.words x (tree_level_area z Z x (omega arith))

    largest_kept : (e : Entry) → Met (trees z) k e → largest_at R s e ≡ greatest (λ x. kept_of (mag x)) (members (trees z) e)
    unfolding largest_at kept_of maximum_in largest_d largest_l
    largest_kept (typeA x) m =
        let p = type_a_place z Z k x m in
        rw (le-leb (span z (k + 1)) x p.1) (H.maxima.of_d k x a p.0 p.1 p.2)
    largest_kept (typeB x) m =
        let p = type_b_place z Z k x m in
        rw (le-leb (span z (k + 2)) x p.1) (H.maxima.of_l k x a p.0 p.1 p.2)

    answers : (q : Question) → QuestionOf (trees z) k q → answer R s q ≡ truth (trees z) mag neg plane.0 q
    unfolding answer words_tell truth QuestionOf magnitude negative
    answers (significant? x) h =
        ap (λ (w : ℕ). leb (2 ^ plane.0) (w / 2)) (word_worded x h) ∙ ap (λ (m : ℕ). leb (2 ^ plane.0) m) (worded_half _)
    answers (negative? x) h = ap (λ (w : ℕ). eqb (w % 2) 1) (word_worded x h) ∙ worded_odd _
    answers (bit? x) h =
        ap (λ (w : ℕ). eqb (w / 2 / 2 ^ plane.0 % 2) 1) (word_worded x h) ∙ ap (λ (m : ℕ). eqb (m / 2 ^ plane.0 % 2) 1) (worded_half _)
    answers (set? e) h =
        ap (λ (m : ℕ). ltb (plane.0 + 1) m) (largest_kept e h) ∙ sym (kept_set plane.0 (omega (arith, low)) (trees z) mag neg e)

    module _ (body out vs : List ℕ) where
      abbrev Puts : Chan → List Bool → Type 0
      Puts c bits = c ≡ put out vs at.at bits

      coder_agrees : Agreeing (QuestionOf (trees z) k) (EventOf (trees z) k) (side R s body) (coder (trees z) mag neg plane.0) Puts
      unfolding side noted
      coder_agrees =
          record {
            bit = λ q h c bits i. answers q h;
            next = λ q h c bits i.
                ap₂ (λ x b. chan (set_bit x.bytes x.at b) x.values (x.at + 1)) i (answers q h)
                ∙ put_next out vs at.at bits (truth (trees z) mag neg plane.0 q);
            noted = λ e h c bits i. i;
          }

  -- What the workspace holds is what it held.
  module _ {body out out' work' : List ℕ} {r : Passed} (P : PartRun R body work counts out r work' out') where
    words_kept : (x : ℕ) → x < area z → word_in z work' x ≡ word_in z work x
    words_kept x h =
        let j = tree_level z x in
        let l = level_some z Z x h in
        let p = level_place z Z j x refl l in
        word_in_lem z Z work' j x refl l
        ∙ P.words j (x - level_start z j) l p.0 (λ e. refl) (omega (arith, p.1, p.2))
        ∙ sym (word_in_lem z Z work j x refl l)

    maxima_kept : (j i : ℕ) → 1 ≤ j → j ≤ z.n → i < level_size z j / 4 → maximum_in z work' j i ≡ maximum_in z work j i
    unfolding maximum_in
    maxima_kept j i c d h = P.maxima j i c d h

    held_kept : (μ : ℕ → ℕ) → Maxima z μ work → Maxima z μ work'
    held_kept μ M =
        record {
          of_d = λ j x c d g h.
              let q : span z (j + 1) ≡ span z (suc j) = ap (span z) (omega arith) in
              ap largest_d (maxima_kept j (x - span z (j + 1)) c d (omega (arith, level_size_fine z Z j c d, span_quarter z Z j d)))
              ∙ M.of_d j x c d g h;
          of_l = λ j x c d g h.
              let p : span z (j + 1) ≡ span z (suc j) = ap (span z) (omega arith) in
              let q : span z (j + 2) ≡ span z (suc (suc j)) = ap (span z) (omega arith) in
              let e : j ≤ z.n = omega arith in
              ap largest_l
              (maxima_kept j (4 * (x - span z (j + 2))) c e
              (omega (arith, level_size_fine z Z j c e, span_quarter z Z j e, span_quarter z Z (suc j) (omega arith))))
              ∙ M.of_l j x c d g h;
        }

    -- So a part that was run is a part coded.
    pub coded_part : Ready z plane level work counts → PartCoded z plane level work counts out at r work' out'
    unfolding coded
    coded_part D = record { same = P.same; marks = P.marks; coded = λ v H. made H }
      where
        made : {v : List ℤ} → Holds z v work → CodedFrom v z plane level work counts out at r work' out'
        made {v} H =
            let vs = values_in (level_size z k) s in
            let c : Course Chan = course_in R body work counts out in
            let d : Course (List Bool) = course_c v z plane level work counts in
            let A : Related (Puts D.plane H body out vs) c d =
            passed_related (trees_lawful z Z) _ _ _ (coder_agrees D.plane H body out vs) (state_of z work counts k) (D.sound.placed k)
            (chan out vs at.at) [] (put_none out vs at.at) in
            let i = P.side ∙ A.side in
            record {
              lists = record { lists = λ j. P.lists.lists j ∙ ap (λ (t : State). t j) (after_related _ k c d (state_of z work counts) A) };
              holds = record { words = λ x h. words_kept x h ∙ H.words x h; maxima = held_kept _ H.maxima };
              bits = ap (λ y. y.bytes) i;
              place = ap (λ y. y.at) i;
            }
