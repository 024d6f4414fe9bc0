-- Used and skipped parts: of each level the usable ones that were read are as many as the planes from the reached one on, so these and the skipped
-- ones are all that are there.
use Rattle.std.specs.Prelude.{◌≡◌, refl, Bool, true, false, cond, not, ◌&&◌, ℕ, suc, ◌+◌, ◌-◌, ◌≤◌, ◌<◌, eqb}
use Rattle.std.proofs.Math.Path.{ap, sym}
use Rattle.std.proofs.Common.{◌∙◌, subst, arith}
use mathlib.Core.List.{List, [], ◌∷◌, ◌++◌, map, append_assoc, append-nil}
use Rattle.std.proofs.Math.Bool.{and-false}
use borrow.Author.Tests.{eqb-true, eq-eqb, ne_eqb}
use Rattle.rules.specs.declared.Header.{Header}
use Rattle.rules.specs.Document.Notation.{count}
use Rattle.rules.specs.Document.Passes.{PartName}
use Rattle.rules.specs.Document.Layout.{name_of, usable, reached}
use Rattle.rules.specs.Document.Numbers.{read_parts, top_level}
use Rattle.rules.specs.Document.Calls.{skipped_parts}
use Rattle.rules.specs.Promises.Vocabulary.{Named}
use Rattle.rules.specs.Laws.Counting.Sums.{All, one}
use Rattle.rules.proofs.Laws.Counting.Sums.{all_then, count_last, count_none}
use Rattle.rules.proofs.Laws.Counting.Booleans.{same_test, both_left}
use Rattle.rules.specs.Laws.Reading.Parts.{InOrder}
use Rattle.rules.proofs.Laws.Reading.Parts.{all_middle}
use Rattle.rules.proofs.Laws.Reading.Usable.{reached_none, reached_within}
use Rattle.rules.specs.Laws.Reading.OneWalk.{usable_now, reached_now}
use Rattle.rules.proofs.Laws.Reading.OneWalk.{one_walk, reached_walk}
use Rattle.rules.proofs.Laws.Reading.WholeParts.{read_parts_whole, whole_in_order, whole_named}

-- One part more, b saying whether it is of the level and u whether it is usable: the plane reached goes down by one, or one more is skipped.
one_more : (b u : Bool) (planes skips skips' level level' r r' n : ℕ) → skips' ≡ skips + one (b && not u) → level' ≡ level + one b
    → r' ≡ cond (b && u) n r → (b ≡ true → u ≡ true → r ≡ suc n) → r ≤ planes → skips + (planes - r) ≡ level → skips' + (planes - r') ≡ level'
unfolding one
one_more true true planes skips skips' level level' r r' n a c d e l s = omega (arith, e refl refl)
one_more true false planes skips skips' level level' r r' n a c d e l s = omega arith
one_more false true planes skips skips' level level' r r' n a c d e l s = omega arith
one_more false false planes skips skips' level level' r r' n a c d e l s = omega arith

module _ (top planes k : ℕ) where
  -- a part of the level, and one of it that can't be used
  abbrev of_level : PartName → Bool
  of_level x = eqb x.level k

  abbrev skips : List PartName → PartName → Bool
  skips there x = eqb x.level k && not (usable top planes there x)

  -- of the parts there, those that came by
  abbrev Adds : List PartName → List PartName → Type 0
  Adds there seen = count (skips there) seen + (planes - reached top planes seen k) ≡ count of_level seen

  module _ (from1 : 1 ≤ k) (before : PartName) where
    adds_more : (seen : List PartName) (p : PartName) (later : List PartName) → InOrder before (seen ++ p ∷ later) → Named top planes p
        → Adds (seen ++ p ∷ later) seen → Adds (seen ++ p ∷ later) (seen ++ (p ∷ []))
    unfolding usable_now reached_now
    adds_more seen p later order named s =
        one_more (of_level p) (usable top planes there p) planes _ _ _ _ (R k) _ p.plane (count_last (skips there) seen p) (count_last of_level seen p)
        (reached_walk top planes before seen p later order named k from1 ∙ rw (turned, sym test))
        (λ b u. ap R (sym (eqb-true p.level k b)) ∙ eqb-true (R p.level) (suc p.plane) (both_left _ _ (sym test ∙ u)))
        (reached_within top planes seen k) s
      where
        there : List PartName
        there = seen ++ p ∷ later

        R : ℕ → ℕ
        R j = reached top planes seen j

        test : usable top planes (seen ++ p ∷ later) p ≡ usable_now R p
        test = one_walk top planes before seen p later order named

        turned : eqb k p.level ≡ eqb p.level k
        turned = same_test _ _ (λ e. eq-eqb _ _ (sym (eqb-true k p.level e))) (λ e. eq-eqb _ _ (sym (eqb-true p.level k e)))

    adds_all : (later seen : List PartName) → InOrder before (seen ++ later) → All (Named top planes) (seen ++ later)
        → Adds (seen ++ later) seen → Adds (seen ++ later) (seen ++ later)
    adds_all [] seen order named s = subst (λ l. Adds (seen ++ []) l) (sym (append-nil seen)) s
    adds_all (p ∷ later) seen order named s =
        let e : (seen ++ (p ∷ [])) ++ later ≡ seen ++ p ∷ later = append_assoc seen (p ∷ []) later in
        let more = adds_more seen p later order (all_middle (Named top planes) seen p later named) s in
        subst (λ l. Adds l l) e
        (adds_all later (seen ++ (p ∷ [])) (subst (InOrder before) (sym e) order) (subst (All (Named top planes)) (sym e) named)
        (subst (λ l. Adds l (seen ++ (p ∷ []))) (sym e) more))

    adds_there : (there : List PartName) → k ≤ top → InOrder before there → All (Named top planes) there → Adds there there
    unfolding count
    adds_there there l order named = adds_all there [] order named (omega (arith, reached_none top planes k from1 l))

-- Of parts in order that a record may have.
pub used_and_skipped_there : (h : Header) (before : PartName) (there : List PartName) → InOrder before there
    → All (Named (top_level h) h.planes) there → (k : ℕ) → 1 ≤ k → k ≤ top_level h
    → skipped_parts h there k + (h.planes - reached (top_level h) h.planes there k) ≡ count (λ x. eqb x.level k) there
unfolding skipped_parts
used_and_skipped_there h before there order named k a b = adds_there (top_level h) h.planes k a before there b order named

-- Of the parts that are read of any bytes.
pub used_and_skipped : (h : Header) (s : List ℕ) (k : ℕ) → 1 ≤ k → k ≤ top_level h
    → skipped_parts h (map name_of (read_parts h s).parts) k + (h.planes - reached (top_level h) h.planes (map name_of (read_parts h s).parts) k)
    ≡ count (λ x. eqb x.level k) (map name_of (read_parts h s).parts)
used_and_skipped h s =
    let first : PartName = record { plane = h.planes; level = 0 } in
    let whole = read_parts_whole h s in
    used_and_skipped_there h first (map name_of (read_parts h s).parts) (whole_in_order h s first h.end (read_parts h s).parts whole)
    (whole_named h s first h.end (read_parts h s).parts whole)

-- None are skipped of a level that the record hasn't, and none where all are usable.
module _ (h : Header) (there : List PartName) (named : All (Named (top_level h) h.planes) there) where
  pub skipped_beyond : (k : ℕ) → top_level h < k → skipped_parts h there k ≡ 0
  unfolding skipped_parts
  skipped_beyond k l =
      count_none _ there (all_then _ _ there (λ x n. let e = ne_eqb x.level k (λ e. omega (arith, n.up_to)) in rw e) named)

  pub skipped_none : ((p : PartName) → Named (top_level h) h.planes p → usable (top_level h) h.planes there p ≡ true) → (k : ℕ)
      → skipped_parts h there k ≡ 0
  unfolding skipped_parts
  skipped_none u k = count_none _ there (all_then _ _ there (λ x n. rw (u x n) (and-false (eqb x.level k))) named)
