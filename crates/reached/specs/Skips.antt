-- The parts that are skipped, counted level by level, level 1 first: of the parts that came by, usable being judged over all that are there.
use Rattle.std.specs.Prelude.{◌≡◌, List, [], ◌∷◌, ◌++◌, map, Bool, true, false, not, ◌&&◌, ℕ, ◌+◌, ◌-◌, ◌≤◌, ◌<◌, eqb, set}
use Rattle.std.proofs.Math.Path.{refl}
use Rattle.std.proofs.Math.Bool.{and-false}
use native.Mathlib.Omega.{arith}
use Rattle.std.proofs.Math.Decide.{dec_lt}
use Rattle.std.proofs.Math.ListN.{length, get_or, get_or-eq_default}
use Rattle.std.proofs.Common.{eq-eqb, ne_eqb}
use Rattle.rules.specs.declared.Header.{Header}
use Rattle.rules.specs.Document.Notation.{count, zeros}
use Rattle.rules.specs.Document.Numbers.{top_level}
use Rattle.rules.specs.Document.Passes.{PartName, from}
use Rattle.rules.specs.Document.Layout.{usable}
use Rattle.rules.specs.Document.Calls.{level_places, skipped_parts, skipped_counts, count_in}
use Rattle.rules.specs.Laws.Counting.Sums.{one}
use Rattle.rules.proofs.Laws.Counting.Sums.{count_last, count_most}
use Rattle.rules.proofs.Laws.Rounding.Run.{map_from, map_length}
use Rattle.reached.specs.Planes.{from_same, from_set}

module _ (h : Header) (there : List PartName) where
  -- a part of level k that can't be used
  abbrev skips : ℕ → PartName → Bool
  skips k x = eqb x.level k && not (usable (top_level h) h.planes there x)

  unfoldable pub skipped_by : List PartName → List ℕ
  skipped_by seen = map (λ k. count (skips k) seen) (from 1 level_places)

  pub skipped_by_none : skipped_by [] ≡ zeros level_places
  unfolding skipped_by count from
  skipped_by_none = refl

  pub skipped_by_all : skipped_by there ≡ skipped_counts h there
  unfolding skipped_by skipped_counts skipped_parts
  skipped_by_all = refl

  pub skipped_by_six : (seen : List PartName) → length (skipped_by seen) ≡ level_places
  unfolding skipped_by
  skipped_by_six seen = map_length (λ k. count (skips k) seen) 1 level_places

  skipped_at : (seen : List PartName) (i : ℕ) → i < level_places → count_in (skipped_by seen) i ≡ count (skips (1 + i)) seen
  unfolding skipped_by count_in
  skipped_at seen i l = map_from (λ k. count (skips k) seen) 0 1 level_places i l

  pub skipped_by_most : (seen : List PartName) (i : ℕ) → count_in (skipped_by seen) i ≤ length seen
  unfolding count_in
  skipped_by_most seen i = by (dec_lt i level_places)
    where
      by : Dec (i < level_places) → get_or (skipped_by seen) i 0 ≤ length seen
      by (yes l) = omega (arith, skipped_at seen i l, count_most (skips (1 + i)) seen)
      by (no l) = omega (arith, get_or-eq_default (skipped_by seen) 0 {n = i} (omega (arith, skipped_by_six seen)))

  -- One part more: a usable one changes nothing, another is counted at its level.
  module _ (seen : List PartName) (p : PartName) where
    pub skipped_by_used : usable (top_level h) h.planes there p ≡ true → skipped_by seen ≡ skipped_by (seen ++ (p ∷ []))
    unfolding skipped_by one
    skipped_by_used u =
        from_same (λ k. count (skips k) seen) (λ k. count (skips k) (seen ++ (p ∷ []))) 1 level_places (λ k f.
        let e : one (skips k p) ≡ 0 = rw (u, and-false (eqb p.level k)) in
        omega (arith, count_last (skips k) seen p))

    pub skipped_by_over : usable (top_level h) h.planes there p ≡ false → 1 ≤ p.level → p.level ≤ level_places
        → set (skipped_by seen) (p.level - 1) (count_in (skipped_by seen) (p.level - 1) + 1) ≡ skipped_by (seen ++ (p ∷ []))
    unfolding skipped_by one
    skipped_by_over u f l =
        from_set (λ k. count (skips k) seen) (λ k. count (skips k) (seen ++ (p ∷ []))) 1 level_places (p.level - 1) _ own other
      where
        own : count_in (skipped_by seen) (p.level - 1) + 1 ≡ count (skips (1 + (p.level - 1))) (seen ++ (p ∷ []))
        own =
            let n : p.level ≡ 1 + (p.level - 1) = omega arith in
            let e : one (skips (1 + (p.level - 1)) p) ≡ 1 = rw (eq-eqb p.level (1 + (p.level - 1)) n, u) in
            omega (arith, skipped_at seen (p.level - 1) (omega arith), count_last (skips (1 + (p.level - 1))) seen p)

        other : (j : ℕ) → 1 ≤ j → (j ≡ 1 + (p.level - 1) → ⊥) → count (skips j) seen ≡ count (skips j) (seen ++ (p ∷ []))
        other j a d =
            let e : one (skips j p) ≡ 0 = rw (ne_eqb p.level j (λ b. d (omega arith))) in
            omega (arith, count_last (skips j) seen p)
