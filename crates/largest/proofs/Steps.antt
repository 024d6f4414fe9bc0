-- Level after level: what is there when D, or L, of one level more is filled.
use mathlib.Core.Path.{◌≡◌, refl, sym, ap, ◌∙◌}
use mathlib.Core.Logic.{◌≢◌}
use mathlib.Core.List.{List}
use Prim.Native.Nat.{ℕ, ◌+◌, ◌-◌, ◌*◌, ◌/◌, ◌%◌, ◌^◌, ◌≤◌, ◌<◌, max}
use native.Mathlib.Omega.{arith}
use native.Mathlib.Decide.{dec_le, ℕ_discrete}
use lib.ListN.{get_or}
use Rattle.rules.specs.declared.Size.{Size}
use Rattle.rules.specs.Document.Pyramid.{levels, area}
use Rattle.rules.specs.Document.Notation.{greatest}
use Rattle.rules.specs.Document.Passes.{typeA, typeB, members}
use Rattle.rules.specs.Promises.Vocabulary.{Legal}
use Rattle.rules.specs.Laws.Family.Sizes.{span, level_start, level_size}
use Rattle.rules.proofs.Laws.Family.Sizes.{legal, span_whole}
use Rattle.trees.specs.Family.{trees, tree_level}
use Rattle.trees.proofs.Family.{span_falls}
use Rattle.trees.specs.Measure.{four_most}
use Rattle.trees.proofs.Measure.{four_same, largest_d_four, largest_l_four, largest_l_none}
use Rattle.stretches.specs.Cut.{maxima_from, largest_d, largest_l}
use Rattle.stretches.specs.Workspace.{word_in, maximum_in}
use Rattle.stretches.specs.Levels.{words_from, blocks_from, level_before, numbered, word_numbered, maximum_place}
use Rattle.largest.specs.Filling.{measure_in, Fillable, Filled}
use Rattle.largest.specs.Steps.{OnlyMaxima, LevelD, LevelL, FilledTo}
use Rattle.largest.proofs.Measures.{measure_most}
use Rattle.largest.proofs.Lent.{quarter, node_block, fours_block, pair_finest, maximum_nowhere}

-- What lies outside of level k's maxima: every word, and the maxima of the other levels.
module _ (z : Size) (Z : Legal z) (k : ℕ) (some : 1 ≤ k) (most : k ≤ z.n) (work work' : List ℕ) (A : OnlyMaxima z k work work') where
  outside : (j p : ℕ) → 1 ≤ j → j ≤ levels z → j ≢ k → 4 * level_start z j ≤ p → p < 4 * level_start z j + 4 * level_size z j
      → get_or work' p 0 ≡ get_or work p 0
  unfolding blocks_from
  outside j p a b d u v = by (dec_le j k)
    where
      by : Dec (j ≤ k) → get_or work' p 0 ≡ get_or work p 0
      by (yes l) = A.behind p (omega (arith, level_before z Z k j a (omega arith) (omega arith)))
      by (no l) = A.before p (omega (arith, level_before z Z j k some (omega arith) b))

  words_stay : (x : ℕ) → x < area z → word_in z work' x ≡ word_in z work x
  unfolding blocks_from maxima_from
  words_stay x h =
      let N = numbered z Z x h in
      let j : ℕ = tree_level z x in
      word_numbered z Z work' x h ∙ by (ℕ_discrete j k) N.some N.most N.under ∙ sym (word_numbered z Z work x h)
    where
      by : Dec (tree_level z x ≡ k) → 1 ≤ tree_level z x → tree_level z x ≤ levels z → x - level_start z (tree_level z x) < level_size z (tree_level z x)
          → get_or work' (words_from z (tree_level z x) + (x - level_start z (tree_level z x))) 0
          ≡ get_or work (words_from z (tree_level z x) + (x - level_start z (tree_level z x))) 0
      by (yes e) a b u =
          let i : level_start z (tree_level z x) ≡ level_start z k = ap (level_start z) e in
          let m : level_size z (tree_level z x) ≡ level_size z k = ap (level_size z) e in
          A.before (words_from z (tree_level z x) + (x - level_start z (tree_level z x))) (omega arith)
      by (no d) a b u = outside (tree_level z x) _ a b d (omega arith) (omega arith)

  maxima_stay : (j b : ℕ) → 1 ≤ j → j ≤ levels z → j ≢ k → b < level_size z j / 4 → maximum_in z work' j b ≡ maximum_in z work j b
  unfolding blocks_from maxima_from
  maxima_stay j b h l d u =
      maximum_place z Z work' j b u ∙ outside j _ h l d (omega arith) (omega arith) ∙ sym (maximum_place z Z work j b u)

-- nothing is filled under level 1
pub filled_none : (z : Size) (work : List ℕ) → FilledTo z 1 1 work work
filled_none z work =
    record {
      same = refl;
      words = λ x h. refl;
      of_d = λ k x a b. absurd (omega arith);
      of_l = λ k x a b. absurd (omega arith);
      small = λ k x a b. absurd (omega arith);
    }

module _ (z : Size) (work₀ : List ℕ) (F : Fillable z work₀) where
  Z : Legal z
  Z = legal z F.legal

  -- where a node of a level's blocks lies
  module _ (k x : ℕ) (some : 1 ≤ k) (most : k ≤ z.n) (hx : span z (k + 1) ≤ x) (lx : x < span z k) where
    node_from : span z (levels z) ≤ x
    node_from = omega (arith, span_falls z (k + 1) (levels z) (omega arith))

    node_to : x < span z 1
    node_to = omega (arith, span_falls z 1 k some)

  measure_small : (x : ℕ) → x < area z → measure_in z work₀ x < 32
  unfolding measure_in
  measure_small x h = omega (arith, measure_most 17 (word_in z work₀ x) (omega arith) (F.small x h))

  four_inside : (x f : ℕ) → x < span z 1 → f < 4 → 4 * x + f < area z
  four_inside x f h l = omega (arith, quarter z Z 0 (omega arith), span_whole z)

  -- the four measures under a node, in a workspace whose words are the same
  module _ (work : List ℕ) (same : (x : ℕ) → x < area z → word_in z work x ≡ word_in z work₀ x) (x : ℕ) (h : x < span z 1) where
    four_measured : four_most (measure_in z work) x ≡ four_most (measure_in z work₀) x
    unfolding measure_in
    four_measured = four_same (measure_in z work) (measure_in z work₀) x x (λ f l. rw (same (4 * x + f) (four_inside x f h l)))

    four_small : four_most (measure_in z work₀) x < 32
    four_small =
        omega (
          arith,
          measure_small (4 * x) (omega (arith, four_inside x 0 h (omega arith))),
          measure_small (4 * x + 1) (four_inside x 1 h (omega arith)),
          measure_small (4 * x + 2) (four_inside x 2 h (omega arith)),
          measure_small (4 * x + 3) (four_inside x 3 h (omega arith)),
        )

  -- D of level k
  module _ (k : ℕ) (some : 1 ≤ k) (most : k ≤ z.n) (work work' : List ℕ) (P : FilledTo z k k work₀ work) (D : LevelD z k work work') where
    module _ (x : ℕ) (hx : span z (k + 1) ≤ x) (lx : x < span z k) where
      l_there : (largest_l (maximum_in z work (k - 1) (4 * (x - span z (k + 1)))) ≡ greatest (measure_in z work₀) (members (trees z) (typeB x)))
          × (largest_l (maximum_in z work (k - 1) (4 * (x - span z (k + 1)))) < 32)
      unfolding largest_l
      l_there = by (dec_le 2 k)
        where
          by : Dec (2 ≤ k) → (maximum_in z work (k - 1) (4 * (x - span z (k + 1))) / 32 ≡ greatest (measure_in z work₀) (members (trees z) (typeB x)))
              × (maximum_in z work (k - 1) (4 * (x - span z (k + 1))) / 32 < 32)
          by (no l) =
              let e : k + 1 ≡ 2 = omega arith in
              let s : span z (k + 1) ≡ span z 2 = ap (span z) e in
              let o : level_size z (k - 1) ≡ 0 = pair_finest z Z k some (omega arith) in
              let m : maximum_in z work (k - 1) (4 * (x - span z (k + 1))) ≡ 0 = maximum_nowhere z Z work (k - 1) (4 * (x - span z (k + 1))) o in
              (ap (λ (y : ℕ). y / 32) m ∙ sym (largest_l_none z Z (measure_in z work₀) x (omega arith)), omega arith)
          by (yes l) =
              let e : span z (k - 1 + 2) ≡ span z (k + 1) = ap (span z) (omega arith) in
              let i : span z (k - 1 + 1) ≡ span z k = ap (span z) (omega arith) in
              let q : span z k ≡ 4 * span z (k + 1) = quarter z Z k most in
              let r : span z (k - 1) ≡ 4 * span z (k - 1 + 1) = quarter z Z (k - 1) (omega arith) in
              let m : maximum_in z work (k - 1) (4 * x - span z (k - 1 + 1)) < 2 ^ 10 =
              P.small (k - 1) (4 * x) (omega arith) (omega arith) (omega arith) (omega arith) in
              let b : 4 * (x - span z (k + 1)) ≡ 4 * x - span z (k - 1 + 1) = omega arith in
              (rw e at (P.of_l (k - 1) x (omega arith) (omega arith) (omega arith) (omega arith)), rw b (omega arith))

      d_value : (maximum_in z work' k (x - span z (k + 1)) ≡ greatest (measure_in z work₀) (members (trees z) (typeA x)))
          × (maximum_in z work' k (x - span z (k + 1)) < 32)
      d_value =
          let t : x < span z 1 = node_to k x some most hx lx in
          let v : maximum_in z work' k (x - span z (k + 1))
          ≡ max (four_most (measure_in z work₀) x) (largest_l (maximum_in z work (k - 1) (4 * (x - span z (k + 1)))))
          = D.made x hx lx ∙ ap (λ (y : ℕ). max y (largest_l (maximum_in z work (k - 1) (4 * (x - span z (k + 1)))))) (four_measured work P.words x t) in (
            v ∙ ap (max (four_most (measure_in z work₀) x)) l_there.0 ∙ sym (largest_d_four z Z (measure_in z work₀) x (node_from k x some most hx lx) t),
            omega (arith, four_small work P.words x t, l_there.1),
          )

    other_stays : (j b : ℕ) → 1 ≤ j → j ≤ z.n → j ≢ k → b < level_size z j / 4 → maximum_in z work' j b ≡ maximum_in z work j b
    other_stays j b a l d h = maxima_stay z Z k some most work work' D.apart j b a (omega arith) d h

    pub filled_d : FilledTo z (k + 1) k work₀ work'
    unfolding largest_d
    filled_d =
        record {
          same = D.apart.long ∙ P.same;
          words = λ x h. words_stay z Z k some most work work' D.apart x h ∙ P.words x h;
          of_d = λ j x a b hx lx. d j x a b hx lx (ℕ_discrete j k);
          of_l = λ j x a b hx lx.
              ap largest_l (other_stays j _ a (omega arith) (λ e. omega arith) (omega (arith, (fours_block z Z j x a (omega arith) hx lx).0)))
              ∙ P.of_l j x a b hx lx;
          small = λ j x a b hx lx. s j x a b hx lx (ℕ_discrete j k);
        }
      where
        d : (j x : ℕ) → 1 ≤ j → j < k + 1 → span z (j + 1) ≤ x → x < span z j → Dec (j ≡ k)
            → maximum_in z work' j (x - span z (j + 1)) % 32 ≡ greatest (measure_in z work₀) (members (trees z) (typeA x))
        d j x a b hx lx (yes e) =
            let v = d_value x (rw e at hx) (rw e at lx) in
            let low : maximum_in z work' k (x - span z (k + 1)) % 32 ≡ maximum_in z work' k (x - span z (k + 1)) = omega (arith, v.1) in
            rw e (low ∙ v.0)
        d j x a b hx lx (no i) =
            ap (λ (y : ℕ). y % 32) (other_stays j _ a (omega arith) i (node_block z Z j x a (omega arith) hx lx)) ∙ P.of_d j x a (omega arith) hx lx

        s : (j x : ℕ) → 1 ≤ j → j < k + 1 → span z (j + 1) ≤ x → x < span z j → Dec (j ≡ k) → maximum_in z work' j (x - span z (j + 1)) < 2 ^ 10
        s j x a b hx lx (yes e) = rw e (omega (arith, (d_value x (rw e at hx) (rw e at lx)).1))
        s j x a b hx lx (no i) =
            rw (other_stays j _ a (omega arith) i (node_block z Z j x a (omega arith) hx lx)) (P.small j x a (omega arith) hx lx)

  -- L of level k
  module _ (k : ℕ) (some : 1 ≤ k) (most : k + 1 ≤ z.n) (work work' : List ℕ) (P : FilledTo z (k + 1) k work₀ work) (L : LevelL z k work work') where
    under : k ≤ z.n
    under = omega arith

    finer_stays : (j b : ℕ) → 1 ≤ j → j < k → b < level_size z j / 4 → maximum_in z work' j b ≡ maximum_in z work j b
    finer_stays j b a l h = maxima_stay z Z k some under work work' L.apart j b a (omega arith) (λ e. omega arith) h

    l_value : (x : ℕ) → span z (k + 2) ≤ x → x < span z (k + 1)
        → largest_l (maximum_in z work' k (4 * (x - span z (k + 2)))) ≡ greatest (measure_in z work₀) (members (trees z) (typeB x))
    l_value x hx lx =
        let q : span z k ≡ 4 * span z (k + 1) = quarter z Z k under in
        let r : span z (k + 1) ≡ 4 * span z (k + 2) = (fours_block z Z k x some most hx lx).1 in
        L.made x hx lx
        ∙ four_same (λ y. largest_d (maximum_in z work k (y - span z (k + 1)))) (λ y. greatest (measure_in z work₀) (members (trees z) (typeA y))) x x
        (λ f h. P.of_d k (4 * x + f) some (omega arith) (omega arith) (omega arith))
        ∙ sym (largest_l_four z Z (measure_in z work₀) x (omega (arith, span_falls z (k + 2) (levels z) (omega arith)))
        (omega (arith, span_falls z 1 (k + 1) (omega arith))))

    pub filled_l : FilledTo z (k + 1) (k + 1) work₀ work'
    filled_l =
        record {
          same = L.apart.long ∙ P.same;
          words = λ x h. words_stay z Z k some under work work' L.apart x h ∙ P.words x h;
          of_d = λ j x a b hx lx. d j x a b hx lx (ℕ_discrete j k) ∙ P.of_d j x a b hx lx;
          of_l = λ j x a b hx lx. l j x a b hx lx (ℕ_discrete j k);
          small = λ j x a b hx lx. s j x a b hx lx (ℕ_discrete j k);
        }
      where
        d : (j x : ℕ) → 1 ≤ j → j < k + 1 → span z (j + 1) ≤ x → x < span z j → Dec (j ≡ k)
            → largest_d (maximum_in z work' j (x - span z (j + 1))) ≡ largest_d (maximum_in z work j (x - span z (j + 1)))
        d j x a b hx lx (yes e) = rw e (L.kept (x - span z (k + 1)))
        d j x a b hx lx (no i) = ap largest_d (finer_stays j _ a (omega arith) (node_block z Z j x a (omega arith) hx lx))

        l : (j x : ℕ) → 1 ≤ j → j < k + 1 → span z (j + 2) ≤ x → x < span z (j + 1) → Dec (j ≡ k)
            → largest_l (maximum_in z work' j (4 * (x - span z (j + 2)))) ≡ greatest (measure_in z work₀) (members (trees z) (typeB x))
        l j x a b hx lx (yes e) = rw e (l_value x (rw e at hx) (rw e at lx))
        l j x a b hx lx (no i) =
            ap largest_l (finer_stays j _ a (omega arith) (omega (arith, (fours_block z Z j x a (omega arith) hx lx).0))) ∙ P.of_l j x a (omega arith) hx lx

        s : (j x : ℕ) → 1 ≤ j → j < k + 1 → span z (j + 1) ≤ x → x < span z j → Dec (j ≡ k) → maximum_in z work' j (x - span z (j + 1)) < 2 ^ 10
        s j x a b hx lx (yes e) = rw e (L.small (x - span z (k + 1)) (P.small k x some (omega arith) (rw e at hx) (rw e at lx)))
        s j x a b hx lx (no i) = rw (finer_stays j _ a (omega arith) (node_block z Z j x a (omega arith) hx lx)) (P.small j x a b hx lx)

-- every level
pub filled_all : {z : Size} {d l : ℕ} {work work' : List ℕ} → FilledTo z d l work work' → z.n < d → z.n ≤ l → Filled z work work'
filled_all P h i =
    record {
      same = P.same;
      words = P.words;
      maxima = record { of_d = λ k x a b. P.of_d k x a (omega arith); of_l = λ k x a b. P.of_l k x a (omega arith) };
    }

-- the same, counted by the level of the nodes
module _ {z : Size} {k : ℕ} {work₀ work work' : List ℕ} (F : Fillable z work₀) (most : k ≤ levels z) where
  pub next_d : 2 ≤ k → FilledTo z (k - 1) (k - 1) work₀ work → LevelD z (k - 1) work work' → FilledTo z k (k - 1) work₀ work'
  next_d h P D =
      let e : k - 1 + 1 ≡ k = omega arith in
      rw e at (filled_d z work₀ F (k - 1) (omega arith) (omega arith) work work' P D)

  pub next_l : 3 ≤ k → FilledTo z (k - 1) (k - 1 - 1) work₀ work → LevelL z (k - 2) work work' → FilledTo z (k - 1) (k - 1) work₀ work'
  next_l h P L =
      let e : k - 1 - 1 ≡ k - 2 = omega arith in
      let i : k - 1 ≡ k - 2 + 1 = omega arith in
      rw i (filled_l z work₀ F (k - 2) (omega arith) (omega arith) work work' (rw (e, i) at P) L)

pub none_d : {z : Size} {k : ℕ} {work : List ℕ} → 2 ≤ k → k ≤ 2 → FilledTo z (k - 1) (k - 1) work work
none_d {z} {k} {work} h l = let e : k - 1 ≡ 1 = omega arith in rw e (filled_none z work)
