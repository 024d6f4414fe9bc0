-- A level's stretch lent, with the next finer level's behind it: its numbers in the workspace, and what filling it makes of the workspace.
use mathlib.Core.Path.{◌≡◌, sym, ap, ap₂, ◌∙◌}
use mathlib.Core.List.{List}
use Prim.Native.Nat.{ℕ, ◌+◌, ◌-◌, ◌*◌, ◌/◌, ◌≤◌, ◌<◌, max}
use native.Mathlib.Omega.{arith}
use native.Mathlib.Numerals.{add-one}
use native.Mathlib.Decide.{dec_le}
use lib.ListN.{length, get_or, get_or-eq_default}
use borrow.Rule.Slice.PartMut.{mid_of, put_mid, mid_len, same_len_mid}
use Rattle.rules.specs.declared.Size.{Size}
use Rattle.rules.specs.Document.Calls.{work_for}
use Rattle.rules.specs.Promises.Vocabulary.{Legal}
use Rattle.rules.specs.Laws.Family.Sizes.{span, level_start, level_end, level_size}
use Rattle.rules.proofs.Laws.Family.Sizes.{legal, level_size_fine, level_start_fine, span_quarter}
use Rattle.trees.specs.Measure.{four_most}
use Rattle.trees.proofs.Measure.{four_same}
use Rattle.stretches.specs.Seg.{seg, seg_at, seg_seg}
use Rattle.stretches.specs.Cut.{maxima_from, maxima_in, stretch_of, largest_d, largest_l}
use Rattle.stretches.specs.Workspace.{word_in, maximum_in}
use Rattle.stretches.specs.Levels.{words_from, blocks_from, lent_to, lent_first, lent_next, next_size, next_start}
use Rattle.stretches.specs.Levels.{word_place_lem, maximum_place, put_own, put_inside, put_before, put_behind}
use Rattle.largest.specs.Blocks.{word_measure, near, far, four, Apart, SomeD, SomeL}
use Rattle.largest.specs.Filling.{measure_in}
use Rattle.largest.specs.Steps.{Placed, OnlyMaxima, LevelD, LevelL}

-- a part that was lent and came back: a number that was not changed in it
put_elsewhere : (a e : ℕ) (s ys : List ℕ) → a ≤ e → e ≤ length s → length ys ≡ e - a → (i : ℕ)
    → (a ≤ i → get_or ys (i - a) 0 ≡ get_or (seg a (e - a) s) (i - a) 0) → get_or (put_mid a (e - a) s ys) i 0 ≡ get_or s i 0
put_elsewhere a e s ys h l n i f = by (dec_le a i) (dec_le e i)
  where
    by : Dec (a ≤ i) → Dec (e ≤ i) → get_or (put_mid a (e - a) s ys) i 0 ≡ get_or s i 0
    by (no b) d = put_before a (e - a) s ys i (omega arith) (omega arith)
    by (yes b) (yes d) = put_behind a e s ys i h l n d
    by (yes b) (no d) =
        let j : a + (i - a) ≡ i = omega arith in
        ap (λ (x : ℕ). get_or (put_mid a (e - a) s ys) x 0) (sym j) ∙ put_inside a e s ys (i - a) (omega arith) n (omega arith) ∙ f b
        ∙ seg_at a (e - a) s (i - a) (omega arith) ∙ ap (λ (x : ℕ). get_or s x 0) j

-- levels that have maxima, and where a block is that is the offspring of a node, and four that are its offspring's
module _ (z : Size) (Z : Legal z) where
  pub quarter : (k : ℕ) → k ≤ z.n → span z k ≡ 4 * span z (k + 1)
  quarter k h = span_quarter z Z k h ∙ ap (λ (x : ℕ). 4 * span z x) (sym (add-one k))

  pub node_block : (k x : ℕ) → 1 ≤ k → k ≤ z.n → span z (k + 1) ≤ x → x < span z k → x - span z (k + 1) < level_size z k / 4
  node_block k x some most hx lx = let q : span z k ≡ 4 * span z (k + 1) = quarter k most in omega (arith, level_size_fine z Z k some most)

  pub fours_block : (k x : ℕ) → 1 ≤ k → k + 1 ≤ z.n → span z (k + 2) ≤ x → x < span z (k + 1)
      → (x - span z (k + 2) < level_size z k / 16) × (span z (k + 1) ≡ 4 * span z (k + 2))
  fours_block k x some most hx lx =
      let i : span z (k + 1 + 1) ≡ span z (k + 2) = ap (span z) (omega arith) in
      let q : span z k ≡ 4 * span z (k + 1) = quarter k (omega arith) in
      let r : span z (k + 1) ≡ 4 * span z (k + 1 + 1) = quarter (k + 1) most in
      let m : level_size z k ≡ 3 * span z k = level_size_fine z Z k some (omega arith) in
      (omega arith, omega arith)

  size-zero : level_size z 0 ≡ 0
  unfolding level_size level_end
  size-zero = omega (arith, level_start_fine z 0 (omega arith))

  pub pair_finest : (k : ℕ) → 1 ≤ k → k < 2 → level_size z (k - 1) ≡ 0
  pair_finest k h l = let e : k - 1 ≡ 0 = omega arith in ap (level_size z) e ∙ size-zero

  pub pair_long : (k : ℕ) → 1 ≤ k → k ≤ z.n → lent_to z k ≡ 4 * level_start z k + 4 * level_size z k + 4 * level_size z (k - 1)
  pair_long k a b = by (dec_le 2 k)
    where
      by : Dec (2 ≤ k) → lent_to z k ≡ 4 * level_start z k + 4 * level_size z k + 4 * level_size z (k - 1)
      by (yes h) = omega (arith, lent_next z k h, next_start z Z k h (omega arith))
      by (no h) = omega (arith, lent_first z k (omega arith), pair_finest k a (omega arith))

  pub maximum_nowhere : (work : List ℕ) (k b : ℕ) → level_size z k ≡ 0 → maximum_in z work k b ≡ 0
  unfolding maximum_in maxima_in seg
  maximum_nowhere work k b e = rw e

-- The stretch of level k lent as `work[from..to]`, with more behind it, and its maxima filled.
module _ (z : Size) (k : ℕ) (work : List ℕ) (P : Placed z k work) (from to n : ℕ) (ef : from ≡ 4 * level_start z k) (en : n ≡ level_size z k)
    (et : from + 4 * n ≤ to) (er : to ≤ work_for z) (ys : List ℕ) (A : Apart n (mid_of from (to - from) work) ys) where
  abbrev back : List ℕ
  back = put_mid from (to - from) work ys

  as_long : length ys ≡ to - from
  as_long = A.long ∙ mid_len from to work (omega (arith, P.room))

  pub only_maxima : OnlyMaxima z k work back
  unfolding blocks_from seg
  only_maxima =
      let e : maxima_from n ≡ maxima_from (level_size z k) = ap maxima_from en in
      record {
        long = same_len_mid from (to - from) work ys A.long;
        before = λ i h. put_elsewhere from to work ys (omega arith) (omega (arith, P.room)) as_long i (λ b. A.before (i - from) (omega arith));
        behind = λ i h. put_elsewhere from to work ys (omega arith) (omega (arith, P.room)) as_long i (λ b. A.behind (i - from) (omega arith));
      }

  -- the maxima of the stretch, in what is lent
  maximum_lent : (w : List ℕ) (b : ℕ) → maximum_in z w k b ≡ get_or (maxima_in n (seg from (to - from) w)) b 0
  unfolding maximum_in maxima_in maxima_from stretch_of
  maximum_lent w b =
      let from-maxima : ℕ = n + n + n + 3 * n / 4 in
      ap₂ (λ (m o : ℕ). get_or (seg (m + m + m + 3 * m / 4) (m / 4) (seg o (4 * m) w)) b 0) (sym en) (sym ef)
      ∙ ap (λ s. get_or s b 0)
      (seg_seg from (4 * n) from-maxima (n / 4) w (omega arith) ∙ sym (seg_seg from (to - from) from-maxima (n / 4) w (omega arith)))

  maximum_before : (b : ℕ) → maximum_in z work k b ≡ get_or (maxima_in n (mid_of from (to - from) work)) b 0
  unfolding seg
  maximum_before b = maximum_lent work b

  maximum_after : (b : ℕ) → maximum_in z back k b ≡ get_or (maxima_in n ys) b 0
  maximum_after b = maximum_lent back b ∙ ap (λ s. get_or (maxima_in n s) b 0) (put_own from to work ys (omega (arith, P.room)) as_long)

  lent : (i : ℕ) → i < to - from → get_or (mid_of from (to - from) work) i 0 ≡ get_or work (from + i) 0
  unfolding seg
  lent i h = seg_at from (to - from) work i h

  -- a block of the stretch is the offspring of a node
  module _ (x : ℕ) (hx : span z (k + 1) ≤ x) (lx : x < span z k) where
    abbrev block : ℕ
    block = x - span z (k + 1)

    block_under : (block < n / 4) × (level_start z k + 4 * block ≡ 4 * x)
    block_under =
        let Z : Legal z = legal z P.legal in
        (omega (arith, node_block z Z k x P.some P.most hx lx), omega (arith, quarter z Z k P.most, level_start_fine z k P.most))

    measure_there : (f : ℕ) → f < 4 → word_measure (get_or (mid_of from (to - from) work) (4 * block + f) 0) ≡ measure_in z work (4 * x + f)
    unfolding measure_in
    measure_there f h =
        let i : ℕ = 4 * block + f in
        let u = block_under in
        let p : word_in z work (level_start z k + i) ≡ get_or work (words_from z k + i) 0 =
        word_place_lem z (legal z P.legal) work k i P.some (omega (arith, P.most)) (omega arith) in
        ap (λ (w : ℕ). word_measure w)
        (lent i (omega arith) ∙ ap (λ (o : ℕ). get_or work (o + i) 0) ef ∙ sym p ∙ ap (word_in z work) (omega arith))

    near_there : near (mid_of from (to - from) work) block ≡ four_most (measure_in z work) x
    unfolding near
    near_there = four_same (λ i. word_measure (get_or (mid_of from (to - from) work) i 0)) (measure_in z work) block x measure_there

    -- L in the next finer level
    far_there : to ≡ from + 4 * n + 4 * level_size z (k - 1) → far n (mid_of from (to - from) work) block ≡ largest_l (maximum_in z work (k - 1) (4 * block))
    unfolding far blocks_from maxima_from
    far_there e = ap largest_l (by (dec_le 2 k))
      where
        Z : Legal z
        Z = legal z P.legal

        by : Dec (2 ≤ k) → get_or (mid_of from (to - from) work) (19 * n + 4 * block) 0 ≡ maximum_in z work (k - 1) (4 * block)
        by (no i) =
            let u : level_size z (k - 1) ≡ 0 = pair_finest z Z k P.some (omega arith) in
            get_or-eq_default (mid_of from (to - from) work) 0 (omega (arith, mid_len from to work (omega (arith, P.room))))
            ∙ sym (maximum_nowhere z Z work (k - 1) (4 * block) u)
        by (yes i) =
            let u : level_size z (k - 1) ≡ 4 * n = next_size z Z k i P.most ∙ ap (λ (m : ℕ). 4 * m) (sym en) in
            lent (19 * n + 4 * block) (omega (arith, block_under))
            ∙ sym (maximum_place z Z work (k - 1) (4 * block) (rw u (omega (arith, block_under)))
            ∙ ap (λ (x : ℕ). get_or work x 0) (rw u (omega (arith, next_start z Z k i (omega (arith, P.most))))))

  pub level_d : to ≡ from + 4 * n + 4 * level_size z (k - 1) → SomeD n (mid_of from (to - from) work) (n / 4) ys → LevelD z k work back
  level_d e d =
      record {
        apart = only_maxima;
        made = λ x hx lx.
            maximum_after (x - span z (k + 1)) ∙ d.made (x - span z (k + 1)) (block_under x hx lx).0
            ∙ ap₂ max (near_there x hx lx) (far_there x hx lx e);
      }

  -- four blocks of it are the offspring of a node's offspring
  module _ (l : k + 1 ≤ z.n) (x : ℕ) (hx : span z (k + 2) ≤ x) (lx : x < span z (k + 1)) where
    abbrev four_blocks : ℕ
    four_blocks = x - span z (k + 2)

    fours_under : (four_blocks < n / 16) × (span z (k + 1) ≡ 4 * span z (k + 2))
    fours_under = let u = fours_block z (legal z P.legal) k x P.some l hx lx in (omega (arith, u.0), u.1)

    four_there : four n (mid_of from (to - from) work) four_blocks ≡ four_most (λ y. largest_d (maximum_in z work k (y - span z (k + 1)))) x
    unfolding four
    four_there =
        let u = fours_under in
        four_same (λ b. largest_d (get_or (maxima_in n (mid_of from (to - from) work)) b 0)) (λ y. largest_d (maximum_in z work k (y - span z (k + 1))))
        four_blocks x
        (λ f h. ap largest_d (sym (maximum_before (4 * four_blocks + f))) ∙ ap (λ (c : ℕ). largest_d (maximum_in z work k c)) (omega arith))

  pub level_l : k + 1 ≤ z.n → SomeL n (mid_of from (to - from) work) (n / 16) ys → LevelL z k work back
  level_l l d =
      record {
        apart = only_maxima;
        made = λ x hx lx.
            ap largest_l (maximum_after (4 * (x - span z (k + 2)))) ∙ d.made (x - span z (k + 2)) (fours_under l x hx lx).0
            ∙ four_there l x hx lx;
        kept = λ b. ap largest_d (maximum_after b) ∙ d.kept b ∙ ap largest_d (sym (maximum_before b));
        small = λ b h. rw (maximum_after b) (d.small b (rw (maximum_before b) at h));
      }
