-- The levels in the workspace: where each one's words, maxima and stretch lie, and what is left of the others when one is lent or changed.
--
--   words_from z k     where the words of level k begin: that of its coefficient t is t places on
--   blocks_from z k    where its maxima begin: that of block b is b places on
--   lent_to z k        where its stretch and the next finer level's end, which lies right behind; level 1 has no next
use Rattle.std.specs.Prelude.{◌≡◌, refl, List, ◌++◌, cond, leb, length, take}
use Rattle.std.proofs.Common.{sym, ◌∙◌, subst, take_at, drop_at, length-take-le, get_or-take, get_or-drop}
use Rattle.std.proofs.Math.Path.{ap}
use Prim.Native.Nat.{ℕ, zero, suc, ◌+◌, ◌-◌, ◌*◌, ◌/◌, ◌≤◌, ◌<◌}
use native.Mathlib.Omega.{arith}
use Rattle.std.proofs.Math.Decide.{dec_le}
use borrow.Author.Tests.{le-leb, lt-leb}
use Rattle.std.proofs.Math.ListN.{get_or}
use borrow.Rule.Slice.PartMut.{post_of, put_mid, take_put, drop_put}
use Rattle.rules.specs.declared.Size.{Size}
use Rattle.rules.specs.Document.Pyramid.{area, levels}
use Rattle.rules.specs.Document.Calls.{work_for}
use Rattle.rules.specs.Promises.Vocabulary.{Legal}
use Rattle.rules.specs.Laws.Family.Sizes.{span, level_start, level_end, level_size}
use Rattle.rules.proofs.Laws.Family.Sizes.{level_size_end, level_end_next, level_end_start, level_start_fine}
use Rattle.rules.proofs.Laws.Family.Sizes.{level_start_top, span_some, span_most, level_size_fine, level_size_top, span_quarter}
use Rattle.trees.specs.Family.{tree_level}
use Rattle.trees.proofs.Family.{Lies, lies, level_at_lem, span_falls}
use Rattle.stretches.specs.Seg.{seg, seg_at, seg_length}
use Rattle.stretches.specs.Cut.{maxima_from, stretch_of, maxima_at}
use Rattle.stretches.specs.Workspace.{word_in, maximum_in}

abbrev pub words_from : Size → ℕ → ℕ
words_from z k = 4 * level_start z k

unfoldable pub blocks_from : Size → ℕ → ℕ
blocks_from z k = 4 * level_start z k + maxima_from (level_size z k)

unfoldable pub lent_to : Size → ℕ → ℕ
lent_to z k = cond (leb 2 k) (4 * level_start z (k - 1) + 4 * level_size z (k - 1)) (4 * level_start z k + 4 * level_size z k)

module _ (z : Size) (k : ℕ) where
  pub lent_first : k < 2 → lent_to z k ≡ 4 * level_start z k + 4 * level_size z k
  unfolding lent_to
  lent_first h = rw (lt-leb 2 k h)

  pub lent_next : 2 ≤ k → lent_to z k ≡ 4 * level_start z (k - 1) + 4 * level_size z (k - 1)
  unfolding lent_to
  lent_next h = rw (le-leb 2 k h)

module _ (z : Size) (Z : Legal z) where
  pub level_ends : (k : ℕ) → 1 ≤ k → k ≤ levels z → level_end z k ≤ area z
  level_ends zero a b = absurd (omega arith)
  level_ends (suc k) a b = omega (arith, level_end_next z k, span_most z Z k (omega arith))

  -- the next finer level has four times as many and begins where the level ends; a coarser level ends before a finer one begins
  pub next_size : (k : ℕ) → 2 ≤ k → k ≤ z.n → level_size z (k - 1) ≡ 4 * level_size z k
  next_size k a b =
      let i : suc (k - 1) ≡ k = omega arith in
      let q : span z (k - 1) ≡ 4 * span z k = span_quarter z Z (k - 1) (omega arith) ∙ ap (λ (j : ℕ). 4 * span z j) i in
      omega (arith, level_size_fine z Z (k - 1) (omega arith) (omega arith), level_size_fine z Z k (omega arith) b)

  pub next_start : (k : ℕ) → 2 ≤ k → k ≤ levels z → level_start z (k - 1) ≡ level_start z k + level_size z k
  next_start k a b =
      let i : suc (k - 1) ≡ k = omega arith in
      sym (level_end_start z (k - 1) (omega arith)) ∙ ap (level_end z) i ∙ sym (level_size_end z Z k (omega arith) b)

  pub level_before : (j k : ℕ) → 1 ≤ k → k < j → j ≤ levels z → level_start z j + level_size z j ≤ level_start z k
  level_before zero k a h b = absurd (omega arith)
  level_before (suc j) k a h b =
      omega (arith, level_size_end z Z (suc j) (omega arith) b, level_end_next z j, level_start_fine z k (omega arith), span_falls z k j (omega arith))

  pub stretch_room : (k : ℕ) → 1 ≤ k → k ≤ levels z → 4 * level_start z k + 4 * level_size z k ≤ work_for z
  stretch_room k a b = omega (arith, level_size_end z Z k a b, level_ends k a b)

  -- a level has blocks, and they are whole
  level_fours : (k : ℕ) → 1 ≤ k → k ≤ levels z → (m : ℕ) × (1 ≤ m) × (level_size z k ≡ 4 * m)
  level_fours k a b = go (dec_le k z.n)
    where
      go : Dec (k ≤ z.n) → (m : ℕ) × (1 ≤ m) × (level_size z k ≡ 4 * m)
      go (yes l) =
          let s : 1 ≤ span z (suc k) = span_some z Z (suc k) (omega arith) in
          (3 * span z (suc k), omega arith, omega (arith, level_size_fine z Z k a l, span_quarter z Z k l))
      go (no l) =
          let e : k ≡ levels z = omega arith in
          (span z (levels z), span_some z Z (levels z) (omega arith), rw e (level_size_top z Z ∙ span_quarter z Z z.n (omega arith)))

  pub size_some : (k : ℕ) → 1 ≤ k → k ≤ levels z → 1 ≤ level_size z k
  size_some k a b = let f = level_fours k a b in omega (arith, f.1, f.2)

  pub level_blocks : (k : ℕ) → 1 ≤ k → k ≤ levels z → 4 * (level_size z k / 4) ≡ level_size z k
  level_blocks k a b = let f = level_fours k a b in omega (arith, f.2)

  -- the tree numbers of a level, and that every one is in its level
  pub place_level : (k x : ℕ) → 1 ≤ k → k ≤ levels z → level_start z k ≤ x → x < level_start z k + level_size z k → tree_level z x ≡ k
  place_level zero x a b h l = absurd (omega arith)
  place_level (suc k) x a b h l =
      level_at_lem z k x (omega arith) (omega (arith, level_size_end z Z (suc k) a b, level_end_next z k)) (λ m. omega (arith, level_start_fine z (suc k) m))

  pub level_place : (k x : ℕ) → tree_level z x ≡ k → 1 ≤ k → (k ≤ levels z) × (level_start z k ≤ x) × (x < level_start z k + level_size z k)
  unfolding Lies
  level_place zero x e a = absurd (omega arith)
  level_place (suc k) x e a = by (subst (λ (j : ℕ). Lies z j x) e (lies z x)) (dec_le (suc k) z.n)
    where
      by : Lies z (suc k) x → Dec (suc k ≤ z.n)
          → (suc k ≤ levels z) × (level_start z (suc k) ≤ x) × (x < level_start z (suc k) + level_size z (suc k))
      by l d = (omega (arith, l.2), first d, omega (arith, l.0, level_size_end z Z (suc k) a (omega (arith, l.2)), level_end_next z k))
        where
          first : Dec (suc k ≤ z.n) → level_start z (suc k) ≤ x
          first (yes m) = omega (arith, level_start_fine z (suc k) m, l.1 m)
          first (no m) = let i : suc k ≡ levels z = omega (arith, l.2) in omega (arith, ap (level_start z) i, level_start_top z)

  pub level_some : (x : ℕ) → x < area z → 1 ≤ tree_level z x
  unfolding Lies
  level_some x h = by (tree_level z x) (lies z x)
    where
      by : (k : ℕ) → Lies z k x → 1 ≤ k
      by zero l = absurd (omega arith)
      by (suc k) l = omega arith

  pub record Numbered (x : ℕ) : Type 0 where
    pub some : 1 ≤ tree_level z x
    pub most : tree_level z x ≤ levels z
    pub from : level_start z (tree_level z x) ≤ x
    pub under : x - level_start z (tree_level z x) < level_size z (tree_level z x)

  pub numbered : (x : ℕ) → x < area z → Numbered x
  numbered x h =
      let p = level_place (tree_level z x) x refl (level_some x h) in
      record { some = level_some x h; most = p.0; from = p.1; under = omega (arith, p.1, p.2) }

  -- a level's stretch
  pub stretch_at : (work : List ℕ) (k i : ℕ) → i < 4 * level_size z k → get_or (stretch_of z k work) i 0 ≡ get_or work (4 * level_start z k + i) 0
  unfolding stretch_of
  stretch_at work k i h = seg_at (4 * level_start z k) (4 * level_size z k) work i h

  pub stretch_length : (work : List ℕ) (k : ℕ) → 1 ≤ k → k ≤ levels z → work_for z ≤ length work → length (stretch_of z k work) ≡ 4 * level_size z k
  unfolding stretch_of
  stretch_length work k a b h = seg_length (4 * level_start z k) (4 * level_size z k) work (omega (arith, stretch_room k a b))

  -- The words and the maxima of a level, by their places in the workspace and in its stretch.
  pub word_level : (work : List ℕ) (k x : ℕ) → tree_level z x ≡ k → 1 ≤ k → word_in z work x ≡ get_or work (words_from z k + (x - level_start z k)) 0
  unfolding word_in
  word_level work k x e a =
      ap (λ (j : ℕ). get_or work (3 * level_start z j + x) 0) e ∙ ap (λ (p : ℕ). get_or work p 0) (omega (arith, (level_place k x e a).1))

  pub word_place_lem : (work : List ℕ) (k t : ℕ) → 1 ≤ k → k ≤ levels z → t < level_size z k → word_in z work (level_start z k + t)
      ≡ get_or work (words_from z k + t) 0
  word_place_lem work k t a b h =
      word_level work k (level_start z k + t) (place_level k (level_start z k + t) a b (omega arith) (omega arith)) a
      ∙ ap (λ (i : ℕ). get_or work (words_from z k + i) 0) (omega arith)

  pub word_numbered : (work : List ℕ) (x : ℕ) → x < area z
      → word_in z work x ≡ get_or work (words_from z (tree_level z x) + (x - level_start z (tree_level z x))) 0
  word_numbered work x h = word_level work (tree_level z x) x refl (level_some x h)

  pub word_in_lem : (work : List ℕ) (k x : ℕ) → tree_level z x ≡ k → 1 ≤ k → word_in z work x ≡ get_or (stretch_of z k work) (x - level_start z k) 0
  word_in_lem work k x e a =
      let p = level_place k x e a in
      word_level work k x e a ∙ sym (stretch_at work k (x - level_start z k) (omega (arith, p.1, p.2)))

  pub maximum_place : (work : List ℕ) (k i : ℕ) → i < level_size z k / 4 → maximum_in z work k i ≡ get_or work (blocks_from z k + i) 0
  unfolding maximum_in blocks_from maxima_from
  maximum_place work k i h =
      let n : ℕ = level_size z k in
      maxima_at n (stretch_of z k work) i h ∙ stretch_at work k (n + n + n + 3 * n / 4 + i) (omega arith) ∙ ap (λ (p : ℕ). get_or work p 0) (omega arith)

-- a part that was lent and came back: itself, and what lies before and behind it
pub put_own : (a e : ℕ) (s ys : List ℕ) → a ≤ length s → length ys ≡ e - a → seg a (e - a) (put_mid a (e - a) s ys) ≡ ys
unfolding seg
put_own a e s ys l n =
    ap (take (e - a)) (drop_at (take a s) (ys ++ post_of a (e - a) s) a (length-take-le a s l)) ∙ take_at ys (post_of a (e - a) s) (e - a) n

pub put_inside : (a e : ℕ) (s ys : List ℕ) (i : ℕ) → a ≤ length s → length ys ≡ e - a → i < e - a → get_or (put_mid a (e - a) s ys) (a + i) 0 ≡ get_or ys i 0
put_inside a e s ys i l n u = sym (seg_at a (e - a) (put_mid a (e - a) s ys) i u) ∙ ap (λ x. get_or x i 0) (put_own a e s ys l n)

pub put_before : (a m : ℕ) (s ys : List ℕ) (i : ℕ) → a ≤ length s → i < a → get_or (put_mid a m s ys) i 0 ≡ get_or s i 0
put_before a m s ys i l h =
    sym (get_or-take a (put_mid a m s ys) i 0 h) ∙ ap (λ x. get_or x i 0) (take_put a m s ys l) ∙ get_or-take a s i 0 h

pub put_behind : (a e : ℕ) (s ys : List ℕ) (i : ℕ) → a ≤ e → e ≤ length s → length ys ≡ e - a → e ≤ i → get_or (put_mid a (e - a) s ys) i 0 ≡ get_or s i 0
put_behind a e s ys i l g n h =
    let j : i ≡ e + (i - e) = omega arith in
    ap (λ (x : ℕ). get_or (put_mid a (e - a) s ys) x 0) j
    ∙ sym (get_or-drop e (put_mid a (e - a) s ys) (i - e) 0) ∙ ap (λ x. get_or x (i - e) 0) (drop_put a e s ys l g n) ∙ get_or-drop e s (i - e) 0
    ∙ ap (λ (x : ℕ). get_or s x 0) (sym j)
