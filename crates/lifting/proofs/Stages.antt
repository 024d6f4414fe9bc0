-- Tones stand for numbers: lines, blocks, and the picture turn after turn.
use mathlib.Core.Path.{◌≡◌, refl, sym, ap, subst, ◌∙◌}
use mathlib.Core.Bool.{cond}
use mathlib.Core.List.{List}
use Prim.Native.Nat.{ℕ, suc, ◌+◌, ◌-◌, ◌*◌, ◌/◌, ◌^◌, ◌≤◌, ◌<◌, min}
use native.Mathlib.Nat.{mul-le-mul, le_refl, mul_comm, div-one}
use native.Mathlib.Numerals.{add-one}
use native.Mathlib.Decide.{dec_lt}
use native.Mathlib.Omega.{arith}
use lib.Arith.{digits_lt}
use lib.Dec.{ltb}
use lib.IntN.{ℤ, pos, nat_abs}
use lib.ListN.{length, get_or}
use lib.Pow.{shr_le}
use borrow.Author.Tests.{lt-ltb, le-ltb}
use Rattle.rules.specs.declared.Size.{Size}
use Rattle.rules.specs.Document.Pyramid.{area, most_decompositions}
use Rattle.rules.proofs.Laws.Family.Sizes.{legal, side_some}
use Rattle.rules.specs.Promises.Vocabulary.{Legal}
use Rattle.pictures.specs.Document.Lifting.{Line, Grid, high, low, split, columns_split, turn, forward}
use Rattle.pictures.specs.Laws.Tones.{bias, toned}
use Rattle.pictures.proofs.Laws.Tones.{sub_below, sub_least, toned_high, toned_low}
use Rattle.pictures.proofs.Laws.Reversible.{by_block, rows_outside, columns_outside}
use Rattle.pictures.specs.Laws.Turns.{Most, most_pixel}
use Rattle.pictures.proofs.Laws.Grids.{turn_at as turn_block}
use Rattle.pictures.specs.Laws.Room.{shallow}
use Rattle.pictures.proofs.Laws.Room.{room_in}
use Rattle.lifting.specs.declared.Turn.{Turn}
use Rattle.lifting.specs.Lines.{reach, Near, high_t, low_t, split_t}
use Rattle.lifting.specs.Rows.{Room}
use Rattle.lifting.specs.Turns.{picture, lows_of, highs_of, ForTurn, TurnSplit, turn_at, ForBlock}
use Rattle.lifting.specs.Pictures.{TonesOf, Splitting}
use Rattle.lifting.proofs.RowLaws.{high_t_same, low_t_same, split_t_same, split_t_low, split_t_high}
use Rattle.lifting.proofs.TurnLaws.{high_t_near, low_t_near}

-- a line of tones, and the line that it stands for
module _ (m : ℕ) (X : ℕ → ℕ) (b : ℕ) (small : b ≤ reach) (N : Near X (2 * m) b) where
  split_t_least : (j : ℕ) → j < 2 * m → bias ≤ split_t m X j + 2 * b
  unfolding split_t
  split_t_least j h = by (dec_lt j m)
    where
      by : Dec (j < m) → bias ≤ cond (ltb j m) (low_t m X j) (high_t m X (j - m)) + 2 * b
      by (yes k) = rw (lt-ltb j m k) ((low_t_near m X b small N).least j k)
      by (no k) = rw (le-ltb j m (omega arith)) ((high_t_near m X b small N).least (j - m) (omega arith))

  split_t_most : (j : ℕ) → j < 2 * m → split_t m X j ≤ bias + 2 * b
  unfolding split_t
  split_t_most j h = by (dec_lt j m)
    where
      by : Dec (j < m) → cond (ltb j m) (low_t m X j) (high_t m X (j - m)) ≤ bias + 2 * b
      by (yes k) = rw (lt-ltb j m k) ((low_t_near m X b small N).most j k)
      by (no k) = rw (le-ltb j m (omega arith)) ((high_t_near m X b small N).most (j - m) (omega arith))

  module _ (x : Line) (e : (c : ℕ) → c < 2 * m → toned (X c) ≡ x c) where
    high_stands : (j : ℕ) → j < m → toned (high_t m X j) ≡ high m x j
    unfolding high_t
    high_stands j h =
        let p = N.most (2 * j) (omega arith) in
        let q = N.most (2 * min (j + 1) (m - 1)) (omega arith) in
        let r = N.least (2 * j + 1) (omega arith) in
        toned_high m x j (X (2 * j)) (X (2 * j + 1)) (X (2 * min (j + 1) (m - 1))) (e (2 * j) (omega arith)) (e (2 * j + 1) (omega arith))
        (e (2 * min (j + 1) (m - 1)) (omega arith)) (omega arith)

    low_stands : (j : ℕ) → j < m → toned (low_t m X j) ≡ low m x j
    unfolding low_t
    low_stands j h =
        let p = N.least (2 * j) (omega arith) in
        toned_low m x j (X (2 * j)) (high_t m X (j - 1)) (high_t m X j) (e (2 * j) (omega arith)) (high_stands (j - 1) (omega arith))
        (high_stands j h) (omega arith)

    split_stands : (j : ℕ) → j < 2 * m → toned (split_t m X j) ≡ split m x j
    unfolding split_t split
    split_stands j h = by (dec_lt j m)
      where
        by : Dec (j < m) → toned (cond (ltb j m) (low_t m X j) (high_t m X (j - m))) ≡ cond (ltb j m) (low m x j) (high m x (j - m))
        by (yes k) = rw (lt-ltb j m k) (low_stands j k)
        by (no k) = rw (le-ltb j m (omega arith)) (high_stands (j - m) (omega arith))

-- columns, then rows
module _ (k m : ℕ) (P : ℕ → ℕ → ℕ) (b : ℕ) (small : 2 * b ≤ reach) (N : (r : ℕ) → r < 2 * k → Near (P r) (2 * m) b) where
  column : (c : ℕ) → c < 2 * m → Near (λ r. P r c) (2 * k) b
  column c h = record { least = λ r l. (N r l).least c h; most = λ r l. (N r l).most c h }

  block_stands : (g : Grid) → ((r c : ℕ) → r < 2 * k → c < 2 * m → toned (P r c) ≡ g r c) → (i j : ℕ) → i < 2 * k → j < 2 * m
      → toned (split_t m (λ c. split_t k (λ r. P r c) i) j) ≡ split m (λ c. split k (λ r. g r c) i) j
  block_stands g e i j h l =
      split_stands m (λ c. split_t k (λ r. P r c) i) (2 * b) small
      (record {
        least = λ c q. split_t_least k (λ r. P r c) b (omega arith) (column c q) i h;
        most = λ c q. split_t_most k (λ r. P r c) b (omega arith) (column c q) i h;
      })
      (λ c. split k (λ r. g r c) i)
      (λ c q. split_stands k (λ r. P r c) b (omega arith) (column c q) (λ r. g r c) (λ r p. e r c p q) i h)
      j l

-- what a turn leaves, as one block
module _ {t : Turn} {s₀ : List ℕ} {out₀ : List ℤ} {s : List ℕ} {out : List ℤ} (T : TurnSplit t s₀ out₀ s out) where
  abbrev m : ℕ
  m = t.half

  abbrev k : ℕ
  k = t.pairs

  abbrev block_t : ℕ → ℕ → ℕ
  block_t i j = split_t m (λ c. split_t k (λ r. picture t s₀ r c) i) j

  lows_are : (i : ℕ) → i < k → (c : ℕ) → c < 2 * m → lows_of t s₀ i c ≡ split_t k (λ r. picture t s₀ r c) i
  lows_are i h c l = sym (split_t_low k (λ r. picture t s₀ r c) i h)

  next_block : (i j : ℕ) → i < k → j < m → get_or s (i * m + j) 0 ≡ block_t i j
  next_block i j h l =
      T.next i j h l ∙ low_t_same m (lows_of t s₀ i) (λ c. split_t k (λ r. picture t s₀ r c) i) (lows_are i h) j l
      ∙ sym (split_t_low m (λ c. split_t k (λ r. picture t s₀ r c) i) j l)

  right_block : (i j : ℕ) → i < k → j < m → get_or out (i * t.stride + m + j) (pos 0) ≡ toned (block_t i (m + j))
  right_block i j h l =
      T.right i j h l
      ∙ ap toned
      (high_t_same m (lows_of t s₀ i) (λ c. split_t k (λ r. picture t s₀ r c) i) (lows_are i h) j l
      ∙ sym (split_t_high m (λ c. split_t k (λ r. picture t s₀ r c) i) j))

  bottom_block : (i j : ℕ) → i < k → j < 2 * m → get_or out ((k + i) * t.stride + j) (pos 0) ≡ toned (block_t (k + i) j)
  bottom_block i j h l =
      T.bottom i j h l
      ∙ ap toned
      (split_t_same m (highs_of t s₀ i) (λ c. split_t k (λ r. picture t s₀ r c) (k + i))
      (λ c q. sym (split_t_high k (λ r. picture t s₀ r c) i)) j l)

  out_block : (i j : ℕ) → i < 2 * k → j < 2 * m → (i < k → j < m → ⊥) → get_or out (i * t.stride + j) (pos 0) ≡ toned (block_t i j)
  out_block i j h l o = by (dec_lt i k)
    where
      by : Dec (i < k) → get_or out (i * t.stride + j) (pos 0) ≡ toned (block_t i j)
      by (yes a) =
          let b : m ≤ j = beyond (dec_lt j m) in
          let e : i * t.stride + j ≡ i * t.stride + m + (j - m) = omega arith in
          let f : m + (j - m) ≡ j = omega arith in
          ap (λ q. get_or out q (pos 0)) e ∙ right_block i (j - m) a (omega arith) ∙ ap (λ c. toned (block_t i c)) f
        where
          beyond : Dec (j < m) → m ≤ j
          beyond (yes b) = absurd (o a b)
          beyond (no b) = omega arith
      by (no a) =
          let f : k + (i - k) ≡ i = omega arith in
          subst (λ r. get_or out (r * t.stride + j) (pos 0) ≡ toned (block_t r j)) f (bottom_block (i - k) j (omega arith) l)

-- how far a tone is from the bias
pub tone_least : (t r : ℕ) → nat_abs (toned t) ≤ r → bias ≤ t + r
tone_least t r h = by (dec_lt t bias)
  where
    by : Dec (t < bias) → bias ≤ t + r
    by (yes k) = omega (arith, rw (sub_below t bias k) at h)
    by (no k) = omega arith

pub tone_most : (t r : ℕ) → nat_abs (toned t) ≤ r → t ≤ bias + r
tone_most t r h = by (dec_lt t bias)
  where
    by : Dec (t < bias) → t ≤ bias + r
    by (yes k) = omega arith
    by (no k) = omega (arith, rw (sub_least t bias (omega arith)) at h)

-- After l turns: what is still to be turned stands in the workspace, all else in the pyramid.
pub record Stage (z : Size) (work : List ℕ) (out₀ : List ℤ) (l : ℕ) (s : List ℕ) (out : List ℤ) : Type 0 where
  pub same : length s ≡ length work
  pub same_out : length out ≡ length out₀
  pub inside : (g : Grid) → TonesOf z work g → (i j : ℕ) → i < z.h / 2 ^ l → j < z.w / 2 ^ l
      → toned (get_or s (i * (z.w / 2 ^ l) + j) 0) ≡ forward z l g i j
  pub outside : (g : Grid) → TonesOf z work g → (i j : ℕ) → i < z.h → j < z.w → (i < z.h / 2 ^ l → j < z.w / 2 ^ l → ⊥)
      → get_or out (i * z.w + j) (pos 0) ≡ forward z l g i j

module _ {z : Size} {work : List ℕ} {out₀ : List ℤ} where
  pub stage_none : Stage z work out₀ 0 work out₀
  unfolding forward
  stage_none =
      record {
        same = refl;
        same_out = refl;
        inside = λ g t i j a b. rw (div-one z.w) (t i j (omega (arith, div-one z.h)) (omega (arith, div-one z.w)));
        outside = λ g t i j a b o. absurd (o (omega (arith, div-one z.h)) (omega (arith, div-one z.w)));
      }

  module _ (S : Splitting z work out₀) where
    Z : Legal z
    Z = legal z S.legal

    pub few_turns : z.n ≤ most_decompositions
    few_turns = Z.few

    abbrev g₀ : Grid
    g₀ i j = toned (get_or work (i * z.w + j) 0)

    own : TonesOf z work g₀
    own i j a b = refl

    pixels : Most z.h z.w most_pixel g₀
    pixels i j a b =
        let q : i * z.w + j < area z = omega (arith, digits_lt a b, mul_comm z.h z.w) in
        let m = S.most (i * z.w + j) q in
        let l = S.least (i * z.w + j) q in
        rw (sub_least (get_or work (i * z.w + j) 0) bias l) (omega arith)

    taken : (l : ℕ) → l ≤ z.n → Most (z.h / 2 ^ l) (z.w / 2 ^ l) shallow (forward z l g₀)
    taken l a = (room_in z Z (omega (arith, Z.few)) g₀ pixels l a).taken

    module _ {l : ℕ} {s : List ℕ} {out : List ℤ} (T : Stage z work out₀ l s out) where
      stage_near : l ≤ z.n → (i j : ℕ) → i < z.h / 2 ^ l → j < z.w / 2 ^ l → nat_abs (toned (get_or s (i * (z.w / 2 ^ l) + j) 0)) ≤ shallow
      stage_near a i j b c = rw (T.inside g₀ own i j b c) (taken l a i j b c)

      module _ (a : l < z.n) where
        abbrev p : ℕ
        p = z.h / 2 ^ (l + 1)

        abbrev n : ℕ
        n = z.w / 2 ^ (l + 1)

        rows_halve : z.h / 2 ^ l ≡ 2 * p
        rows_halve = rw add-one (Z.height.half l (omega arith))

        columns_halve : z.w / 2 ^ l ≡ 2 * n
        columns_halve = rw add-one (Z.width.half l (omega arith))

        cell_near : (i j : ℕ) → i < 2 * p → j < 2 * n → nat_abs (toned (get_or s (i * (2 * n) + j) 0)) ≤ shallow
        cell_near i j b c =
            rw (← columns_halve) (stage_near (omega arith) i j (omega (arith, rows_halve)) (omega (arith, columns_halve)))

        row_near : (i : ℕ) → i < 2 * p → Near (picture (turn_at z l) s i) (2 * n) shallow
        row_near i b =
            record {
              least = λ c q. tone_least (get_or s (i * (2 * n) + c) 0) shallow (cell_near i c b q);
              most = λ c q. tone_most (get_or s (i * (2 * n) + c) 0) shallow (cell_near i c b q);
            }

        some_rows : 1 ≤ p
        some_rows = rw add-one (side_some z.n z.h Z.height (suc l) (omega arith))

        some_columns : 1 ≤ n
        some_columns = rw add-one (side_some z.n z.w Z.width (suc l) (omega arith))

        stage_room : Room (turn_at z l) s out
        stage_room =
            let h = shr_le z.h l in
            let w = shr_le z.w l in
            let r = rows_halve in
            let c = columns_halve in
            let all : 2 * p * (2 * n) ≤ z.h * z.w = mul-le-mul {n₁ = 2 * p} {n₂ = z.h} (omega arith) (omega arith) in
            let long : 2 * p * z.w ≤ z.h * z.w = mul-le-mul {n₁ = 2 * p} {n₂ = z.h} (omega arith) (le_refl z.w) in
            let four : z.w * 4 ≤ z.w * z.h = mul-le-mul {n₁ = z.w} {n₂ = z.w} (le_refl z.w) Z.height.least in
            let turned = mul_comm z.h z.w in
            let v = Z.width.least in
            let e = T.same in
            let f = T.same_out in
            let y = S.room in
            let x = S.exact in
            record {
              some = some_columns;
              wide = omega arith;
              picture = omega arith;
              lines = omega arith;
              rows = omega arith;
            }

        pub stage_turn : ForTurn (turn_at z l) s out
        stage_turn = record { room = stage_room; some = some_rows; near = row_near }

        module _ {s' : List ℕ} {out' : List ℤ} (U : TurnSplit (turn_at z l) s out s' out') where
          turned_at : (g : Grid) → TonesOf z work g → (i j : ℕ) → i < 2 * p → j < 2 * n → toned (block_t U i j) ≡ forward z (l + 1) g i j
          unfolding forward
          turned_at g t i j b c =
              let hp : z.h / 2 ^ l / 2 ≡ p = omega (arith, rows_halve) in
              let hn : z.w / 2 ^ l / 2 ≡ n = omega (arith, columns_halve) in
              let e : turn z l (forward z l g) i j ≡ split n (λ c. split p (λ r. forward z l g r c) i) j =
              rw (hp, hn) at (turn_block z Z l (omega arith) (forward z l g) i j (omega (arith, rows_halve)) (omega (arith, columns_halve))) in
              block_stands p n (picture (turn_at z l) s) shallow (omega arith) row_near (forward z l g)
              (λ r c q q'. rw (← columns_halve) (T.inside g t r c (omega (arith, rows_halve)) (omega (arith, columns_halve)))) i j b c
              ∙ sym e ∙ rw add-one refl

          unturned_at : (g : Grid) (i j : ℕ) → (i < z.h / 2 ^ l → j < z.w / 2 ^ l → ⊥) → forward z (l + 1) g i j ≡ forward z l g i j
          unfolding forward turn
          unturned_at g i j o =
              rw add-one
              (rows_outside split (z.h / 2 ^ l) (z.w / 2 ^ l) (columns_split (z.h / 2 ^ l) (z.w / 2 ^ l) (forward z l g)) i j o
              ∙ columns_outside split (z.h / 2 ^ l) (z.w / 2 ^ l) (forward z l g) i j o)

          kept_at : (i j : ℕ) → j < z.w → (i < z.h / 2 ^ l → j < z.w / 2 ^ l → ⊥)
              → get_or out' (i * z.w + j) (pos 0) ≡ get_or out (i * z.w + j) (pos 0)
          kept_at i j c o = by (dec_lt i (2 * p)) (dec_lt j (2 * n))
            where
              by : Dec (i < 2 * p) → Dec (j < 2 * n) → get_or out' (i * z.w + j) (pos 0) ≡ get_or out (i * z.w + j) (pos 0)
              by (no d) e = U.kept_below i j (omega arith) c
              by (yes d) (no e) = U.kept_beside i j (omega arith) c
              by (yes d) (yes e) = absurd (o (omega (arith, rows_halve)) (omega (arith, columns_halve)))

          pub stage_more : Stage z work out₀ (l + 1) s' out'
          stage_more =
              record {
                same = U.same ∙ T.same;
                same_out = U.same_out ∙ T.same_out;
                inside = λ g t i j b c. ap toned (next_block U i j b c) ∙ turned_at g t i j (omega arith) (omega arith);
                outside = λ g t i j b c o.
                    by_block (z.h / 2 ^ l) (z.w / 2 ^ l) i j
                    (λ d e.
                    out_block U i j (omega (arith, rows_halve)) (omega (arith, columns_halve)) o
                    ∙ turned_at g t i j (omega (arith, rows_halve)) (omega (arith, columns_halve)))
                    (λ d. kept_at i j c d ∙ T.outside g t i j b c d ∙ sym (unturned_at g i j d));
              }

        -- the same of a turn that is turn l
        module _ {t : Turn} (e : t ≡ turn_at z l) where
          pub stage_asks : ForTurn t s out
          stage_asks = rw e stage_turn

          pub stage_next : {s' : List ℕ} {out' : List ℤ} → TurnSplit t s out s' out' → Stage z work out₀ (l + 1) s' out'
          stage_next {s'} {out'} U = stage_more (subst (λ u. TurnSplit u s out s' out') e U)

    -- after the last turn
    module _ {s : List ℕ} {out : List ℤ} (T : Stage z work out₀ z.n s out) where
      pub stage_block : ForBlock s out (z.h / 2 ^ z.n) (z.w / 2 ^ z.n) z.w
      stage_block =
          let h = shr_le z.h z.n in
          let w = shr_le z.w z.n in
          let all : z.h / 2 ^ z.n * (z.w / 2 ^ z.n) ≤ z.h * z.w = mul-le-mul h w in
          let long : z.h / 2 ^ z.n * z.w ≤ z.h * z.w = mul-le-mul h (le_refl z.w) in
          let turned = mul_comm z.h z.w in
          let y = S.room in
          let x = S.exact in
          let e = T.same in
          let f = T.same_out in
          record {
            there = omega arith;
            room = omega arith;
            wide = w;
            small = λ r c a b.
                omega (arith, tone_most (get_or s (r * (z.w / 2 ^ z.n) + c) 0) shallow (stage_near T (omega arith) r c a b));
          }

    module _ {l : ℕ} {s : List ℕ} {out : List ℤ} (T : Stage z work out₀ l s out) (a : l ≤ z.n) (b : z.n ≤ l) where
      last : Stage z work out₀ z.n s out
      last = let e : l ≡ z.n = omega arith in subst (λ l. Stage z work out₀ l s out) e T

      pub last_block : ForBlock s out (z.h / 2 ^ z.n) (z.w / 2 ^ z.n) z.w
      last_block = stage_block last
