-- A turn, pair of rows after pair of rows.
use mathlib.Core.Path.{◌≡◌, refl, sym, ap, subst, ◌∙◌}
use mathlib.Core.List.{List}
use Prim.Native.Nat.{ℕ, ◌+◌, ◌-◌, ◌*◌, ◌≤◌, ◌<◌, min}
use native.Mathlib.Nat.{mul-le-mul, le_refl}
use native.Mathlib.Decide.{dec_lt}
use native.Mathlib.Omega.{arith}
use lib.ListN.{length, get_or}
use lib.IntN.{ℤ, pos}
use Rattle.pictures.specs.Laws.Tones.{toned}
use Rattle.lifting.specs.declared.Turn.{Turn}
use Rattle.lifting.specs.Fills.{along, Filled}
use Rattle.lifting.specs.Lines.{reach, line, Near, ForHighs, row_high, high_t, low_t, split_t}
use Rattle.pictures.specs.Laws.Room.{shallow}
use Rattle.lifting.specs.Rows.{Room, ForPair, even_row, after_row, pair_high, pair_low, Pair}
use Rattle.lifting.specs.Turns.{picture, lows_of, highs_of, ForTurn, TurnSplit}
use Rattle.lifting.proofs.SplitLines.{high_least, high_most, low_least, low_most_lem}
use Rattle.lifting.proofs.RowLaws.{high_t_same, low_t_same, split_t_same}
use Rattle.lifting.proofs.PairLaws.{weaker, room_same, stands_near}

-- Highs and lows of a line within b of the bias are within 2b of it.
module _ (m : ℕ) (x : ℕ → ℕ) (b : ℕ) (small : b ≤ reach) (N : Near x (2 * m) b) where
  pub high_t_near : Near (high_t m x) m (2 * b)
  unfolding high_t
  high_t_near =
      record {
        least = λ c h. high_least b _ _ _ small (N.least (2 * c) (omega arith)) (N.most (2 * c) (omega arith))
            (N.least (2 * c + 1) (omega arith)) (N.most (2 * c + 1) (omega arith))
            (N.least (2 * min (c + 1) (m - 1)) (omega arith)) (N.most (2 * min (c + 1) (m - 1)) (omega arith));
        most = λ c h. high_most b _ _ _ small (N.least (2 * c) (omega arith)) (N.most (2 * c) (omega arith))
            (N.least (2 * c + 1) (omega arith)) (N.most (2 * c + 1) (omega arith))
            (N.least (2 * min (c + 1) (m - 1)) (omega arith)) (N.most (2 * min (c + 1) (m - 1)) (omega arith));
      }

  pub low_t_near : Near (low_t m x) m (2 * b)
  unfolding low_t
  low_t_near =
      let H = high_t_near in
      record {
        least = λ c h. low_least b _ _ _ small (N.least (2 * c) (omega arith)) (N.most (2 * c) (omega arith))
            (H.least (c - 1) (omega arith)) (H.most (c - 1) (omega arith)) (H.least c h) (H.most c h);
        most = λ c h. low_most_lem b _ _ _ small (N.least (2 * c) (omega arith)) (N.most (2 * c) (omega arith))
            (H.least (c - 1) (omega arith)) (H.most (c - 1) (omega arith)) (H.least c h) (H.most c h);
      }

-- After i pairs of rows; s₀ is the workspace with the first row of highs.
pub record Begun (t : Turn) (s₀ : List ℕ) (out₀ : List ℤ) (i : ℕ) (s : List ℕ) (out : List ℤ) : Type 0 where
  pub same : length s ≡ length s₀
  pub same_out : length out ≡ length out₀
  pub ahead : (q : ℕ) → i * t.half ≤ q → q < t.lines → get_or s q 0 ≡ get_or s₀ q 0
  pub before : (c : ℕ) → c < 2 * t.half → line s t.lines c ≡ highs_of t s₀ (i - 1) c
  pub next : (r c : ℕ) → r < i → c < t.half → get_or s (r * t.half + c) 0 ≡ low_t t.half (lows_of t s₀ r) c
  pub right : (r c : ℕ) → r < i → c < t.half
      → get_or out (r * t.stride + t.half + c) (pos 0) ≡ toned (high_t t.half (lows_of t s₀ r) c)
  pub bottom : (r c : ℕ) → r < i → c < 2 * t.half
      → get_or out ((t.pairs + r) * t.stride + c) (pos 0) ≡ toned (split_t t.half (highs_of t s₀ r) c)
  pub kept_below : (r c : ℕ) → 2 * t.pairs ≤ r → c < t.stride
      → get_or out (r * t.stride + c) (pos 0) ≡ get_or out₀ (r * t.stride + c) (pos 0)
  pub kept_beside : (r c : ℕ) → 2 * t.half ≤ c → c < t.stride
      → get_or out (r * t.stride + c) (pos 0) ≡ get_or out₀ (r * t.stride + c) (pos 0)

module _ {t : Turn} {s₀ : List ℕ} {out₀ : List ℤ} (F : ForTurn t s₀ out₀) where
  abbrev m : ℕ
  m = t.half

  abbrev k : ℕ
  k = t.pairs

  R : Room t s₀ out₀
  R = F.room

  cell_inside : (r c : ℕ) → r < 2 * k → c < 2 * m → r * (2 * m) + c < 4 * (k * m)
  cell_inside r c h l =
      let p : (r + 1) * (2 * m) ≤ 2 * k * (2 * m) = mul-le-mul {n₁ = r + 1} {n₂ = 2 * k} (omega arith) (le_refl (2 * m)) in omega arith

  column_near : (c : ℕ) → c < 2 * m → Near (λ r. picture t s₀ r c) (2 * k) shallow
  column_near c h =
      record {
        least = λ r l. (F.near r l).least c h;
        most = λ r l. (F.near r l).most c h;
      }

  pub highs_near : (r : ℕ) → r < k → Near (highs_of t s₀ r) (2 * m) (2 * shallow)
  highs_near r h =
      record {
        least = λ c l. (high_t_near k (λ q. picture t s₀ q c) shallow (omega arith) (column_near c l)).least r h;
        most = λ c l. (high_t_near k (λ q. picture t s₀ q c) shallow (omega arith) (column_near c l)).most r h;
      }

  -- the first row of highs
  row_near : (r : ℕ) → r < 2 * k → Near (line s₀ (r * (2 * m))) (2 * m) reach
  row_near r h = weaker reach (F.near r h) (omega arith)

  first_three : ForHighs s₀ 0 (2 * m) (after_row t 0) t.lines (2 * m)
  first_three =
      let l = R.lines in
      let p = R.picture in
      let o = F.some in
      let e₀ : 0 * (2 * m) ≡ 0 = omega arith in
      let e₁ : 1 * (2 * m) ≡ 2 * m = omega arith in
      let q : 2 * m ≤ 2 * k * m = mul-le-mul {n₁ = 2} {n₂ = 2 * k} (omega arith) (le_refl m) in
      let a : (2 * min (0 + 1) (k - 1) + 1) * (2 * m) ≤ 2 * k * (2 * m) =
      mul-le-mul {n₁ = 2 * min (0 + 1) (k - 1) + 1} {n₂ = 2 * k} (omega arith) (le_refl (2 * m)) in
      record {
        above = subst (λ q. Near (line s₀ q) (2 * m) reach) e₀ (row_near 0 (omega arith));
        own = subst (λ q. Near (line s₀ q) (2 * m) reach) e₁ (row_near 1 (omega arith));
        below = row_near (2 * min (0 + 1) (k - 1)) (omega arith);
        above_apart = omega arith;
        own_apart = omega arith;
        below_apart = omega arith;
        room = omega arith;
      }

  pub first_line : (a : ℕ) → a ≡ after_row t 0 → ForHighs s₀ 0 (2 * m) a t.lines (2 * m)
  first_line a e = rw e first_three

  module _ {a : ℕ} (e : a ≡ after_row t 0) {s₁ : List ℕ} (f₀ : Filled 0 s₀ (along t.lines) (row_high s₀ 0 (2 * m) a) (2 * m) s₁) where
    f : Filled 0 s₀ (along t.lines) (row_high s₀ 0 (2 * m) (after_row t 0)) (2 * m) s₁
    f = rw e at f₀

    cell_kept : (r c : ℕ) → r < 2 * k → c < 2 * m → picture t s₁ r c ≡ picture t s₀ r c
    cell_kept r c h l = f.kept (r * (2 * m) + c) (λ d g. omega (arith, cell_inside r c h l, R.picture))

    pub turn_still : ForTurn t s₁ out₀
    turn_still =
        record {
          room = room_same R f.same refl;
          some = F.some;
          near = λ r h. stands_near s₁ (r * (2 * m)) (picture t s₀ r) (λ c l. cell_kept r c h l) (F.near r h);
        }

    highs_kept : (r : ℕ) → r < k → (c : ℕ) → c < 2 * m → highs_of t s₁ r c ≡ highs_of t s₀ r c
    highs_kept r h c l = high_t_same k (λ q. picture t s₁ q c) (λ q. picture t s₀ q c) (λ q g. cell_kept q c g l) r h

    lows_kept : (r : ℕ) → r < k → (c : ℕ) → c < 2 * m → lows_of t s₁ r c ≡ lows_of t s₀ r c
    lows_kept r h c l = low_t_same k (λ q. picture t s₁ q c) (λ q. picture t s₀ q c) (λ q g. cell_kept q c g l) r h

    first_highs : (c : ℕ) → c < 2 * m → line s₁ t.lines c ≡ highs_of t s₀ 0 c
    unfolding high_t
    first_highs c h =
        let e₀ : 0 + c ≡ 2 * 0 * (2 * m) + c = omega arith in
        let e₁ : 2 * m + c ≡ (2 * 0 + 1) * (2 * m) + c = omega arith in
        f.done c h ∙ rw (ap (λ q. get_or s₀ q 0) e₀, ap (λ q. get_or s₀ q 0) e₁) refl

    pub begun_none : Begun t s₁ out₀ 0 s₁ out₀
    begun_none =
        record {
          same = refl;
          same_out = refl;
          ahead = λ q h l. refl;
          before = λ c h. first_highs c h ∙ sym (highs_kept 0 F.some c h);
          next = λ r c h l. absurd (omega arith);
          right = λ r c h l. absurd (omega arith);
          bottom = λ r c h l. absurd (omega arith);
          kept_below = λ r c h l. refl;
          kept_beside = λ r c h l. refl;
        }

    pub turn_done : {s : List ℕ} {out : List ℤ} {i : ℕ} → Begun t s₁ out₀ i s out → k ≤ i → TurnSplit t s₀ out₀ s out
    turn_done B o =
        record {
          same = B.same ∙ f.same;
          same_out = B.same_out;
          next = λ r c h l. B.next r c (omega arith) l ∙ low_t_same m (lows_of t s₁ r) (lows_of t s₀ r) (lows_kept r h) c l;
          right = λ r c h l. B.right r c (omega arith) l ∙ ap toned (high_t_same m (lows_of t s₁ r) (lows_of t s₀ r) (lows_kept r h) c l);
          bottom = λ r c h l. B.bottom r c (omega arith) l ∙ ap toned (split_t_same m (highs_of t s₁ r) (highs_of t s₀ r) (highs_kept r h) c l);
          kept_below = B.kept_below;
          kept_beside = B.kept_beside;
        }

  module _ {i : ℕ} {s : List ℕ} {out : List ℤ} (B : Begun t s₀ out₀ i s out) (h : i < k) where
    cell_ahead : (r c : ℕ) → 2 * i ≤ r → r < 2 * k → c < 2 * m → picture t s r c ≡ picture t s₀ r c
    cell_ahead r c g l j =
        let p = R.picture in
        let q : 2 * i * (2 * m) ≤ r * (2 * m) = mul-le-mul {n₁ = 2 * i} {n₂ = r} g (le_refl (2 * m)) in
        B.ahead (r * (2 * m) + c) (omega arith) (omega (arith, cell_inside r c l j))

    pub begun_pair : ForPair t s out i
    begun_pair =
        record {
          room = room_same R B.same B.same_out;
          below = h;
          near = λ r l g. stands_near s (r * (2 * m)) (picture t s₀ r) (λ c j. cell_ahead r c l g j) (F.near r g);
          before = stands_near s t.lines (highs_of t s₀ (i - 1)) B.before (highs_near (i - 1) (omega arith));
        }

    even_cell : (c : ℕ) → c < 2 * m → line s (even_row t i) c ≡ picture t s₀ (2 * i) c
    even_cell c g = cell_ahead (2 * i) c (omega arith) (omega arith) g

    odd_cell : (c : ℕ) → c < 2 * m → line s (even_row t i + 2 * m) c ≡ picture t s₀ (2 * i + 1) c
    odd_cell c g =
        let e : even_row t i + 2 * m + c ≡ (2 * i + 1) * (2 * m) + c = omega arith in
        ap (λ q. get_or s q 0) e ∙ cell_ahead (2 * i + 1) c (omega arith) (omega arith) g

    after_cell : (c : ℕ) → c < 2 * m → line s (after_row t i) c ≡ picture t s₀ (2 * min (i + 1) (k - 1)) c
    after_cell c g = cell_ahead (2 * min (i + 1) (k - 1)) c (omega arith) (omega arith) g

    high_is : (c : ℕ) → c < 2 * m → pair_high t s i c ≡ highs_of t s₀ i c
    unfolding high_t
    high_is c g = rw (even_cell c g, odd_cell c g, after_cell c g) refl

    low-is : (c : ℕ) → c < 2 * m → pair_low t s i c ≡ lows_of t s₀ i c
    unfolding low_t
    low-is c g = rw (high_is c g, even_cell c g, B.before c g) refl

    module _ {s' : List ℕ} {out' : List ℤ} (P : Pair t s out i s' out') where
      next_more : (r c : ℕ) → r < i + 1 → c < m → get_or s' (r * m + c) 0 ≡ low_t m (lows_of t s₀ r) c
      next_more r c g l = by (dec_lt r i)
        where
          by : Dec (r < i) → get_or s' (r * m + c) 0 ≡ low_t m (lows_of t s₀ r) c
          by (yes j) =
              let p : (r + 1) * m ≤ i * m = mul-le-mul {n₁ = r + 1} {n₂ = i} (omega arith) (le_refl m) in
              let q : i * m ≤ k * m = mul-le-mul {n₁ = i} {n₂ = k} (omega arith) (le_refl m) in
              P.kept (r * m + c) (omega (arith, R.picture)) (λ d n. omega arith) ∙ B.next r c j l
          by (no j) =
              let e : r ≡ i = omega arith in
              rw e (P.next c l ∙ low_t_same m (pair_low t s i) (lows_of t s₀ i) low-is c l)

      right_more : (r c : ℕ) → r < i + 1 → c < m → get_or out' (r * t.stride + m + c) (pos 0) ≡ toned (high_t m (lows_of t s₀ r) c)
      right_more r c g l = by (dec_lt r i)
        where
          by : Dec (r < i) → get_or out' (r * t.stride + m + c) (pos 0) ≡ toned (high_t m (lows_of t s₀ r) c)
          by (yes j) =
              let e : r * t.stride + m + c ≡ r * t.stride + (m + c) = omega arith in
              ap (λ q. get_or out' q (pos 0)) e
              ∙ P.kept_rows r (m + c) (omega (arith, R.wide)) (omega arith) (omega arith)
              ∙ ap (λ q. get_or out q (pos 0)) (sym e) ∙ B.right r c j l
          by (no j) =
              let e : r ≡ i = omega arith in
              rw e (P.right c l ∙ ap toned (high_t_same m (pair_low t s i) (lows_of t s₀ i) low-is c l))

      bottom_more : (r c : ℕ) → r < i + 1 → c < 2 * m → get_or out' ((k + r) * t.stride + c) (pos 0) ≡ toned (split_t m (highs_of t s₀ r) c)
      bottom_more r c g l = by (dec_lt r i)
        where
          by : Dec (r < i) → get_or out' ((k + r) * t.stride + c) (pos 0) ≡ toned (split_t m (highs_of t s₀ r) c)
          by (yes j) = P.kept_rows (k + r) c (omega (arith, R.wide)) (omega arith) (omega arith) ∙ B.bottom r c j l
          by (no j) =
              let e : r ≡ i = omega arith in
              rw e (P.bottom c l ∙ ap toned (split_t_same m (pair_high t s i) (highs_of t s₀ i) high_is c l))

      pub begun_more : Begun t s₀ out₀ (i + 1) s' out'
      begun_more =
          let e : i ≡ i + 1 - 1 = omega arith in
          record {
            same = P.same ∙ B.same;
            same_out = P.same_out ∙ B.same_out;
            ahead = λ q g l. P.kept q l (λ c n. omega arith) ∙ B.ahead q (omega arith) l;
            before = λ c g. P.highs c g ∙ high_is c g ∙ ap (λ r. highs_of t s₀ r c) e;
            next = next_more;
            right = right_more;
            bottom = bottom_more;
            kept_below = λ r c g l. P.kept_rows r c l (omega arith) (omega arith) ∙ B.kept_below r c g l;
            kept_beside = λ r c g l. P.kept_beside r c g l ∙ B.kept_beside r c g l;
          }
