-- A pair of rows: what its functions ask of each other, and leave.
use mathlib.Core.Path.{◌≡◌, refl, sym, ap, subst, ◌∙◌}
use mathlib.Core.Logic.{◌≢◌}
use mathlib.Core.List.{List}
use Prim.Native.Nat.{ℕ, ◌+◌, ◌-◌, ◌*◌, ◌≤◌, ◌<◌, min}
use native.Mathlib.Nat.{mul-le-mul, le_refl}
use native.Mathlib.Decide.{dec_lt}
use native.Mathlib.Omega.{arith}
use lib.ListN.{length, get_or}
use lib.IntN.{ℤ, pos}
use Rattle.pictures.specs.Laws.Tones.{toned}
use Rattle.lifting.specs.declared.Turn.{Turn}
use Rattle.lifting.specs.Fills.{along, Both}
use Rattle.lifting.specs.Lines.{reach, line, Near, ForRows, row_high, row_low, high_t}
use Rattle.pictures.specs.Laws.Room.{shallow}
use Rattle.lifting.specs.Rows.{Room, ForRow, lows_at, LowRow, HighRow, ForPair, even_row, after_row, pair_high, pair_low, Pair}
use Rattle.lifting.proofs.SplitLines.{high_least, high_most, low_least, low_most_lem}
use Rattle.lifting.proofs.RowLaws.{high_t_same, low_t_same, split_t_same, row_inside}

-- Places of rows and columns are apart.
row_under : (i r w c d : ℕ) → i < r → c < w → i * w + c ≢ r * w + d
row_under i r w c d h k e = let p : (i + 1) * w ≤ r * w = mul-le-mul {n₁ = i + 1} {n₂ = r} (omega arith) (le_refl w) in omega arith

pub rows_apart : (i r w c d : ℕ) → c < w → d < w → i ≢ r → i * w + c ≢ r * w + d
rows_apart i r w c d h k n e = by (dec_lt i r)
  where
    by : Dec (i < r) → ⊥
    by (yes l) = row_under i r w c d l h e
    by (no l) = row_under r i w d c (omega (arith, n)) k (sym e)

pub columns_apart : (i r w c d : ℕ) → c < w → d < w → c ≢ d → i * w + c ≢ r * w + d
columns_apart i r w c d h k n e = by (dec_lt i r) (dec_lt r i)
  where
    by : Dec (i < r) → Dec (r < i) → ⊥
    by (yes l) g = row_under i r w c d l h e
    by (no l) (yes g) = row_under r i w d c g k (sym e)
    by (no l) (no g) = let p : i ≡ r = omega arith in let q : i * w ≡ r * w = ap (λ n. n * w) p in n (omega arith)

pub weaker : {x : ℕ → ℕ} {n b : ℕ} (d : ℕ) → Near x n b → b ≤ d → Near x n d
weaker d N h = record { least = λ c k. omega (arith, N.least c k); most = λ c k. omega (arith, N.most c k) }

-- A line that stands in the workspace is as near as what it is.
pub stands_near : (s : List ℕ) (at : ℕ) {n b : ℕ} (x : ℕ → ℕ) → ((c : ℕ) → c < n → line s at c ≡ x c) → Near x n b → Near (line s at) n b
stands_near s at x e N = record { least = λ c h. rw (e c h) (N.least c h); most = λ c h. rw (e c h) (N.most c h) }

pub room_same : {t : Turn} {s₀ : List ℕ} {out₀ : List ℤ} {s : List ℕ} {out : List ℤ} → Room t s₀ out₀ → length s ≡ length s₀ → length out ≡ length out₀
    → Room t s out
room_same R e f =
    record { some = R.some; wide = R.wide; picture = R.picture; lines = omega (arith, R.lines); rows = omega (arith, R.rows) }

module _ {t : Turn} {s₀ : List ℕ} {out₀ : List ℤ} {i : ℕ} (F : ForPair t s₀ out₀ i) where
  R : Room t s₀ out₀
  R = F.room

  row_near : (r : ℕ) → 2 * i ≤ r → r < 2 * t.pairs → Near (line s₀ (r * (2 * t.half))) (2 * t.half) shallow
  row_near = F.near

  odd_place : (2 * i + 1) * (2 * t.half) ≡ even_row t i + 2 * t.half
  odd_place = omega arith

  even_near_lem : Near (line s₀ (even_row t i)) (2 * t.half) shallow
  even_near_lem = row_near (2 * i) (omega arith) (omega (arith, F.below))

  odd_near : Near (line s₀ (even_row t i + 2 * t.half)) (2 * t.half) shallow
  odd_near = subst (λ q. Near (line s₀ q) (2 * t.half) shallow) odd_place (row_near (2 * i + 1) (omega arith) (omega (arith, F.below)))

  after_near : Near (line s₀ (after_row t i)) (2 * t.half) shallow
  after_near = row_near (2 * min (i + 1) (t.pairs - 1)) (omega (arith, F.below)) (omega (arith, F.below))

  abbrev w : ℕ
  w = 2 * t.half

  pair_inside : (r : ℕ) → r < 2 * t.pairs → r * w + w ≤ t.lines
  pair_inside r h =
      let q : (r + 1) * w ≤ 2 * t.pairs * w = mul-le-mul {n₁ = r + 1} {n₂ = 2 * t.pairs} (omega arith) (le_refl w) in
      omega (arith, R.picture)

  lifts : ForRows s₀ (even_row t i) (even_row t i + w) (after_row t i) t.lines (t.lines + (w + 1)) w
  lifts =
      let l = R.lines in
      let b = F.below in
      record {
        highs = record {
          above = weaker reach even_near_lem (omega arith);
          own = weaker reach odd_near (omega arith);
          below = weaker reach after_near (omega arith);
          above_apart = pair_inside (2 * i) (omega arith);
          own_apart = omega (arith, pair_inside (2 * i + 1) (omega arith));
          below_apart = pair_inside (2 * min (i + 1) (t.pairs - 1)) (omega arith);
          room = omega arith;
        };
        before = weaker (2 * reach) F.before (omega arith);
        apart = omega arith;
        room = omega arith;
      }

  high_near_lem : Near (pair_high t s₀ i) w (2 * shallow)
  high_near_lem =
      let A = even_near_lem in
      let B = odd_near in
      let C = after_near in
      record {
        least = λ c h.
            high_least shallow _ _ _ (omega arith) (A.least c h) (A.most c h) (B.least c h) (B.most c h) (C.least c h) (C.most c h);
        most = λ c h.
            high_most shallow _ _ _ (omega arith) (A.least c h) (A.most c h) (B.least c h) (B.most c h) (C.least c h) (C.most c h);
      }

  low_near_lem : Near (pair_low t s₀ i) w (2 * shallow)
  low_near_lem =
      let A = even_near_lem in
      let D = F.before in
      let H = high_near_lem in
      record {
        least = λ c h.
            low_least shallow _ _ _ (omega arith) (A.least c h) (A.most c h) (D.least c h) (D.most c h) (H.least c h) (H.most c h);
        most = λ c h.
            low_most_lem shallow _ _ _ (omega arith) (A.least c h) (A.most c h) (D.least c h) (D.most c h) (H.least c h) (H.most c h);
      }

  pub pair_lifts : (a : ℕ) → a ≡ after_row t i
      → ForRows s₀ (even_row t i) (even_row t i + w) a t.lines (t.lines + (w + 1)) w
  pair_lifts a e = rw e lifts

  module _ {a : ℕ} (e : a ≡ after_row t i) {s₁ : List ℕ}
      (b₀ : Both s₀ (along (t.lines + (w + 1))) (row_low s₀ (even_row t i) (even_row t i + w) a t.lines)
      (along t.lines) (row_high s₀ (even_row t i) (even_row t i + w) a) w s₁) where
    b : Both s₀ (along (t.lines + (w + 1))) (pair_low t s₀ i) (along t.lines) (pair_high t s₀ i) w s₁
    b = rw e at b₀

    pub pair_low_asks : ForRow t s₁ out₀ i (lows_at t)
    pair_low_asks =
        record {
          room = room_same R b.same refl;
          below = F.below;
          near = weaker reach (stands_near s₁ (lows_at t) (pair_low t s₀ i) b.one low_near_lem) (omega arith);
        }

    module _ {s₂ : List ℕ} {out₁ : List ℤ} (L : LowRow t s₁ out₀ i s₂ out₁) where
      highs_there : (c : ℕ) → c < w → line s₂ t.lines c ≡ pair_high t s₀ i c
      highs_there c h =
          let p = row_inside R F.below in
          L.kept (t.lines + c) (omega arith) (λ d k. omega arith) ∙ b.other c h

      pub pair_high_asks : ForRow t s₂ out₁ i t.lines
      pair_high_asks =
          record {
            room = room_same R (L.same ∙ b.same) L.highs.same;
            below = F.below;
            near = weaker reach (stands_near s₂ t.lines (pair_high t s₀ i) highs_there high_near_lem) (omega arith);
          }

      module _ {s₃ : List ℕ} {out₂ : List ℤ} (H : HighRow t s₂ out₁ i s₃ out₂) where
        pair_right : (c : ℕ) → c < t.half → get_or out₂ (i * t.stride + t.half + c) (pos 0) ≡ toned (high_t t.half (pair_low t s₀ i) c)
        pair_right c h =
            let v = R.wide in
            H.bands.kept (i * t.stride + t.half + c)
            (λ d k e. rows_apart i (t.pairs + i) t.stride (t.half + c) d (omega arith) (omega arith) (omega (arith, F.below)) (omega (arith, e)))
            ∙ L.highs.done c h
            ∙ ap toned (high_t_same t.half (line s₁ (lows_at t)) (pair_low t s₀ i) b.one c h)

        pair_rows : (r c : ℕ) → c < t.stride → r ≢ i → r ≢ t.pairs + i
            → get_or out₂ (r * t.stride + c) (pos 0) ≡ get_or out₀ (r * t.stride + c) (pos 0)
        pair_rows r c h n n' =
            let v = R.wide in
            H.bands.kept (r * t.stride + c) (λ d k. rows_apart r (t.pairs + i) t.stride c d h (omega arith) n')
            ∙ L.highs.kept (r * t.stride + c)
            (λ d k e. rows_apart r i t.stride c (t.half + d) h (omega arith) n (omega (arith, e)))

        pair_beside : (r c : ℕ) → 2 * t.half ≤ c → c < t.stride
            → get_or out₂ (r * t.stride + c) (pos 0) ≡ get_or out₀ (r * t.stride + c) (pos 0)
        pair_beside r c g h =
            H.bands.kept (r * t.stride + c) (λ d k. columns_apart r (t.pairs + i) t.stride c d h (omega arith) (omega arith))
            ∙ L.highs.kept (r * t.stride + c)
            (λ d k e. columns_apart r i t.stride c (t.half + d) h (omega arith) (omega arith) (omega (arith, e)))

        pub pair_made : Pair t s₀ out₀ i s₃ out₂
        pair_made =
            let p = row_inside R F.below in
            record {
              same = H.same ∙ L.same ∙ b.same;
              same_out = H.bands.same ∙ L.highs.same;
              next = λ c h.
                  H.kept (i * t.half + c) (omega arith) ∙ L.lows c h
                  ∙ low_t_same t.half (line s₁ (lows_at t)) (pair_low t s₀ i) b.one c h;
              highs = λ c h. H.kept (t.lines + c) (omega arith) ∙ highs_there c h;
              kept = λ q h o.
                  H.kept q (omega arith) ∙ L.kept q (omega arith) o ∙ b.kept q (λ c k. omega arith) (λ c k. omega arith);
              right = pair_right;
              bottom = λ c h.
                  H.bands.done c h ∙ ap toned (split_t_same t.half (line s₂ t.lines) (pair_high t s₀ i) highs_there c h);
              kept_rows = pair_rows;
              kept_beside = pair_beside;
            }
