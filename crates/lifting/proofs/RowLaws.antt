-- Rows split: a line mirrored and split is split as the document has it; what the rows' functions ask of each other, and leave.
use mathlib.Core.Path.{◌≡◌, refl, sym, ap, ◌∙◌}
use mathlib.Core.Logic.{◌≢◌}
use mathlib.Core.List.{List}
use mathlib.Core.Bool.{cond}
use Prim.Native.Nat.{ℕ, ◌+◌, ◌-◌, ◌*◌, ◌≤◌, ◌<◌, min}
use native.Mathlib.Nat.{mul-le-mul, le_refl}
use native.Mathlib.Decide.{dec_lt}
use native.Mathlib.Omega.{arith}
use lib.Dec.{ltb}
use lib.ListN.{length, get_or, set, length-set}
use lib.IntN.{ℤ, pos}
use lib.Seq.{get_or-set_same, get_or-set_other}
use borrow.Author.Tests.{lt-ltb, le-ltb}
use Rattle.pictures.specs.Laws.Tones.{bias, toned}
use Rattle.lifting.specs.declared.Turn.{Turn}
use Rattle.lifting.specs.Fills.{along, Filled, Both}
use Rattle.lifting.specs.Lines.{reach, line, Near, high_of, low_of, ForStore, high_t, low_t, split_t}
use Rattle.lifting.specs.Rows.{Room, ForRow, lows_at, LowRow, HighRow}
use Rattle.lifting.proofs.SplitLines.{high_most, low_most_lem, high_least}

-- Lines that agree are split alike.
module _ (m : ℕ) (x y : ℕ → ℕ) (e : (c : ℕ) → c < 2 * m → x c ≡ y c) where
  pub high_t_same : (j : ℕ) → j < m → high_t m x j ≡ high_t m y j
  unfolding high_t
  high_t_same j h = rw (e (2 * j) (omega arith), e (2 * j + 1) (omega arith), e (2 * min (j + 1) (m - 1)) (omega arith)) refl

  pub low_t_same : (j : ℕ) → j < m → low_t m x j ≡ low_t m y j
  unfolding low_t
  low_t_same j h = rw (e (2 * j) (omega arith), high_t_same (j - 1) (omega arith), high_t_same j h) refl

  pub split_t_same : (j : ℕ) → j < 2 * m → split_t m x j ≡ split_t m y j
  unfolding split_t
  split_t_same j h = by (dec_lt j m)
    where
      by : Dec (j < m) → cond (ltb j m) (low_t m x j) (high_t m x (j - m)) ≡ cond (ltb j m) (low_t m y j) (high_t m y (j - m))
      by (yes k) = rw (lt-ltb j m k) (low_t_same j k)
      by (no k) = rw (le-ltb j m (omega arith)) (high_t_same (j - m) (omega arith))

module _ (m : ℕ) (x : ℕ → ℕ) where
  pub split_t_low : (j : ℕ) → j < m → split_t m x j ≡ low_t m x j
  unfolding split_t
  split_t_low j h = rw (lt-ltb j m h) refl

  pub split_t_high : (j : ℕ) → split_t m x (m + j) ≡ high_t m x j
  unfolding split_t
  split_t_high j = let e : m + j - m ≡ j = omega arith in rw (le-ltb (m + j) m (omega arith)) (ap (high_t m x) e)

-- a line mirrored
pub record Mirrored (s₀ : List ℕ) (x m : ℕ) (s : List ℕ) : Type 0 where
  pub some : 1 ≤ m
  pub room : x + 2 * m < length s₀
  pub list : s ≡ set s₀ (x + 2 * m) (get_or s₀ (x + (2 * m - 2)) 0)

module _ {s₀ : List ℕ} {x m : ℕ} {s : List ℕ} (M : Mirrored s₀ x m s) where
  e : s ≡ set s₀ (x + 2 * m) (get_or s₀ (x + (2 * m - 2)) 0)
  e = M.list

  pub mirror_same : length s ≡ length s₀
  mirror_same = rw e (length-set s₀ (x + 2 * m) (get_or s₀ (x + (2 * m - 2)) 0))

  pub mirror_kept : (q : ℕ) → q ≢ x + 2 * m → get_or s q 0 ≡ get_or s₀ q 0
  mirror_kept q n = rw e (get_or-set_other s₀ (x + 2 * m) q (get_or s₀ (x + (2 * m - 2)) 0) 0 n)

  inside : (c : ℕ) → c < 2 * m → line s x c ≡ line s₀ x c
  inside c h = mirror_kept (x + c) (omega arith)

  pub mirror_behind : line s x (2 * m) ≡ line s₀ x (2 * m - 2)
  mirror_behind = rw e (get_or-set_same s₀ (x + 2 * m) (get_or s₀ (x + (2 * m - 2)) 0) 0 M.room)

  pub mirror_near : Near (line s₀ x) (2 * m) reach → Near (line s x) (2 * m + 1) reach
  mirror_near N = record { least = λ c h. low c (dec_lt c (2 * m)) h; most = λ c h. high c (dec_lt c (2 * m)) h }
    where
      last : (c : ℕ) → c < 2 * m + 1 → (c < 2 * m → ⊥) → line s x c ≡ line s₀ x (2 * m - 2)
      last c h k = let p : c ≡ 2 * m = omega arith in rw p mirror_behind

      low : (c : ℕ) → Dec (c < 2 * m) → c < 2 * m + 1 → bias ≤ line s x c + reach
      low c (yes k) h = rw (inside c k) (N.least c k)
      low c (no k) h = rw (last c h k) (N.least (2 * m - 2) (omega (arith, M.some)))

      high : (c : ℕ) → Dec (c < 2 * m) → c < 2 * m + 1 → line s x c ≤ bias + reach
      high c (yes k) h = rw (inside c k) (N.most c k)
      high c (no k) h = rw (last c h k) (N.most (2 * m - 2) (omega (arith, M.some)))

  after : (j : ℕ) → j < m → line s x (2 * j + 2) ≡ line s₀ x (2 * min (j + 1) (m - 1))
  after j h = by (dec_lt (j + 1) m)
    where
      by : Dec (j + 1 < m) → line s x (2 * j + 2) ≡ line s₀ x (2 * min (j + 1) (m - 1))
      by (yes k) =
          let p : 2 * j + 2 ≡ 2 * min (j + 1) (m - 1) = omega arith in
          inside (2 * j + 2) (omega arith) ∙ ap (line s₀ x) p
      by (no k) =
          let p : 2 * j + 2 ≡ 2 * m = omega arith in
          let q : 2 * m - 2 ≡ 2 * min (j + 1) (m - 1) = omega arith in
          ap (line s x) p ∙ mirror_behind ∙ ap (line s₀ x) q

  pub mirror_high : (j : ℕ) → j < m → high_of (line s x) j ≡ high_t m (line s₀ x) j
  unfolding high_t
  mirror_high j h = rw (inside (2 * j) (omega arith), inside (2 * j + 1) (omega arith), after j h) refl

  pub mirror_low : (j : ℕ) → j < m → low_of (line s x) j ≡ low_t m (line s₀ x) j
  unfolding low_t
  mirror_low j h = rw (mirror_high (j - 1) (omega arith), mirror_high j h, inside (2 * j) (omega arith)) refl

-- what is made of a line with one more behind it is a tone
module _ (x : ℕ → ℕ) (m : ℕ) (N : Near x (2 * m + 1) reach) where
  pub high_of_small : (j : ℕ) → j < m → high_of x j ≤ bias + 2 * reach
  high_of_small j h =
      high_most reach (x (2 * j)) (x (2 * j + 1)) (x (2 * j + 2)) (omega arith)
      (N.least (2 * j) (omega arith)) (N.most (2 * j) (omega arith))
      (N.least (2 * j + 1) (omega arith)) (N.most (2 * j + 1) (omega arith))
      (N.least (2 * j + 2) (omega arith)) (N.most (2 * j + 2) (omega arith))

  high_of_large : (j : ℕ) → j < m → bias ≤ high_of x j + 2 * reach
  high_of_large j h =
      high_least reach (x (2 * j)) (x (2 * j + 1)) (x (2 * j + 2)) (omega arith)
      (N.least (2 * j) (omega arith)) (N.most (2 * j) (omega arith))
      (N.least (2 * j + 1) (omega arith)) (N.most (2 * j + 1) (omega arith))
      (N.least (2 * j + 2) (omega arith)) (N.most (2 * j + 2) (omega arith))

  pub low_of_small : (j : ℕ) → j < m → low_of x j ≤ bias + 2 * reach
  low_of_small j h =
      low_most_lem reach (x (2 * j)) (high_of x (j - 1)) (high_of x j) (omega arith)
      (N.least (2 * j) (omega arith)) (N.most (2 * j) (omega arith))
      (high_of_large (j - 1) (omega arith)) (high_of_small (j - 1) (omega arith)) (high_of_large j h) (high_of_small j h)

-- The rows' functions.
module _ {t : Turn} {s₀ : List ℕ} {out₀ : List ℤ} {i : ℕ} where
  pub row_inside : Room t s₀ out₀ → i < t.pairs → i * t.half + t.half ≤ t.lines
  row_inside R h =
      let p : (i + 1) * t.half ≤ t.pairs * t.half = mul-le-mul {n₁ = i + 1} {n₂ = t.pairs} (omega arith) (le_refl t.half) in
      omega (arith, R.picture)

  pub rows_there : Room t s₀ out₀ → i < t.pairs → (t.pairs + i) * t.stride + t.stride ≤ length out₀
  rows_there R h =
      let p : (i + 1) * t.stride ≤ t.pairs * t.stride = mul-le-mul {n₁ = i + 1} {n₂ = t.pairs} (omega arith) (le_refl t.stride) in
      omega (arith, R.rows)

  module _ (F : ForRow t s₀ out₀ i (lows_at t)) {s₁ : List ℕ}
      (e : s₁ ≡ set s₀ (lows_at t + 2 * t.half) (get_or s₀ (lows_at t + (2 * t.half - 2)) 0)) where
    abbrev m : ℕ
    m = t.half

    M₁ : Mirrored s₀ (lows_at t) m s₁
    M₁ = record { some = F.room.some; room = omega (arith, F.room.lines); list = e }

    near₁ : Near (line s₁ (lows_at t)) (2 * m + 1) reach
    near₁ = mirror_near M₁ F.near

    same₁ : length s₁ ≡ length s₀
    same₁ = mirror_same M₁

    module _ {s₂ : List ℕ}
        (b : Both s₁ (along (i * m)) (low_of (line s₁ (lows_at t))) (along (t.lines + (4 * m + 2))) (high_of (line s₁ (lows_at t))) m s₂) where
      pub low_row_stores : ForStore s₂ (t.lines + (4 * m + 2)) out₀ (i * t.stride + m) m
      low_row_stores =
          let R = F.room in
          let p = rows_there R F.below in
          let l = R.lines in
          let w = R.wide in
          let q = b.same ∙ same₁ in
          record {
            there = omega arith;
            room = omega arith;
            small = λ c h. rw (b.other c h) (omega (arith, high_of_small (line s₁ (lows_at t)) m near₁ c h));
          }

      pub low_row_lem : {out : List ℤ}
          → Filled (pos 0) out₀ (along (i * t.stride + m)) (λ c. toned (line s₂ (t.lines + (4 * m + 2)) c)) m out
          → LowRow t s₀ out₀ i s₂ out
      low_row_lem f =
          let R = F.room in
          record {
            same = b.same ∙ same₁;
            lows = λ c h. b.one c h ∙ mirror_low M₁ c h;
            kept = λ q h o. b.kept q o (λ c k. omega arith) ∙ mirror_kept M₁ q (omega arith);
            highs = record {
              same = f.same;
              done = λ c h. f.done c h ∙ ap toned (b.other c h ∙ mirror_high M₁ c h);
              kept = f.kept;
            };
          }

  module _ (F : ForRow t s₀ out₀ i t.lines) {s₁ : List ℕ}
      (e : s₁ ≡ set s₀ (t.lines + 2 * t.half) (get_or s₀ (t.lines + (2 * t.half - 2)) 0)) where
    abbrev n : ℕ
    n = t.half

    M₂ : Mirrored s₀ t.lines n s₁
    M₂ = record { some = F.room.some; room = omega (arith, F.room.lines); list = e }

    near₂ : Near (line s₁ t.lines) (2 * n + 1) reach
    near₂ = mirror_near M₂ F.near

    same₂ : length s₁ ≡ length s₀
    same₂ = mirror_same M₂

    module _ {s₂ : List ℕ}
        (b : Both s₁ (along (t.lines + (4 * n + 2))) (low_of (line s₁ t.lines)) (along (t.lines + (4 * n + 2) + n))
        (high_of (line s₁ t.lines)) n s₂) where
      right_half : (c : ℕ) → (c < n → ⊥) → c < 2 * n → line s₂ (t.lines + (4 * n + 2)) c ≡ high_of (line s₁ t.lines) (c - n)
      right_half c k h =
          let p : t.lines + (4 * n + 2) + c ≡ t.lines + (4 * n + 2) + n + (c - n) = omega arith in
          ap (λ q. get_or s₂ q 0) p ∙ b.other (c - n) (omega arith)

      pub high_row_stores : ForStore s₂ (t.lines + (4 * n + 2)) out₀ ((t.pairs + i) * t.stride) (2 * n)
      high_row_stores =
          let R = F.room in
          let p = rows_there R F.below in
          let l = R.lines in
          let w = R.wide in
          let q = b.same ∙ same₂ in
          record { there = omega arith; room = omega arith; small = λ c h. by c h (dec_lt c n) }
        where
          by : (c : ℕ) → c < 2 * n → Dec (c < n) → line s₂ (t.lines + (4 * n + 2)) c ≤ 2 * bias
          by c h (yes k) = rw (b.one c k) (omega (arith, low_of_small (line s₁ t.lines) n near₂ c k))
          by c h (no k) = rw (right_half c k h) (omega (arith, high_of_small (line s₁ t.lines) n near₂ (c - n) (omega arith)))

      pub high_row_lem : {out : List ℤ}
          → Filled (pos 0) out₀ (along ((t.pairs + i) * t.stride)) (λ c. toned (line s₂ (t.lines + (4 * n + 2)) c)) (2 * n) out
          → HighRow t s₀ out₀ i s₂ out
      high_row_lem f =
          let R = F.room in
          record {
            same = b.same ∙ same₂;
            kept = λ q h. b.kept q (λ c k. omega arith) (λ c k. omega arith) ∙ mirror_kept M₂ q (omega arith);
            bands = record { same = f.same; done = λ c h. f.done c h ∙ ap toned (by c h (dec_lt c n)); kept = f.kept };
          }
        where
          by : (c : ℕ) → c < 2 * n → Dec (c < n) → line s₂ (t.lines + (4 * n + 2)) c ≡ split_t n (line s₀ t.lines) c
          by c h (yes k) =
              b.one c k ∙ mirror_low M₂ c k ∙ sym (split_t_low n (line s₀ t.lines) c k)
          by c h (no k) =
              let p : n + (c - n) ≡ c = omega arith in
              right_half c k h ∙ mirror_high M₂ (c - n) (omega arith)
              ∙ sym (split_t_high n (line s₀ t.lines) (c - n)) ∙ ap (split_t n (line s₀ t.lines)) p
