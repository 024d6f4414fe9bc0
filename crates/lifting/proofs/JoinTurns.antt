-- A turn back, pair of rows after pair of rows, the last one first.
use mathlib.Core.Path.{◌≡◌, refl, sym, ap, subst, ◌∙◌}
use mathlib.Core.List.{List}
use Prim.Native.Nat.{ℕ, ◌+◌, ◌-◌, ◌*◌, ◌≤◌, ◌<◌, min}
use native.Mathlib.Nat.{mul-le-mul, le_refl}
use native.Mathlib.Decide.{dec_lt}
use native.Mathlib.Omega.{arith}
use lib.ListN.{length, get_or}
use lib.IntN.{ℤ}
use Rattle.pictures.specs.Laws.Tones.{bias, tone_even, tone_odd}
use Rattle.lifting.specs.declared.Turn.{Turn}
use Rattle.lifting.specs.Lines.{reach, line, Near}
use Rattle.lifting.specs.Joins.{tones_at, even_t, odd_t, BackRoom, low_row, high_row, HighRowJoined, ForJoinPair, PairJoined}
use Rattle.lifting.specs.Joins.{ForJoinTurn, returned_t, TurnJoined}
use Rattle.lifting.proofs.JoinLines.{joined_t_same, joined_t_even, joined_t_odd}
use Rattle.lifting.proofs.JoinRows.{low_inside, bands_there, cells_inside, tones_near}
use Rattle.lifting.proofs.JoinPairs.{joined_t_near, back_room, high_row_near}
use Rattle.lifting.proofs.PairLaws.{stands_near}

-- Rows from 2i on are the picture; what is before them is as it was.
pub record Rejoined (t : Turn) (pyramid : List ℤ) (s₀ : List ℕ) (i : ℕ) (s : List ℕ) : Type 0 where
  pub same : length s ≡ length s₀
  pub ahead : (q : ℕ) → q < 4 * (i * t.half) → get_or s q 0 ≡ get_or s₀ q 0
  pub highs : (c : ℕ) → c < 2 * t.half → line s t.lines c ≡ high_row t pyramid (i - 1) c
  pub behind : (r c : ℕ) → 2 * i ≤ r → r < 2 * t.pairs → c < 2 * t.half → get_or s (r * (2 * t.half) + c) 0 ≡ returned_t t pyramid s₀ r c

module _ {t : Turn} {pyramid : List ℤ} {s₀ : List ℕ} (F : ForJoinTurn t pyramid s₀) where
  abbrev m : ℕ
  m = t.half

  abbrev w : ℕ
  w = 2 * t.half

  R : BackRoom t pyramid s₀
  R = F.room

  even_of : (r c : ℕ) → returned_t t pyramid s₀ (2 * r) c ≡ tone_even (low_row t pyramid s₀ r c) (high_row t pyramid (r - 1) c) (high_row t pyramid r c)
  unfolding even_t
  even_of r c = joined_t_even t.pairs (λ k. low_row t pyramid s₀ k c) (λ k. high_row t pyramid k c) r

  odd_of : (r c : ℕ) → returned_t t pyramid s₀ (2 * r + 1) c
      ≡ tone_odd (high_row t pyramid r c) (returned_t t pyramid s₀ (2 * r) c) (returned_t t pyramid s₀ (2 * min (r + 1) (t.pairs - 1)) c)
  unfolding odd_t
  odd_of r c =
      joined_t_odd t.pairs (λ k. low_row t pyramid s₀ k c) (λ k. high_row t pyramid k c) r
      ∙ rw (
        ← (joined_t_even t.pairs (λ k. low_row t pyramid s₀ k c) (λ k. high_row t pyramid k c) r),
        ← (joined_t_even t.pairs (λ k. low_row t pyramid s₀ k c) (λ k. high_row t pyramid k c) (min (r + 1) (t.pairs - 1))),
      )
      refl

  pub low_row_near : (r : ℕ) → r < t.pairs → Near (low_row t pyramid s₀ r) w reach
  low_row_near r h =
      joined_t_near m (line s₀ (r * m)) (tones_at pyramid (r * t.stride + m)) R.some (F.near r h)
      (tones_near R h (r * t.stride + m) m (omega (arith, bands_there R h, R.wide)))

  even_least : (r c : ℕ) → r < t.pairs → c < w → bias ≤ returned_t t pyramid s₀ (2 * r) c + 2 * reach
  even_least r c h l =
      let x = (low_row_near r h).least c l in
      let y = (high_row_near R (r - 1) (omega arith)).most c l in
      let z = (high_row_near R r h).most c l in
      rw (even_of r c) (omega arith)

  even_most : (r c : ℕ) → r < t.pairs → c < w → returned_t t pyramid s₀ (2 * r) c ≤ bias + 2 * reach
  even_most r c h l =
      let x = (low_row_near r h).most c l in
      let y = (high_row_near R (r - 1) (omega arith)).least c l in
      let z = (high_row_near R r h).least c l in
      rw (even_of r c) (omega arith)

  module _ {s₁ : List ℕ} {n : ℕ} (en : n ≡ t.pairs - 1) (H : HighRowJoined t pyramid s₀ n t.lines s₁) where
    kept₁ : (q : ℕ) → q < t.lines → get_or s₁ q 0 ≡ get_or s₀ q 0
    kept₁ q h = H.kept q (omega arith) (λ c k. omega arith)

    row_kept : (r : ℕ) → r < t.pairs → (c : ℕ) → c < m → line s₁ (r * m) c ≡ line s₀ (r * m) c
    row_kept r h c l = kept₁ (r * m + c) (omega (arith, low_inside R h))

    pub join_still : ForJoinTurn t pyramid s₁
    join_still =
        record {
          room = back_room R H.same;
          some = F.some;
          near = λ r h. stands_near s₁ (r * m) (line s₀ (r * m)) (row_kept r h) (F.near r h);
        }

    pub rejoined_none : Rejoined t pyramid s₁ t.pairs s₁
    rejoined_none =
        record {
          same = refl;
          ahead = λ q h. refl;
          highs = λ c h. H.row c h ∙ ap (λ r. high_row t pyramid r c) en;
          behind = λ r c h l g. absurd (omega arith);
        }

    returned_kept : (r c : ℕ) → r < 2 * t.pairs → c < w → returned_t t pyramid s₁ r c ≡ returned_t t pyramid s₀ r c
    returned_kept r c h l =
        joined_t_same t.pairs (λ k. low_row t pyramid s₁ k c) (λ k. high_row t pyramid k c) (λ k. low_row t pyramid s₀ k c) (λ k. high_row t pyramid k c)
        (λ k g.
        joined_t_same m (line s₁ (k * m)) (tones_at pyramid (k * t.stride + m)) (line s₀ (k * m)) (tones_at pyramid (k * t.stride + m))
        (row_kept k g) (λ d j. refl) c l)
        (λ k g. refl) r h

    pub turn_joined : {s : List ℕ} {i : ℕ} → Rejoined t pyramid s₁ i s → i ≤ 0 → TurnJoined t pyramid s₀ s
    turn_joined B o =
        record { same = B.same ∙ H.same; picture = λ r c h l. B.behind r c (omega arith) h l ∙ returned_kept r c h l }

  -- one pair more
  module _ {k : ℕ} {s : List ℕ} (B : Rejoined t pyramid s₀ (k + 1) s) (h : k < t.pairs) where
    k_is : k + 1 - 1 ≡ k
    k_is = omega arith

    row_ahead : (c : ℕ) → c < m → line s (k * m) c ≡ line s₀ (k * m) c
    row_ahead c l = B.ahead (k * m + c) (omega arith)

    next_pair : ForJoinPair t pyramid s k
    next_pair =
        record {
          room = back_room R B.same;
          below = h;
          near = stands_near s (k * m) (line s₀ (k * m)) row_ahead (F.near k h);
          highs = λ c l. B.highs c l ∙ ap (λ r. high_row t pyramid r c) k_is;
          after = λ g.
              stands_near s (2 * (k + 1) * w) (λ c. returned_t t pyramid s₀ (2 * (k + 1)) c)
              (λ c l. B.behind (2 * (k + 1)) c (omega arith) (omega arith) l)
              (record { least = λ c l. even_least (k + 1) c g l; most = λ c l. even_most (k + 1) c g l });
        }

    module _ {s' : List ℕ} (P : PairJoined t pyramid s k s') where
      even_row_lem : (c : ℕ) → c < w → get_or s' (2 * k * w + c) 0 ≡ returned_t t pyramid s₀ (2 * k) c
      even_row_lem c l =
          P.even c l
          ∙ ap (λ v. tone_even v (high_row t pyramid (k - 1) c) (high_row t pyramid k c))
          (joined_t_same m (line s (k * m)) (tones_at pyramid (k * t.stride + m)) (line s₀ (k * m)) (tones_at pyramid (k * t.stride + m))
          row_ahead (λ d j. refl) c l)
          ∙ sym (even_of k c)

      row_after : (r c : ℕ) → 2 * k + 2 ≤ r → r < 2 * t.pairs → c < w → get_or s' (r * w + c) 0 ≡ returned_t t pyramid s₀ r c
      row_after r c g j l =
          let p : (2 * k + 2) * w ≤ r * w = mul-le-mul {n₁ = 2 * k + 2} {n₂ = r} g (le_refl w) in
          let q : (r + 1) * w ≤ 2 * t.pairs * w = mul-le-mul {n₁ = r + 1} {n₂ = 2 * t.pairs} (omega arith) (le_refl w) in
          P.kept (r * w + c) (omega (arith, R.picture)) (λ d n. omega arith) ∙ B.behind r c (omega arith) j l

      next_even : (c : ℕ) → c < w → get_or s' (2 * min (k + 1) (t.pairs - 1) * w + c) 0 ≡ returned_t t pyramid s₀ (2 * min (k + 1) (t.pairs - 1)) c
      next_even c l = by (dec_lt (k + 1) t.pairs)
        where
          by : Dec (k + 1 < t.pairs)
              → get_or s' (2 * min (k + 1) (t.pairs - 1) * w + c) 0 ≡ returned_t t pyramid s₀ (2 * min (k + 1) (t.pairs - 1)) c
          by (yes g) =
              let e : k + 1 ≡ min (k + 1) (t.pairs - 1) = omega arith in
              subst (λ r. get_or s' (2 * r * w + c) 0 ≡ returned_t t pyramid s₀ (2 * r) c) e (row_after (2 * (k + 1)) c (omega arith) (omega arith) l)
          by (no g) =
              let e : k ≡ min (k + 1) (t.pairs - 1) = omega arith in
              subst (λ r. get_or s' (2 * r * w + c) 0 ≡ returned_t t pyramid s₀ (2 * r) c) e (even_row_lem c l)

      odd_row : (c : ℕ) → c < w → get_or s' ((2 * k + 1) * w + c) 0 ≡ returned_t t pyramid s₀ (2 * k + 1) c
      odd_row c l =
          let e : (2 * k + 1) * w + c ≡ 2 * k * w + w + c = omega arith in
          ap (λ q. get_or s' q 0) e ∙ P.odd c l
          ∙ rw (sym (P.even c l) ∙ even_row_lem c l, next_even c l) (sym (odd_of k c))

      more : Rejoined t pyramid s₀ k s'
      more =
          record {
            same = P.same ∙ B.same;
            ahead = λ q g. P.kept q (omega (arith, cells_inside R h)) (λ d n. omega arith) ∙ B.ahead q (omega arith);
            highs = P.highs;
            behind = λ r c g j l. by r c g j l (dec_lt (2 * k) r) (dec_lt (2 * k + 1) r);
          }
        where
          by : (r c : ℕ) → 2 * k ≤ r → r < 2 * t.pairs → c < w → Dec (2 * k < r) → Dec (2 * k + 1 < r)
              → get_or s' (r * w + c) 0 ≡ returned_t t pyramid s₀ r c
          by r c g j l (no a) b = let e : 2 * k ≡ r = omega arith in subst (λ r. get_or s' (r * w + c) 0 ≡ returned_t t pyramid s₀ r c) e (even_row_lem c l)
          by r c g j l (yes a) (no b) =
              let e : 2 * k + 1 ≡ r = omega arith in subst (λ r. get_or s' (r * w + c) 0 ≡ returned_t t pyramid s₀ r c) e (odd_row c l)
          by r c g j l (yes a) (yes b) = row_after r c (omega arith) j l

  module _ {i : ℕ} {s : List ℕ} (B : Rejoined t pyramid s₀ i s) (some : 0 < i) (most : i ≤ t.pairs) where
    before : Rejoined t pyramid s₀ (i - 1 + 1) s
    before = let e : i ≡ i - 1 + 1 = omega arith in subst (λ n. Rejoined t pyramid s₀ n s) e B

    pub rejoin_pair : ForJoinPair t pyramid s (i - 1)
    rejoin_pair = next_pair before (omega arith)

    pub rejoin_more : {s' : List ℕ} → PairJoined t pyramid s (i - 1) s' → Rejoined t pyramid s₀ (i - 1) s'
    rejoin_more P = more before (omega arith) P
