-- A pair of rows on the way back: what its functions ask of each other, and leave.
use mathlib.Core.Path.{◌≡◌, refl, sym, ap, subst, ◌∙◌}
use mathlib.Core.Logic.{◌≢◌}
use mathlib.Core.List.{List}
use Prim.Native.Nat.{ℕ, ◌+◌, ◌-◌, ◌*◌, ◌/◌, ◌%◌, ◌≤◌, ◌<◌, min}
use native.Mathlib.Nat.{mul-le-mul, le_refl}
use native.Mathlib.Decide.{dec_lt}
use native.Mathlib.Omega.{arith}
use lib.ListN.{length, get_or}
use lib.IntN.{ℤ}
use Rattle.pictures.specs.Laws.Tones.{bias}
use Rattle.pictures.specs.Laws.Room.{shallow}
use Rattle.lifting.specs.declared.Turn.{Turn}
use Rattle.lifting.specs.Fills.{along, Off, Filled, Both}
use Rattle.lifting.specs.Lines.{reach, line, Near}
use Rattle.lifting.specs.Joins.{tones_at, even_t, odd_t, joined_t, BackRoom, highs_before, lows_joined, low_row, high_row, LowRowJoined}
use Rattle.lifting.specs.Joins.{HighRowJoined, ForEvenRow, row_even, ForOddRow, row_odd, ForJoinPair, pair_even, PairJoined}
use Rattle.lifting.specs.Rows.{after_row}
use Rattle.lifting.proofs.JoinLines.{even_t_near, joined_t_even, joined_t_odd}
use Rattle.lifting.proofs.JoinRows.{bands_there, cells_inside, tones_near}
use Rattle.lifting.proofs.PairLaws.{stands_near}

module _ (m : ℕ) (l h : ℕ → ℕ) (some : 1 ≤ m) (L : Near l m shallow) (H : Near h m shallow) where
  E : Near (even_t l h) m (2 * shallow)
  E = even_t_near m shallow l h (omega arith) (omega arith) L H

  odd_least : (j : ℕ) → j < m → bias ≤ odd_t m l h j + reach
  unfolding odd_t
  odd_least j q =
      let x = H.least j q in
      let y = E.least j q in
      let z = E.least (min (j + 1) (m - 1)) (omega arith) in
      omega arith

  odd_most : (j : ℕ) → j < m → odd_t m l h j ≤ bias + reach
  unfolding odd_t
  odd_most j q =
      let x = H.most j q in
      let y = E.most j q in
      let z = E.most (min (j + 1) (m - 1)) (omega arith) in
      omega arith

  pub joined_t_near : Near (joined_t m l h) (2 * m) reach
  joined_t_near = record { least = λ c q. low c q (dec_lt (c % 2) 1); most = λ c q. high c q (dec_lt (c % 2) 1) }
    where
      low : (c : ℕ) → c < 2 * m → Dec (c % 2 < 1) → bias ≤ joined_t m l h c + reach
      low c q (yes k) =
          let p : 2 * (c / 2) ≡ c = omega arith in
          subst (λ c. bias ≤ joined_t m l h c + reach) p (rw (joined_t_even m l h (c / 2)) (omega (arith, E.least (c / 2) (omega arith))))
      low c q (no k) =
          let p : 2 * (c / 2) + 1 ≡ c = omega arith in
          subst (λ c. bias ≤ joined_t m l h c + reach) p (rw (joined_t_odd m l h (c / 2)) (odd_least (c / 2) (omega arith)))

      high : (c : ℕ) → c < 2 * m → Dec (c % 2 < 1) → joined_t m l h c ≤ bias + reach
      high c q (yes k) =
          let p : 2 * (c / 2) ≡ c = omega arith in
          subst (λ c. joined_t m l h c ≤ bias + reach) p (rw (joined_t_even m l h (c / 2)) (omega (arith, E.most (c / 2) (omega arith))))
      high c q (no k) =
          let p : 2 * (c / 2) + 1 ≡ c = omega arith in
          subst (λ c. joined_t m l h c ≤ bias + reach) p (rw (joined_t_odd m l h (c / 2)) (odd_most (c / 2) (omega arith)))

pub back_room : {t : Turn} {pyramid : List ℤ} {s₀ s : List ℕ} → BackRoom t pyramid s₀ → length s ≡ length s₀ → BackRoom t pyramid s
back_room R e =
    record { some = R.some; wide = R.wide; picture = R.picture; lines = omega (arith, R.lines); rows = R.rows; small = R.small }

pub high_row_near : {t : Turn} {pyramid : List ℤ} {s : List ℕ} → BackRoom t pyramid s → (r : ℕ) → r < t.pairs
    → Near (high_row t pyramid r) (2 * t.half) reach
high_row_near {t} {pyramid} R r h =
    let b = bands_there R h in
    let v = R.wide in
    joined_t_near t.half (tones_at pyramid ((t.pairs + r) * t.stride)) (tones_at pyramid ((t.pairs + r) * t.stride + t.half)) R.some
    (tones_near R h ((t.pairs + r) * t.stride) t.half (omega arith))
    (tones_near R h ((t.pairs + r) * t.stride + t.half) t.half (omega arith))

module _ {t : Turn} {pyramid : List ℤ} {s₀ : List ℕ} {i : ℕ} (F : ForJoinPair t pyramid s₀ i) where
  abbrev m : ℕ
  m = t.half

  abbrev w : ℕ
  w = 2 * t.half

  abbrev to : ℕ
  to = 2 * i * w

  R : BackRoom t pyramid s₀
  R = F.room

  low_row_near : Near (low_row t pyramid s₀ i) w reach
  low_row_near =
      joined_t_near m (line s₀ (i * m)) (tones_at pyramid (i * t.stride + m)) R.some F.near
      (tones_near R F.below (i * t.stride + m) m (omega (arith, bands_there R F.below, R.wide)))

  even_least : (c : ℕ) → c < w → bias ≤ pair_even t pyramid s₀ i c + 2 * reach
  even_least c h =
      let x = low_row_near.least c h in
      let y = (high_row_near R (i - 1) (omega (arith, F.below))).most c h in
      let z = (high_row_near R i F.below).most c h in
      omega arith

  even_most : (c : ℕ) → c < w → pair_even t pyramid s₀ i c ≤ bias + 2 * reach
  even_most c h =
      let x = low_row_near.most c h in
      let y = (high_row_near R (i - 1) (omega (arith, F.below))).least c h in
      let z = (high_row_near R i F.below).least c h in
      omega arith

  module _ {s₁ : List ℕ} (L : LowRowJoined t pyramid s₀ i s₁) {b : ℕ} (eb : b ≡ i - 1) where
    module _ {s₂ : List ℕ} (H : HighRowJoined t pyramid s₁ b (highs_before t) s₂) where
      same₂ : length s₂ ≡ length s₀
      same₂ = H.same ∙ L.same

      lows_at_lem : (c : ℕ) → c < w → line s₂ (lows_joined t) c ≡ low_row t pyramid s₀ i c
      lows_at_lem c h = H.kept (lows_joined t + c) (omega arith) (λ d k. omega arith) ∙ L.row c h

      before_at : (c : ℕ) → c < w → line s₂ (highs_before t) c ≡ high_row t pyramid (i - 1) c
      before_at c h = H.row c h ∙ ap (λ r. high_row t pyramid r c) eb

      own_at : (c : ℕ) → c < w → line s₂ t.lines c ≡ high_row t pyramid i c
      own_at c h =
          H.kept (t.lines + c) (omega arith) (λ d k. omega arith) ∙ L.kept (t.lines + c) (omega arith) ∙ F.highs c h

      picture_at : (q : ℕ) → q < t.lines → get_or s₂ q 0 ≡ get_or s₀ q 0
      picture_at q h = H.kept q (omega arith) (λ d k. omega arith) ∙ L.kept q (omega arith)

      pub pair_evens : ForEvenRow s₂ (lows_joined t) (highs_before t) t.lines to w
      pair_evens =
          let l = R.lines in
          let c = cells_inside R F.below in
          let e = same₂ in
          record {
            lows = stands_near s₂ (lows_joined t) (low_row t pyramid s₀ i) lows_at_lem low_row_near;
            before = stands_near s₂ (highs_before t) (high_row t pyramid (i - 1)) before_at (high_row_near R (i - 1) (omega (arith, F.below)));
            own = stands_near s₂ t.lines (high_row t pyramid i) own_at (high_row_near R i F.below);
            apart = omega arith;
            order = omega arith;
            last = omega arith;
            room = omega arith;
          }

      module _ {s₃ : List ℕ} (f : Filled 0 s₂ (along to) (row_even s₂ (lows_joined t) (highs_before t) t.lines) w s₃)
          {next : ℕ} (en : next ≡ after_row t i) where
        abbrev a : ℕ
        a = min (i + 1) (t.pairs - 1)

        even_at : (c : ℕ) → c < w → line s₃ to c ≡ pair_even t pyramid s₀ i c
        even_at c h = f.done c h ∙ rw (lows_at_lem c h, before_at c h, own_at c h) refl

        even_near_lem : Near (line s₃ to) w (2 * reach)
        even_near_lem = stands_near s₃ to (pair_even t pyramid s₀ i) even_at (record { least = even_least; most = even_most })

        lines_at : (q : ℕ) → t.lines ≤ q → get_or s₃ q 0 ≡ get_or s₂ q 0
        lines_at q h = let c = cells_inside R F.below in f.kept q (λ d k. omega arith)

        after_case : Dec (i + 1 < t.pairs) → Near (line s₃ (2 * a * w)) w (2 * reach)
        after_case (yes k) =
            let e : a ≡ i + 1 = omega arith in
            let p : (i + 1 + 1) * m ≤ t.pairs * m = mul-le-mul {n₁ = i + 1 + 1} {n₂ = t.pairs} (omega arith) (le_refl m) in
            rw e
            (stands_near s₃ (2 * (i + 1) * w) (line s₀ (2 * (i + 1) * w))
            (λ c h.
            f.kept (2 * (i + 1) * w + c) (λ d j. omega arith)
            ∙ picture_at (2 * (i + 1) * w + c) (omega (arith, R.picture)))
            (F.after k))
        after_case (no k) = let e : a ≡ i = omega (arith, F.below) in rw e even_near_lem

        next_off_lem : Dec (i + 1 < t.pairs) → (c : ℕ) → c < w → Off (2 * a * w + c) (along (to + w)) w
        next_off_lem (yes k) c h d j = let e : a ≡ i + 1 = omega arith in rw e (omega arith)
        next_off_lem (no k) c h d j = let e : a ≡ i = omega (arith, F.below) in rw e (omega arith)

        next_inside : 2 * a * w + w ≤ t.lines
        next_inside =
            let b = F.below in
            let q : (2 * a + 1) * w ≤ 2 * t.pairs * w = mul-le-mul {n₁ = 2 * a + 1} {n₂ = 2 * t.pairs} (omega arith) (le_refl w) in
            omega (arith, R.picture)

        pub pair_odds : ForOddRow s₃ t.lines (highs_before t) next to w
        pair_odds = rw en odds
          where
            odds : ForOddRow s₃ t.lines (highs_before t) (after_row t i) to w
            odds =
                let l = R.lines in
                let c = cells_inside R F.below in
                let e = f.same ∙ same₂ in
                record {
                  own = stands_near s₃ t.lines (high_row t pyramid i) (λ c h. lines_at (t.lines + c) (omega arith) ∙ own_at c h)
                      (high_row_near R i F.below);
                  even = even_near_lem;
                  after = after_case (dec_lt (i + 1) t.pairs);
                  next_off = next_off_lem (dec_lt (i + 1) t.pairs);
                  next_before = next_inside;
                  apart = omega arith;
                  order = omega arith;
                  room = omega arith;
                }

        module _ {s₄ : List ℕ} (g₀ : Both s₃ (along (to + w)) (row_odd s₃ t.lines to next) (along t.lines) (line s₃ (highs_before t)) w s₄) where
          g : Both s₃ (along (to + w)) (row_odd s₃ t.lines to (after_row t i)) (along t.lines) (line s₃ (highs_before t)) w s₄
          g = rw en at g₀

          even_stays : (c : ℕ) → c < w → line s₄ to c ≡ line s₃ to c
          even_stays c h = let k = cells_inside R F.below in g.kept (to + c) (λ d j. omega arith) (λ d j. omega arith)

          next_stays : (c : ℕ) → c < w → line s₃ (after_row t i) c ≡ line s₄ (after_row t i) c
          next_stays c h =
              let k = next_inside in
              sym (g.kept (after_row t i + c) (next_off_lem (dec_lt (i + 1) t.pairs) c h) (λ d j. omega arith))

          pub pair_joined : PairJoined t pyramid s₀ i s₄
          pair_joined =
              let k = cells_inside R F.below in
              record {
                same = g.same ∙ f.same ∙ same₂;
                even = λ c h. even_stays c h ∙ even_at c h;
                odd = λ c h. g.one c h ∙ rw (lines_at (t.lines + c) (omega arith) ∙ own_at c h, even_at c h, next_stays c h) refl;
                highs = λ c h. g.other c h ∙ lines_at (highs_before t + c) (omega arith) ∙ before_at c h;
                kept = λ q h o.
                    g.kept q (λ d j. beyond q o d j) (λ d j. omega arith) ∙ f.kept q (λ d j. o d (omega arith)) ∙ picture_at q h;
              }
            where
              beyond : (q : ℕ) → Off q (along to) (2 * w) → (d : ℕ) → d < w → q ≢ to + w + d
              beyond q o d j e = o (w + d) (omega arith) (omega (arith, e))
