-- Rows joined: what the rows' functions ask of each other, and leave.
use mathlib.Core.Path.{◌≡◌, refl, ap, ◌∙◌}
use mathlib.Core.List.{List}
use Prim.Native.Nat.{ℕ, ◌+◌, ◌*◌, ◌≤◌, ◌<◌}
use native.Mathlib.Nat.{mul-le-mul, le_refl}
use native.Mathlib.Omega.{arith}
use lib.ListN.{length, get_or, set}
use lib.IntN.{ℤ, pos, negsuc, nat_abs}
use Rattle.pictures.specs.Laws.Tones.{bias, tone_even, tone_odd}
use Rattle.pictures.specs.Laws.Room.{shallow, most_back}
use Rattle.lifting.specs.declared.Turn.{Turn}
use Rattle.lifting.specs.Fills.{along, Filled, Both}
use Rattle.lifting.specs.Lines.{line, Near}
use Rattle.lifting.specs.Joins.{tone_of, tones_at, ForLoad, ForJoin, OddAsks, LineJoined, BackRoom, lows_joined, loaded, ForLowRow, LowRowJoined}
use Rattle.lifting.specs.Joins.{ForHighRow, HighRowJoined, ForEvenRow, row_even, ForOddRow, row_odd}
use Rattle.lifting.proofs.Filling.{filled_more, both_more}
use Rattle.lifting.proofs.JoinLines.{joined_t_same}

tone_of_least : (v : ℤ) → nat_abs v ≤ most_back → bias ≤ tone_of v + shallow
tone_of_least (pos m) h = omega arith
tone_of_least (negsuc m) h = omega arith

tone_of_most : (v : ℤ) → nat_abs v ≤ most_back → tone_of v ≤ bias + shallow
tone_of_most (pos m) h = omega arith
tone_of_most (negsuc m) h = omega arith

module _ {t : Turn} {pyramid : List ℤ} {s₀ : List ℕ} {i : ℕ} (R : BackRoom t pyramid s₀) (below : i < t.pairs) where
  pub low_inside : i * t.half + t.half ≤ t.lines
  low_inside =
      let p : (i + 1) * t.half ≤ t.pairs * t.half = mul-le-mul {n₁ = i + 1} {n₂ = t.pairs} (omega arith) (le_refl t.half) in
      omega (arith, R.picture)

  pub bands_there : (t.pairs + i) * t.stride + t.stride ≤ length pyramid
  bands_there =
      let p : (i + 1) * t.stride ≤ t.pairs * t.stride = mul-le-mul {n₁ = i + 1} {n₂ = t.pairs} (omega arith) (le_refl t.stride) in
      omega (arith, R.rows)

  pub cells_inside : 2 * i * (2 * t.half) + 2 * (2 * t.half) ≤ t.lines
  cells_inside = omega (arith, low_inside_four)
    where
      low_inside_four : 4 * (i * t.half) + 4 * t.half ≤ t.lines
      low_inside_four =
          let p : (i + 1) * t.half ≤ t.pairs * t.half = mul-le-mul {n₁ = i + 1} {n₂ = t.pairs} (omega arith) (le_refl t.half) in
          omega (arith, R.picture)

  pub tones_near : (at n : ℕ) → at + n ≤ length pyramid → Near (tones_at pyramid at) n shallow
  tones_near at n h =
      record {
        least = λ c k. tone_of_least (get_or pyramid (at + c) (pos 0)) (R.small (at + c) (omega arith));
        most = λ c k. tone_of_most (get_or pyramid (at + c) (pos 0)) (R.small (at + c) (omega arith));
      }

-- the row of lows
module _ {t : Turn} {pyramid : List ℤ} {s₀ : List ℕ} {i : ℕ} (F : ForLowRow t pyramid s₀ i) where
  abbrev m : ℕ
  m = t.half

  abbrev at : ℕ
  at = i * t.stride + m

  at_there : at + m ≤ length pyramid
  at_there = omega (arith, bands_there F.room F.below, F.room.wide)

  pub low_loads : ForLoad pyramid at s₀ (loaded t) m
  low_loads =
      let l = F.room.lines in
      record { there = at_there; room = omega arith; small = λ c h. F.room.small (at + c) (omega (arith, at_there)) }

  module _ {s₁ : List ℕ} (f : Filled 0 s₀ (along (loaded t)) (tones_at pyramid at) m s₁) where
    own_lows : (c : ℕ) → c < m → line s₁ (i * m) c ≡ line s₀ (i * m) c
    own_lows c h = let p = low_inside F.room F.below in f.kept (i * m + c) (λ d k. omega arith)

    N : Near (tones_at pyramid at) m shallow
    N = tones_near F.room F.below at m at_there

    pub low_joins : ForJoin s₁ (i * m) (loaded t) (lows_joined t) m
    low_joins =
        let l = F.room.lines in
        let p = low_inside F.room F.below in
        let e = f.same in
        record {
          some = F.room.some;
          low_near = record { least = λ c h. rw (own_lows c h) (F.near.least c h); most = λ c h. rw (own_lows c h) (F.near.most c h) };
          high_near = record { least = λ c h. rw (f.done c h) (N.least c h); most = λ c h. rw (f.done c h) (N.most c h) };
          lows_room = omega arith;
          highs_room = omega arith;
          room = omega arith;
          lows_off = λ c h d k. omega arith;
          highs_off = λ c h d k. omega arith;
        }

    pub low_row_joined : {s₂ : List ℕ} → LineJoined s₁ (i * m) (loaded t) (lows_joined t) m s₂ → LowRowJoined t pyramid s₀ i s₂
    low_row_joined J =
        record {
          same = J.same ∙ f.same;
          row = λ c h.
              J.joined c h
              ∙ joined_t_same m (line s₁ (i * m)) (line s₁ (loaded t)) (line s₀ (i * m)) (tones_at pyramid at) own_lows f.done c h;
          kept = λ q h. J.kept q (λ c k. omega arith) ∙ f.kept q (λ c k. omega arith);
        }

-- the row of highs
module _ {t : Turn} {pyramid : List ℤ} {s₀ : List ℕ} {i to : ℕ} (F : ForHighRow t pyramid s₀ i to) where
  abbrev n : ℕ
  n = t.half

  abbrev from : ℕ
  from = (t.pairs + i) * t.stride

  from_there : from + 2 * n ≤ length pyramid
  from_there = omega (arith, bands_there F.room F.below, F.room.wide)

  pub high_loads : ForLoad pyramid from s₀ (loaded t) (2 * n)
  high_loads =
      let l = F.room.lines in
      record { there = from_there; room = omega arith; small = λ c h. F.room.small (from + c) (omega (arith, from_there)) }

  module _ {s₁ : List ℕ} (f : Filled 0 s₀ (along (loaded t)) (tones_at pyramid from) (2 * n) s₁) where
    right_band : (c : ℕ) → c < n → line s₁ (loaded t + n) c ≡ tones_at pyramid (from + n) c
    right_band c h =
        let p : loaded t + n + c ≡ loaded t + (n + c) = omega arith in
        let q : from + (n + c) ≡ from + n + c = omega arith in
        ap (λ q. get_or s₁ q 0) p ∙ f.done (n + c) (omega arith) ∙ ap (λ q. tone_of (get_or pyramid q (pos 0))) q

    left_band : (c : ℕ) → c < n → line s₁ (loaded t) c ≡ tones_at pyramid from c
    left_band c h = f.done c (omega arith)

    pub high_joins : ForJoin s₁ (loaded t) (loaded t + n) to n
    high_joins =
        let l = F.room.lines in
        let a = F.from in
        let b = F.end in
        let e = f.same in
        let L : Near (tones_at pyramid from) n shallow = tones_near F.room F.below from n (omega (arith, from_there)) in
        let H : Near (tones_at pyramid (from + n)) n shallow = tones_near F.room F.below (from + n) n (omega (arith, from_there)) in
        record {
          some = F.room.some;
          low_near = record { least = λ c h. rw (left_band c h) (L.least c h); most = λ c h. rw (left_band c h) (L.most c h) };
          high_near = record { least = λ c h. rw (right_band c h) (H.least c h); most = λ c h. rw (right_band c h) (H.most c h) };
          lows_room = omega arith;
          highs_room = omega arith;
          room = omega arith;
          lows_off = λ c h d k. omega arith;
          highs_off = λ c h d k. omega arith;
        }

    pub high_row_joined : {s₂ : List ℕ} → LineJoined s₁ (loaded t) (loaded t + n) to n s₂ → HighRowJoined t pyramid s₀ i to s₂
    high_row_joined J =
        record {
          same = J.same ∙ f.same;
          row = λ c h.
              J.joined c h
              ∙ joined_t_same n (line s₁ (loaded t)) (line s₁ (loaded t + n)) (tones_at pyramid from) (tones_at pyramid (from + n)) left_band right_band c h;
          kept = λ q h o. J.kept q o ∙ f.kept q (λ c k. omega arith);
        }

-- the even row
module _ {s₀ : List ℕ} {e p d to w : ℕ} (F : ForEvenRow s₀ e p d to w) {j : ℕ} {s : List ℕ}
    (f : Filled 0 s₀ (along to) (row_even s₀ e p d) j s) (h : j < w) where
  stays : (q : ℕ) → to + w ≤ q → get_or s (q + j) 0 ≡ line s₀ q j
  stays q k = f.kept (q + j) (λ i l. omega arith)

  lows_stay : get_or s (e + j) 0 ≡ line s₀ e j
  lows_stay = stays e (omega (arith, F.apart, F.order, F.last))

  before_stay : get_or s (p + j) 0 ≡ line s₀ p j
  before_stay = stays p (omega (arith, F.apart, F.order))

  own_stay : get_or s (d + j) 0 ≡ line s₀ d j
  own_stay = stays d F.apart

  pub even_row_more : (v : ℕ) → v ≡ tone_even (get_or s (e + j) 0) (get_or s (p + j) 0) (get_or s (d + j) 0)
      → Filled 0 s₀ (along to) (row_even s₀ e p d) (j + 1) (set s (to + j) v)
  even_row_more v x =
      let a = F.apart in
      let b = F.order in
      let c = F.last in
      let r = F.room in
      filled_more f (omega arith) (λ i l. omega arith) (x ∙ rw (lows_stay, before_stay, own_stay) refl)

-- the odd row, and the highs moved
module _ {s₀ : List ℕ} {d p next to w : ℕ} (F : ForOddRow s₀ d p next to w) {j : ℕ} {s : List ℕ}
    (f : Both s₀ (along (to + w)) (row_odd s₀ d to next) (along d) (line s₀ p) j s) (h : j < w) where
  own_is : get_or s (d + j) 0 ≡ line s₀ d j
  own_is = let a = F.apart in f.kept (d + j) (λ i l. omega arith) (λ i l. omega arith)

  even_is : get_or s (to + j) 0 ≡ line s₀ to j
  even_is = let a = F.apart in f.kept (to + j) (λ i l. omega arith) (λ i l. omega arith)

  next_is : get_or s (next + j) 0 ≡ line s₀ next j
  next_is = let a = F.next_before in f.kept (next + j) (λ i l. F.next_off j h i (omega arith)) (λ i l. omega arith)

  before_is : get_or s (p + j) 0 ≡ line s₀ p j
  before_is = let a = F.apart in let b = F.order in f.kept (p + j) (λ i l. omega arith) (λ i l. omega arith)

  pub odd_row_asks : OddAsks (get_or s (d + j) 0) (get_or s (to + j) 0) (get_or s (next + j) 0)
  odd_row_asks =
      rw (own_is, even_is, next_is)
      (F.own.least j h, F.own.most j h, F.even.least j h, F.even.most j h, F.after.least j h, F.after.most j h)

  pub odd_row_more : (v : ℕ) → v ≡ tone_odd (get_or s (d + j) 0) (get_or s (to + j) 0) (get_or s (next + j) 0)
      → Both s₀ (along (to + w)) (row_odd s₀ d to next) (along d) (line s₀ p) (j + 1) (set (set s (to + w + j) v) (d + j) (get_or s (p + j) 0))
  odd_row_more v x =
      let a = F.apart in
      let b = F.order in
      let r = F.room in
      both_more f (omega arith) (omega arith) (λ i l. omega arith) (λ i l. omega arith) (λ i l. omega arith) (λ i l. omega arith)
      (x ∙ rw (own_is, even_is, next_is) refl) before_is
