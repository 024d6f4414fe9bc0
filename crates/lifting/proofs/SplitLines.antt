-- Lines split: what each turn of their loops asks and leaves.
use mathlib.Core.Path.{◌≡◌, refl, sym, ap, ◌∙◌}
use mathlib.Core.List.{List}
use Prim.Native.Nat.{ℕ, ◌+◌, ◌-◌, ◌*◌, ◌≤◌, ◌<◌}
use native.Mathlib.Omega.{arith}
use lib.ListN.{get_or, set}
use Rattle.pictures.specs.Laws.Tones.{bias, tone_high, tone_low}
use Rattle.lifting.specs.Fills.{along, Filled, Both}
use Rattle.lifting.specs.Lines.{reach, line, ForHighs, ForRows, row_high, row_low, ForSplit, high_of, low_of}
use Rattle.lifting.proofs.Filling.{filled_more, both_more}

-- what tone_high and tone_low ask
abbrev pub HighAsks : ℕ → ℕ → ℕ → Type 0
HighAsks a b c = (a ≤ bias + reach) × (b ≤ bias + reach) × (c ≤ bias + reach) × (bias ≤ b + reach)

abbrev pub LowAsks : ℕ → ℕ → ℕ → Type 0
LowAsks x d e = (x ≤ bias + reach) × (bias ≤ x + reach) × (d ≤ 2 * bias) × (e ≤ 2 * bias)

module _ {s₀ : List ℕ} {a b c to w : ℕ} (F : ForHighs s₀ a b c to w) where
  module _ {j : ℕ} {s : List ℕ} (f : Filled 0 s₀ (along to) (row_high s₀ a b c) j s) (h : j < w) where
    same_above : get_or s (a + j) 0 ≡ line s₀ a j
    same_above = let p = F.above_apart in f.kept (a + j) (λ k l. omega arith)

    same_own : get_or s (b + j) 0 ≡ line s₀ b j
    same_own = let p = F.own_apart in f.kept (b + j) (λ k l. omega arith)

    same_below : get_or s (c + j) 0 ≡ line s₀ c j
    same_below = let p = F.below_apart in f.kept (c + j) (λ k l. omega arith)

    pub highs_more : (v : ℕ) → v ≡ tone_high (get_or s (a + j) 0) (get_or s (b + j) 0) (get_or s (c + j) 0)
        → Filled 0 s₀ (along to) (row_high s₀ a b c) (j + 1) (set s (to + j) v)
    highs_more v e =
        let r = F.room in
        filled_more f (omega arith) (λ k l. omega arith) (e ∙ rw (same_above, same_own, same_below) refl)

-- highs and lows of tones within b of the bias are within 2b of it
module _ (b x y u : ℕ) (small : b ≤ reach) (lx : bias ≤ x + b) (mx : x ≤ bias + b) (ly : bias ≤ y + b) (my : y ≤ bias + b)
    (lu : bias ≤ u + b) (mu : u ≤ bias + b) where
  pub high_least : bias ≤ tone_high x y u + 2 * b
  high_least = omega arith

  pub high_most : tone_high x y u ≤ bias + 2 * b
  high_most = omega arith

module _ (b x d e : ℕ) (small : b ≤ reach) (lx : bias ≤ x + b) (mx : x ≤ bias + b) (ld : bias ≤ d + 2 * b) (md : d ≤ bias + 2 * b)
    (le : bias ≤ e + 2 * b) (me : e ≤ bias + 2 * b) where
  pub low_least : bias ≤ tone_low x d e + 2 * b
  low_least = omega arith

  pub low_most_lem : tone_low x d e ≤ bias + 2 * b
  low_most_lem = omega arith

module _ {s₀ : List ℕ} {a b c d e w : ℕ} (F : ForRows s₀ a b c d e w) where
  H : ForHighs s₀ a b c d w
  H = F.highs

  module _ {j : ℕ} {s : List ℕ} (f : Both s₀ (along e) (row_low s₀ a b c d) (along d) (row_high s₀ a b c) j s) (h : j < w) where
    kept_at : (q : ℕ) → q + w ≤ d → get_or s (q + j) 0 ≡ line s₀ q j
    kept_at q k = let p = F.apart in f.kept (q + j) (λ i l. omega arith) (λ i l. omega arith)

    kept_before : get_or s (d + j) 0 ≡ line s₀ d j
    kept_before = let p = F.apart in f.kept (d + j) (λ i l. omega arith) (λ i l. omega arith)

    kept_high : tone_high (get_or s (a + j) 0) (get_or s (b + j) 0) (get_or s (c + j) 0) ≡ row_high s₀ a b c j
    kept_high = rw (kept_at a H.above_apart, kept_at b H.own_apart, kept_at c H.below_apart) refl

    module _ (v : ℕ) (ev : v ≡ tone_high (get_or s (a + j) 0) (get_or s (b + j) 0) (get_or s (c + j) 0)) where
      pub rows_more : (u : ℕ) → u ≡ tone_low (get_or s (a + j) 0) (get_or s (d + j) 0) v
          → Both s₀ (along e) (row_low s₀ a b c d) (along d) (row_high s₀ a b c) (j + 1) (set (set s (e + j) u) (d + j) v)
      rows_more u eu =
          let p = F.apart in
          let r = F.room in
          both_more f (omega arith) (omega arith) (λ i l. omega arith) (λ i l. omega arith) (λ i l. omega arith) (λ i l. omega arith)
          (eu ∙ rw (kept_at a H.above_apart, kept_before, ev ∙ kept_high) refl) (ev ∙ kept_high)

-- a line split
module _ {s₀ : List ℕ} {x lows highs m : ℕ} (F : ForSplit s₀ x lows highs m) where
  abbrev own : ℕ → ℕ
  own = line s₀ x

  step_asks : (j : ℕ) → j < m → HighAsks (own (2 * j)) (own (2 * j + 1)) (own (2 * j + 2))
  step_asks j h =
      let N = F.near in
      (N.most (2 * j) (omega arith), N.most (2 * j + 1) (omega arith), N.most (2 * j + 2) (omega arith), N.least (2 * j + 1) (omega arith))

  step_most : (j : ℕ) → j < m → high_of own j ≤ bias + 2 * reach
  step_most j h =
      let N = F.near in
      high_most reach (own (2 * j)) (own (2 * j + 1)) (own (2 * j + 2)) (omega arith)
      (N.least (2 * j) (omega arith)) (N.most (2 * j) (omega arith))
      (N.least (2 * j + 1) (omega arith)) (N.most (2 * j + 1) (omega arith))
      (N.least (2 * j + 2) (omega arith)) (N.most (2 * j + 2) (omega arith))

  module _ {j : ℕ} {s : List ℕ} (f : Both s₀ (along lows) (low_of own) (along highs) (high_of own) j s) (h : j < m) where
    kept_own : (c : ℕ) → c < 2 * m + 1 → get_or s (x + c) 0 ≡ own c
    kept_own c k = f.kept (x + c) (λ i l. F.lows_off c k i (omega arith)) (λ i l. F.highs_off c k i (omega arith))

    kept_step : tone_high (get_or s (x + 2 * j) 0) (get_or s (x + (2 * j + 1)) 0) (get_or s (x + (2 * j + 2)) 0) ≡ high_of own j
    kept_step = rw (kept_own (2 * j) (omega arith), kept_own (2 * j + 1) (omega arith), kept_own (2 * j + 2) (omega arith)) refl

    pub split_ask_high : HighAsks (get_or s (x + 2 * j) 0) (get_or s (x + (2 * j + 1)) 0) (get_or s (x + (2 * j + 2)) 0)
    split_ask_high =
        rw (kept_own (2 * j) (omega arith), kept_own (2 * j + 1) (omega arith), kept_own (2 * j + 2) (omega arith)) (step_asks j h)

    module _ (before v : ℕ) (eb : before ≡ high_of own (j - 1))
        (ev : v ≡ tone_high (get_or s (x + 2 * j) 0) (get_or s (x + (2 * j + 1)) 0) (get_or s (x + (2 * j + 2)) 0)) where
      pub split_ask_low : LowAsks (get_or s (x + 2 * j) 0) before v
      split_ask_low =
          let p : before ≤ bias + 2 * reach = rw eb (step_most (j - 1) (omega arith)) in
          let q : v ≤ bias + 2 * reach = rw (ev ∙ kept_step) (step_most j h) in
          rw (kept_own (2 * j) (omega arith))
          (F.near.most (2 * j) (omega arith), F.near.least (2 * j) (omega arith), omega arith, omega arith)

      pub split_next : v ≡ high_of own (j + 1 - 1)
      split_next = let e : j ≡ j + 1 - 1 = omega arith in ev ∙ kept_step ∙ ap (high_of own) e

      pub split_more : (u : ℕ) → u ≡ tone_low (get_or s (x + 2 * j) 0) before v
          → Both s₀ (along lows) (low_of own) (along highs) (high_of own) (j + 1) (set (set s (lows + j) u) (highs + j) v)
      split_more u eu =
          let r = F.lows_room in
          let r' = F.highs_room in
          both_more f (omega arith) (omega arith) (λ i l. omega arith) (λ i l. omega arith) (λ i l. F.apart j h i (omega arith))
          (λ i l e. F.apart i (omega arith) j h (sym e))
          (eu ∙ rw (kept_own (2 * j) (omega arith), eb, ev ∙ kept_step) refl) (ev ∙ kept_step)
