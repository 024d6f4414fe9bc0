-- Lines joined: what each turn of their loops asks and leaves.
use mathlib.Core.Path.{◌≡◌, refl, sym, ap, subst, ◌∙◌}
use mathlib.Core.List.{List}
use mathlib.Core.Bool.{cond}
use Prim.Native.Nat.{ℕ, ◌+◌, ◌-◌, ◌*◌, ◌/◌, ◌%◌, ◌≤◌, ◌<◌, min}
use native.Mathlib.Decide.{dec_lt}
use native.Mathlib.Omega.{arith}
use lib.Dec.{eqb}
use lib.ListN.{get_or, set}
use borrow.Author.Tests.{eq-eqb}
use Rattle.pictures.specs.Laws.Tones.{bias, tone_even, tone_odd}
use Rattle.pictures.specs.Laws.Room.{shallow}
use Rattle.lifting.specs.Fills.{Filled}
use Rattle.lifting.specs.Lines.{reach, line, Near}
use Rattle.lifting.specs.Joins.{even_t, odd_t, joined_t, ForJoin, ForOdds, OddAsks, between, LineJoined}
use Rattle.lifting.proofs.Filling.{filled_more}
use Rattle.lifting.proofs.RowLaws.{Mirrored, mirror_same, mirror_kept, mirror_behind}

-- what tone_even asks
abbrev pub EvenAsks : ℕ → ℕ → ℕ → Type 0
EvenAsks s d e = (bias ≤ s + reach) × (s ≤ bias + reach) × (d ≤ bias + reach) × (e ≤ bias + reach)

-- the even numbers
module _ {s₀ : List ℕ} {lows highs to m : ℕ} (F : ForJoin s₀ lows highs to m) where
  module _ {j : ℕ} {s : List ℕ} (f : Filled 0 s₀ (λ c. to + 2 * c) (even_t (line s₀ lows) (line s₀ highs)) j s) (h : j < m) where
    low_kept : get_or s (lows + j) 0 ≡ line s₀ lows j
    low_kept = f.kept (lows + j) (λ i l. F.lows_off j h (2 * i) (omega arith))

    pub high_kept : get_or s (highs + j) 0 ≡ line s₀ highs j
    high_kept = f.kept (highs + j) (λ i l. F.highs_off j h (2 * i) (omega arith))

    module _ (before : ℕ) (eb : before ≡ line s₀ highs (j - 1)) where
      pub even_asks : EvenAsks (get_or s (lows + j) 0) before (get_or s (highs + j) 0)
      even_asks =
          let a = F.low_near.least j h in
          let b = F.low_near.most j h in
          let c = F.high_near.most (j - 1) (omega arith) in
          let d = F.high_near.most j h in
          rw (low_kept, high_kept, eb) (omega arith, omega arith, omega arith, omega arith)

      pub even_next : get_or s (highs + j) 0 ≡ line s₀ highs (j + 1 - 1)
      even_next = let e : j ≡ j + 1 - 1 = omega arith in high_kept ∙ ap (line s₀ highs) e

      pub even_more : (v : ℕ) → v ≡ tone_even (get_or s (lows + j) 0) before (get_or s (highs + j) 0)
          → Filled 0 s₀ (λ c. to + 2 * c) (even_t (line s₀ lows) (line s₀ highs)) (j + 1) (set s (to + 2 * j) v)
      unfolding even_t
      even_more v e =
          let r = F.room in
          filled_more f (omega arith) (λ i l. omega arith) (e ∙ rw (low_kept, high_kept, eb) refl)

-- the odd numbers
module _ {s₀ : List ℕ} {highs to m : ℕ} (F : ForOdds s₀ highs to m) where
  module _ {j : ℕ} {s : List ℕ} (f : Filled 0 s₀ (λ c. to + (2 * c + 1)) (between s₀ highs to) j s) (h : j < m) where
    own_kept : get_or s (highs + j) 0 ≡ line s₀ highs j
    own_kept = f.kept (highs + j) (λ i l. F.highs_off j h (2 * i + 1) (omega arith))

    left_kept : get_or s (to + 2 * j) 0 ≡ line s₀ to (2 * j)
    left_kept = f.kept (to + 2 * j) (λ i l. omega arith)

    right_kept : get_or s (to + (2 * j + 2)) 0 ≡ line s₀ to (2 * j + 2)
    right_kept = f.kept (to + (2 * j + 2)) (λ i l. omega arith)

    pub odd_asks : OddAsks (get_or s (highs + j) 0) (get_or s (to + 2 * j) 0) (get_or s (to + (2 * j + 2)) 0)
    odd_asks =
        let a = F.high_near.least j h in
        let b = F.high_near.most j h in
        let e : 2 * (j + 1) ≡ 2 * j + 2 = omega arith in
        let c = F.even_near.least j (omega arith) in
        let d = F.even_near.most j (omega arith) in
        let c' : bias ≤ line s₀ to (2 * j + 2) + 2 * shallow = subst (λ q. bias ≤ line s₀ to q + 2 * shallow) e (F.even_near.least (j + 1) (omega arith)) in
        let d' : line s₀ to (2 * j + 2) ≤ bias + 2 * shallow = subst (λ q. line s₀ to q ≤ bias + 2 * shallow) e (F.even_near.most (j + 1) (omega arith)) in
        rw (own_kept, left_kept, right_kept) (omega arith, omega arith, omega arith, omega arith, omega arith, omega arith)

    pub odd_more : (v : ℕ) → v ≡ tone_odd (get_or s (highs + j) 0) (get_or s (to + 2 * j) 0) (get_or s (to + (2 * j + 2)) 0)
        → Filled 0 s₀ (λ c. to + (2 * c + 1)) (between s₀ highs to) (j + 1) (set s (to + (2 * j + 1)) v)
    odd_more v e =
        let r = F.room in
        filled_more f (omega arith) (λ i l. omega arith) (e ∙ rw (own_kept, left_kept, right_kept) refl)

-- Even numbers of lines within the same of the bias, and odd ones.
module _ (m b : ℕ) (l h : ℕ → ℕ) (some : 2 ≤ b) (small : 2 * b ≤ reach) (L : Near l m b) (H : Near h m b) where
  pub even_t_near : Near (even_t l h) m (2 * b)
  unfolding even_t
  even_t_near =
      record {
        least = λ c q.
            let x = L.least c q in
            let y = H.most (c - 1) (omega arith) in
            let z = H.most c q in
            omega arith;
        most = λ c q.
            let x = L.most c q in
            let y = H.least (c - 1) (omega arith) in
            let z = H.least c q in
            omega arith;
      }

-- Lines that agree are joined alike.
module _ (m : ℕ) (l h l' h' : ℕ → ℕ) (el : (c : ℕ) → c < m → l c ≡ l' c) (eh : (c : ℕ) → c < m → h c ≡ h' c) where
  even_t_same : (j : ℕ) → j < m → even_t l h j ≡ even_t l' h' j
  unfolding even_t
  even_t_same j q = rw (el j q, eh (j - 1) (omega arith), eh j q) refl

  odd_t_same : (j : ℕ) → j < m → odd_t m l h j ≡ odd_t m l' h' j
  unfolding odd_t
  odd_t_same j q = rw (eh j q, even_t_same j q, even_t_same (min (j + 1) (m - 1)) (omega arith)) refl

  pub joined_t_same : (c : ℕ) → c < 2 * m → joined_t m l h c ≡ joined_t m l' h' c
  unfolding joined_t
  joined_t_same c q = rw (even_t_same (c / 2) (omega arith), odd_t_same (c / 2) (omega arith)) refl

module _ (m : ℕ) (l h : ℕ → ℕ) where
  pub joined_t_even : (j : ℕ) → joined_t m l h (2 * j) ≡ even_t l h j
  unfolding joined_t
  joined_t_even j =
      let e : 2 * j % 2 ≡ 0 = omega arith in
      let f : 2 * j / 2 ≡ j = omega arith in
      rw (eq-eqb (2 * j % 2) 0 e) (ap (even_t l h) f)

  pub joined_t_odd : (j : ℕ) → joined_t m l h (2 * j + 1) ≡ odd_t m l h j
  unfolding joined_t
  joined_t_odd j =
      let e : (2 * j + 1) % 2 ≡ 1 = omega arith in
      let f : (2 * j + 1) / 2 ≡ j = omega arith in
      ap (λ r. cond (eqb r 0) (even_t l h ((2 * j + 1) / 2)) (odd_t m l h ((2 * j + 1) / 2))) e ∙ ap (odd_t m l h) f

-- the even numbers, mirrored, and the odd ones
module _ {s₀ : List ℕ} {lows highs to m : ℕ} (F : ForJoin s₀ lows highs to m) {s₁ : List ℕ}
    (f : Filled 0 s₀ (λ c. to + 2 * c) (even_t (line s₀ lows) (line s₀ highs)) m s₁) {s₂ : List ℕ}
    (e : s₂ ≡ set s₁ (to + 2 * m) (get_or s₁ (to + (2 * m - 2)) 0)) where
  M : Mirrored s₁ to m s₂
  M = let r = F.room in record { some = F.some; room = omega (arith, f.same); list = e }

  E : Near (even_t (line s₀ lows) (line s₀ highs)) m (2 * shallow)
  E = even_t_near m shallow (line s₀ lows) (line s₀ highs) (omega arith) (omega arith) F.low_near F.high_near

  even_at : (j : ℕ) → j < m → line s₂ to (2 * j) ≡ even_t (line s₀ lows) (line s₀ highs) j
  even_at j h = mirror_kept M (to + 2 * j) (omega arith) ∙ f.done j h

  after_at : (j : ℕ) → j < m → line s₂ to (2 * j + 2) ≡ even_t (line s₀ lows) (line s₀ highs) (min (j + 1) (m - 1))
  after_at j h = by (dec_lt (j + 1) m)
    where
      by : Dec (j + 1 < m) → line s₂ to (2 * j + 2) ≡ even_t (line s₀ lows) (line s₀ highs) (min (j + 1) (m - 1))
      by (yes k) =
          let p : 2 * j + 2 ≡ 2 * (j + 1) = omega arith in
          let q : j + 1 ≡ min (j + 1) (m - 1) = omega arith in
          ap (line s₂ to) p ∙ even_at (j + 1) k ∙ ap (even_t (line s₀ lows) (line s₀ highs)) q
      by (no k) =
          let p : 2 * j + 2 ≡ 2 * m = omega arith in
          let r : 2 * m - 2 ≡ 2 * (m - 1) = omega arith in
          let q : m - 1 ≡ min (j + 1) (m - 1) = omega arith in
          ap (line s₂ to) p ∙ mirror_behind M ∙ ap (line s₁ to) r ∙ f.done (m - 1) (omega arith)
          ∙ ap (even_t (line s₀ lows) (line s₀ highs)) q

  highs_at : (j : ℕ) → j < m → line s₂ highs j ≡ line s₀ highs j
  highs_at j h =
      mirror_kept M (highs + j) (F.highs_off j h (2 * m) (omega arith)) ∙ f.kept (highs + j) (λ i l. F.highs_off j h (2 * i) (omega arith))

  even_where : (j : ℕ) → j < m + 1 → line s₂ to (2 * j) ≡ even_t (line s₀ lows) (line s₀ highs) (min j (m - 1))
  even_where j h = by (dec_lt j m)
    where
      by : Dec (j < m) → line s₂ to (2 * j) ≡ even_t (line s₀ lows) (line s₀ highs) (min j (m - 1))
      by (yes k) = let q : j ≡ min j (m - 1) = omega arith in even_at j k ∙ ap (even_t (line s₀ lows) (line s₀ highs)) q
      by (no k) =
          let o = F.some in
          let p : 2 * j ≡ 2 * (m - 1) + 2 = omega arith in
          let q : min (m - 1 + 1) (m - 1) ≡ min j (m - 1) = omega arith in
          ap (line s₂ to) p ∙ after_at (m - 1) (omega arith) ∙ ap (even_t (line s₀ lows) (line s₀ highs)) q

  pub join_odds : ForOdds s₂ highs to m
  join_odds =
      let o = F.some in
      let r = F.room in
      let k = F.highs_room in
      let q = mirror_same M ∙ f.same in
      record {
        high_near = record { least = λ c h. rw (highs_at c h) (F.high_near.least c h); most = λ c h. rw (highs_at c h) (F.high_near.most c h) };
        even_near = record {
          least = λ c h. rw (even_where c h) (E.least (min c (m - 1)) (omega arith));
          most = λ c h. rw (even_where c h) (E.most (min c (m - 1)) (omega arith));
        };
        highs_room = omega arith;
        room = omega arith;
        highs_off = F.highs_off;
      }

  module _ {s₃ : List ℕ} (g : Filled 0 s₂ (λ c. to + (2 * c + 1)) (between s₂ highs to) m s₃) where
    odd_at : (j : ℕ) → j < m → line s₃ to (2 * j + 1) ≡ odd_t m (line s₀ lows) (line s₀ highs) j
    unfolding odd_t
    odd_at j h = g.done j h ∙ rw (highs_at j h, even_at j h, after_at j h) refl

    joined_at : (c : ℕ) → c < 2 * m → line s₃ to c ≡ joined_t m (line s₀ lows) (line s₀ highs) c
    joined_at c h = by (dec_lt (c % 2) 1)
      where
        by : Dec (c % 2 < 1) → line s₃ to c ≡ joined_t m (line s₀ lows) (line s₀ highs) c
        by (yes k) =
            let p : 2 * (c / 2) ≡ c = omega arith in
            subst (λ c. line s₃ to c ≡ joined_t m (line s₀ lows) (line s₀ highs) c) p
            (g.kept (to + 2 * (c / 2)) (λ i l. omega arith) ∙ even_at (c / 2) (omega arith)
            ∙ sym (joined_t_even m (line s₀ lows) (line s₀ highs) (c / 2)))
        by (no k) =
            let p : 2 * (c / 2) + 1 ≡ c = omega arith in
            subst (λ c. line s₃ to c ≡ joined_t m (line s₀ lows) (line s₀ highs) c) p
            (odd_at (c / 2) (omega arith) ∙ sym (joined_t_odd m (line s₀ lows) (line s₀ highs) (c / 2)))

    pub line_joined : LineJoined s₀ lows highs to m s₃
    line_joined =
        record {
          same = g.same ∙ mirror_same M ∙ f.same;
          joined = joined_at;
          kept = λ q o.
              g.kept q (λ c h. o (2 * c + 1) (omega arith)) ∙ mirror_kept M q (o (2 * m) (omega arith))
              ∙ f.kept q (λ c h. o (2 * c) (omega arith));
        }
