-- D and L made block after block.
use mathlib.Core.Path.{◌≡◌, refl, ap, ap₂, sym, ◌∙◌}
use mathlib.Core.List.{List}
use Prim.Native.Nat.{ℕ, ◌+◌, ◌*◌, ◌/◌, ◌%◌, ◌^◌, ◌≤◌, ◌<◌, max}
use native.Mathlib.Omega.{arith}
use native.Mathlib.Decide.{ℕ_discrete}
use lib.ListN.{length, get_or}
use lib.Seq.{get_or-set_same, get_or-set_other}
use Rattle.trees.proofs.Measure.{four_same}
use Rattle.stretches.specs.Cut.{maxima_from, maxima_in, maxima_length, largest_d, largest_l, MaximumSet}
use Rattle.largest.specs.Blocks.{word_measure, near, far, four, Apart, SomeD, SomeL}

-- nothing yet, and one maximum more
apart_none : {n : ℕ} {s : List ℕ} → Apart n s s
apart_none = record { long = refl; before = λ i h. refl; behind = λ i h. refl }

apart_next : {n : ℕ} {s₀ s : List ℕ} {i v : ℕ} {s' : List ℕ} → Apart n s₀ s → MaximumSet n s i v s' → Apart n s₀ s'
apart_next a m =
    record {
      long = m.long ∙ a.long;
      before = λ i h. m.before i h ∙ a.before i h;
      behind = λ i h. m.behind i h ∙ a.behind i h;
    }

module _ {n : ℕ} {s : List ℕ} {i v : ℕ} {s' : List ℕ} (m : MaximumSet n s i v s') where
  set_there : 4 * n ≤ length s → i < n / 4 → get_or (maxima_in n s') i 0 ≡ v
  set_there l h = ap (λ xs. get_or xs i 0) m.maxima ∙ get_or-set_same (maxima_in n s) i v 0 (omega (arith, maxima_length n s l))

  set_elsewhere : (j : ℕ) → (i ≡ j → ⊥) → get_or (maxima_in n s') j 0 ≡ get_or (maxima_in n s) j 0
  set_elsewhere j d = ap (λ xs. get_or xs j 0) m.maxima ∙ get_or-set_other (maxima_in n s) i j v 0 (λ e. d (sym e))

-- D
pub none_d : {n : ℕ} {s : List ℕ} → SomeD n s 0 s
none_d = record { apart = apart_none; made = λ b h. absurd (omega arith) }

near_same : (n : ℕ) (s₀ s : List ℕ) (b : ℕ) → Apart n s₀ s → b < n / 4 → near s b ≡ near s₀ b
unfolding near maxima_from
near_same n s₀ s b a h =
    four_same (λ i. word_measure (get_or s i 0)) (λ i. word_measure (get_or s₀ i 0)) b b
    (λ f l. ap (λ (w : ℕ). word_measure w) (a.before (4 * b + f) (omega arith)))

far_same : (n : ℕ) (s₀ s : List ℕ) (b : ℕ) → Apart n s₀ s → far n s b ≡ far n s₀ b
unfolding far
far_same n s₀ s b a = ap largest_l (a.behind (19 * n + 4 * b) (omega arith))

pub next_d : {n : ℕ} {s₀ : List ℕ} {b : ℕ} {s s' : List ℕ} {v w u : ℕ} → SomeD n s₀ b s → v ≡ near s b → w ≡ far n s b
    → u ≡ max w v → MaximumSet n s b u s' → 4 * n ≤ length s₀ → b < n / 4 → SomeD n s₀ (b + 1) s'
next_d {n} {s₀} {b} {s} {s'} d p q e m l h = record { apart = apart_next d.apart m; made = λ j k. by j k (ℕ_discrete b j) }
  where
    by : (j : ℕ) → j < b + 1 → Dec (b ≡ j) → get_or (maxima_in n s') j 0 ≡ max (near s₀ j) (far n s₀ j)
    by j k (yes i) =
        rw (← i) (set_there m (omega (arith, d.apart.long)) h ∙ omega (arith, near_same n s₀ s b d.apart h, far_same n s₀ s b d.apart))
    by j k (no i) = set_elsewhere m j i ∙ d.made j (omega arith)

pub all_d : {n : ℕ} {s : List ℕ} {b count : ℕ} {s' : List ℕ} → SomeD n s b s' → b ≤ count → count ≤ b → SomeD n s count s'
all_d {b = b} {count = count} d h l = let e : b ≡ count = omega arith in rw e at d

-- L
pub none_l : {n : ℕ} {s : List ℕ} → SomeL n s 0 s
none_l =
    record { apart = apart_none; made = λ c h. absurd (omega arith); kept = λ b. refl; small = λ b h. h; left = λ b h. refl }

pub four_found : (n : ℕ) (s : List ℕ) (i : ℕ) {a b c d r : ℕ} → a ≡ get_or (maxima_in n s) (4 * i) 0 → b ≡ get_or (maxima_in n s) (4 * i + 1) 0
    → c ≡ get_or (maxima_in n s) (4 * i + 2) 0 → d ≡ get_or (maxima_in n s) (4 * i + 3) 0
    → r ≡ max (max (a % 32) (b % 32)) (max (c % 32) (d % 32)) → (r ≡ four n s i) × (r < 32)
unfolding four largest_d
four_found n s i ha hb hc hd e =
    (e ∙ ap₂ max (ap₂ max (at ha) (at hb)) (ap₂ max (at hc) (at hd)), omega arith)
  where
    at : {v w : ℕ} → v ≡ w → v % 32 ≡ w % 32
    at i = ap (λ (x : ℕ). x % 32) i

four_left : (n : ℕ) (s₀ s : List ℕ) (c : ℕ) → SomeL n s₀ c s → four n s c ≡ four n s₀ c
unfolding four
four_left n s₀ s c d =
    four_same (λ i. largest_d (get_or (maxima_in n s) i 0)) (λ i. largest_d (get_or (maxima_in n s₀) i 0)) c c
    (λ f l. ap largest_d (d.left (4 * c + f) (omega arith)))

pub next_l : {n : ℕ} {s₀ : List ℕ} {c : ℕ} {s s' : List ℕ} {l w : ℕ} → SomeL n s₀ c s → l ≡ four n s c → l < 32
    → w ≡ get_or (maxima_in n s) (4 * c) 0 → MaximumSet n s (4 * c) (w % 32 + 32 * l) s' → 4 * n ≤ length s₀ → c < n / 16 → SomeL n s₀ (c + 1) s'
unfolding largest_d largest_l
next_l {n} {s₀} {c} {s} {s'} {l} {w} d e u i m r h =
    record {
      apart = apart_next d.apart m;
      made = λ j k. made j k (ℕ_discrete c j);
      kept = λ b. kept b (ℕ_discrete (4 * c) b);
      small = λ b k. small b k (ℕ_discrete (4 * c) b);
      left = λ b k. set_elsewhere m b (λ x. omega arith) ∙ d.left b (omega arith);
    }
  where
    there : get_or (maxima_in n s') (4 * c) 0 ≡ w % 32 + 32 * l
    there = set_there m (omega (arith, d.apart.long)) (omega arith)

    made : (j : ℕ) → j < c + 1 → Dec (c ≡ j) → get_or (maxima_in n s') (4 * j) 0 / 32 ≡ four n s₀ j
    made j k (yes x) = rw (← x) (ap (λ (y : ℕ). y / 32) there ∙ omega arith ∙ e ∙ four_left n s₀ s c d)
    made j k (no x) = ap (λ (y : ℕ). y / 32) (set_elsewhere m (4 * j) (λ y. x (omega arith))) ∙ d.made j (omega arith)

    low : (w % 32 + 32 * l) % 32 ≡ get_or (maxima_in n s) (4 * c) 0 % 32
    low = omega arith

    kept : (b : ℕ) → Dec (4 * c ≡ b) → get_or (maxima_in n s') b 0 % 32 ≡ get_or (maxima_in n s₀) b 0 % 32
    kept b (yes x) = rw (← x) (ap (λ (y : ℕ). y % 32) there ∙ low ∙ d.kept (4 * c))
    kept b (no x) = ap (λ (y : ℕ). y % 32) (set_elsewhere m b x) ∙ d.kept b

    small : (b : ℕ) → get_or (maxima_in n s₀) b 0 < 2 ^ 10 → Dec (4 * c ≡ b) → get_or (maxima_in n s') b 0 < 2 ^ 10
    small b k (yes x) = rw (← x) (omega (arith, there))
    small b k (no x) = omega (arith, set_elsewhere m b x, d.small b k)

pub all_l : {n : ℕ} {s : List ℕ} {c count : ℕ} {s' : List ℕ} → SomeL n s c s' → c ≤ count → count ≤ c → SomeL n s count s'
all_l {c = c} {count = count} d h l = let e : c ≡ count = omega arith in rw e at d
