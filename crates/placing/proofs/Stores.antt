-- Runs of stores: none, a few, one run behind another.
use mathlib.Core.Path.{◌≡◌, refl, sym, ap, ap₂, ◌∙◌}
use mathlib.Core.Logic.{◌⊎◌, inl, inr}
use mathlib.Core.List.{List, [], ◌∷◌}
use Prim.Native.Nat.{ℕ, zero, suc, ◌+◌, ◌-◌, ◌*◌, ◌/◌, ◌%◌, ◌≤◌, ◌<◌}
use native.Mathlib.Omega.{arith}
use native.Mathlib.Nat.{mul-le-mul}
use native.Mathlib.Decide.{dec_lt}
use lib.Arith.{digits_div, digits_mod}
use lib.ListN.{length, get_or, set, length-set}
use lib.Seq.{get_or-set_same, get_or-set_other}
use Rattle.placing.specs.Stores.{Put, Apart, corner_of}

module _ {A : Type 0} {d : A} where
  pub put_none : {P : ℕ → ℕ} {v : ℕ → A} {s : List A} {n : ℕ} → n ≡ 0 → Put d P n v s s
  put_none e = record { same = refl; put = λ t h. absurd (omega arith); others = λ q f. refl }

  -- one store more
  pub put_more : {P : ℕ → ℕ} {n : ℕ} {v : ℕ → A} {s s₁ : List A} {m : ℕ} → Apart P m (length s) → n < m → Put d P n v s s₁
      → (q : ℕ) → q ≡ P n → (a : A) → a ≡ v n → Put d P (n + 1) v s (set s₁ q a)
  put_more {P} {n} {v} {s} {s₁} {m} I l H q e a i =
      record {
        same = length-set s₁ q a ∙ H.same;
        put = λ t h. by t h (dec_lt t n);
        others =
            λ p f.
            get_or-set_other s₁ q p a d (λ g. f n (omega arith) (g ∙ e)) ∙ H.others p (λ t h. f t (omega arith));
      }
    where
      by : (t : ℕ) → t < n + 1 → Dec (t < n) → get_or (set s₁ q a) (P t) d ≡ v t
      by t h (yes b) =
          get_or-set_other s₁ q (P t) a d (λ g. omega (arith, I.one t n (omega arith) l (g ∙ e))) ∙ H.put t b
      by t h (no b) =
          let w : t ≡ n = omega arith in
          let x : q < length s₁ = omega (arith, H.same, I.inside n l) in
          ap (λ (u : ℕ). get_or (set s₁ q a) (P u) d) w
          ∙ ap (λ (u : ℕ). get_or (set s₁ q a) u d) (sym e)
          ∙ get_or-set_same s₁ q a d x
          ∙ i
          ∙ ap v (sym w)

  -- one run behind another
  pub put_join : {P : ℕ → ℕ} {a : ℕ} {v : ℕ → A} {s s₁ s₂ : List A} {m : ℕ} → Apart P m (length s) → Put d P a v s s₁
      → {Q : ℕ → ℕ} {n : ℕ} {w : ℕ → A} → Put d Q n w s₁ s₂ → (c : ℕ) → c ≡ a + n → c ≤ m
      → ((f : ℕ) → f < n → Q f ≡ P (a + f)) → ((f : ℕ) → f < n → w f ≡ v (a + f)) → Put d P c v s s₂
  put_join {P} {a} {v} {s} {s₁} {s₂} {m} I H {Q} {n} {w} J c e l p i =
      record {
        same = J.same ∙ H.same;
        put = λ t h. by t h (dec_lt t a);
        others = λ q f. J.others q (λ t h g. f (a + t) (omega arith) (g ∙ p t h)) ∙ H.others q (λ t h. f t (omega arith));
      }
    where
      by : (t : ℕ) → t < c → Dec (t < a) → get_or s₂ (P t) d ≡ v t
      by t h (yes b) =
          J.others (P t) (λ f k g. omega (arith, I.one t (a + f) (omega arith) (omega arith) (g ∙ p f k))) ∙ H.put t b
      by t h (no b) =
          let x : a + (t - a) ≡ t = omega arith in
          let y : t - a < n = omega arith in
          ap (λ (u : ℕ). get_or s₂ (P u) d) (sym x) ∙ ap (λ (u : ℕ). get_or s₂ u d) (sym (p (t - a) y)) ∙ J.put (t - a) y ∙ i (t - a) y ∙ ap v x

  -- three stores
  pub put_three : {P : ℕ → ℕ} {v : ℕ → A} {s : List A} → Apart P 3 (length s) → (p q r : ℕ) → p ≡ P 0 → q ≡ P 1 → r ≡ P 2
      → (a b c : A) → a ≡ v 0 → b ≡ v 1 → c ≡ v 2 → Put d P 3 v s (set (set (set s p a) q b) r c)
  put_three I p q r e f g a b c i j k =
      put_more I (omega arith) (put_more I (omega arith) (put_more I (omega arith) (put_none refl) p e a i) q f b j) r g c k

-- places one after another
pub apart_row : (to n m : ℕ) → to + n ≤ m → Apart (λ t. to + t) n m
apart_row to n m h = record { inside = λ t l. omega arith; one = λ t u l k e. omega arith }

-- a number and its rest, by 3 and by 4
pub third : (b f : ℕ) → f < 3 → ((3 * b + f) / 3 ≡ b) × ((3 * b + f) % 3 ≡ f)
third b f h = (omega arith, omega arith)

pub fourth : (b f : ℕ) → f < 4 → ((4 * b + f) / 4 ≡ b) × ((4 * b + f) % 4 ≡ f)
fourth b f h = (omega arith, omega arith)

-- what is read before or behind the stores
pub read_kept : {to n : ℕ} {v : ℕ → ℕ} {s s₁ : List ℕ} → Put 0 (λ t. to + t) n v s s₁ → (j : ℕ) → (j < to) ⊎ (to + n ≤ j) → get_or s₁ j 0 ≡ get_or s j 0
read_kept H j (inl l) = H.others j (λ t h e. omega arith)
read_kept H j (inr l) = H.others j (λ t h e. omega arith)

-- four stores more, for a block whose place stands at `from + b`
module _ (from blocks b p : ℕ) (s : List ℕ) (l : b < blocks) (e : p ≡ get_or s (from + b) 0) where
  by_block : {B : Type 0} (g : ℕ → ℕ → B) (f : ℕ) → f < 4 → g p f ≡ g (get_or s (from + (4 * b + f) / 4) 0) ((4 * b + f) % 4)
  by_block g f h =
      let x = fourth b f h in
      ap (λ (q : ℕ). g q f) e ∙ ap₂ (λ (u i : ℕ). g (get_or s (from + u) 0) i) (sym x.0) (sym x.1)

  pub block_stored : {A : Type 0} {d : A} {P : ℕ → ℕ} {o o₁ o₂ : List A} → Apart P (4 * blocks) (length o) → (g : ℕ → ℕ → A) → {Q : ℕ → ℕ}
      → Put d P (4 * b) (λ t. g (get_or s (from + t / 4) 0) (t % 4)) o o₁ → Put d Q 4 (g p) o₁ o₂ → ((f : ℕ) → f < 4 → Q f ≡ P (4 * b + f))
      → Put d P (4 * (b + 1)) (λ t. g (get_or s (from + t / 4) 0) (t % 4)) o o₂
  block_stored I g H K q = put_join I H K (4 * (b + 1)) (omega arith) (omega arith) q (by_block g)

  pub block_laid : {A : Type 0} {d : A} (g : ℕ → ℕ → ℕ) {v w : ℕ → A} {o o₁ o₂ : List A}
      → Apart (λ t. g (get_or s (from + t / 4) 0) (t % 4)) (4 * blocks) (length o) → Put d (λ t. g (get_or s (from + t / 4) 0) (t % 4)) (4 * b) v o o₁
      → Put d (g p) 4 w o₁ o₂ → ((f : ℕ) → f < 4 → w f ≡ v (4 * b + f)) → Put d (λ t. g (get_or s (from + t / 4) 0) (t % 4)) (4 * (b + 1)) v o o₂
  block_laid g I H K i = put_join I H K (4 * (b + 1)) (omega arith) (omega arith) (by_block g) i

-- the corners of a block, as a list, are four places
pub corners_listed : (p w f : ℕ) → f < 4 → get_or (p ∷ (p + 1) ∷ (p + w) ∷ (p + w + 1) ∷ []) f 0 ≡ corner_of w p f
unfolding corner_of
corners_listed p w zero l = omega arith
corners_listed p w (suc zero) l = omega arith
corners_listed p w (suc (suc zero)) l = omega arith
corners_listed p w (suc (suc (suc zero))) l = omega arith
corners_listed p w (suc (suc (suc (suc f)))) l = absurd (omega arith)

pub corner_most : (w p f : ℕ) → f < 4 → corner_of w p f ≤ p + w + 1
unfolding corner_of
corner_most w p zero l = omega arith
corner_most w p (suc zero) l = omega arith
corner_most w p (suc (suc zero)) l = omega arith
corner_most w p (suc (suc (suc zero))) l = omega arith
corner_most w p (suc (suc (suc (suc f)))) l = absurd (omega arith)

upper : (f : ℕ) → f < 4 → (f / 2 ≡ 0) ⊎ (f / 2 ≡ 1)
upper zero k = inl refl
upper (suc zero) k = inl refl
upper (suc (suc zero)) k = inr refl
upper (suc (suc (suc zero))) k = inr refl
upper (suc (suc (suc (suc f)))) k = absurd (omega arith)

corner_one : (w p f g : ℕ) → 2 ≤ w → f < 4 → g < 4 → p + f % 2 + f / 2 * w ≡ p + g % 2 + g / 2 * w → f ≡ g
corner_one w p f g h k n e = by (upper f k) (upper g n)
  where
    by : (f / 2 ≡ 0) ⊎ (f / 2 ≡ 1) → (g / 2 ≡ 0) ⊎ (g / 2 ≡ 1) → f ≡ g
    by (inl a) (inl b) = let x : p + f % 2 + 0 * w ≡ p + g % 2 + 0 * w = rw (a, b) at e in omega arith
    by (inl a) (inr b) = let x : p + f % 2 + 0 * w ≡ p + g % 2 + 1 * w = rw (a, b) at e in absurd (omega arith)
    by (inr a) (inl b) = let x : p + f % 2 + 1 * w ≡ p + g % 2 + 0 * w = rw (a, b) at e in absurd (omega arith)
    by (inr a) (inr b) = let x : p + f % 2 + 1 * w ≡ p + g % 2 + 1 * w = rw (a, b) at e in omega arith

pub corners_apart : (w p m : ℕ) → 2 ≤ w → p + w + 1 < m → Apart (corner_of w p) 4 m
unfolding corner_of
corners_apart w p m h l = record { inside = λ f k. omega (arith, corner_most w p f k); one = λ f g k n e. corner_one w p f g h k n e }

-- the greatest corner
corner_last : (w p : ℕ) → corner_of w p 3 ≡ p + w + 1
unfolding corner_of
corner_last w p = omega arith

-- three stores more, for a group
pub group_stored : (g : ℕ → ℕ → ℕ) (to across j at : ℕ) {s s₁ s₂ : List ℕ} → to + 3 * across ≤ length s → j < across → at ≡ to + 3 * j
    → Put 0 (λ t. to + t) (3 * j) (λ t. g (t / 3) (t % 3)) s s₁ → Put 0 (λ m. at + m) 3 (g j) s₁ s₂
    → Put 0 (λ t. to + t) (3 * (j + 1)) (λ t. g (t / 3) (t % 3)) s s₂
group_stored g to across j at h l e H K =
    put_join (apart_row to (3 * across) _ h) H K (3 * (j + 1)) (omega arith) (omega arith) (λ f k. omega arith)
    (λ f k. let x = third j f k in ap₂ (λ (a b : ℕ). g a b) (sym x.0) (sym x.1))

-- a row of groups more
pub row_stored : (g : ℕ → ℕ → ℕ → ℕ) (to rows across i at : ℕ) {s s₁ s₂ : List ℕ} → to + 3 * (rows * across) ≤ length s → i < rows
    → at ≡ to + 3 * (i * across) → Put 0 (λ t. to + t) (3 * (i * across)) (λ t. g (t / 3 / across) (t / 3 % across) (t % 3)) s s₁
    → Put 0 (λ t. at + t) (3 * across) (λ t. g i (t / 3) (t % 3)) s₁ s₂
    → Put 0 (λ t. to + t) (3 * ((i + 1) * across)) (λ t. g (t / 3 / across) (t / 3 % across) (t % 3)) s s₂
row_stored g to rows across i at h l e H K =
    let r : (i + 1) * across ≤ rows * across = mul-le-mul (omega arith) (omega arith) in
    put_join (apart_row to (3 * (rows * across)) _ h) H K (3 * ((i + 1) * across)) (omega arith) (omega arith) (λ f k. omega arith)
    (λ f k.
    let x : f / 3 < across = omega arith in
    let y : (3 * (i * across) + f) / 3 ≡ i * across + f / 3 = omega arith in
    let m : (3 * (i * across) + f) % 3 ≡ f % 3 = omega arith in
    ap₂ (λ (a b : ℕ). g a b (f % 3)) (sym (ap (λ (u : ℕ). u / across) y ∙ digits_div i x)) (sym (ap (λ (u : ℕ). u % across) y ∙ digits_mod i x))
    ∙ ap (λ (u : ℕ). g ((3 * (i * across) + f) / 3 / across) ((3 * (i * across) + f) / 3 % across) u) (sym m))

-- a row of the band more: places and values by row and column
pub band_stored : {A : Type 0} {d : A} {P : ℕ → ℕ} {v : ℕ → A} (rows across i : ℕ) {s s₁ s₂ : List A} → Apart P (rows * across) (length s) → i < rows
    → Put d P (i * across) v s s₁ → {Q : ℕ → ℕ} {w : ℕ → A} → Put d Q across w s₁ s₂ → ((j : ℕ) → j < across → Q j ≡ P (i * across + j))
    → ((j : ℕ) → j < across → w j ≡ v (i * across + j)) → Put d P ((i + 1) * across) v s s₂
band_stored rows across i I l H K p w =
    let r : (i + 1) * across ≤ rows * across = mul-le-mul (omega arith) (omega arith) in
    put_join I H K ((i + 1) * across) (omega arith) (omega arith) p w

-- the last corner of a block among the places of all
pub block_inside : (from blocks b w m : ℕ) (s : List ℕ) → Apart (λ t. corner_of w (get_or s (from + t / 4) 0) (t % 4)) (4 * blocks) m → b < blocks
    → get_or s (from + b) 0 + w + 1 < m
block_inside from blocks b w m s A h =
    let x = fourth b 3 (omega arith) in
    let e : corner_of w (get_or s (from + (4 * b + 3) / 4) 0) ((4 * b + 3) % 4) ≡ get_or s (from + b) 0 + w + 1 =
    ap₂ (λ (u f : ℕ). corner_of w (get_or s (from + u) 0) f) x.0 x.1 ∙ corner_last w (get_or s (from + b) 0) in
    omega (arith, A.inside (4 * b + 3) (omega arith))
