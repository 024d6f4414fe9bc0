-- What one more turn of a loop that fills a line leaves.
use mathlib.Core.Path.{◌≡◌, sym, ap, subst, ◌∙◌}
use mathlib.Core.List.{List, ◌++◌}
use Prim.Native.Nat.{ℕ, ◌+◌, ◌-◌, ◌≤◌, ◌<◌}
use native.Mathlib.Decide.{dec_lt}
use native.Mathlib.Omega.{arith}
use lib.ListN.{length, get_or, get_or-append, take, set, length-set}
use lib.Seq.{get_or-set_same, get_or-set_other, get_or-take, get_or-drop, length-take-le}
use borrow.Rule.Slice.PartMut.{put_mid, post_of, same_len_mid, mid_len, Post-is}
use Rattle.std.proofs.lemmas.List.{get_or-append_right}
use Rattle.lifting.specs.Fills.{along, Off, Filled, Both}

module _ {A : Type 0} {z : A} {s₀ : List A} {place : ℕ → ℕ} {new : ℕ → A} where
  pub filled_more : {n : ℕ} {s : List A} {v : A} → Filled z s₀ place new n s → place n < length s₀ → Off (place n) place n → v ≡ new n
      → Filled z s₀ place new (n + 1) (set s (place n) v)
  filled_more {n} {s} {v} f h o e =
      record {
        same = length-set s (place n) v ∙ f.same;
        done = λ c k. by c (dec_lt c n) k;
        kept = λ q off. get_or-set_other s (place n) q v z (off n (omega arith)) ∙ f.kept q (λ c k. off c (omega arith));
      }
    where
      by : (c : ℕ) → Dec (c < n) → c < n + 1 → get_or (set s (place n) v) (place c) z ≡ new c
      by c (yes h') k = get_or-set_other s (place n) (place c) v z (λ p. o c h' (sym p)) ∙ f.done c h'
      by c (no h') k =
          let p : c ≡ n = omega arith in
          rw p (get_or-set_same s (place n) v z (omega (arith, f.same)) ∙ e)

  pub filled_end : {n m : ℕ} {s : List A} → Filled z s₀ place new n s → n ≡ m → Filled z s₀ place new m s
  filled_end {s = s} f e = subst (λ n. Filled z s₀ place new n s) e f

module _ {A : Type 0} {z : A} {s₀ : List A} {new : ℕ → A} where
  -- a part written, and put back where it stood
  pub filled_part : (ys : List A) (at e m : ℕ) → e ≡ at + m → e ≤ length s₀ → length ys ≡ m → ((c : ℕ) → c < m → get_or ys c z ≡ new c)
      → Filled z s₀ (along at) new m (put_mid at (e - at) s₀ ys)
  filled_part ys at e m p h l w =
      record {
        same = same_len_mid at (e - at) s₀ ys (omega (arith, mid_len at e s₀ h));
        done = λ c k. behind (at + c) (omega arith) ∙ inside c k;
        kept = λ q o. by q o (dec_lt q at) (dec_lt q e);
      }
    where
      front : length (take at s₀) ≡ at
      front = length-take-le at s₀ (omega arith)

      behind : (q : ℕ) → at ≤ q → get_or (put_mid at (e - at) s₀ ys) q z ≡ get_or (ys ++ post_of at (e - at) s₀) (q - at) z
      behind q k = get_or-append_right (take at s₀) (ys ++ post_of at (e - at) s₀) at q z front k

      inside : (c : ℕ) → c < m → get_or (ys ++ post_of at (e - at) s₀) (at + c - at) z ≡ new c
      inside c k =
          let i : at + c - at ≡ c = omega arith in
          ap (λ q. get_or (ys ++ post_of at (e - at) s₀) q z) i ∙ get_or-append ys (post_of at (e - at) s₀) z c (omega arith) ∙ w c k

      by : (q : ℕ) → Off q (along at) m → Dec (q < at) → Dec (q < e) → get_or (put_mid at (e - at) s₀ ys) q z ≡ get_or s₀ q z
      by q o (yes k) d = get_or-append (take at s₀) (ys ++ post_of at (e - at) s₀) z q (omega (arith, front)) ∙ get_or-take at s₀ q z k
      by q o (no k) (yes k') = absurd (o (q - at) (omega arith) (omega arith))
      by q o (no k) (no k') =
          let i : e + (q - at - m) ≡ q = omega arith in
          behind q (omega arith) ∙ get_or-append_right ys (post_of at (e - at) s₀) m (q - at) z l (omega arith)
          ∙ ap (λ l. get_or l (q - at - m) z) (Post-is at e s₀ (omega arith)) ∙ get_or-drop e s₀ (q - at - m) z ∙ ap (λ q. get_or s₀ q z) i

module _ {s₀ : List ℕ} {p f q g : ℕ → ℕ} where
  pub both_more : {n : ℕ} {s : List ℕ} {v u : ℕ} → Both s₀ p f q g n s → p n < length s₀ → q n < length s₀
      → Off (p n) p n → Off (q n) q n → Off (p n) q n → Off (q n) p (n + 1) → v ≡ f n → u ≡ g n
      → Both s₀ p f q g (n + 1) (set (set s (p n) v) (q n) u)
  both_more {n} {s} {v} {u} b hp hq opp oqq opq oqp ev eu =
      record {
        same = length-set t (q n) u ∙ length-set s (p n) v ∙ b.same;
        one = λ c k. first c (dec_lt c n) k;
        other = λ c k. second c (dec_lt c n) k;
        kept = λ r o o'.
            get_or-set_other t (q n) r u 0 (o' n (omega arith))
            ∙ get_or-set_other s (p n) r v 0 (o n (omega arith))
            ∙ b.kept r (λ c k. o c (omega arith)) (λ c k. o' c (omega arith));
      }
    where
      t : List ℕ
      t = set s (p n) v

      first : (c : ℕ) → Dec (c < n) → c < n + 1 → get_or (set t (q n) u) (p c) 0 ≡ f c
      first c (yes h) k =
          get_or-set_other t (q n) (p c) u 0 (λ e. oqp c k (sym e))
          ∙ get_or-set_other s (p n) (p c) v 0 (λ e. opp c h (sym e))
          ∙ b.one c h
      first c (no h) k =
          let e : c ≡ n = omega arith in
          rw e
          (get_or-set_other t (q n) (p n) u 0 (λ d. oqp n (omega arith) (sym d))
          ∙ get_or-set_same s (p n) v 0 (omega (arith, b.same))
          ∙ ev)

      second : (c : ℕ) → Dec (c < n) → c < n + 1 → get_or (set t (q n) u) (q c) 0 ≡ g c
      second c (yes h) k =
          get_or-set_other t (q n) (q c) u 0 (λ e. oqq c h (sym e))
          ∙ get_or-set_other s (p n) (q c) v 0 (λ e. opq c h (sym e))
          ∙ b.other c h
      second c (no h) k =
          let e : c ≡ n = omega arith in
          rw e (get_or-set_same t (q n) u 0 (omega (arith, length-set s (p n) v, b.same)) ∙ eu)

  pub both_end : {n m : ℕ} {s : List ℕ} → Both s₀ p f q g n s → n ≡ m → Both s₀ p f q g m s
  both_end {s = s} b e = subst (λ n. Both s₀ p f q g n s) e b
