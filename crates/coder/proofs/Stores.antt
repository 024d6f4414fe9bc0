-- Laws of stores that lie beside or over one another, and of a stretch that is stored and read again.
use mathlib.Core.Path.{◌≡◌, refl, sym, ap, ◌∙◌}
use mathlib.Core.List.{List, [], ◌∷◌}
use Prim.Native.Nat.{ℕ, zero, suc, ◌+◌, ◌-◌, ◌≤◌, ◌<◌, min}
use native.Mathlib.Omega.{arith}
use native.Mathlib.Decide.{ℕ_discrete}
use lib.ListN.{length, get_or, set, take, drop, length-set, length-take, length-drop}
use lib.Seq.{sets, length-sets, set_comm, set-set, drop-cons, get_or-set_same, take-take}
use Rattle.memory.specs.Stores.{sets_cut, get_d_sets_before, set_sets_before}

module _ {A : Type 0} where
  -- Of two runs of stores, one before the other, either may come first.
  pub sets_beside : (l : List A) (i : ℕ) (vs : List A) (j : ℕ) (ws : List A) → j + length ws ≤ i → sets (sets l i vs) j ws ≡ sets (sets l j ws) i vs
  sets_beside l i vs j [] h = refl
  sets_beside l i vs j (w ∷ ws) h =
      ap (λ (k : List A). sets k (suc j) ws) (set_sets_before l i vs j w (omega arith)) ∙ sets_beside (set l j w) i vs (suc j) ws (omega arith)

  -- A store that others cover is lost.
  set_covered : (l : List A) (i : ℕ) (v : A) (j : ℕ) (ws : List A) → j ≤ i → i < j + length ws → sets (set l i v) j ws ≡ sets l j ws
  set_covered l i v j [] a b = absurd (omega arith)
  set_covered l i v j (w ∷ ws) a b = by (ℕ_discrete i j) (set_covered (set l j w) i v (suc j) ws)
    where
      by : Dec (i ≡ j) → (suc j ≤ i → i < suc j + length ws → sets (set (set l j w) i v) (suc j) ws ≡ sets (set l j w) (suc j) ws)
          → sets (set (set l i v) j w) (suc j) ws ≡ sets (set l j w) (suc j) ws
      by (yes e) r = rw e (ap (λ (k : List A). sets k (suc j) ws) (set-set l j v w))
      by (no d) r = ap (λ (k : List A). sets k (suc j) ws) (set_comm l i j v w d) ∙ r (omega arith) (omega arith)

  pub sets_covered : (l : List A) (i : ℕ) (vs : List A) (j : ℕ) (ws : List A) → j ≤ i → i + length vs ≤ j + length ws
      → sets (sets l i vs) j ws ≡ sets l j ws
  sets_covered l i [] j ws a b = refl
  sets_covered l i (v ∷ vs) j ws a b =
      sets_covered (set l i v) (suc i) vs j ws (omega arith) (omega arith) ∙ set_covered l i v j ws a (omega arith)

  -- What was stored is there, as far as the list reaches.
  stored_there : (d : A) (l : List A) (i : ℕ) (vs : List A) (m : ℕ) → m ≤ length vs → m ≤ length l - i → take m (drop i (sets l i vs)) ≡ take m vs
  stored_there d l i vs zero a b = refl
  stored_there d l i [] (suc m) a b = absurd (omega arith)
  stored_there d l i (v ∷ vs) (suc m) a b =
      let k : List A = sets (set l i v) (suc i) vs in
      let s : length k ≡ length l = length-sets (set l i v) (suc i) vs ∙ length-set l i v in
      let first : get_or k i d ≡ v = get_d_sets_before (set l i v) (suc i) vs i d (omega arith) ∙ get_or-set_same l i v d (omega arith) in
      let rest : take m (drop (suc i) k) ≡ take m vs = stored_there d (set l i v) (suc i) vs m (omega arith) (omega (arith, length-set l i v)) in
      rw (drop-cons k i d (omega arith), first, rest) refl

  -- A stretch that was stored, read again and stored further on.
  pub stored_again : (d : A) (l : List A) (i : ℕ) (vs : List A) (j : ℕ) → i ≤ j
      → sets (sets l i vs) j (take (length vs) (drop i (sets l i vs))) ≡ sets (sets l i vs) j vs
  stored_again d l i vs j h =
      let k : List A = sets l i vs in
      let s : length k ≡ length l = length-sets l i vs in
      let n : ℕ = length vs in
      let m : ℕ = min n (length l - i) in
      sym (sets_cut k j m (take n (drop i k)) (omega (arith, length-take n (drop i k), length-drop i k)))
      ∙ ap (sets k j) (take-take m n (drop i k) (omega arith) ∙ stored_there d l i vs m (omega arith) (omega arith))
      ∙ sets_cut k j m vs (omega arith)
