-- Stretches of lists, and laws of `sets l i vs`: the list l with the elements vs stored from place i on; what would fall past its end is
-- left out.
use Rattle.std.specs.Prelude.{◌≡◌, refl, List, [], ◌∷◌, ◌++◌, ℕ, zero, suc, ◌+◌, ◌-◌, ◌≤◌, ◌<◌, min, length, get_or, set, take, drop}
use Rattle.std.proofs.Common.{sym, ap, ◌∙◌, arith, length-set, length-take, length-drop, get_or-set_other, get_or-take, get_or-drop}
use Rattle.std.proofs.lemmas.List.Edits.{sets}
use Rattle.std.proofs.Math.Seq.{set_out, take-nil}
use Rattle.std.proofs.lemmas.List.{set_comm}

module _ {ℓ} {A : Type ℓ} where
  -- The `count` elements of l at `start`, or as many of them as there are.
  abbrev pub stretch : ℕ → ℕ → List A → List A
  stretch start count l = take count (drop start l)

  pub stretch_length : (start count : ℕ) (l : List A) → length (stretch start count l) ≡ min count (length l - start)
  stretch_length start count l = length-take count (drop start l) ∙ ap (min count) (length-drop start l)

  pub stretch_at : (start count : ℕ) (l : List A) (j : ℕ) (d : A) → j < count → get_or (stretch start count l) j d ≡ get_or l (start + j) d
  stretch_at start count l j d h = get_or-take count (drop start l) j d h ∙ get_or-drop start l j d

  pub sets_past : (l : List A) (i : ℕ) (vs : List A) → length l ≤ i → sets l i vs ≡ l
  sets_past l i [] h = refl
  sets_past l i (v ∷ vs) h =
      sets_past (set l i v) (suc i) vs (rw length-set (omega arith)) ∙ set_out l i v h

  -- Only as many are stored as there are places.
  pub sets_cut : (l : List A) (i n : ℕ) (vs : List A) → min (length vs) (length l - i) ≤ n → sets l i (take n vs) ≡ sets l i vs
  sets_cut l i n [] h = ap (sets l i) (take-nil n)
  sets_cut l i zero (v ∷ vs) h = sym (sets_past l i (v ∷ vs) (omega arith))
  sets_cut l i (suc n) (v ∷ vs) h = sets_cut (set l i v) (suc i) n vs (rw length-set (omega arith))

  -- A run of stores is one run, then another.
  pub sets_append : (l : List A) (i : ℕ) (vs ws : List A) → sets l i (vs ++ ws) ≡ sets (sets l i vs) (i + length vs) ws
  sets_append l i [] ws = ap (λ j. sets l j ws) (omega arith)
  sets_append l i (v ∷ vs) ws =
      sets_append (set l i v) (suc i) vs ws ∙ ap (λ j. sets (sets (set l i v) (suc i) vs) j ws) (omega arith)

  -- What stands before the first store is not touched.
  pub get_d_sets_before : (l : List A) (i : ℕ) (vs : List A) (j : ℕ) (d : A) → j < i → get_or (sets l i vs) j d ≡ get_or l j d
  get_d_sets_before l i [] j d h = refl
  get_d_sets_before l i (v ∷ vs) j d h =
      get_d_sets_before (set l i v) (suc i) vs j d (omega arith) ∙ get_or-set_other l i j v d (λ e. omega arith)

  pub set_sets_before : (l : List A) (i : ℕ) (vs : List A) (j : ℕ) (a : A) → j < i → set (sets l i vs) j a ≡ sets (set l j a) i vs
  set_sets_before l i [] j a h = refl
  set_sets_before l i (v ∷ vs) j a h =
      set_sets_before (set l i v) (suc i) vs j a (omega arith)
      ∙ ap (λ k. sets k (suc i) vs) (set_comm l i j v a (λ e. omega arith))

  -- What stands behind the last store is not touched, and what was stored stands there.
  pub get_d_sets_behind : (l : List A) (i : ℕ) (vs : List A) (j : ℕ) (d : A) → i + length vs ≤ j → get_or (sets l i vs) j d ≡ get_or l j d
  get_d_sets_behind l i [] j d h = refl
  get_d_sets_behind l i (v ∷ vs) j d h =
      get_d_sets_behind (set l i v) (suc i) vs j d (omega arith) ∙ get_or-set_other l i j v d (λ e. omega arith)
