-- What each turn of a loop that fills leaves, and what it comes to at the end; and what fits of a run of stores.
use Rattle.std.specs.Prelude.{◌≡◌, List, [], ◌∷◌, ◌++◌, ℕ, ◌+◌, ◌-◌, ◌≤◌, ◌<◌, min, length, get_or, set, take, drop, replicate}
use Rattle.std.proofs.Common.{refl, sym, ap, subst, ◌∙◌, arith, length-set, length-take, length-drop, add-one}
use Rattle.std.proofs.Math.Decide.{dec_le}
use Rattle.std.proofs.Math.Seq.{paste, paste-zero, take-suc-set}
use Rattle.std.proofs.lemmas.List.Edits.{sets, sets-eq, paste_more}
use Rattle.std.proofs.lemmas.List.{take-take, take_all, replicate-append-replicate}
use Rattle.memory.specs.Stores.{sets_cut, sets_past}

-- The first i elements of s, a list that was d, are v.
pub record Filled {A : Type 0} (v : A) (d : List A) (i : ℕ) (s : List A) : Type 0 where
  pub within : i ≤ length d
  pub same : length s ≡ length d
  pub front : take i s ≡ replicate i v

module _ {A : Type 0} {v : A} {d : List A} where
  pub filled_none : Filled v d 0 d
  filled_none = record { within = omega arith; same = refl; front = refl }

  pub filled_more : {i : ℕ} {s : List A} → Filled v d i s → i < length s → Filled v d (i + 1) (set s i v)
  filled_more {i} {s} f h =
      record {
        within = omega arith;
        same = length-set s i v ∙ f.same;
        front =
            rw add-one
            (take-suc-set s i v h
            ∙ ap (λ l. l ++ (v ∷ [])) f.front
            ∙ replicate-append-replicate i 1 v
            ∙ ap (λ n. replicate n v) (add-one i));
      }

  pub filled_all : {i : ℕ} {s : List A} → Filled v d i s → length s ≤ i → s ≡ replicate (length d) v
  filled_all {i} {s} f h = sym (take_all i s h) ∙ f.front ∙ ap (λ n. replicate n v) {x = i} {y = length d} (omega arith)

-- What fits of vs, put in the place of as many elements of l: past its end nothing fits.
module _ (l vs : List ℕ) (at n : ℕ) where
  pasted : at ≤ length l → n ≡ min (length vs) (length l - at) → paste l at vs n ≡ sets l at vs
  pasted h e =
      let k : length (take n vs) ≡ n = length-take n vs ∙ omega arith in
      ap (λ m. take at l ++ take n vs ++ drop (at + m) l) (sym k)
      ∙ sym (sets-eq (take n vs) l at (omega arith))
      ∙ sets_cut l at n vs (omega arith)

  pub pasted_first : (first : ℕ) → first ≡ min at (length l) → n ≡ min (length vs) (length l - first)
      → paste l first vs n ≡ sets l at vs
  pasted_first first f e = by (dec_le at (length l))
    where
      Stands : ℕ → Type 0
      Stands i = paste l i vs n ≡ sets l at vs

      by : Dec (at ≤ length l) → Stands first
      by (yes h) =
          let same : first ≡ at = omega arith in
          subst Stands (sym same) (pasted h (omega arith))
      by (no h) =
          let none : n ≡ 0 = omega arith in
          let past : first ≡ length l = omega arith in
          rw (none, past) (sym (paste-zero l (length l) vs) ∙ sym (sets_past l at vs (omega arith)))

-- The first i elements of s stand in t, a list that was d, from a place on.
pub record Copied (s d : List ℕ) (at i : ℕ) (t : List ℕ) : Type 0 where
  pub same : length t ≡ length d
  pub list : t ≡ paste d at s i

module _ {s d : List ℕ} {at : ℕ} where
  pub copied_none : Copied s d at 0 d
  copied_none = record { same = refl; list = paste-zero d at s }

  module _ {i : ℕ} {t : List ℕ} (c : Copied s d at i t) where
    pub copied_more : at + i < length d → i < length s → Copied s d at (i + 1) (set t (at + i) (get_or s i 0))
    copied_more there h =
        record {
          same = length-set t (at + i) (get_or s i 0) ∙ c.same;
          list = rw c.list (paste_more d at s i 0 there h);
        }

    pub copied_all : (place : ℕ) → at ≡ min place (length d) → i ≡ min (length s) (length d - at) → t ≡ sets d place s
    copied_all place f e = c.list ∙ pasted_first d s place i at f e

-- A stretch of l moved by so many places, as far as it fits.
module _ (l : List ℕ) (start count by n : ℕ) (e : n ≡ min count (length l - start - by)) where
  stretch_is : length (take count (drop start l)) ≡ min count (length l - start)
  stretch_is = length-take count (drop start l) ∙ ap (min count) (length-drop start l)

  pub moved : 0 < n → paste l (start + by) (drop start l) n ≡ sets l (start + by) (take count (drop start l))
  moved h =
      ap (λ x. take (start + by) l ++ x ++ drop (start + by + n) l) (sym (take-take n count (drop start l) (omega arith)))
      ∙ pasted l (take count (drop start l)) (start + by) n (omega arith) (omega (arith, stretch_is))

  pub moved_none : n ≤ 0 → l ≡ sets l (start + by) (take count (drop start l))
  moved_none h =
      sets_cut l (start + by) 0 (take count (drop start l)) (omega (arith, stretch_is))
