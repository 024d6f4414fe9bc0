-- What a store makes of the values and the maxima; where a stretch ends.
use mathlib.Core.Path.{◌≡◌, refl, sym, ap, ◌∙◌, subst}
use mathlib.Core.Bool.{Bool, true, cond}
use mathlib.Core.List.{List}
use Prim.Native.Nat.{ℕ, ◌+◌, ◌*◌, ◌/◌, ◌^◌, ◌≤◌, ◌<◌}
use native.Mathlib.Nat.{zero-add}
use native.Mathlib.Omega.{arith}
use lib.ListN.{length, get_or, set, length-set, get_or-eq_default}
use lib.Seq.{get_or-set_other, set_out}
use Rattle.rules.specs.declared.Size.{Size}
use Rattle.rules.specs.Document.Pyramid.{legal_size, levels}
use Rattle.rules.specs.Document.Calls.{work_for}
use Rattle.rules.specs.Laws.Family.Sizes.{level_start, level_size, level_end}
use Rattle.rules.proofs.Laws.Family.Sizes.{legal, area_bound, level_size_end}
use Rattle.stretches.specs.Seg.{seg, seg_set}
use Rattle.stretches.specs.Levels.{level_ends}
use Rattle.stretches.specs.Cut.{maxima_from, values_in, maxima_in, ValueSet, SetOr, MaximumSet, maxima_length, maxima_at}

-- a read
pub maximum_read : (n : ℕ) (s : List ℕ) (i from : ℕ) → from ≡ maxima_from n → i < n / 4 → get_or s (from + i) 0 ≡ get_or (maxima_in n s) i 0
maximum_read n s i from e h = ap (λ (x : ℕ). get_or s (x + i) 0) e ∙ sym (maxima_at n s i h)

pub maximum_past : (n : ℕ) (s : List ℕ) (i : ℕ) → 4 * n ≤ length s → n / 4 ≤ i → 0 ≡ get_or (maxima_in n s) i 0
maximum_past n s i h l = sym (get_or-eq_default (maxima_in n s) 0 (omega (arith, maxima_length n s h)))

-- a store
pub value_stored : (n : ℕ) (s : List ℕ) (i v : ℕ) → i < n → ValueSet n s i v (set s i v)
unfolding values_in
value_stored n s i v h =
    record {
      long = length-set s i v;
      values = ap (λ (j : ℕ). seg 0 n (set s j v)) (sym (zero-add i)) ∙ seg_set 0 n s i v h;
      others = λ j l. get_or-set_other s i j v 0 (λ e. omega arith);
    }

-- a store by a bit
pub either_stored : (b : Bool) (n : ℕ) (s : List ℕ) (i v p at : ℕ) → at ≡ cond b i p → i < n → SetOr b n s i v p (set s at v)
either_stored b n s i v p at e h =
    record {
      written = λ x. subst (λ (j : ℕ). ValueSet n s i v (set s j v)) (sym (e ∙ ap (λ c. cond c i p) x)) (value_stored n s i v h);
      spared =
          λ x. record {
            long = length-set s at v;
            others = λ j k. get_or-set_other s at j v 0 (λ y. k (omega (arith, e ∙ ap (λ c. cond c i p) x)));
          };
    }

pub maximum_stored : (n : ℕ) (s : List ℕ) (i v from : ℕ) → from ≡ maxima_from n → i < n / 4 → MaximumSet n s i v (set s (from + i) v)
unfolding maxima_in maxima_from
maximum_stored n s i v from e h =
    record {
      long = length-set s (from + i) v;
      maxima = ap (λ (j : ℕ). seg (n + n + n + 3 * n / 4) (n / 4) (set s (j + i) v)) e ∙ seg_set (n + n + n + 3 * n / 4) (n / 4) s i v h;
      before = λ j l. get_or-set_other s (from + i) j v 0 (λ x. omega arith);
      behind = λ j l. get_or-set_other s (from + i) j v 0 (λ x. omega arith);
    }

pub maximum_kept : (n : ℕ) (s : List ℕ) (i v : ℕ) → 4 * n ≤ length s → n / 4 ≤ i → MaximumSet n s i v s
maximum_kept n s i v h l =
    record {
      long = refl;
      maxima = sym (set_out (maxima_in n s) i v (omega (arith, maxima_length n s h)));
      before = λ j k. refl;
      behind = λ j k. refl;
    }

-- no level ends behind the pyramid
pub stretch_placed : (z : Size) (k : ℕ) → (legal_size z ≡ true) × (1 ≤ k) × (k ≤ levels z)
    → (level_start z k + level_size z k ≡ level_end z k) × (4 * level_end z k ≤ work_for z) × (4 * level_end z k < 2 ^ 32)
stretch_placed z k (e, h, l) =
    let ends = level_ends z (legal z e) k h l in (level_size_end z (legal z e) k h l, omega arith, omega (arith, area_bound z e))
