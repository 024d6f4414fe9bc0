-- Numbers of all levels stored one behind the other, and an answer's numbers at the front of a zeroed slice.
use mathlib.Core.Path.{◌≡◌, refl, ap, ap₂, sym, ◌∙◌}
use mathlib.Core.List.{List, [], ◌∷◌, ◌++◌, map, map-append}
use Prim.Native.Nat.{ℕ, zero, suc, ◌+◌, ◌-◌, ◌≤◌, ◌<◌}
use native.Mathlib.Numerals.{add-one}
use native.Mathlib.Omega.{arith}
use lib.ListN.{length, get_or, set, take, drop, replicate, length-set, length-map, length-take, length-replicate}
use Rattle.std.proofs.lemmas.List.{drop-replicate}
use lib.Seq.{sets}
use Rattle.rules.specs.Document.Passes.{from}
use Rattle.rules.specs.Document.Calls.{filled, level_places}
use Rattle.rules.proofs.Laws.Counting.Sums.{from_length}
use Rattle.memory.specs.Stores.{sets_append}
use Rattle.answers.specs.Report.{Reported}

-- The loop that stores one number a level, f of its place, after some of them.
pub record Storing (f : ℕ → ℕ) (answer₀ : List ℕ) (at done : ℕ) (answer : List ℕ) : Type 0 where
  pub room : at + level_places ≤ length answer₀
  pub same : length answer ≡ length answer₀
  pub within : done ≤ level_places
  pub holds : answer ≡ sets answer₀ at (map f (from 0 done))

from_snoc : (q m last : ℕ) → last ≡ q + m → from q (suc m) ≡ from q m ++ (last ∷ [])
unfolding from
from_snoc q zero last e = ap (λ (x : ℕ). x ∷ []) (omega arith)
from_snoc q (suc m) last e = ap (λ (l : List ℕ). q ∷ l) (from_snoc (suc q) m last (omega arith))

module _ {f : ℕ → ℕ} {answer₀ : List ℕ} {at : ℕ} where
  pub storing_none : at + level_places ≤ length answer₀ → Storing f answer₀ at 0 answer₀
  unfolding from
  storing_none l = record { room = l; same = refl; within = omega arith; holds = refl }

  module _ {done : ℕ} {answer : List ℕ} (b : Storing f answer₀ at done answer) where
    pub storing_more : {x : ℕ} → done < level_places → x ≡ f done → Storing f answer₀ at (done + 1) (set answer (at + done) x)
    storing_more {x} l e =
        record {
          room = b.room;
          same = length-set answer (at + done) x ∙ b.same;
          within = omega arith;
          holds =
              ap₂ (λ (y : List ℕ) (v : ℕ). set y (at + done) v) b.holds e
              ∙ ap (λ (i : ℕ). set (sets answer₀ at stored) (at + i) (f done)) (sym stored_length)
              ∙ sym (sets_append answer₀ at stored (f done ∷ []))
              ∙ ap (sets answer₀ at) (sym one_more);
        }
      where
        stored : List ℕ
        stored = map f (from 0 done)

        stored_length : length stored ≡ done
        stored_length = length-map (from 0 done) f ∙ from_length 0 done

        one_more : map f (from 0 (done + 1)) ≡ stored ++ (f done ∷ [])
        one_more =
            ap (λ (n : ℕ). map f (from 0 n)) (add-one done) ∙ ap (map f) (from_snoc 0 done done (omega arith))
            ∙ map-append f (from 0 done) (done ∷ [])

    pub storing_all : level_places ≤ done → answer ≡ sets answer₀ at (map f (from 0 level_places))
    storing_all l =
        let e : done ≡ level_places = omega (arith, b.within) in
        b.holds ∙ ap (λ (n : ℕ). sets answer₀ at (map f (from 0 n))) e

pub reported : {numbers entry zeroed copied : List ℕ} (n : ℕ) → zeroed ≡ replicate (length entry) 0 → copied ≡ numbers → length copied ≡ length (take n zeroed)
    → n ≤ length entry → Reported numbers entry (get_or numbers 0 0) (copied ++ drop n zeroed)
unfolding filled
reported {numbers} {entry} {zeroed} n z c l m =
    let long : length numbers ≡ n = omega (arith, ap length (sym c), l, length-take n zeroed, ap length z, length-replicate {A = ℕ} (length entry) 0) in
    record {
      returns = refl;
      writes =
          ap₂ (λ (x y : List ℕ). x ++ y) c (ap (drop n) z ∙ drop-replicate n (length entry) 0)
          ∙ ap (λ (k : ℕ). numbers ++ replicate (length entry - k) 0) (sym long);
    }
