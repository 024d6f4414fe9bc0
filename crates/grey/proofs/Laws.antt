-- Tones and pixels: what a loop over them has done so far.
use mathlib.Core.Path.{◌≡◌, refl, ap, sym, ◌∙◌}
use mathlib.Core.Logic.{◌≢◌}
use mathlib.Core.List.{List, [], ◌∷◌, ◌++◌, map, map-append}
use mathlib.Core.Bool.{Bool, true, false, cond}
use Prim.Native.Nat.{ℕ, suc, ◌+◌, ◌-◌, ◌≤◌, ◌<◌, min}
use native.Mathlib.Decide.{dec_lt}
use native.Mathlib.Omega.{arith}
use native.Mathlib.Numerals.{add-one}
use lib.Dec.{ltb}
use lib.ListN.{length, get_or, set, take, drop, length-map, length-take, length-drop}
use Rattle.std.proofs.lemmas.List.{take_all, get_or-map}
use lib.Seq.{take-suc, length-take-le, get_or-set_same, get_or-set_other, ext_get_or}
use lib.IntN.{ℤ, pos}
use mir.Val.{bool_byte}
use Rattle.std.specs.Prelude.{Option, Some, None, Result, Ok, Err, IsErrAnd, ok_or}
use Rattle.rules.specs.declared.Refusal.{Refusal}
use Rattle.rules.proofs.Laws.Counting.Booleans.{clash}
use Rattle.pictures.specs.Document.Calls.{clip, outside, clipped_in}
use Rattle.pictures.specs.Laws.Tones.{bias, toned}
use Rattle.pictures.proofs.Laws.Tones.{sub_below, sub_least}

module _ (t : ℕ) where
  pub clip_tone : min (t - bias) 255 ≡ clip (toned t)
  unfolding clip
  clip_tone = by (dec_lt t bias)
    where
      by : Dec (t < bias) → min (t - bias) 255 ≡ clip (toned t)
      by (yes h) = (let none : min (t - bias) 255 ≡ 0 = omega arith in none) ∙ sym (ap clip (sub_below t bias h))
      by (no h) = sym (ap clip (sub_least t bias (omega arith)))

  pub outside_under : t < bias → true ≡ outside (toned t)
  unfolding outside
  outside_under h = sym (ap outside (sub_below t bias h))

  pub outside_over : bias ≤ t → ltb 255 (t - bias) ≡ outside (toned t)
  unfolding outside
  outside_over h = sym (ap outside (sub_least t bias h))

-- Loaded so far.
pub load_onward : (tones : ℕ → ℕ) (s : List ℕ) (q v : ℕ) → q < length s → ((k : ℕ) → k < q → get_or s k 0 ≡ tones k) → v ≡ tones q
    → (k : ℕ) → k < q + 1 → get_or (set s q v) k 0 ≡ tones k
load_onward tones s q v l before e k h = by (dec_lt k q)
  where
    by : Dec (k < q) → get_or (set s q v) k 0 ≡ tones k
    by (yes i) = let apart : k ≢ q = λ x. omega arith in get_or-set_other s q k v 0 apart ∙ before k i
    by (no i) = let same : k ≡ q = omega arith in ap (λ (n : ℕ). get_or (set s q v) n 0) same ∙ get_or-set_same s q v 0 l ∙ e ∙ ap tones (sym same)

-- the numbers that the first tones stand for
unfoldable pub numbers_in : ℕ → List ℕ → List ℤ
numbers_in count work = map toned (take count work)

-- One number more, stored and counted.
numbers_onward : (q : ℕ) (s : List ℕ) → q < length s → numbers_in (q + 1) s ≡ numbers_in q s ++ (toned (get_or s q 0) ∷ [])
unfolding numbers_in
numbers_onward q s l =
    ap (λ (n : ℕ). map toned (take n s)) (add-one q) ∙ ap (map toned) (take-suc s q 0 l) ∙ map-append toned (take q s) (get_or s q 0 ∷ [])

clipped_onward : (vs : List ℤ) (v : ℤ) → clipped_in (vs ++ (v ∷ [])) ≡ clipped_in vs + bool_byte (outside v)
unfolding clipped_in
clipped_onward [] v = by (outside v)
  where
    by : (b : Bool) → cond b 1 0 ≡ 0 + bool_byte b
    by true = refl
    by false = refl
clipped_onward (x ∷ vs) v = by (outside x) (clipped_onward vs v)
  where
    by : (b : Bool) → clipped_in (vs ++ (v ∷ [])) ≡ clipped_in vs + bool_byte (outside v)
        → cond b (suc (clipped_in (vs ++ (v ∷ [])))) (clipped_in (vs ++ (v ∷ []))) ≡ cond b (suc (clipped_in vs)) (clipped_in vs) + bool_byte (outside v)
    by true e = omega arith
    by false e = e

pub count_onward : (s : List ℕ) (q : ℕ) → q < length s
    → clipped_in (numbers_in (q + 1) s) ≡ clipped_in (numbers_in q s) + bool_byte (outside (toned (get_or s q 0)))
count_onward s q l = ap clipped_in (numbers_onward q s l) ∙ clipped_onward (numbers_in q s) (toned (get_or s q 0))

-- No more numbers are counted than there are.
clipped_most : (vs : List ℤ) → clipped_in vs ≤ length vs
unfolding clipped_in
clipped_most [] = omega arith
clipped_most (v ∷ vs) = by (outside v) (clipped_most vs)
  where
    by : (b : Bool) → clipped_in vs ≤ length vs → cond b (suc (clipped_in vs)) (clipped_in vs) ≤ suc (length vs)
    by true l = omega arith
    by false l = omega arith

pub counted_most : (q : ℕ) (s : List ℕ) {n : ℕ} → n ≡ clipped_in (numbers_in q s) → n ≤ q
unfolding numbers_in
counted_most q s e = omega (arith, clipped_most (numbers_in q s), length-map (take q s) toned, length-take q s)

pub byte_most : (b : Bool) → bool_byte b ≤ 1
byte_most true = omega arith
byte_most false = omega arith

-- All numbers, stored and counted.
pub numbers_all : (s : List ℕ) {q : ℕ} → length s ≤ q → numbers_in q s ≡ map toned s
unfolding numbers_in
numbers_all s {q} l = ap (map toned) (take_all q s l)

pub stored_all : (tones pixels : List ℕ) {q : ℕ} → length tones ≤ q → length pixels ≡ length tones
    → ((k : ℕ) → k < q → get_or pixels k 0 ≡ clip (toned (get_or tones k 0))) → pixels ≡ map clip (map toned tones)
stored_all tones pixels l e each =
    let many = length-map tones toned in
    ext_get_or 0 pixels (map clip (map toned tones)) (e ∙ sym (length-map (map toned tones) clip ∙ many))
    (λ k h.
    each k (omega arith)
    ∙ sym (get_or-map clip (map toned tones) k (pos 0) 0 (omega arith) ∙ ap clip (get_or-map toned tones k 0 (pos 0) (omega arith))))

-- How long a part is.
pub part_length : (s : List ℕ) (at n : ℕ) → at + n ≤ length s → length (take (at + n - at) (drop at s)) ≡ n
part_length s at n l = length-take-le (at + n - at) (drop at s) (omega (arith, length-drop at s)) ∙ omega arith

-- What `?` hands back.
pub passed_on : {X : Type 0} (answer : Result X Refusal) {r : Refusal} → IsErrAnd answer (λ e. e ≡ r) → answer ≡ Err r
passed_on (Ok x) h = absurd h
passed_on (Err e) h = ap Err h

pub refused_for : {X : Type 0} (o : Option X) {r s : Refusal} → Err r ≡ ok_or o s → r ≡ s
refused_for None e = cc
refused_for (Some x) e = clash (cc)
