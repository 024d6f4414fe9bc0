-- Numbers read back: their values and the place behind them, whatever follows; and where they are cut, one of them is cut off.
use Rattle.std.specs.Prelude.{◌≡◌, List, [], ◌∷◌, ◌++◌, ℕ, zero, suc, ◌+◌, ◌-◌, ◌*◌, ◌/◌, ◌%◌, ◌^◌, ◌≤◌, ◌<◌, length, get_or, take, drop, Ok, Err}
use Rattle.std.proofs.Common.{ap, ap₂, sym, ◌∙◌, subst, append_assoc, arith, mul_assoc, mul_comm, add-mul, length-drop, length-append, get_or-drop, drop-drop}
use Rattle.std.proofs.Math.Decide.{dec_lt}
use Rattle.std.proofs.Math.Seq.{drop-append_seam, take-append-add}
use Rattle.std.proofs.lemmas.List.{take-append-le}
use Rattle.rules.specs.declared.NoNumber.TheVariants.{CutOff}
use Rattle.rules.specs.Document.Notation.{flat}
use Rattle.rules.specs.Document.Layout.{groups, number_bytes, number_from, read_number}
use Rattle.rules.specs.Laws.Counting.Sums.{All}
use Rattle.rules.specs.Laws.Bytes.Numbers.{too_large}
use Rattle.rules.proofs.Laws.Bytes.Numbers.{groups_last, groups_next, by_groups, number_from_cut, number_from_last, number_from_next, shortest_form}
use Rattle.rules.specs.Promises.Refusals.{Numbers, none, next}
use Rattle.rules.specs.Laws.Bytes.NumberBack.{AllSmall, Cut, inside, behind}

-- What is left of s from a place on: its first element, and what is behind.
module _ {X : Type 0} (s : List X) (at : ℕ) where
  pub left_some : (x : X) (xs : List X) → drop at s ≡ x ∷ xs → at < length s
  left_some x xs e = omega (arith, length-drop at s, ap length e)

  pub left_none : drop at s ≡ [] → length s ≤ at
  left_none e = omega (arith, length-drop at s, ap length e)

  pub left_first : (d x : X) (xs : List X) → drop at s ≡ x ∷ xs → get_or s at d ≡ x
  left_first d x xs e = ap (λ i. get_or s i d) (omega arith) ∙ sym (get_or-drop at s 0 d) ∙ ap (λ l. get_or l 0 d) e

  pub left_behind : (xs ys : List X) → drop at s ≡ xs ++ ys → drop (at + length xs) s ≡ ys
  left_behind xs ys e = sym (drop-drop (length xs) at s) ∙ ap (drop (length xs)) e ∙ drop-append_seam xs ys

-- One byte of a number: the last one, or one with its top bit set.
module _ (more : ℕ) (s : List ℕ) (at worth v b : ℕ) (rest : List ℕ) (e : drop at s ≡ b ∷ rest) where
  number_last : b < 128 → (1 < worth → 1 ≤ b) → number_from (suc more) s at worth v ≡ Ok (v + b * worth, at + 1)
  number_last l h =
      let f : get_or s at 0 ≡ b = left_first s at 0 b rest e in
      number_from_last more s at worth v (left_some s at b rest e) (omega arith) ∙ rw (f, shortest_form worth b h)

  number_more : 128 ≤ b → number_from (suc more) s at worth v ≡ number_from more s (at + 1) (worth * 128) (v + (b - 128) * worth)
  number_more l =
      let f : get_or s at 0 ≡ b = left_first s at 0 b rest e in
      number_from_next more s at worth v (left_some s at b rest e) (omega arith) ∙ rw f

worth_whole : (v worth : ℕ) → v % 128 * worth + v / 128 * (worth * 128) ≡ v * worth
worth_whole v worth =
    ap (λ x. v % 128 * worth + x) (ap (λ x. v / 128 * x) (mul_comm worth 128) ∙ sym (mul_assoc (v / 128) 128 worth))
    ∙ sym (add-mul (v % 128) (v / 128 * 128) worth) ∙ ap (λ x. x * worth) (omega arith)

from_groups : (more : ℕ) (s : List ℕ) (at worth acc v : ℕ) (rest : List ℕ) → v < 128 ^ suc more → (1 < worth → 1 ≤ v)
    → drop at s ≡ groups more v ++ rest
    → number_from (suc more) s at worth acc ≡ Ok (acc + v * worth, at + length (groups more v))
from_groups more s at worth acc v rest small = by_groups Read last next more v small s at worth acc rest
  where
    Read : ℕ → ℕ → Type 0
    Read more v =
        (s : List ℕ) (at worth acc : ℕ) (rest : List ℕ) → (1 < worth → 1 ≤ v) → drop at s ≡ groups more v ++ rest
        → number_from (suc more) s at worth acc ≡ Ok (acc + v * worth, at + length (groups more v))

    last : (more v : ℕ) → v < 128 → Read more v
    last more v l s at worth acc rest h e = rw (groups_last more v l) (number_last more s at worth acc v rest (e ∙ rw (groups_last more v l)) l h)

    next : (more v : ℕ) → 128 ≤ v → Read more (v / 128) → Read (suc more) v
    next more v l higher s at worth acc rest h e =
        let b : ℕ = v % 128 + 128 in
        let f : drop at s ≡ b ∷ (groups more (v / 128) ++ rest) = e ∙ rw (groups_next more v l) in
        let d : drop (at + 1) s ≡ groups more (v / 128) ++ rest = left_behind s at (b ∷ []) (groups more (v / 128) ++ rest) f in
        let clear : b - 128 ≡ v % 128 = omega arith in
        rw (groups_next more v l)
        (number_more (suc more) s at worth acc b (groups more (v / 128) ++ rest) f (omega arith)
        ∙ higher s (at + 1) (worth * 128) (acc + (b - 128) * worth) rest (λ x. omega arith) d
        ∙ ap₂ (λ v end. Ok (v, end))
        (ap (λ x. acc + x * worth + v / 128 * (worth * 128)) clear ∙ omega (arith, worth_whole v worth))
        (omega arith))

pub reads_number : (s : List ℕ) (at v : ℕ) (rest : List ℕ) → v < too_large → drop at s ≡ number_bytes v ++ rest
    → read_number s at ≡ Ok (v, at + length (number_bytes v))
unfolding read_number number_bytes
reads_number s at v rest small e =
    from_groups 3 s at 1 0 v rest small (λ x. absurd (omega arith)) e ∙ ap (λ x. Ok (x, at + length (groups 3 v))) (omega arith)

-- A number that ends before its last byte.
from_cut : (more : ℕ) (s : List ℕ) (at worth acc v c : ℕ) → v < 128 ^ suc more → c < length (groups more v) → drop at s ≡ take c (groups more v)
    → number_from (suc more) s at worth acc ≡ Err CutOff
from_cut more s at worth acc v c small = by_groups Cut last next more v small s at worth acc c
  where
    Cut : ℕ → ℕ → Type 0
    Cut more v =
        (s : List ℕ) (at worth acc c : ℕ) → c < length (groups more v) → drop at s ≡ take c (groups more v)
        → number_from (suc more) s at worth acc ≡ Err CutOff

    none : (more : ℕ) (s : List ℕ) (at worth acc : ℕ) → drop at s ≡ [] → number_from (suc more) s at worth acc ≡ Err CutOff
    none more s at worth acc e = number_from_cut more s at worth acc (left_none s at e)

    last : (more v : ℕ) → v < 128 → Cut more v
    last more v l s at worth acc zero h e = none more s at worth acc e
    last more v l s at worth acc (suc c) h e = absurd (omega (arith, ap length (groups_last more v l)))

    next : (more v : ℕ) → 128 ≤ v → Cut more (v / 128) → Cut (suc more) v
    next more v l higher s at worth acc zero h e = none (suc more) s at worth acc e
    next more v l higher s at worth acc (suc c) h e =
        let b : ℕ = v % 128 + 128 in
        let f : drop at s ≡ b ∷ take c (groups more (v / 128)) = e ∙ rw (groups_next more v l) in
        number_more (suc more) s at worth acc b (take c (groups more (v / 128))) f (omega arith)
        ∙ higher s (at + 1) (worth * 128) (acc + (b - 128) * worth) c (omega (arith, ap length (groups_next more v l)))
        (left_behind s at (b ∷ []) (take c (groups more (v / 128))) f)

reads_cut : (s : List ℕ) (at v c : ℕ) → v < too_large → c < length (number_bytes v) → drop at s ≡ take c (number_bytes v)
    → read_number s at ≡ Err CutOff
unfolding read_number number_bytes
reads_cut s at v c small h e = from_cut 3 s at 1 0 v c small h e

pub numbers_read : (s : List ℕ) (at : ℕ) (vs rest : List ℕ) → AllSmall vs → drop at s ≡ flat number_bytes vs ++ rest
    → Numbers s at vs (at + length (flat number_bytes vs))
unfolding All flat
numbers_read s at [] rest small e = let q : at ≡ at + 0 = omega arith in subst (Numbers s at []) q none
numbers_read s at (v ∷ vs) rest small e =
    let n : ℕ = length (number_bytes v) in
    let f : drop at s ≡ number_bytes v ++ (flat number_bytes vs ++ rest) = e ∙ append_assoc (number_bytes v) (flat number_bytes vs) rest in
    let q : at + n + length (flat number_bytes vs) ≡ at + length (number_bytes v ++ flat number_bytes vs)
    = omega (arith, length-append (number_bytes v) (flat number_bytes vs)) in
    next (reads_number s at v (flat number_bytes vs ++ rest) small.0 f)
    (subst (Numbers s (at + n) vs) q
    (numbers_read s (at + n) vs rest small.1 (left_behind s at (number_bytes v) (flat number_bytes vs ++ rest) f)))

pub numbers_cut : (s : List ℕ) (at : ℕ) (vs more : List ℕ) (c : ℕ) → AllSmall vs → c < length (flat number_bytes vs ++ more)
    → drop at s ≡ take c (flat number_bytes vs ++ more) → Cut s at vs more c
unfolding All flat
numbers_cut s at [] more c small short e = behind c short e (omega arith)
numbers_cut s at (v ∷ vs) more c small short e =
    cases (dec_lt c n) (λ at' d. numbers_cut s at' vs more d small.1)
  where
    n : ℕ
    n = length (number_bytes v)

    rest : List ℕ
    rest = flat number_bytes vs ++ more

    joined : (number_bytes v ++ flat number_bytes vs) ++ more ≡ number_bytes v ++ rest
    joined = append_assoc (number_bytes v) (flat number_bytes vs) more

    long : length (number_bytes v ++ flat number_bytes vs) ≡ n + length (flat number_bytes vs)
    long = length-append (number_bytes v) (flat number_bytes vs)

    later : read_number s at ≡ Ok (v, at + n) → (d : ℕ) → n + d ≡ c → drop at s ≡ number_bytes v ++ take d rest → Cut s (at + n) vs more d
        → Cut s at (v ∷ vs) more c
    later r d q f (inside ns l z k) = inside (next r ns) (omega arith) z (omega (arith, long))
    later r d q f (behind k l g j) =
        let same : take d rest ≡ flat number_bytes vs ++ take k more = sym (left_behind s at (number_bytes v) (take d rest) f) ∙ g in
        behind k l (f ∙ ap (λ x. number_bytes v ++ x) same ∙ sym (append_assoc (number_bytes v) (flat number_bytes vs) (take k more)))
        (omega (arith, long))

    cases : Dec (c < n) → ((at' d : ℕ) → d < length rest → drop at' s ≡ take d rest → Cut s at' vs more d) → Cut s at (v ∷ vs) more c
    cases (yes l) r =
        inside none (omega arith) (reads_cut s at v c small.0 l (e ∙ ap (take c) joined ∙ take-append-le c (number_bytes v) rest (omega arith)))
        (omega (arith, long))
    cases (no l) r =
        let d : ℕ = c - n in
        let q : n + d ≡ c = omega arith in
        let f : drop at s ≡ number_bytes v ++ take d rest
        = e ∙ ap (take c) joined ∙ ap (λ i. take i (number_bytes v ++ rest)) (sym q) ∙ take-append-add (number_bytes v) rest d in
        later (reads_number s at v (take d rest) small.0 f) d q f
        (r (at + n) d (omega (arith, ap length joined, length-append (number_bytes v) rest)) (left_behind s at (number_bytes v) (take d rest) f))
