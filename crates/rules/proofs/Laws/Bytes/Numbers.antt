-- A number's bytes, one group at a time: how many they are, that each is a byte, and how they are read.
use Rattle.std.specs.Prelude.{◌≡◌, List, [], ◌∷◌, Bool, true, false, cond, ◌&&◌, ℕ, zero, suc, ◌+◌, ◌-◌, ◌*◌, ◌/◌, ◌%◌, ◌^◌, ◌≤◌, ◌<◌, ltb, eqb, length, get_or}
use Rattle.std.specs.Prelude.{Ok, Err}
use Rattle.std.proofs.Math.Path.{refl}
use Rattle.std.proofs.Common.{ap, sym, ◌∙◌, arith, pow-suc, mul-le-mul_right}
use Rattle.std.proofs.Math.Decide.{dec_lt}
use borrow.Author.Tests.{ltb-true, lt-ltb, le-ltb, le-leb, lt-leb, ne_eqb}
use Rattle.rules.specs.declared.NoNumber.TheVariants.{LongForm, CutOff}
use Rattle.rules.specs.Document.Layout.{groups, number_bytes, number_from}
use Rattle.rules.specs.Laws.Bytes.Numbers.{too_large}
use Rattle.rules.proofs.Promises.Cases.{cases_hold}

-- The last group, and one below others.
pub groups_last : (more v : ℕ) → v < 128 → groups more v ≡ v ∷ []
unfolding groups
groups_last zero v h = refl
groups_last (suc more) v h = rw (lt-ltb v 128 h) refl

pub groups_next : (more v : ℕ) → 128 ≤ v → groups (suc more) v ≡ (v % 128 + 128) ∷ groups more (v / 128)
unfolding groups
groups_next more v h = rw (le-ltb v 128 h) refl

-- What holds of a last group, and of a number where it holds of the number without its lowest group, holds of every number that fits.
pub one_less : (more v : ℕ) → v < 128 ^ suc (suc more) → v / 128 < 128 ^ suc more
one_less more v h = let g : v < 128 ^ suc more * 128 = rw (pow-suc 128 (suc more)) at h in omega arith

module _ (P : ℕ → ℕ → Type 0)
    (last : (more v : ℕ) → v < 128 → P more v)
    (next : (more v : ℕ) → 128 ≤ v → P more (v / 128) → P (suc more) v) where
  pub by_groups : (more v : ℕ) → v < 128 ^ suc more → P more v
  by_groups zero v h = last zero v h
  by_groups (suc more) v h =
      elim (dec_lt v 128) [
        | yes g ↦ last (suc more) v g
        | no g ↦ next more v (omega arith) (by_groups more (v / 128) (one_less more v h))
      ]

-- Where the groups left are enough, their number makes no difference.
groups_enough : (more v : ℕ) → v < 128 ^ suc more → groups more v ≡ groups (suc more) v
groups_enough =
    by_groups (λ more v. groups more v ≡ groups (suc more) v)
    (λ more v h. groups_last more v h ∙ sym (groups_last (suc more) v h))
    (λ more v h e. groups_next more v h ∙ ap (λ l. (v % 128 + 128) ∷ l) e ∙ sym (groups_next (suc more) v h))

pub number_bytes_last : (v : ℕ) → v < 128 → number_bytes v ≡ v ∷ []
unfolding number_bytes
number_bytes_last v h = groups_last 3 v h

pub number_bytes_next : (v : ℕ) → 128 ≤ v → v < too_large → number_bytes v ≡ (v % 128 + 128) ∷ number_bytes (v / 128)
unfolding number_bytes
number_bytes_next v h g = groups_next 2 v h ∙ ap (λ l. (v % 128 + 128) ∷ l) (groups_enough 2 (v / 128) (omega arith))

-- Between one and four bytes.
groups_length : (more v : ℕ) → (1 ≤ length (groups more v)) × (length (groups more v) ≤ suc more)
unfolding groups
groups_length zero v = omega arith
groups_length (suc more) v =
    elim (dec_lt v 128) [
      | yes h ↦ rw (groups_last (suc more) v h) (omega arith)
      | no h ↦ let g = groups_length more (v / 128) in rw (groups_next more v (omega arith)) (omega arith)
    ]

pub number_bytes_length : (v : ℕ) → (1 ≤ length (number_bytes v)) × (length (number_bytes v) ≤ 4)
unfolding number_bytes
number_bytes_length v = groups_length 3 v

-- A number of fewer groups has no more bytes.
pub groups_few : (extra more v : ℕ) → v < 128 ^ suc more → length (groups (more + extra) v) ≤ suc more
groups_few extra =
    by_groups (λ more v. length (groups (more + extra) v) ≤ suc more)
    (λ more v h. rw (groups_last (more + extra) v h) (omega arith))
    (λ more v h l. let e : suc more + extra ≡ suc (more + extra) = omega arith in rw (e, groups_next (more + extra) v h) (omega arith))

pub number_bytes_one : (v : ℕ) → v < 128 → length (number_bytes v) ≤ 1
unfolding number_bytes
number_bytes_one v h = groups_few 3 0 v h

pub number_bytes_two : (v : ℕ) → v < 128 * 128 → length (number_bytes v) ≤ 2
unfolding number_bytes
number_bytes_two v h = groups_few 2 1 v h

pub number_bytes_three : (v : ℕ) → v < 128 * 128 * 128 → length (number_bytes v) ≤ 3
unfolding number_bytes
number_bytes_three v h = groups_few 1 2 v h

-- Reading, one byte at a time: there is none, one that goes on, or a last one, which is not 0 if there are several.
module _ (more : ℕ) (s : List ℕ) (at worth value : ℕ) where
  pub number_from_cut : length s ≤ at → number_from (suc more) s at worth value ≡ Err CutOff
  unfolding number_from
  number_from_cut h = rw (le-leb (length s) at h) refl

  module _ (h : at < length s) where
    pub number_from_last : get_or s at 0 < 128
        → number_from (suc more) s at worth value
        ≡ cond (ltb 1 worth && eqb (get_or s at 0) 0) (Err LongForm) (Ok (value + get_or s at 0 * worth, at + 1))
    unfolding number_from
    number_from_last g = rw (lt-leb (length s) at h, lt-leb 128 (get_or s at 0) g) refl

    pub number_from_next : 128 ≤ get_or s at 0
        → number_from (suc more) s at worth value ≡ number_from more s (at + 1) (worth * 128) (value + (get_or s at 0 - 128) * worth)
    unfolding number_from
    number_from_next g = rw (lt-leb (length s) at h, le-leb 128 (get_or s at 0) g) refl

-- The value so far, under what the next group is worth, stays so.
pub group_below : (value worth group : ℕ) → value < worth → group < 128 → value + group * worth < worth * 128
group_below value worth group h g = omega (arith, mul-le-mul_right {m = group} {n = 127} worth (omega arith))

pub shortest_form : (worth byte : ℕ) → (1 < worth → 1 ≤ byte) → ltb 1 worth && eqb byte 0 ≡ false
shortest_form worth byte h = cases (ltb 1 worth) refl
  where
    cases : (b : Bool) → ltb 1 worth ≡ b → b && eqb byte 0 ≡ false
    cases true e = let g = h (ltb-true 1 worth e) in ne_eqb byte 0 (λ z. omega arith)
    cases false e = refl
