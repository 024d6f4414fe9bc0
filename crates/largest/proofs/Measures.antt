-- Measures of words: how large one can be, and that the largest word's is the largest.
use mathlib.Core.Path.{◌≡◌, ap₂, ◌∙◌}
use Prim.Native.Nat.{ℕ, suc, ◌/◌, ◌^◌, ◌≤◌, ◌<◌, max}
use native.Mathlib.Omega.{arith}
use native.Mathlib.Nat.{pow-suc}
use native.Mathlib.Decide.{dec_le}
use lib.Pow.{pow_mono}
use Rattle.rules.specs.Document.Pyramid.{planes_of}
use Rattle.rules.proofs.Laws.Rounding.Planes.{planes_of_counts}
use Rattle.coefficients.specs.Words.{magnitude_word}
use Rattle.largest.specs.Blocks.{word_measure}

pub planes_under : (p m : ℕ) → p ≤ 32 → m < 2 ^ p → planes_of m ≤ p
planes_under p m h l = by (dec_le (planes_of m) p)
  where
    by : Dec (planes_of m ≤ p) → planes_of m ≤ p
    by (yes i) = i
    by (no i) =
        let some : m < 2 ^ 32 = omega (arith, pow_mono {i = p} {j = 32} h) in
        absurd (omega (arith, (planes_of_counts m some).least, pow_mono {i = suc p} {j = planes_of m} (omega arith), pow-suc 2 p))

planes_mono : (a b : ℕ) → a ≤ b → b < 2 ^ 32 → planes_of a ≤ planes_of b
planes_mono a b h l = planes_under (planes_of b) a (planes_under 32 b (omega arith) l) (omega (arith, (planes_of_counts b l).enough))

pub measure_most : (p w : ℕ) → p ≤ 32 → w < 2 ^ suc p → word_measure w ≤ suc p
unfolding magnitude_word
measure_most p w h l = omega (arith, planes_under p (w / 2) h (omega (arith, pow-suc 2 p)))

measure_larger : (a b : ℕ) → a < 2 ^ 32 → b < 2 ^ 32 → word_measure (max a b) ≡ max (word_measure a) (word_measure b)
unfolding magnitude_word
measure_larger a b h l = by (dec_le a b)
  where
    by : Dec (a ≤ b) → word_measure (max a b) ≡ max (word_measure a) (word_measure b)
    by (yes i) = let e : max a b ≡ b = omega arith in rw e (omega (arith, planes_mono (a / 2) (b / 2) (omega arith) (omega arith)))
    by (no i) = let e : max a b ≡ a = omega arith in rw e (omega (arith, planes_mono (b / 2) (a / 2) (omega arith) (omega arith)))

pub measure_largest : (a b c d : ℕ) → a < 2 ^ 32 → b < 2 ^ 32 → c < 2 ^ 32 → d < 2 ^ 32
    → word_measure (max (max a b) (max c d)) ≡ max (max (word_measure a) (word_measure b)) (max (word_measure c) (word_measure d))
measure_largest a b c d ha hb hc hd =
    measure_larger (max a b) (max c d) (omega arith) (omega arith) ∙ ap₂ max (measure_larger a b ha hb) (measure_larger c d hc hd)

pub word_planes : (w : ℕ) → w < 2 ^ 32 → planes_of (w / 2) ≤ 31
word_planes w h = planes_under 31 (w / 2) (omega arith) (omega arith)
