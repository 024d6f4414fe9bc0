-- Numbers and the lines of a header, written piece by piece.
use mathlib.Core.Path.{◌≡◌, ap, sym, ◌∙◌}
use mathlib.Core.List.{List, [], ◌∷◌, ◌++◌}
use Prim.Native.Nat.{ℕ, zero, suc, ◌+◌, ◌*◌, ◌/◌, ◌%◌, ◌^◌, ◌≤◌, ◌<◌}
use native.Mathlib.Nat.{pow-suc}
use native.Mathlib.Numerals.{add-one}
use native.Mathlib.Decide.{dec_lt}
use native.Mathlib.Omega.{arith}
use lib.ListN.{length, set, length-append}
use lib.Seq.{sets}
use Rattle.rules.specs.declared.Size.{Size}
use Rattle.memory.specs.Stores.{sets_append}
use Rattle.pictures.specs.Document.Netpbm.{decimal, grey_lines}
use Rattle.netpbm.specs.Wrote.{Wrote, width_line, side_lines}
use Rattle.pictures.proofs.Laws.GreyFiles.{decimal_last, decimal_next}

decimal_longer : (v : ℕ) → 10 ≤ v → length (decimal v) ≡ length (decimal (v / 10)) + 1
decimal_longer v l = ap length (decimal_next v l) ∙ length-append (decimal (v / 10)) ((48 + v % 10) ∷ [])

decimal_within : (n v : ℕ) → v < 10 ^ suc n → length (decimal v) ≤ suc n
decimal_within zero v l = omega (arith, ap length (decimal_last v l))
decimal_within (suc n) v l = cases (dec_lt v 10) (decimal_within n (v / 10) (let g : v < 10 ^ suc n * 10 = rw (pow-suc 10 (suc n)) at l in omega arith))
  where
    cases : Dec (v < 10) → length (decimal (v / 10)) ≤ suc n → length (decimal v) ≤ suc (suc n)
    cases (yes u) r = omega (arith, ap length (decimal_last v u))
    cases (no u) r = omega (arith, decimal_longer v (omega arith))

pub decimal_short : (v : ℕ) → v < 10000 → length (decimal v) ≤ 4
decimal_short v l = decimal_within 3 v l

module _ {out : List ℕ} {at v : ℕ} where
  pub wrote_last : {stored : List ℕ} → v < 10 → stored ≡ set out at (48 + v % 10) → Wrote (decimal v) at 4 out (at + 1) stored
  wrote_last l s =
      let e = decimal_last v l in
      let n = ap length e in
      let m : v % 10 ≡ v = omega arith in
      record { ends = omega arith; few = omega arith; list = s ∙ rw (e, m) }

  pub wrote_next : {place : ℕ} {before stored : List ℕ} → 10 ≤ v → v < 10000 → Wrote (decimal (v / 10)) at 4 out place before
      → stored ≡ set before place (48 + v % 10) → Wrote (decimal v) at 4 out (place + 1) stored
  wrote_next l k w s =
      record {
        ends = omega (arith, w.ends, decimal_longer v l);
        few = decimal_short v k;
        list = s ∙ rw (w.ends, w.list, decimal_next v l, sets_append out at (decimal (v / 10)) ((48 + v % 10) ∷ []));
      }

-- More bytes behind those written from the start.
sets_both : (out vs ws : List ℕ) (i : ℕ) → i ≡ 0 + length vs → sets (sets out 0 vs) i ws ≡ sets out 0 (vs ++ ws)
sets_both out vs ws i e = ap (λ j. sets (sets out 0 vs) j ws) e ∙ sym (sets_append out 0 vs ws)

pub wrote_width : {out first then : List ℕ} (w : ℕ) {r : ℕ} → first ≡ sets out 0 (80 ∷ 53 ∷ 10 ∷ []) → Wrote (decimal w) 3 4 first r then
    → Wrote (width_line w) 0 7 out r then
unfolding width_line
wrote_width w f d = record { ends = omega (arith, d.ends); few = omega (arith, d.few); list = d.list ∙ rw f }

pub wrote_sides : {out first second then : List ℕ} (z : Size) {a r : ℕ} → Wrote (width_line z.w) 0 7 out a first → second ≡ set first a 32
    → Wrote (decimal z.h) (a + 1) 4 second r then → Wrote (side_lines z) 0 12 out r then
unfolding side_lines
wrote_sides {out} z {a} w s d =
    let n = length-append (width_line z.w) (32 ∷ decimal z.h) in
    record {
      ends = omega (arith, d.ends, w.ends);
      few = omega (arith, d.few, w.few);
      list = d.list ∙ rw (add-one, s, w.list) (sets_both out (width_line z.w) (32 ∷ decimal z.h) a w.ends);
    }

pub wrote_lines : {out first then : List ℕ} (z : Size) {b : ℕ} → Wrote (side_lines z) 0 12 out b first
    → then ≡ sets first b (10 ∷ 50 ∷ 53 ∷ 53 ∷ 10 ∷ []) → Wrote (grey_lines z) 0 17 out (b + 5) then
unfolding side_lines width_line grey_lines
wrote_lines {out} z {b} w g =
    let n = length-append (side_lines z) (10 ∷ 50 ∷ 53 ∷ 53 ∷ 10 ∷ []) in
    record {
      ends = omega (arith, w.ends);
      few = omega (arith, w.few);
      list = g ∙ rw w.list (sets_both out (side_lines z) (10 ∷ 50 ∷ 53 ∷ 53 ∷ 10 ∷ []) b w.ends);
    }
