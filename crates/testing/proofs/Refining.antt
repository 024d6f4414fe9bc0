-- Step 3: what the refinement of a coefficient makes of a side, the loop over LSP, and how large a word is in its midst.
use mathlib.Core.Bool.{true, false}
use mathlib.Core.Path.{◌≡◌, refl, sym, ap, ap₂, ◌∙◌, subst}
use mathlib.Core.List.{List, [], ◌∷◌, ◌++◌, map}
use Prim.Native.Nat.{ℕ, ◌+◌, ◌-◌, ◌*◌, ◌≤◌, ◌<◌, ◌^◌}
use native.Mathlib.Nat.{mul-le-mul_left}
use native.Mathlib.Omega.{arith}
use lib.ListN.{length-append}
use Rattle.bits.specs.declared.BitPosition.{BitPosition}
use Rattle.bits.specs.declared.BitRead.{BitRead}
use Rattle.rules.specs.Document.Passes.{bit?, refined, Side}
use Rattle.rules.specs.Laws.Pass.Steps.{bit_noted, sharpened, sharpened_all}
use Rattle.rules.proofs.Laws.Pass.Steps.{sharpened_all_append}
use Rattle.rules.specs.Laws.Counting.Sums.{sum, is}
use Rattle.rules.proofs.Laws.Counting.Sums.{sum_append}
use Rattle.stretches.specs.Seg.{seg}
use Rattle.stretches.specs.Cut.{lsp_from, maxima_from, values_in, values_same, maxima_same}
use Rattle.lists.specs.Lists.{Inside, coefficient, known, lsp_at, known_add, known_more, known_none, known_length}
use Rattle.testing.specs.declared.Run.{Run}
use Rattle.testing.specs.Exchange.{Chan, chan, local_word, word_at, side, notes, Replied, Noted, noted_values, side_kept, reads, Silent}
use Rattle.testing.specs.Growing.{refined_most}
use Rattle.testing.specs.Finding.{Refining, Refined}

-- A bit that was asked for and isn't there is 0.
pub asked_silent : (run : Run) (body s out : List ℕ) (at : BitPosition) (x : ℕ) {r : BitRead} {out' : List ℕ}
    → Replied (side run s body) (bit? x) out at r out' → Silent run body → reads run ≡ true → run.until.at < r.next.at → r.bit ≡ false
unfolding side
asked_silent run body s out at x R S h l = sym (R.bit []) ∙ rw h (S.bits h at.at (omega (arith, R.place)))

pub refined_one : (run : Run) (body s out : List ℕ) (at : BitPosition) (x : ℕ) {bit : BitRead} {s₁ out₁ : List ℕ}
    → Replied (side run s body) (bit? x) out at bit out₁ → Noted run bit.next.at (refined x bit.bit) s s₁
    → Refined run body (x ∷ []) s out at s₁ out₁ bit.next
unfolding sharpened_all sharpened bit_noted
refined_one run body s out at x {bit} {s₁} {out₁} R N =
    let vs = values_in run.stretch.n s in
    record {
      makes =
          sym
          (ap₂ (λ b y. (side run s body).note (refined x b) y) (R.bit vs) (R.next vs)
          ∙ notes run s body (refined x bit.bit) out₁ vs bit.next.at ∙ ap (λ v. chan out₁ v bit.next.at) (sym N.values));
      place = R.place;
      long = N.long;
      values = noted_values N;
      others = N.others;
    }

module _ {run : Run} {body ps s out : List ℕ} {at : BitPosition} {s₁ out₁ : List ℕ} {at₁ : BitPosition} (a : Refined run body ps s out at s₁ out₁ at₁) where
  abbrev n : ℕ
  n = run.stretch.n

  refined_side : side run s₁ body ≡ side run s body
  unfolding maxima_from
  refined_side =
      side_kept run s s₁ (λ r. values_same n s s₁ a.long (a.values r)) (maxima_same n s s₁ a.long (λ i l k. a.others i (omega arith))) body

  refined_on : {qs s₂ out₂ : List ℕ} {at₂ : BitPosition} → Refined run body qs s₁ out₁ at₁ s₂ out₂ at₂ → Refined run body (ps ++ qs) s out at s₂ out₂ at₂
  refined_on {qs} b =
      let C : Side Chan = side run s body in
      record {
        makes =
            b.makes ∙ ap (λ D. sharpened_all D qs (chan out₁ (values_in n s₁) at₁.at)) refined_side ∙ ap (sharpened_all C qs) a.makes
            ∙ sym (sharpened_all_append C ps qs (chan out (values_in n s) at.at));
        place = omega (arith, a.place, b.place, length-append ps qs);
        long = b.long ∙ a.long;
        values = λ r i h. b.values r i h ∙ a.values r i h;
        others = λ i h. b.others i h ∙ a.others i h;
      }

-- the loop over LSP
pub refined_none : (run : Run) (body s out : List ℕ) (at : BitPosition) → Refined run body (known run.stretch.n 0 s) s out at s out at
unfolding sharpened_all
refined_none run body s out at =
    subst (λ ps. Refined run body ps s out at s out at) (sym (known_none run.stretch.n s))
    (record { makes = refl; place = omega arith; long = refl; values = λ r i h. refl; others = λ i h. refl })

module _ {run : Run} {body : List ℕ} {i m : ℕ} {s out : List ℕ} {at : BitPosition} {s₁ out₁ : List ℕ} {at₁ : BitPosition}
    (H : Refining run m s at) (T : Refined run body (known run.stretch.n i s) s out at s₁ out₁ at₁) (more : i < m) where
  abbrev size : ℕ
  size = run.stretch.n

  module _ {x : ℕ} (e : x ≡ coefficient (lsp_at size i s₁)) where
    refining_is : x ≡ coefficient (lsp_at size i s)
    unfolding lsp_at lsp_from
    refining_is = e ∙ ap coefficient (T.others (size + size + i) (omega arith))

    pub refining_inside : Inside run.stretch x
    refining_inside = subst (Inside run.stretch) (sym refining_is) (H.inside i more)

    pub refining_next : {s₂ out₂ : List ℕ} {at₂ : BitPosition} → Refined run body (x ∷ []) s₁ out₁ at₁ s₂ out₂ at₂
        → Refined run body (known size (i + 1) s) s out at s₂ out₂ at₂
    refining_next {s₂} {out₂} {at₂} U =
        let a : known size i s ++ (x ∷ []) ≡ known size (i + 1) s =
        ap (λ (y : ℕ). known size i s ++ (y ∷ [])) refining_is ∙ sym (known_more size i s H.room (omega (arith, H.few))) in
        subst (λ ps. Refined run body ps s out at s₂ out₂ at₂) a (refined_on T U)

  pub refining_place : at₁.at < 2 ^ 62
  refining_place = omega (arith, T.place, H.place, known_length size i s H.room (omega (arith, H.few)))

-- Of LSP each coefficient is refined once, so none grows by more than twice 2^n.
module _ (run : Run) (s body : List ℕ) where
  abbrev C : Side Chan
  C = side run s body

  abbrev a : ℕ
  a = 2 * 2 ^ run.plane.0

  sharpened_most : (x : ℕ) (y : Chan) (q : ℕ)
      → local_word run.stretch.first (sharpened C x y).values q ≤ local_word run.stretch.first y.values q + a * is q x
  unfolding sharpened bit_noted side
  sharpened_most x y q = refined_most run _ x _ y.values q

  sharpened_all_most : (ps : List ℕ) (y : Chan) (q : ℕ)
      → local_word run.stretch.first (sharpened_all C ps y).values q ≤ local_word run.stretch.first y.values q + a * sum (is q) ps
  unfolding sharpened_all sum
  sharpened_all_most [] y q = omega arith
  sharpened_all_most (x ∷ ps) y q = omega (arith, sharpened_all_most ps (sharpened C x y) q, sharpened_most x y q)

-- in the midst of the loop over LSP
pub refining_small : {run : Run} {body : List ℕ} {i m : ℕ} {s out : List ℕ} {at : BitPosition} {s₁ out₁ : List ℕ} {at₁ : BitPosition}
    → Refining run m s at → Refined run body (known run.stretch.n i s) s out at s₁ out₁ at₁ → i ≤ m → (x : ℕ)
    → reads run ≡ true → word_at run s₁ x < 2 ^ 30
refining_small {run} {body} {i} {m} {s} {out} {at} H T l q r =
    let n = run.stretch.n in
    let a : ℕ = 2 * 2 ^ run.plane.0 in
    let j : i + (m - i) ≡ m = omega arith in
    let k : sum (is q) (known n m s) ≡ sum (is q) (known n i s) + sum (is q) (map coefficient (seg (lsp_from n + i) (m - i) s)) =
    ap (λ (x : ℕ). sum (is q) (known n x s)) (sym j) ∙ ap (sum (is q)) (known_add n i (m - i) s) ∙ sum_append (is q) (known n i s) _ in
    let g : a * sum (is q) (known n i s) ≤ a * sum (is q) (known n m s) = mul-le-mul_left a (omega arith) in
    omega (
      arith,
      ap (λ x. local_word run.stretch.first x.values q) T.makes,
      sharpened_all_most run s body (known n i s) (chan out (values_in n s) at.at) q,
      (H.growth r).small q,
    )
