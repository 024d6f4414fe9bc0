-- Rows, columns and levels: how far a coefficient lies within the halves of the pyramid says its level.
use Rattle.std.specs.Prelude.{◌≡◌, Bool}
use Rattle.std.proofs.Math.Path.{refl, sym}
use Rattle.std.proofs.Common.{◌∙◌, div-lt_iff_lt-mul, mul_comm, mod-lt}
use Rattle.std.proofs.Math.Bool.{true, false, cond, and-eq-true_iff}
use Prim.Native.Nat.{ℕ, zero, suc, ◌/◌, ◌^◌, ◌≤◌, ◌<◌}
use native.Mathlib.Omega.{arith}
use Rattle.std.proofs.Math.Decide.{dec_lt}
use Rattle.std.proofs.Math.Dec.{ltb}
use borrow.Author.Tests.{ltb-true, lt-ltb, le-ltb}
use Rattle.rules.specs.declared.Size.{Size}
use Rattle.rules.specs.Document.Pyramid.{area, row, column, within, level_up_to, levels, level_of}
use Rattle.rules.proofs.Laws.Family.Sizes.{side_falls}
use Rattle.rules.specs.Promises.Vocabulary.{Legal}
use Rattle.rules.specs.Laws.Offspring.Level.{Within}

module _ (z : Size) where
  pub within_true : (k q : ℕ) → within z k q ≡ true → Within z k q
  unfolding within
  within_true k q h = let a : _ = (and-eq-true_iff (ltb (row z q) (z.h / 2 ^ k)) _).0 h in (ltb-true _ _ a.0, ltb-true _ _ a.1)

  pub true_within : (k q : ℕ) → Within z k q → within z k q ≡ true
  unfolding within
  true_within k q h = (and-eq-true_iff _ _).1 (lt-ltb _ _ h.0, lt-ltb _ _ h.1)

  within_coarser : (j k q : ℕ) → j ≤ k → within z k q ≡ true → within z j q ≡ true
  within_coarser j k q l h =
      let a : Within z k q = within_true k q h in
      true_within j q (omega (arith, a.0, side_falls z.h j k l), omega (arith, a.1, side_falls z.w j k l))

  level_up_to_most : (f q : ℕ) → level_up_to z f q ≤ f
  unfolding level_up_to
  level_up_to_most zero q = omega arith
  level_up_to_most (suc f) q = go (within z f q) (level_up_to_most f q)
    where
      go : (b : Bool) → level_up_to z f q ≤ f → cond b (suc f) (level_up_to z f q) ≤ suc f
      go true r = omega arith
      go false r = omega arith

  level_up_to_within : (f k q : ℕ) → k < f → within z k q ≡ ltb k (level_up_to z f q)
  unfolding level_up_to
  level_up_to_within zero k q l = absurd (omega arith)
  level_up_to_within (suc f) k q l = go (within z f q) refl (dec_lt k f) (level_up_to_within f k q)
    where
      go : (b : Bool) → within z f q ≡ b → Dec (k < f) → (k < f → within z k q ≡ ltb k (level_up_to z f q))
          → within z k q ≡ ltb k (cond b (suc f) (level_up_to z f q))
      go true e d r = within_coarser k f q (omega arith) e ∙ sym (lt-ltb k (suc f) l)
      go false e (yes i) r = r i
      go false e (no i) r =
          let s : k ≡ f = omega arith in
          rw (s, e) (sym (le-ltb f (level_up_to z f q) (level_up_to_most f q)))

  pub level_most : (q : ℕ) → level_of z q ≤ levels z
  unfolding level_of
  level_most q = level_up_to_most (levels z) q

  -- A coefficient's level is over k exactly if it lies within k halvings.
  pub within_level : (k q : ℕ) → k ≤ z.n → within z k q ≡ ltb k (level_of z q)
  unfolding level_of
  within_level k q l = level_up_to_within (levels z) k q (omega arith)

  pub over_within : (k q : ℕ) → k < level_of z q → Within z k q
  over_within k q h = within_true k q (within_level k q (omega (arith, level_most q)) ∙ lt-ltb k (level_of z q) h)

  pub within_over : (k q : ℕ) → k ≤ z.n → Within z k q → k < level_of z q
  within_over k q l h = ltb-true k (level_of z q) (sym (within_level k q l) ∙ true_within k q h)

  pub outside_level : (k q : ℕ) → (Within z k q → ⊥) → level_of z q ≤ k
  outside_level k q f = go (dec_lt k (level_of z q))
    where
      go : Dec (k < level_of z q) → level_of z q ≤ k
      go (yes h) = absurd (f (over_within k q h))
      go (no h) = omega arith

-- An index is in the pyramid exactly if its row is, and exactly if it has a level.
module _ (z : Size) (Z : Legal z) where
  width_some : 0 < z.w
  width_some = omega (arith, Z.width.least)

  pub column_lt : (q : ℕ) → column z q < z.w
  column_lt q = mod-lt q width_some

  pub row_lt : (q : ℕ) → q < area z → row z q < z.h
  row_lt q h = (div-lt_iff_lt-mul width_some).1 (omega (arith, mul_comm z.w z.h))

  pub row_area : (q : ℕ) → row z q < z.h → q < area z
  row_area q h = omega (arith, (div-lt_iff_lt-mul {x = q} {y = z.h} width_some).0 h, mul_comm z.w z.h)

  pub level_least : (q : ℕ) → q < area z → 1 ≤ level_of z q
  level_least q h = within_over z 0 q (omega arith) (omega (arith, row_lt q h), omega (arith, column_lt q))

  pub level_area : (q : ℕ) → 1 ≤ level_of z q → q < area z
  level_area q h = row_area q (omega (arith, (over_within z 0 q (omega arith)).0))
