-- A line stored, and one loaded: what the parts of workspace and pyramid ask, and leave.
use mathlib.Core.Path.{◌≡◌, sym, ap, ◌∙◌}
use mathlib.Core.List.{List}
use Prim.Native.Nat.{ℕ, ◌+◌, ◌-◌, ◌*◌, ◌≤◌, ◌<◌}
use native.Mathlib.Omega.{arith}
use lib.ListN.{length, get_or}
use lib.IntN.{ℤ, pos, nat_abs}
use lib.Seq.{get_or-take, get_or-drop}
use borrow.Rule.Slice.PartMut.{mid_of, put_mid, mid_len}
use Rattle.pictures.specs.Laws.Tones.{bias, toned}
use Rattle.pictures.specs.Laws.Room.{most_back}
use Rattle.lifting.specs.Fills.{along, Filled}
use Rattle.lifting.specs.Lines.{line, ForStore, Stored}
use Rattle.lifting.specs.Joins.{tone_of, tones_at, ForLoad, Loaded}
use Rattle.lifting.proofs.Filling.{filled_part}

-- the part from a on, n of them
abbrev pub part : {A : Type 0} → List A → ℕ → ℕ → List A
part xs a n = mid_of a (a + n - a) xs

module _ {A : Type 0} (xs : List A) (z : A) (a n : ℕ) (h : a + n ≤ length xs) where
  pub part_length : length (part xs a n) ≡ n
  part_length = let e : a + n - a ≡ n = omega arith in mid_len a (a + n) xs h ∙ e

  pub part_read : (c : ℕ) → c < n → get_or (part xs a n) c z ≡ get_or xs (a + c) z
  part_read c k = get_or-take (a + n - a) _ c z (omega arith) ∙ get_or-drop a xs c z

module _ {s : List ℕ} {from : ℕ} {out₀ : List ℤ} {at count : ℕ} (F : ForStore s from out₀ at count) where
  pub store_asks : (length (part out₀ at count) ≡ length (part s from count))
      × ((c : ℕ) → c < length (part s from count) → get_or (part s from count) c 0 ≤ 2 * bias)
  store_asks =
      let n = part_length s 0 from count F.there in
      (part_length out₀ (pos 0) at count F.room ∙ sym n, λ c h. rw (part_read s 0 from count F.there c (omega arith)) (F.small c (omega arith)))

  pub store_leaves : {out : List ℤ} → Stored (part s from count) out
      → Filled (pos 0) out₀ (along at) (λ c. toned (line s from c)) count (put_mid at (at + count - at) out₀ out)
  store_leaves {out} S =
      let n = part_length s 0 from count F.there in
      filled_part out at (at + count) count (omega arith) F.room (S.same ∙ n)
      (λ c h. S.each c (omega arith) ∙ ap toned (part_read s 0 from count F.there c h))

module _ {pyramid : List ℤ} {at : ℕ} {s₀ : List ℕ} {to count : ℕ} (F : ForLoad pyramid at s₀ to count) where
  pub load_asks : (length (part s₀ to count) ≡ length (part pyramid at count))
      × ((c : ℕ) → c < length (part pyramid at count) → nat_abs (get_or (part pyramid at count) c (pos 0)) ≤ most_back)
  load_asks =
      let n = part_length pyramid (pos 0) at count F.there in
      (part_length s₀ 0 to count F.room ∙ sym n, λ c h. rw (part_read pyramid (pos 0) at count F.there c (omega arith)) (F.small c (omega arith)))

  pub load_leaves : {s : List ℕ} → Loaded (part pyramid at count) s
      → Filled 0 s₀ (along to) (tones_at pyramid at) count (put_mid to (to + count - to) s₀ s)
  load_leaves {s} S =
      let n = part_length pyramid (pos 0) at count F.there in
      filled_part s to (to + count) count (omega arith) F.room (S.same ∙ n)
      (λ c h. S.each c (omega arith) ∙ ap tone_of (part_read pyramid (pos 0) at count F.there c h))
