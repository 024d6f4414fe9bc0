-- A block stored, and one loaded, row after row.
use mathlib.Core.Path.{◌≡◌, ◌∙◌}
use mathlib.Core.List.{List}
use Prim.Native.Nat.{ℕ, ◌+◌, ◌*◌, ◌≤◌, ◌<◌}
use native.Mathlib.Nat.{mul-le-mul, le_refl}
use native.Mathlib.Decide.{dec_lt}
use native.Mathlib.Omega.{arith}
use lib.ListN.{length, get_or}
use lib.IntN.{ℤ, pos}
use Rattle.pictures.specs.Laws.Tones.{toned}
use Rattle.lifting.specs.Fills.{along, Filled}
use Rattle.lifting.specs.Lines.{line, ForStore}
use Rattle.lifting.specs.Turns.{ForBlock, BlockStored}
use Rattle.lifting.specs.Joins.{tone_of, tones_at, ForLoad, ForBlockLoad, BlockLoaded}
use Rattle.lifting.proofs.PairLaws.{rows_apart, columns_apart}

module _ {s : List ℕ} {out₀ : List ℤ} {h w stride i : ℕ} (F : ForBlock s out₀ h w stride) (g : i < h) where
  pub block_row : i * w + w ≤ length s
  block_row = let p : (i + 1) * w ≤ h * w = mul-le-mul {n₁ = i + 1} {n₂ = h} (omega arith) (le_refl w) in omega (arith, F.there)

  pub block_place : i * stride + stride ≤ length out₀
  block_place = let p : (i + 1) * stride ≤ h * stride = mul-le-mul {n₁ = i + 1} {n₂ = h} (omega arith) (le_refl stride) in omega (arith, F.room)

  module _ {out : List ℤ} (B : BlockStored s out₀ i w stride out) where
    pub block_asks : ForStore s (i * w) out (i * stride) w
    block_asks =
        let e = B.same in
        let v = F.wide in
        record { there = block_row; room = omega (arith, block_place); small = λ c l. F.small i c g l }

    pub block_more : {out' : List ℤ} → Filled (pos 0) out (along (i * stride)) (λ c. toned (line s (i * w) c)) w out'
        → BlockStored s out₀ (i + 1) w stride out'
    block_more {out'} f =
        let v = F.wide in
        record {
          same = f.same ∙ B.same;
          stored = λ r c l n. by r c (dec_lt r i) l n;
          kept_below = λ r c l n.
              f.kept (r * stride + c) (λ d k. rows_apart r i stride c d n (omega arith) (omega arith)) ∙ B.kept_below r c (omega arith) n;
          kept_beside = λ r c l n.
              f.kept (r * stride + c) (λ d k. columns_apart r i stride c d n (omega arith) (omega arith)) ∙ B.kept_beside r c l n;
        }
      where
        by : (r c : ℕ) → Dec (r < i) → r < i + 1 → c < w → get_or out' (r * stride + c) (pos 0) ≡ toned (get_or s (r * w + c) 0)
        by r c (yes j) l n =
            let v = F.wide in
            f.kept (r * stride + c) (λ d k. rows_apart r i stride c d (omega arith) (omega arith) (omega arith)) ∙ B.stored r c j n
        by r c (no j) l n = let e : r ≡ i = omega arith in rw e (f.done c n)

module _ {pyramid : List ℤ} {s₀ : List ℕ} {h w stride i : ℕ} (F : ForBlockLoad pyramid s₀ h w stride) (g : i < h) where
  pub loads_row : i * w + w ≤ length s₀
  loads_row = let p : (i + 1) * w ≤ h * w = mul-le-mul {n₁ = i + 1} {n₂ = h} (omega arith) (le_refl w) in omega (arith, F.room)

  pub loads_place : i * stride + stride ≤ length pyramid
  loads_place = let p : (i + 1) * stride ≤ h * stride = mul-le-mul {n₁ = i + 1} {n₂ = h} (omega arith) (le_refl stride) in omega (arith, F.there)

  module _ {s : List ℕ} (B : BlockLoaded pyramid s₀ i w stride s) where
    pub loads_asks : ForLoad pyramid (i * stride) s (i * w) w
    loads_asks =
        let v = F.wide in
        record {
          there = omega (arith, loads_place);
          room = omega (arith, loads_row, B.same);
          small = λ c l. F.small (i * stride + c) (omega (arith, loads_place));
        }

    pub loads_more : {s' : List ℕ} → Filled 0 s (along (i * w)) (tones_at pyramid (i * stride)) w s' → BlockLoaded pyramid s₀ (i + 1) w stride s'
    loads_more {s'} f = record { same = f.same ∙ B.same; loads = λ r c l n. by r c (dec_lt r i) l n }
      where
        by : (r c : ℕ) → Dec (r < i) → r < i + 1 → c < w → get_or s' (r * w + c) 0 ≡ tone_of (get_or pyramid (r * stride + c) (pos 0))
        by r c (yes j) l n = f.kept (r * w + c) (λ d k. rows_apart r i w c d n k (omega arith)) ∙ B.loads r c j n
        by r c (no j) l n = let e : r ≡ i = omega arith in rw e (f.done c n)
