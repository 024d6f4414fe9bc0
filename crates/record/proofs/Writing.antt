-- Numbers written one after the other, and the head put before a body.
use mathlib.Core.Path.{◌≡◌, refl, sym, ap, ap₂, ◌∙◌}
use mathlib.Core.Bool.{true}
use mathlib.Core.List.{List, [], ◌∷◌, ◌++◌, append-nil}
use Prim.Native.Nat.{ℕ, ◌+◌, ◌-◌, ◌^◌, ◌≤◌, ◌<◌}
use native.Mathlib.Omega.{arith}
use lib.ListN.{length, take, drop, length-append}
use Rattle.std.proofs.Common.{length-take-le}
use lib.Seq.{sets}
use mir.Syntax.{w64}
use mir.Val.{Fits}
use Rattle.std.specs.Int.{div_ceil}
use Rattle.std.specs.Prelude.{All}
use Rattle.std.proofs.lemmas.List.Elements.{All-from_recursion}
use Rattle.rules.specs.declared.Size.{Size}
use Rattle.rules.specs.declared.Plane.{Plane}
use Rattle.rules.specs.declared.Level.{Level}
use Rattle.rules.specs.Document.Notation.{flat}
use Rattle.rules.specs.Document.Pyramid.{legal_size, most_planes}
use Rattle.rules.specs.Document.Layout.{number_bytes, bytes_for, version}
use Rattle.rules.specs.Laws.Bytes.Numbers.{too_large}
use Rattle.rules.proofs.Laws.Counting.Sums.{flat_append}
use Rattle.rules.proofs.Laws.Bytes.Numbers.{number_bytes_length}
use Rattle.rules.proofs.Laws.Family.Sizes.{legal}
use Rattle.memory.specs.Stores.{sets_append}
use Rattle.record.specs.Write.{place_most, Wrote, short_head, made_way, head_of, HeadFits, Headed, wrote_near}

pub wrote_none : (out : List ℕ) (at : ℕ) → Wrote out at [] at out
unfolding flat
wrote_none out at = record { place = omega arith; bytes = refl }

pub wrote_more : (out : List ℕ) (at : ℕ) (numbers : List ℕ) (end : ℕ) (out' : List ℕ) → Wrote out at numbers end out' → (v end' : ℕ) (out'' : List ℕ)
    → end' ≡ end + length (number_bytes v) → out'' ≡ sets out' end (number_bytes v) → Wrote out at (numbers ++ (v ∷ [])) end' out''
unfolding flat
wrote_more out at numbers end out' w v end' out'' p b =
    let old : List ℕ = flat number_bytes numbers in
    let e : flat number_bytes (numbers ++ (v ∷ [])) ≡ old ++ number_bytes v =
    flat_append number_bytes numbers (v ∷ []) ∙ ap (λ l. old ++ l) (append-nil (number_bytes v)) in
    record {
      place = omega (arith, p, w.place, ap length e, length-append old (number_bytes v));
      bytes =
          b ∙ ap₂ (λ l i. sets l i (number_bytes v)) w.bytes w.place ∙ sym (sets_append out at old (number_bytes v))
          ∙ ap (sets out at) (sym e);
    }

-- The place after a few numbers stays small.
pub after_few : (out : List ℕ) (at i : ℕ) (values : List ℕ) (end : ℕ) (out' : List ℕ) → Wrote out at (take i values) end out' → at ≤ place_most
    → i < length values → length values ≤ 5 → end < 2 ^ 62
after_few out at i values end out' w l h few =
    let e : length (take i values) ≡ i = length-take-le i values (omega arith) in
    omega (arith, wrote_near w)

-- A header's numbers are small.
pub header_small : (z : Size) (planes : ℕ) → legal_size z ≡ true → planes ≤ most_planes
    → All (λ v. v < too_large) (version ∷ z.w ∷ z.h ∷ z.n ∷ planes ∷ [])
header_small z planes l m =
    let t = legal z l in
    All-from_recursion (λ v. v < too_large) (version ∷ z.w ∷ z.h ∷ z.n ∷ planes ∷ [])
    (omega arith, (omega (arith, t.width.most), (omega (arith, t.height.most), (omega (arith, t.few), (omega arith, tt)))))

-- A head put before a body.
pub number_some : (bits count : ℕ) → count ≡ length (number_bytes bits) → 1 ≤ count
number_some bits count e = omega (arith, number_bytes_length bits)

pub headed_fits : (way : List ℕ) (place : ℕ) (n : Plane) (k : Level) (bits bytes end : ℕ) (out' : List ℕ) → HeadFits place n k bits
    → bytes ≡ div_ceil bits 8 → Wrote way place (n.0 ∷ k.0 ∷ bits ∷ []) end out' → Fits w64 (end + bytes)
headed_fits way place n k bits bytes end out' h b w = record { fits = omega (arith, wrote_near w, h.near, h.count) }

pub headed_of : (out : List ℕ) (place n k bits bytes count end : ℕ) (way out' : List ℕ) → bytes ≡ div_ceil bits 8
    → count ≡ length (number_bytes bits)
    → way ≡ sets out (place + short_head + (count - 1)) (take bytes (drop (place + short_head) out))
    → Wrote way place (n ∷ k ∷ bits ∷ []) end out' → Headed out place n k bits (end + bytes) out'
unfolding made_way
headed_of out place n k bits bytes count end way out' b e m w =
    let f : bytes ≡ bytes_for bits = omega arith in
    record { after = omega (arith, w.place); bytes = w.bytes ∙ ap (λ l. sets l place (head_of n k bits)) (rw (e, f) at m) }
