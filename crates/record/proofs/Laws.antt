-- Why a head's sums fit, and what is known of a part whose head is legal.
use Rattle.std.specs.Prelude.{Result, Ok, Err}
use mathlib.Core.Path.{◌≡◌, refl, sym, subst, ◌∙◌}
use mathlib.Core.List.{List}
use mathlib.Core.Bool.{Bool, true, ◌&&◌}
use Prim.Native.Nat.{ℕ, ◌+◌, ◌^◌, ◌≤◌, ◌<◌}
use lib.Dec.{leb, ltb}
use borrow.Author.Tests.{leb-true}
use lib.ListN.{length, get_or}
use native.Mathlib.Omega.{arith}
use mir.Syntax.{w8, w64}
use mir.Val.{Fits}
use Rattle.std.specs.Int.{div_ceil}
use Rattle.rules.specs.declared.Size.{Size}
use Rattle.rules.specs.declared.Header.{Header}
use Rattle.rules.specs.declared.Part.{Part}
use Rattle.rules.specs.declared.NoNumber.{NoNumber}
use Rattle.rules.specs.Document.Pyramid.{legal_size, most_area, area}
use Rattle.rules.specs.Document.Passes.{PartName}
use Rattle.rules.specs.Document.Layout.{Number, read_number, bytes_for}
use Rattle.rules.specs.Document.Numbers.{most_bits, follows, legal_head, headed, top_level}
use Rattle.record.specs.Named.{on_value, read_head}
use Rattle.rules.proofs.Laws.Family.Sizes.{legal, area_bound}
use Rattle.rules.proofs.Laws.Counting.Booleans.{both_right}
use Rattle.rules.proofs.Laws.Reading.NumberCases.{number_under}
use Rattle.rules.proofs.Laws.Reading.Stands.{read_number_stands}

pub depth_small : (z : Size) → legal_size z ≡ true → z.n + 1 < 2 ^ 64
depth_small z l = omega (arith, (legal z l).few)

-- A body begins within the bytes and has few bits, so that its end fits.
pub end_fits : (s : List ℕ) → ((j : ℕ) → Fits w8 (get_or s j 0)) → length s < 2 ^ 63 → (at bits body count : ℕ)
    → Ok (bits, body) ≡ read_number s at → count ≡ div_ceil bits 8 → Fits w64 (body + count)
end_fits s small few at bits body count e c =
    record {
      fits =
          omega (
            arith,
            number_under s at (λ j. omega (arith, small j)) bits body (sym e),
            (read_number_stands s at bits body (sym e)).within,
          );
    }

-- Where a head's body ends.
ends_so : Result Part NoNumber → Type 0
ends_so (Ok p) = p.end ≡ p.body + bytes_for p.bits
ends_so (Err why) = Unit {0}

on_ends : (x : Number) (go : ℕ → ℕ → Result Part NoNumber) → ((v end : ℕ) → ends_so (go v end)) → ends_so (on_value x go)
unfolding ends_so
on_ends (Ok (v, end)) go h = h v end
on_ends (Err why) go h = tt

pub head_ends : (s : List ℕ) (place : ℕ) (p : Part) → Ok p ≡ read_head s place → p.end ≡ p.body + bytes_for p.bits
unfolding ends_so headed
head_ends s place p e =
    let h : ends_so (read_head s place) =
    on_ends (read_number s place) _ (λ n a. on_ends (read_number s a) _ (λ k b. on_ends (read_number s b) _ (λ bits body. refl))) in
    subst ends_so (sym e) h

pub bits_small : (h : Header) (before x : PartName) (bits : ℕ) (b : Bool) → legal_size h.size ≡ true → b ≡ legal_head h before x bits → b ≡ true
    → bits < 2 ^ 40
unfolding legal_head
bits_small h before x bits b l e t =
    let of_name : Bool = ltb x.plane h.planes && leb 1 x.level && leb x.level (top_level h) && follows before x in
    let m : bits ≤ most_bits h.size = leb-true bits (most_bits h.size) (both_right of_name _ (sym e ∙ t)) in
    let n : area h.size ≤ most_area = area_bound h.size l in
    omega arith
