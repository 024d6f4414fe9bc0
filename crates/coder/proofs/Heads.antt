-- A part whose body was there before its head.
use mathlib.Core.Path.{◌≡◌, sym, ap, ◌∙◌}
use mathlib.Core.Bool.{Bool}
use mathlib.Core.List.{List, ◌++◌}
use Prim.Native.Nat.{ℕ, ◌+◌, ◌-◌, ◌<◌}
use native.Mathlib.Omega.{arith}
use lib.ListN.{length, length-append}
use lib.Seq.{sets}
use Rattle.rules.specs.Document.Layout.{number_bytes, bytes_for, packed}
use Rattle.rules.proofs.Laws.Bytes.Numbers.{number_bytes_length}
use Rattle.rules.proofs.Laws.Bytes.BodyBack.{packed_length}
use Rattle.memory.specs.Stores.{sets_append}
use Rattle.record.specs.Write.{short_head, made_way, head_of, head_of_length}
use Rattle.coder.proofs.Stores.{sets_beside, sets_covered, stored_again}

-- The body stood behind the place of a short head: with the head put before it, the part is whole.
pub headed_whole : (out : List ℕ) (place n k : ℕ) (bits : List Bool) → n < 128 → k < 128
    → sets (made_way (sets out (place + short_head) (packed bits)) place (length bits)) place (head_of n k (length bits))
    ≡ sets out place (head_of n k (length bits) ++ packed bits)
unfolding made_way
headed_whole out place n k bits a b =
    let head : List ℕ = head_of n k (length bits) in
    let body : List ℕ = packed bits in
    let start : ℕ = place + short_head in
    let there : ℕ = start + (length (number_bytes (length bits)) - 1) in
    let behind : place + length head ≡ there = omega (arith, head_of_length n k (length bits) a b, number_bytes_length (length bits)) in
    let l : length body ≡ bytes_for (length bits) = packed_length bits in
    rw (← l, stored_again 0 out start body there (omega arith))
    (sets_beside (sets out start body) there body place head (omega arith)
    ∙ ap (λ i. sets (sets (sets out start body) place head) i body) (sym behind)
    ∙ sym (sets_append (sets out start body) place head body)
    ∙ sets_covered out start body place (head ++ body) (omega arith) (omega (arith, length-append head body)))
