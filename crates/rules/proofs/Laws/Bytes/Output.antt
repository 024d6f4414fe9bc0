-- An output that is written from its start, past its end nothing: what it holds while the length goes on counting.
use Rattle.std.specs.Prelude.{◌≡◌, refl, List, [], ◌∷◌, ◌++◌, ℕ, zero, suc, ◌+◌, ◌-◌, ◌≤◌, length, set}
use Rattle.std.proofs.Common.{ap, ap₂, sym, ◌∙◌, append_assoc, append-nil, arith, length-append}
use Rattle.std.proofs.lemmas.List.Edits.{sets}
use Rattle.rules.specs.Document.Notation.{zeros}
use Rattle.rules.specs.Document.Calls.{filled}
use Rattle.rules.specs.Laws.Bytes.Output.{clipped}
use Rattle.rules.proofs.Promises.Cases.{cases_hold}

pub clipped_nothing : (room : ℕ) → clipped room [] ≡ zeros room
unfolding clipped
clipped_nothing zero = refl
clipped_nothing (suc room) = ap (λ (l : List ℕ). 0 ∷ l) (clipped_nothing room)

pub clipped_length : (room : ℕ) (bytes : List ℕ) → length (clipped room bytes) ≡ room
unfolding clipped
clipped_length zero bytes = refl
clipped_length (suc room) [] = ap suc (clipped_length room [])
clipped_length (suc room) (b ∷ bytes) = ap suc (clipped_length room bytes)

-- One byte more, and several.
clipped_set : (room : ℕ) (bytes : List ℕ) (b : ℕ) → set (clipped room bytes) (length bytes) b ≡ clipped room (bytes ++ (b ∷ []))
unfolding clipped
clipped_set zero bytes b = refl
clipped_set (suc room) [] b = refl
clipped_set (suc room) (x ∷ bytes) b = ap (λ (l : List ℕ). x ∷ l) (clipped_set room bytes b)

pub clipped_append : (room : ℕ) (bytes more : List ℕ) → sets (clipped room bytes) (length bytes) more ≡ clipped room (bytes ++ more)
clipped_append room bytes [] = ap (clipped room) (sym (append-nil bytes))
clipped_append room bytes (b ∷ more) =
    let e : suc (length bytes) ≡ length (bytes ++ (b ∷ [])) = omega (arith, length-append bytes (b ∷ [])) in
    ap₂ (λ (l : List ℕ) (i : ℕ). sets l i more) (clipped_set room bytes b) e ∙ clipped_append room (bytes ++ (b ∷ [])) more
    ∙ ap (clipped room) (append_assoc bytes (b ∷ []) more)

-- What fits is there whole, with zeros after it.
pub clipped_fits : (room : ℕ) (bytes : List ℕ) → length bytes ≤ room → clipped room bytes ≡ filled room bytes
unfolding clipped filled
clipped_fits zero [] l = refl
clipped_fits zero (b ∷ bytes) l = absurd (omega arith)
clipped_fits (suc room) [] l = let e : suc room ≡ suc room - 0 = omega arith in clipped_nothing (suc room) ∙ ap zeros e
clipped_fits (suc room) (b ∷ bytes) l =
    let e : room - length bytes ≡ suc room - suc (length bytes) = omega arith in
    ap (λ (l : List ℕ). b ∷ l) (clipped_fits room bytes (omega arith) ∙ ap (λ (n : ℕ). bytes ++ zeros n) e)

-- The first numbers of a slice of zeros.
pub filled_sets : (room : ℕ) (numbers : List ℕ) → length numbers ≤ room → sets (zeros room) 0 numbers ≡ filled room numbers
filled_sets room numbers l =
    ap (λ (x : List ℕ). sets x 0 numbers) (sym (clipped_nothing room)) ∙ clipped_append room [] numbers ∙ clipped_fits room numbers l

-- More numbers behind those that stand in front.
pub filled_append : (room : ℕ) (numbers more : List ℕ) → length numbers + length more ≤ room
    → sets (filled room numbers) (length numbers) more ≡ filled room (numbers ++ more)
filled_append room numbers more l =
    ap (λ (x : List ℕ). sets x (length numbers) more) (sym (clipped_fits room numbers (omega arith)))
    ∙ clipped_append room numbers more
    ∙ clipped_fits room (numbers ++ more) (omega (arith, length-append numbers more))
