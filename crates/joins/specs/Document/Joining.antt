-- Document 02, W6: "Join two records into one with all parts of either, in order." What a call answers and what it leaves in the memory lent to it,
-- for every input. The records are called a and b, their parts ps and qs. `Result`, `unless`, `on_header`, `on_ending` and `fitted` are document 01's
-- (rules, Calls).
use Rattle.std.specs.Prelude.{◌≡◌, List, [], ◌∷◌, ◌++◌, Bool, true, false, cond, not, ◌&&◌, ℕ, eqb, length, take}
use Rattle.rules.specs.declared.Refusal.TheVariants as refusal
use Rattle.rules.specs.Document.Calls.{Coded}
use Rattle.rules.specs.declared.Header.{Header}
use Rattle.rules.specs.declared.Part.{Part}
use Rattle.rules.specs.Document.Notation.{any, flat, zeros}
use Rattle.rules.specs.Document.Passes.{PartName, part_names}
use Rattle.rules.specs.Document.Layout.{whole_of, name_of, same_name}
use Rattle.rules.specs.Document.Numbers.{top_level, read_header, read_parts}
use Rattle.rules.specs.Document.Calls.{Result, unless, on_header, on_ending, fitted, code_out, code_answer, code_numbers, code_places, returned}
use Rattle.rules.specs.Document.Calls.{reported, lent_out}

-- "equal byte for byte"
unfoldable pub same_bytes : List ℕ → List ℕ → Bool
same_bytes [] [] = true
same_bytes [] (y ∷ ys) = false
same_bytes (x ∷ xs) [] = false
same_bytes (x ∷ xs) (y ∷ ys) = eqb x y && same_bytes xs ys

-- "All parts of either, in order": the bytes of the part of ps with this name, nothing if there is none; that of the first record, else that of
-- the second; and so for every name that a record with this header may have, behind the header. A tail is no part.
unfoldable pub part_named : List ℕ → List Part → PartName → List ℕ
part_named s [] x = []
part_named s (p ∷ ps) x = cond (same_name x (name_of p)) (whole_of s p) (part_named s ps x)

unfoldable pub or_else : List ℕ → List ℕ → List ℕ
or_else [] ys = ys
or_else (x ∷ xs) ys = x ∷ xs

unfoldable pub joined_part : List ℕ → List Part → List ℕ → List Part → PartName → List ℕ
joined_part a ps b qs x = or_else (part_named a ps x) (part_named b qs x)

unfoldable pub joined_bytes : Header → List ℕ → List Part → List ℕ → List Part → List ℕ
joined_bytes h a ps b qs = take h.end a ++ flat (joined_part a ps b qs) (part_names (top_level h) h.planes)

-- "A part in both must be equal byte for byte." "15 CLASH, a shared part unequal, place in the first": the first part of the first record that
-- the second has otherwise.
unfoldable pub clashes : List ℕ → List ℕ → List Part → Part → Bool
clashes a b qs p = any (λ q. same_name (name_of p) (name_of q) && not (same_bytes (whole_of a p) (whole_of b q))) qs

unfoldable pub unless_clash : {X : Type 0} → List ℕ → List Part → List ℕ → List Part → Result X → Result X
unless_clash a [] b qs x = x
unless_clash a (p ∷ ps) b qs x = unless (not (clashes a b qs p)) (refusal.Clash p.place) (unless_clash a ps b qs x)

-- "Refusals: all reading refusals of the first, then of the second (place in its own bytes); 14 MIXED, headers unequal, place 0; 15 CLASH ..;
-- last 5." Reading is as in serving, which never gives 10.
unfoldable pub on_record : {X : Type 0} → List ℕ → (Header → List Part → Result X) → Result X
on_record s go = on_header (read_header s) (λ h. on_ending (read_parts h s).ending (λ t. go h (read_parts h s).parts))

unfoldable pub joining : List ℕ → List ℕ → ℕ → Result (List ℕ)
joining a b room =
    on_record a (λ h ps.
    on_record b (λ g qs.
    unless (same_bytes (take h.end a) (take g.end b)) refusal.Mixed
    (unless_clash a ps b qs
    (fitted (joined_bytes h a ps b qs) room))))

-- "It answers as coding does." The public routine and the export; ' marks what lent memory holds after the call.
pub record Joining (a b out : List ℕ) (answer : Coded) (out' : List ℕ) : Type 0 where
  pub answers : answer ≡ code_answer (joining a b (length out))
  pub writes : out' ≡ code_out (length out) (joining a b (length out))

pub record AfsJoin (a b out answer : List ℕ) (number : ℕ) (out' answer' : List ℕ) : Type 0 where
  pub returns : number ≡ returned code_places answer (code_numbers (code_answer (joining a b (length out))))
  pub reports : answer' ≡ reported code_places answer (code_numbers (code_answer (joining a b (length out))))
  pub writes : out' ≡ lent_out code_places answer (code_out (length out) (joining a b (length out))) (zeros (length out))
