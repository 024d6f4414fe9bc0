-- What the pieces of serving leave: one part kept, the whole walk, and all but the clearing of a refusal's output.
use Rattle.std.specs.Prelude.{◌≡◌, List, ℕ, ◌+◌, ◌≤◌, length, take, Result, Ok, Err}
use Rattle.std.proofs.lemmas.List.Edits.{sets}
use Rattle.rules.specs.declared.Refusal.{Refusal}
use Rattle.rules.specs.declared.Extent.{Extent}
use Rattle.rules.specs.declared.Header.{Header}
use Rattle.rules.specs.declared.Part.{Part}
use Rattle.rules.specs.declared.Plane.{Plane}
use Rattle.rules.specs.declared.Level.{Level}
use Rattle.rules.specs.Document.Numbers.{Ending, tail, fault, read_header, read_parts}
use Rattle.rules.specs.Document.Calls.{refused, serving, Serving, kept_of, served_bytes}
use Rattle.rules.specs.Document.Answers.{as_served}
use Rattle.rules.specs.Laws.Bytes.Output.{clipped}

-- a part that lies within the bytes, behind as much as was written
pub record Copies (s : List ℕ) (p : Part) (written : ℕ) : Type 0 where
  pub behind : written ≤ p.place
  pub ordered : p.place ≤ p.end
  pub within : p.end ≤ length s

pub record Kept (s : List ℕ) (p : Part) (level : Level) (plane : Plane) (out : List ℕ) (written r : ℕ) (out' : List ℕ) : Type 0 where
  pub counts : r ≡ written + length (kept_of s level.0 plane.0 p)
  pub copies : out' ≡ sets out written (kept_of s level.0 plane.0 p)

-- the header is read and copied
pub record Begun (s : List ℕ) (h : Header) (out : List ℕ) : Type 0 where
  pub read : read_header s ≡ Ok h
  pub copied : out ≡ clipped (length out) (take h.end s)

unfoldable pub end_of : Ending → List ℕ → Result Extent Refusal
end_of (tail t) bytes = Ok (record { length = length bytes; tail = t })
end_of (fault r) bytes = Err r

-- the bytes of the whole result
abbrev pub result : List ℕ → Header → Level → Plane → List ℕ
result s h level plane = served_bytes h s level.0 plane.0 (read_parts h s).parts

pub record Walked (s : List ℕ) (h : Header) (level : Level) (plane : Plane) (out : List ℕ) (e : Result Extent Refusal) (out' : List ℕ) : Type 0 where
  pub ends : e ≡ end_of (read_parts h s).ending (result s h level plane)
  pub same : length out' ≡ length out
  pub holds : (t : ℕ) → (read_parts h s).ending ≡ tail t → out' ≡ clipped (length out) (result s h level plane)

-- Serving, but that the output of a refusal is still to be cleared.
pub record Answered (s : List ℕ) (level : Level) (plane : Plane) (out : List ℕ) (r : Result Extent Refusal) (out' : List ℕ) : Type 0 where
  pub same : length out' ≡ length out
  pub refuses : (q : Refusal) → r ≡ Err q → serving s level.0 plane.0 (length out) ≡ refused q
  pub serves : (x : Extent) → r ≡ Ok x → Serving s level.0 plane.0 out (as_served r) out'
