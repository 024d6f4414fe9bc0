-- What is split comes back when it is joined, and what is joined when it is split: lines, blocks, turns, pictures. For any integers.
use Rattle.std.specs.Prelude.{◌≡◌}
use Prim.Native.Nat.{ℕ, ◌*◌, ◌<◌}
use Rattle.pictures.specs.Document.Lifting.{Line}

-- Blocks: a change of lines that looks at their first 2m numbers alone, and one that such a change undoes.
abbrev pub Looks : (ℕ → Line → Line) → Type 0
Looks f = (m : ℕ) (x y : Line) → ((i : ℕ) → i < 2 * m → x i ≡ y i) → (i : ℕ) → i < 2 * m → f m x i ≡ f m y i

pub record Undone (f f' : ℕ → Line → Line) : Type 0 where
  pub undoes : (m : ℕ) (x : Line) (i : ℕ) → i < 2 * m → f' m (f m x) i ≡ x i
  pub looks : Looks f'
