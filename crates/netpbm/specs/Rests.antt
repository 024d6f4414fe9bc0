-- Readers of what is left of a file: each takes it and hands back what is behind that which it read.
use Rattle.std.specs.Prelude.{◌≡◌, List, ◌++◌, ℕ, Option}
use Rattle.pictures.specs.declared.Picture.{Picture}
use Rattle.pictures.specs.Document.Netpbm.{GreyHeader, no_header, header, on_number, on_end, told}
use Rattle.netpbm.specs.Told.{Tells}

-- what is left of s, behind bytes that were read
pub record Rest (s left : List ℕ) : Type 0 where
  pub front : List ℕ
  pub split : s ≡ front ++ left

-- A gap and a number, told as 64 bits tell it, with what is behind it; or none.
pub record ToldOf (s : List ℕ) (value : ℕ) (behind : List ℕ) : Type 0 where
  pub worth : ℕ
  pub tells : value ≡ told worth
  pub rest : Rest s behind
  pub reads : (go : ℕ → List ℕ → GreyHeader) → on_number s go ≡ go worth behind

pub record Missing (s : List ℕ) : Type 0 where
  pub reads : (go : ℕ → List ℕ → GreyHeader) → on_number s go ≡ no_header

-- What is told of the end of a header, whatever the numbers before it are worth.
abbrev pub EndTold : List ℕ → ℕ → ℕ → List ℕ → Option Picture → Type 0
EndTold file width height rest r = (w h : ℕ) → width ≡ told w → height ≡ told h → Tells file (on_end rest (λ e. header w h e)) r
