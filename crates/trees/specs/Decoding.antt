-- Decoding by tree numbers: the values stand at their tree numbers, and what is decoded row by row is read from there.
--
--   Laid f v w                       w holds at x what v holds at f x
--   DecodedAlike f k st c d          of a part of level k, from the lists st: the same bits taken, the lists renamed, the values laid
--   onward_of F h s there p g         document 01's next part, and
--   decode_parts_of F h s there ps g   its walk over the parts, over any family
--   Same f a b                       the same progress: the lists renamed, the values laid; or the same misfit
use Rattle.std.specs.Prelude.{◌≡◌, cond, ℕ, ◌<◌, length, get_or, ℤ, pos, Ok, Err}
use mathlib.Core.List.{List, [], ◌∷◌, ◌++◌}
use Rattle.rules.specs.declared.Header.{Header}
use Rattle.rules.specs.declared.Part.{Part}
use Rattle.rules.specs.Document.Numbers.{PartRead}
use Rattle.rules.specs.declared.Piece.TheVariants as part
use Rattle.rules.specs.Document.Pyramid.{Family, levels}
use Rattle.rules.specs.Document.Passes.{Course}
use Rattle.rules.specs.Document.Passes.{State, after, PartName, Reader, decoded}
use Rattle.rules.specs.Document.Layout.{bit_at, body_of, bits_there, name_of, usable}
use Rattle.rules.specs.Document.Calls.{Progress, going, unfit, used, used_cut}
use Rattle.trees.specs.Renamed.{name_state}

-- Values at their tree numbers.
pub record Laid (f : ℕ → ℕ) (v w : List ℤ) : Type 0 where
  pub value : (x : ℕ) → get_or v (f x) (pos 0) ≡ get_or w x (pos 0)
  pub inside : (x : ℕ) → (x < length w → f x < length v) × (f x < length v → x < length w)

pub record DecodedAlike (f : ℕ → ℕ) (k : ℕ) (st : State) (c d : Course Reader) : Type 0 where
  pub taken : c.side.taken ≡ d.side.taken
  pub state : after k c (name_state f st) ≡ name_state f (after k d st)
  pub laid : Laid f c.side.pyramid d.side.pyramid

-- The walk over the parts, over any family.
module _ (F : Family) (h : Header) (s : List ℕ) (there : List PartName) where
  unfoldable pub onward_of : Part → Progress → Progress
  onward_of p (unfit at) = unfit at
  onward_of p (going st v) =
      cond (usable (levels h.size) h.planes there (name_of p)) (used p st (decoded F (name_of p) (bit_at (body_of s p)) (bits_there s p) st v)) (going st v)

  unfoldable pub decode_parts_of : List Part → Progress → Progress
  decode_parts_of [] g = g
  decode_parts_of (p ∷ ps) g = decode_parts_of ps (onward_of p g)

  unfoldable pub tail_onward_of : PartRead → Progress → Progress
  tail_onward_of (Ok (part.Cut p)) (going st v) =
      cond (usable (levels h.size) h.planes (there ++ (name_of p ∷ [])) (name_of p))
      (used_cut h s there p st (decoded F (name_of p) (bit_at (body_of s p)) (bits_there s p) st v))
      (going st v)
  tail_onward_of (Ok (part.Cut p)) (unfit at) = unfit at
  tail_onward_of (Ok (part.Part p)) g = g
  tail_onward_of (Ok part.Tail) g = g
  tail_onward_of (Err r) g = g

unfoldable pub Same : (ℕ → ℕ) → Progress → Progress → Type 0
Same f (going st v) (going su w) = (st ≡ name_state f su) × Laid f v w
Same f (going st v) (unfit b) = ⊥
Same f (unfit a) (going su w) = ⊥
Same f (unfit a) (unfit b) = a ≡ b
