-- A record is its parts by name: parts in order, one behind the other, are the part of each name that there is, in order of the names.
use Rattle.std.specs.Prelude.{List, [], ◌∷◌, map, cond, ℕ}
use Rattle.rules.specs.declared.Header.{Header}
use Rattle.rules.specs.Document.Notation.{flat}
use Rattle.rules.specs.Document.Passes.{PartName, part_names}
use Rattle.rules.specs.Document.Layout.{same_name}
use Rattle.rules.specs.Document.Numbers.{top_level}
use Rattle.rules.specs.Laws.Serving.Selection.{Held}

-- what is held under a name, nothing if there is none
unfoldable pub found : List Held → PartName → List ℕ
found [] x = []
found (p ∷ ps) x = cond (same_name x p.name) p.bytes (found ps x)

abbrev pub held_names : List Held → List PartName
held_names ps = map (λ p. p.name) ps

abbrev pub held_bytes : List Held → List ℕ
held_bytes ps = flat (λ p. p.bytes) ps

-- names that are some of others, in the same order
pub data Among : List PartName → List PartName → Type 0 where
  none : Among [] []
  this : {x : PartName} {xs ns : List PartName} → Among xs ns → Among (x ∷ xs) (x ∷ ns)
  other : {x : PartName} {xs ns : List PartName} → Among xs ns → Among xs (x ∷ ns)

-- All names that a record with this header may have, and those of its parts.
abbrev pub all_names : Header → List PartName
all_names h = part_names (top_level h) h.planes

abbrev pub first : Header → PartName
first h = record { plane = h.planes; level = 0 }
