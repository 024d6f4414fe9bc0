-- Distances worked out: one table, and one claim about all its rows, by computation.
use Rattle.std.specs.Prelude.{List, [], ◌∷◌, map, ℕ}
use Rattle.rules.specs.declared.Size.{Size}
use Rattle.rules.specs.declared.Plane.{Plane}
use Rattle.pictures.specs.Laws.Distance.{pixel_most}

unfoldable pub large : Size
large = record { w = 512; h = 512; n = 5 }

unfoldable pub small : Size
small = record { w = 64; h = 64; n = 3 }

-- reached planes, level 1 first
unfoldable pub planes : List ℕ → List Plane
planes ms = map (λ m. record { 0 = m }) ms

-- a row of the table: what the definition gives, and what is stated
pub record Row : Type 0 where
  pub given : ℕ
  pub stated : ℕ

infixl 5 ◌is◌
abbrev pub ◌is◌ : ℕ → ℕ → Row
◌is◌ x y = record { given = x; stated = y }

unfoldable pub table : List Row
table =
    -- all levels whole
    (pixel_most large (planes (0 ∷ 0 ∷ 0 ∷ 0 ∷ 0 ∷ 0 ∷ [])) 0 is 0)
    -- served for p = 2 everywhere: 4 - 1 + 5 x 12, and halved once 4 - 1 + 4 x 12
    ∷ (pixel_most large (planes (2 ∷ 2 ∷ 2 ∷ 2 ∷ 2 ∷ 2 ∷ [])) 0 is 63)
    ∷ (pixel_most large (planes (2 ∷ 2 ∷ 2 ∷ 2 ∷ 2 ∷ 2 ∷ [])) 1 is 51)
    -- the finest level alone lacks its planes 0 and 1, or 0 alone; halved once nothing is lacking
    ∷ (pixel_most large (planes (2 ∷ 0 ∷ 0 ∷ 0 ∷ 0 ∷ 0 ∷ [])) 0 is 12)
    ∷ (pixel_most large (planes (1 ∷ 0 ∷ 0 ∷ 0 ∷ 0 ∷ 0 ∷ [])) 0 is 6)
    ∷ (pixel_most large (planes (2 ∷ 0 ∷ 0 ∷ 0 ∷ 0 ∷ 0 ∷ [])) 1 is 0)
    -- the LL band alone lacks its planes 0 to 2
    ∷ (pixel_most large (planes (0 ∷ 0 ∷ 0 ∷ 0 ∷ 0 ∷ 3 ∷ [])) 0 is 7)
    -- N = 3, p = 2
    ∷ (pixel_most small (planes (2 ∷ 2 ∷ 2 ∷ 2 ∷ 0 ∷ 0 ∷ [])) 0 is 39)
    ∷ []
