-- The lists of document 01's pyramid, for every legal size: sound at the start and after each part, so that a part has room in its level.
use Rattle.rules.specs.declared.Size.{Size}
use Rattle.rules.specs.Document.Pyramid.{family, area, levels}
use Rattle.rules.specs.Document.Passes.{State, from}
use Rattle.rules.specs.Laws.State.Sound.{Sound}

-- what holds of the lists of all levels between parts
abbrev pub SoundLists : Size → State → Type 0
SoundLists z s = Sound (family z) (levels z) (from 0 (area z)) s
