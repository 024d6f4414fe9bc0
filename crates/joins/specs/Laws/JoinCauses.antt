-- W6's order of refusals as statements: which outcome joining has in which case. A case is named as its number. What it asks for is the cause, and that no
-- cause before it in the order holds; `HeaderCase` and `Parts` are those of rules' Causes.
use Rattle.std.specs.Prelude.{◌≡◌, List, ◌∷◌, ◌++◌, ◌≢◌, ℕ, ◌≤◌, ◌<◌, length, take, Ok, Err}
use Rattle.rules.specs.declared.Refusal.{Refusal}
use Rattle.rules.specs.declared.Refusal.TheVariants as refusal
use Rattle.rules.specs.declared.Header.{Header}
use Rattle.rules.specs.declared.Part.{Part}
use Rattle.rules.specs.Document.Numbers.{tail, fault}
use Rattle.rules.specs.Document.Calls.{Result, refused, accepted}
use Rattle.rules.specs.Laws.Counting.Sums.{All}
use Rattle.rules.specs.Promises.Refusals.{HeaderCase, Parts}
use Rattle.joins.specs.Document.Joining.{joined_bytes}
use Rattle.joins.specs.Laws.Joined.{Agrees}

-- "All reading refusals": 6, 12, 7 or 1 of the header, then 8, 12 or 9 of the first part at fault.
pub data ReadingCase (s : List ℕ) : Refusal → Type 0 where
  HEADER : {why : Refusal} → HeaderCase s (Err why) → ReadingCase s why
  PARTS : {h : Header} {ps : List Part} {why : Refusal} → HeaderCase s (Ok h) → Parts h s ps (fault why) → ReadingCase s why

-- A record that reading accepts, with these parts; its tail, if it has one, isn't looked at.
pub record Reads (s : List ℕ) (h : Header) (ps : List Part) : Type 0 where
  pub headed : HeaderCase s (Ok h)
  pub cut : ℕ
  pub walked : Parts h s ps (tail cut)

-- "15 CLASH, a shared part unequal, place in the first": of the parts of the first record it is the first such.
pub record FirstClash (a : List ℕ) (ps : List Part) (b : List ℕ) (qs : List Part) (at : ℕ) : Type 0 where
  pub seen : List Part
  pub this : Part
  pub later : List Part
  pub split : ps ≡ seen ++ this ∷ later
  pub before : All (Agrees a b qs) seen
  pub clash : ¬ Agrees a b qs this
  pub placed : this.place ≡ at

-- "Refusals: all reading refusals of the first, then of the second (place in its own bytes); 14 MIXED, headers unequal, place 0; 15 CLASH ..;
-- last 5."
pub data JoiningCase (a b : List ℕ) (room : ℕ) : Result (List ℕ) → Type 0 where
  FIRST : {why : Refusal} → ReadingCase a why → JoiningCase a b room (refused why)
  SECOND : {h : Header} {ps : List Part} {why : Refusal} → Reads a h ps → ReadingCase b why → JoiningCase a b room (refused why)
  MIXED : {h g : Header} {ps qs : List Part} → Reads a h ps → Reads b g qs → take h.end a ≢ take g.end b
      → JoiningCase a b room (refused refusal.Mixed)
  CLASH : {h g : Header} {ps qs : List Part} {at : ℕ} → Reads a h ps → Reads b g qs → take h.end a ≡ take g.end b → FirstClash a ps b qs at
      → JoiningCase a b room (refused (refusal.Clash at))
  ROOM : {h g : Header} {ps qs : List Part} → Reads a h ps → Reads b g qs → take h.end a ≡ take g.end b → All (Agrees a b qs) ps
      → room < length (joined_bytes h a ps b qs) → JoiningCase a b room (refused refusal.Room)
  JOINED : {h g : Header} {ps qs : List Part} → Reads a h ps → Reads b g qs → take h.end a ≡ take g.end b → All (Agrees a b qs) ps
      → length (joined_bytes h a ps b qs) ≤ room → JoiningCase a b room (accepted (joined_bytes h a ps b qs))
