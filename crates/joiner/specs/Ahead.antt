-- What the pieces of joining leave, and what is ahead on the way: at each name, what is left to do is what was to do.
use Rattle.std.specs.Prelude.{◌≡◌, List, [], ◌++◌, map, cond, ◌≢◌, ℕ, ◌+◌, ◌-◌, ◌^◌, ◌≤◌, ◌<◌, length, take, drop}
use Rattle.std.specs.Prelude.{true, Option, Some, None, Result, Ok, Err}
use Rattle.std.proofs.lemmas.List.Edits.{sets}
use Rattle.rules.specs.declared.Refusal.{Refusal}
use Rattle.rules.specs.declared.Refusal.TheVariants as refusal
use Rattle.rules.specs.declared.Header.{Header}
use Rattle.rules.specs.declared.Plane.{Plane}
use Rattle.rules.specs.declared.Level.{Level}
use Rattle.rules.specs.declared.Part.{Part}
use Rattle.rules.specs.declared.Piece.TheVariants as part
use Rattle.rules.specs.Document.Numbers.{PartRead, top_level}
use Rattle.rules.specs.Document.Notation.{flat}
use Rattle.rules.specs.Document.Pyramid.{legal_size}
use Rattle.rules.specs.Document.Passes.{PartName, parts_of_plane, part_names}
use Rattle.rules.specs.Document.Layout.{name_of, same_name}
use Rattle.rules.specs.Document.Calls.{refused, fitted}
use Rattle.rules.specs.Document.Answers.{as_coded}
use Rattle.rules.specs.Laws.Reading.Parts.{InOrder}
use Rattle.rules.specs.Laws.Reading.Walk.{parts_from}
use Rattle.rules.specs.Laws.Bytes.Output.{clipped}
use Rattle.record.specs.Named.{named}
use Rattle.joins.specs.Document.Joining.{joined_part, unless_clash, joining, Joining}
use Rattle.joins.specs.Laws.ByName.{Among}
use Rattle.joins.specs.Laws.Joined.{Readable}
use Rattle.record.specs.declared.walk.Cursor.{Cursor}
use Rattle.record.specs.Walk.{past_of}
use Rattle.survey.specs.declared.Contents.{Contents}
use Rattle.joiner.specs.declared.Joint.{Joint}

-- what a survey hands back, one turn, and joining
abbrev pub Surveyed : Type 0
Surveyed = Result Contents Refusal

abbrev pub Step : Type 0
Step = Result Joint Refusal

abbrev pub Answer : Type 0
Answer = Result ℕ Refusal

-- what is offered under a name by the part that was read
abbrev pub offer_of : PartName → PartRead → Option Part
offer_of x (Ok (part.Part p)) = cond (same_name x (name_of p)) (Some p) None
offer_of x (Ok (part.Cut p)) = None
offer_of x (Ok part.Tail) = None
offer_of x (Err r) = None

-- its bytes, how many they are, and where the record is read on
abbrev pub bytes_of : List ℕ → Option Part → List ℕ
bytes_of s None = []
bytes_of s (Some p) = take (p.end - p.place) (drop p.place s)

abbrev pub count_of : Option Part → ℕ
count_of None = 0
count_of (Some p) = p.end - p.place

abbrev pub hand_of : Cursor → Option Part → Cursor
hand_of hand None = hand
hand_of hand (Some p) = past_of p

-- A part that both records have is the same in both, or not, which is told at its place in the first.
abbrev pub Alike : List ℕ → Option Part → List ℕ → Option Part → Type 0
Alike a None b theirs = Unit {0}
Alike a (Some p) b None = Unit {0}
Alike a (Some p) b (Some q) = bytes_of a (Some p) ≡ bytes_of b (Some q)

abbrev pub Differs : List ℕ → Option Part → List ℕ → Option Part → Refusal → Type 0
Differs a None b theirs why = ⊥
Differs a (Some p) b None why = ⊥
Differs a (Some p) b (Some q) why = (why ≡ refusal.Clash p.place) × (bytes_of a (Some p) ≢ bytes_of b (Some q))

pub record Copied (s : List ℕ) (o : Option Part) (out : List ℕ) (written r : ℕ) (out' : List ℕ) : Type 0 where
  pub counts : r ≡ written + count_of o
  pub copies : out' ≡ sets out written (bytes_of s o)

-- the first record's part, else the second's
abbrev pub Appended : List ℕ → Option Part → List ℕ → Option Part → List ℕ → ℕ → ℕ → List ℕ → Type 0
Appended a None b theirs out written r out' = Copied b theirs out written r out'
Appended a (Some p) b theirs out written r out' = Copied a (Some p) out written r out'

-- the names from level k of plane n on
unfoldable pub names_from : ℕ → ℕ → ℕ → List PartName
names_from top n k = parts_of_plane n k ++ part_names top n

-- the parts that are still to be read
abbrev pub left : Header → List ℕ → Cursor → List Part
left h s hand = (parts_from h s (named hand.before) hand.place).parts

-- Their names are some of those ahead.
pub record Standing (h : Header) (s : List ℕ) (ns : List PartName) (hand : Cursor) : Type 0 where
  pub among : Among (map name_of (left h s hand)) ns
  pub within : hand.place ≤ length s

-- What is written, and that with what is left it comes to the join.
pub record Ahead (a b : List ℕ) (h : Header) (room : ℕ) (ns : List PartName) (j : Joint) (out : List ℕ) : Type 0 where
  pub legal : legal_size h.size ≡ true
  pub small : length a + length b < 2 ^ 64
  pub one : Standing h a ns j.one
  pub two : Standing h b ns j.two
  pub earlier : PartName
  pub in_order : InOrder earlier ns
  pub bytes : List ℕ
  pub count : length bytes ≡ j.written
  pub behind : j.written ≤ j.one.place + j.two.place
  pub holds : out ≡ clipped room bytes
  pub comes_to : joining a b room
      ≡ unless_clash a (left h a j.one) b (left h b j.two)
      (fitted (bytes ++ flat (joined_part a (left h a j.one) b (left h b j.two)) ns) room)

pub record Clashed (a b : List ℕ) (room : ℕ) (why : Refusal) (out : List ℕ) : Type 0 where
  pub refuses : joining a b room ≡ refused why
  pub same : length out ≡ room

unfoldable pub Stepped : List ℕ → List ℕ → Header → ℕ → List PartName → Step → List ℕ → Type 0
Stepped a b h room ns (Ok j) out = Ahead a b h room ns j out
Stepped a b h room ns (Err why) out = Clashed a b room why out

-- before a name's turn, and after it
pub record Before (a b : List ℕ) (h : Header) (plane : Plane) (level : Level) (j : Joint) (out : List ℕ) : Type 0 where
  pub some : 1 ≤ level.0
  pub ahead : Ahead a b h (length out) (names_from (top_level h) plane.0 level.0) j out

abbrev pub AfterTurn : List ℕ → List ℕ → Header → Plane → Level → List ℕ → Step → List ℕ → Type 0
AfterTurn a b h plane level out r out' = Stepped a b h (length out) (names_from (top_level h) plane.0 (level.0 - 1)) r out'

-- before all names of a plane; after them, or after those of all planes down to a number of them
abbrev pub BeforePlane : List ℕ → List ℕ → Header → Plane → Joint → List ℕ → Type 0
BeforePlane a b h plane j out = Ahead a b h (length out) (names_from (top_level h) plane.0 (top_level h)) j out

abbrev pub AfterPlane : List ℕ → List ℕ → Header → ℕ → List ℕ → Step → List ℕ → Type 0
AfterPlane a b h n out r out' = Stepped a b h (length out) (part_names (top_level h) n) r out'

-- two records that reading accepts
pub record BothRead (a b : List ℕ) (h g : Header) : Type 0 where
  pub one : Readable a h
  pub two : Readable b g

-- Joining, but that the output of a refusal is still to be cleared.
pub record Answered (a b out : List ℕ) (r : Answer) (out' : List ℕ) : Type 0 where
  pub same : length out' ≡ length out
  pub refuses : (why : Refusal) → r ≡ Err why → joining a b (length out) ≡ refused why
  pub joins : (n : ℕ) → r ≡ Ok n → Joining a b out (as_coded r) out'
