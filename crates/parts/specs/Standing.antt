-- What the workspace holds between parts, and what one part makes of it: the contracts of `start`, `code_part` and `decode_part`.
use Rattle.std.specs.Prelude.{◌≡◌, List, [], Bool, true, false, cond, ◌&&◌, ℕ, ◌+◌, ◌-◌, ◌*◌, ◌≤◌, ◌<◌, ◌^◌, leb, length, get_or, set, ℤ}
use Rattle.std.proofs.Math.Path.{fun_ext}
use Rattle.rules.specs.declared.Size.{Size}
use Rattle.rules.specs.declared.Plane.{Plane}
use Rattle.rules.specs.declared.Level.{Level}
use Rattle.bits.specs.declared.BitPosition.{BitPosition}
use Rattle.parts.specs.declared.Lengths.{Lengths}
use Rattle.parts.specs.declared.Counts.{Counts}
use Rattle.parts.specs.declared.Passed.{Passed}
use Rattle.rules.specs.Document.Pyramid.{legal_size, area, levels, most_planes, magnitude, negative}
use Rattle.rules.specs.Document.Passes.{Lists, State, Course, Reader, PartName, after, coded, decoded}
use Rattle.rules.specs.Document.Layout.{bit_at}
use Rattle.rules.specs.Document.Numbers.{most_bits}
use Rattle.rules.specs.Document.Calls.{level_places, work_for}
use Rattle.rules.specs.Laws.Family.Sizes.{level_start, level_size}
use Rattle.trees.specs.Family.{coefficient_of, trees}
use Rattle.trees.specs.Run.{tree_start}
use Rattle.trees.specs.Sound.{TreeSound}
use Rattle.stretches.specs.Cut.{stretch_of}
use Rattle.stretches.specs.Workspace.{word_in, drawn_in, maximum_in, Words, Holds}
use Rattle.lists.specs.declared.Role.{Role}
use Rattle.lists.specs.declared.Role.TheVariants.{Codes}
use Rattle.lists.specs.declared.Stretch.{Stretch}
use Rattle.lists.specs.declared.Fill.{Fill}
use Rattle.lists.specs.Lists.{Marked, lip_at, lists_in}
use Rattle.bits.specs.Bits.{write_bits}

abbrev pub unlisted : Lengths
unlisted = record { lip = 0; lsp = 0; lis = 0 }

-- how many entries each list of level k has
abbrev pub count_at : Counts → ℕ → Lengths
count_at c k = get_or c.levels (k - 1) unlisted

-- there is a count for each of the levels
pub record Places (c : Counts) : Type 0 where
  pub levels : length c.levels ≡ level_places

-- the level's lists as a pass finds them, as it leaves them, and with sets that came to its LIS
abbrev pub fill_of : Counts → ℕ → Fill
fill_of c k =
    record { lip = (count_at c k).lip; lsp = (count_at c k).lsp; kept = 0; visited = 0; left = (count_at c k).lis; moved = 0 }

abbrev pub with_lists : Counts → ℕ → Fill → Counts
with_lists c k f = record { levels = set c.levels (k - 1) (record { lip = f.lip; lsp = f.lsp; lis = f.kept }) }

abbrev pub with_sets : Counts → ℕ → ℕ → Counts
with_sets c k more =
    let own = count_at c k in record { levels = set c.levels (k - 1) (record { lip = own.lip; lsp = own.lsp; lis = own.lis + more }) }

abbrev pub nothing : Lists
nothing = record { lip = []; lis = []; lsp = [] }

unfoldable pub lists_at : Size → List ℕ → Counts → ℕ → Lists
lists_at z work counts k =
    lists_in (level_size z k) (stretch_of z k work) (count_at counts k).lip (count_at counts k).lis (count_at counts k).lsp

-- The lists of each level, by the workspace and the counts. There are none outside the levels 1 to N+1.
unfoldable pub state_of : Size → List ℕ → Counts → State
state_of z work counts k = cond {A = Lists} (leb 1 k && leb k (levels z)) (lists_at z work counts k) nothing

pub record Agree (s t : State) : Type 0 where
  pub lists : (k : ℕ) → s k ≡ t k

pub agree_same : {s t : State} → Agree s t → s ≡ t
agree_same a = fun_ext a.lists

abbrev pub named : Plane → Level → PartName
named n k = record { plane = n.0; level = k.0 }

-- LIP's entries are marked in each level, if its lists are the coder's.
abbrev pub stretch_by : Role → Size → ℕ → Stretch
stretch_by role z k = record { role = role; n = level_size z k; first = level_start z k; away = 4 * level_size z k }

pub record Marks (role : Role) (z : Size) (work : List ℕ) (counts : Counts) : Type 0 where
  pub lips : (k i : ℕ) → 1 ≤ k → k ≤ levels z → i < (count_at counts k).lip
      → Marked (stretch_by role z k) (stretch_of z k work) (lip_at (level_size z k) i (stretch_of z k work))

pub record Started (role : Role) (z : Size) (work : List ℕ) (r : Counts) (work' : List ℕ) : Type 0 where
  pub lists : Agree (state_of z work' r) (tree_start z)
  pub same : length work' ≡ length work
  pub words : (x : ℕ) → x < area z → word_in z work' x ≡ word_in z work x
  pub maxima : (k i : ℕ) → 1 ≤ k → k ≤ z.n → maximum_in z work' k i ≡ maximum_in z work k i
  pub marks : Marks role z work' r

-- what every part asks for
pub record Ready (z : Size) (n : Plane) (k : Level) (work : List ℕ) (counts : Counts) : Type 0 where
  pub legal : legal_size z ≡ true
  pub room : work_for z ≤ length work
  pub plane : n.0 < most_planes
  pub coarser : 1 ≤ k.0
  pub level : k.0 ≤ levels z
  pub sound : TreeSound z (state_of z work counts)

pub record ReadyToCode (z : Size) (n : Plane) (k : Level) (work : List ℕ) (counts : Counts) (at : BitPosition) : Type 0 where
  pub ready : Ready z n k work counts
  pub place : at.at + most_bits z < 2 ^ 61
  pub marks : Marks Codes z work counts

-- the coder's course over this part, for a pyramid v that the workspace holds
abbrev pub course_c : List ℤ → Size → Plane → Level → List ℕ → Counts → Course (List Bool)
course_c v z n k work counts =
    coded (trees z) (λ x. magnitude v (coefficient_of z x)) (λ x. negative v (coefficient_of z x)) (named n k) (state_of z work counts)

pub record CodedFrom (v : List ℤ) (z : Size) (n : Plane) (k : Level) (work : List ℕ) (counts : Counts) (out : List ℕ) (at : BitPosition)
    (r : Passed) (work' out' : List ℕ) : Type 0 where
  pub lists : Agree (state_of z work' r.counts) (after k.0 (course_c v z n k work counts) (state_of z work counts))
  pub holds : Holds z v work'
  pub bits : out' ≡ write_bits out at.at (course_c v z n k work counts).side
  pub place : r.at.at ≡ at.at + length (course_c v z n k work counts).side

pub record PartCoded (z : Size) (n : Plane) (k : Level) (work : List ℕ) (counts : Counts) (out : List ℕ) (at : BitPosition)
    (r : Passed) (work' out' : List ℕ) : Type 0 where
  pub same : length work' ≡ length work
  pub marks : Marks Codes z work' r.counts
  pub coded : (v : List ℤ) → Holds z v work → CodedFrom v z n k work counts out at r work' out'

pub record ReadyToDecode (z : Size) (n : Plane) (k : Level) (work : List ℕ) (counts : Counts) : Type 0 where
  pub ready : Ready z n k work counts
  pub words : Words z (2 ^ 29) work

-- Bits of a body behind a place are 0.
pub record Quiet (body : List ℕ) (until : BitPosition) : Type 0 where
  pub bits : (i : ℕ) → until.at ≤ i → bit_at body i ≡ false

-- the decoder's course over this part, whose bits that are there end at a place
abbrev pub course_d : List ℕ → BitPosition → Size → Plane → Level → List ℕ → Counts → Course Reader
course_d body until z n k work counts = decoded (trees z) (named n k) (bit_at body) until.at (state_of z work counts) (drawn_in z work)

pub record PartDecoded (body : List ℕ) (until : BitPosition) (z : Size) (n : Plane) (k : Level) (work : List ℕ) (counts : Counts)
    (r : Passed) (work' : List ℕ) : Type 0 where
  pub lists : Agree (state_of z work' r.counts) (after k.0 (course_d body until z n k work counts) (state_of z work counts))
  pub same : length work' ≡ length work
  pub taken : r.at.at ≡ (course_d body until z n k work counts).side.taken
  pub draws : drawn_in z work' ≡ (course_d body until z n k work counts).side.pyramid
  pub grows : (b : ℕ) → Words z b work → Words z (b + 2 * 2 ^ most_planes) work'
