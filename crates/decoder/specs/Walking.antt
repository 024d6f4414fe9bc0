-- The walk over a record's parts: what a part makes of the lists, the values drawn, the planes reached and the counts of skipped parts, and the
-- contracts of the walk's turns. Lists and values go by tree numbers, until the pyramid is laid out at the end.
use Rattle.std.specs.Prelude.{◌≡◌, List, [], map, true, cond, ℕ, suc, ◌+◌, ◌-◌, ◌*◌, ◌≤◌, ◌<◌, ◌^◌, leb, eqb, length, set, replicate, ℤ, pos, get_or, ⊤}
use Rattle.std.specs.Prelude.{IfOk, Option, Some, None, Ok, Err}
use Rattle.std.specs.Prelude.{Result as Returned}
use Rattle.rules.specs.declared.Size.{Size}
use Rattle.rules.specs.declared.Plane.{Plane}
use Rattle.rules.specs.declared.Refusal.{Refusal}
use Rattle.rules.specs.declared.Refusal.TheVariants as refusal
use Rattle.rules.specs.declared.Header.{Header}
use Rattle.rules.specs.declared.Part.{Part}
use Rattle.rules.specs.declared.Reach.{Reach}
use Rattle.rules.specs.declared.Piece.TheVariants as part
use Rattle.rules.specs.Document.Numbers.{PartRead}
use Rattle.parts.specs.declared.Counts.{Counts}
use Rattle.parts.specs.declared.Passed.{Passed}
use Rattle.decoder.specs.declared.Walk.{Walk}
use Rattle.rules.specs.Document.Notation.{zeros}
use Rattle.rules.specs.Document.Pyramid.{legal_size, area, most_planes}
use Rattle.rules.specs.Document.Passes.{PartName, State, Course, Reader, after, decoded}
use Rattle.rules.specs.Document.Layout.{bytes_for, bit_at, body_of, bits_there, name_of}
use Rattle.rules.specs.Document.Numbers.{read_header, read_parts}
use Rattle.rules.specs.Document.Calls.{work_for, level_places, Result, refused, accepted, Progress, going, Picture, reached_planes, decoded_parts}
use Rattle.rules.specs.Document.Calls.{count_in}
use Rattle.rules.specs.Laws.Reading.OneWalk.{usable_now}
use Rattle.trees.specs.Family.{trees}
use Rattle.trees.specs.Run.{tree_start, number_of}
use Rattle.trees.specs.Decoding.{decode_parts_of, tail_onward_of}
use Rattle.trees.specs.Sound.{TreeSound}
use Rattle.stretches.specs.Workspace.{word_in, drawn_in, Words}
use Rattle.record.specs.Named.{named}
use Rattle.record.specs.Walk.{first_of, next_of, past_of, Stands}
use Rattle.reached.specs.Planes.{reached_at}
use Rattle.reached.specs.Skips.{skipped_by}
use Rattle.parts.specs.Standing.{state_of, Agree, ReadyToDecode, Quiet, PartDecoded}

-- What is found of a part: it is in order, or refused.
abbrev pub Found : Type 0
Found = Returned ⊤ Refusal

-- What becomes of a whole part: what is found, and the lists, the values drawn, the planes reached and the counts of skipped parts after it.
pub record Outcome : Type 0 where
  pub found : Found
  pub lists : State
  pub drawn : List ℤ
  pub reached : List Plane
  pub skipped : List ℕ

-- "10 FIT: a usable part's bits run out or are left over"
unfoldable pub fitting : Part → Course Reader → Found
fitting p c = cond (eqb c.side.taken p.bits) (Ok tt) (Err (refusal.Fit p.place))

unfoldable pub gone : Part → List Plane → List ℕ → State → Course Reader → Outcome
gone p reached skipped st c =
    record {
      found = fitting p c;
      lists = after p.level.0 c st;
      drawn = c.side.pyramid;
      reached = set reached (p.level.0 - 1) p.plane;
      skipped = skipped;
    }

-- What becomes of a part that is cut: what is found, and the values drawn. W1: "10 also where the walk of such a part ends before the bits of its
-- present body bytes do"
pub record Cut : Type 0 where
  pub found : Found
  pub drawn : List ℤ

unfoldable pub cut_gone : List ℕ → Part → Course Reader → Cut
cut_gone s p c =
    record { found = cond (leb (bits_there s p) c.side.taken) (Ok tt) (Err (refusal.Fit p.place)); drawn = c.side.pyramid }

-- one more part of its level that is walked over
abbrev pub one_part_more : Part → List ℕ → List ℕ
one_part_more p skipped = set skipped (p.level.0 - 1) (count_in skipped (p.level.0 - 1) + 1)

module _ (s : List ℕ) (z : Size) (p : Part) where
  -- what decoding it makes, as far as its bits are there
  abbrev pub course_on : State → List ℤ → Course Reader
  course_on st v = decoded (trees z) (name_of p) (bit_at (body_of s p)) (bits_there s p) st v

  -- by the lists st and the values v before it
  unfoldable pub used_on : List Plane → List ℕ → State → List ℤ → Outcome
  used_on reached skipped st v = gone p reached skipped st (course_on st v)

  -- "Parts that are not usable are walked over, not decoded."
  unfoldable pub met_on : List Plane → List ℕ → State → List ℤ → Outcome
  met_on reached skipped st v =
      cond (usable_now (reached_at reached) (name_of p)) (used_on reached skipped st v)
      (record { found = Ok tt; lists = st; drawn = v; reached = reached; skipped = one_part_more p skipped })

  -- W1: "The tail should be decoded as far as its bits go where .. the part would be usable."
  unfoldable pub cut_on : List Plane → State → List ℤ → Cut
  cut_on reached st v = cond (usable_now (reached_at reached) (name_of p)) (cut_gone s p (course_on st v)) (record { found = Ok tt; drawn = v })

  -- by the walk and the workspace
  abbrev pub decoded_part : Walk → List ℕ → Outcome
  decoded_part w work = used_on w.reached w.skipped (state_of z work w.counts) (drawn_in z work)

  abbrev pub met_part : Walk → List ℕ → Outcome
  met_part w work = met_on w.reached w.skipped (state_of z work w.counts) (drawn_in z work)

  abbrev pub drawn_cut : Walk → List ℕ → Cut
  drawn_cut w work = cut_gone s p (course_on (state_of z work w.counts) (drawn_in z work))

  abbrev pub met_cut : Walk → List ℕ → Cut
  met_cut w work = cut_on w.reached (state_of z work w.counts) (drawn_in z work)

-- the walk after a part
pub record Past (p : Part) (reached : List Plane) (skipped : List ℕ) (r : Walk) : Type 0 where
  pub over : r.cursor ≡ past_of p
  pub reaches : r.reached ≡ reached
  pub skips : r.skipped ≡ skipped

-- what decoding a part asks for, and what it makes of the workspace
pub record Drawing (s : List ℕ) (z : Size) (p : Part) (counts : Counts) (work : List ℕ) : Type 0 where
  pub decoding : ReadyToDecode z p.plane p.level work counts
  pub ends : p.end ≡ p.body + bytes_for p.bits
  pub within : p.body ≤ length s
  pub quiet : Quiet (body_of s p) (record { at = bits_there s p })

abbrev pub Drawn : List ℕ → Size → Part → Counts → List ℕ → Passed → List ℕ → Type 0
Drawn s z p counts work r work' = PartDecoded (body_of s p) (record { at = bits_there s p }) z p.plane p.level work counts r work'

-- what a part asks for
pub record Taking (s : List ℕ) (z : Size) (p : Part) (w : Walk) (work : List ℕ) : Type 0 where
  pub drawing : Drawing s z p w.counts work
  pub level : p.level.0 ≤ level_places
  pub six : length w.reached ≡ level_places
  pub few : count_in w.skipped (p.level.0 - 1) < 2 ^ 32

-- A part adds less to a word.
abbrev pub growth : ℕ
growth = 2 * 2 ^ most_planes

-- what was found, by what is handed back
abbrev pub found_by : {X : Type 0} → Returned X Refusal → Found
found_by (Ok x) = Ok tt
found_by (Err r) = Err r

pub record Taken (z : Size) (p : Part) (o : Outcome) (work : List ℕ) (r : Returned Walk Refusal) (work' : List ℕ) : Type 0 where
  pub finds : found_by r ≡ o.found
  pub past : IfOk r (λ w. Past p o.reached o.skipped w)
  pub lists : IfOk r (λ w. Agree (state_of z work' w.counts) o.lists)
  pub draws : drawn_in z work' ≡ o.drawn
  pub same : length work' ≡ length work
  pub grows : (b : ℕ) → Words z b work → Words z (b + growth) work'

-- a part that is cut was met: the walk goes no further
pub record Ended (z : Size) (o : Cut) (work : List ℕ) (r : Found) (work' : List ℕ) : Type 0 where
  pub finds : r ≡ o.found
  pub draws : drawn_in z work' ≡ o.drawn
  pub same : length work' ≡ length work

-- what a turn of the walk asks for
pub record Standing (h : Header) (s : List ℕ) (w : Walk) (work : List ℕ) : Type 0 where
  pub legal : legal_size h.size ≡ true
  pub planes : h.planes ≤ most_planes
  pub room : work_for h.size ≤ length work
  pub six : length w.reached ≡ level_places
  pub few : (i : ℕ) → count_in w.skipped i < 2 ^ 32
  pub sound : TreeSound h.size (state_of h.size work w.counts)
  pub words : Words h.size (2 ^ 29) work

-- A turn, by what it hands back: the walk behind the next part; none, at a part that is cut or at a tail, where nothing has changed; or a refusal.
pub data Turned (h : Header) (s : List ℕ) (w : Walk) (work : List ℕ) : Returned (Option Walk) Refusal → List ℕ → Type 0 where
  past_part : {next : Walk} {work' : List ℕ} (p : Part) → next_of h s w.cursor ≡ Ok (part.Part p)
      → Taken h.size p (met_part s h.size p w work) work (Ok next) work' → Turned h s w work (Ok (Some next)) work'
  at_cut : {work' : List ℕ} (p : Part) → next_of h s w.cursor ≡ Ok (part.Cut p)
      → Ended h.size (met_cut s h.size p w work) work (Ok tt) work' → Turned h s w work (Ok None) work'
  at_tail : next_of h s w.cursor ≡ Ok part.Tail → Turned h s w work (Ok None) work
  unfit_part : {r : Refusal} {work' : List ℕ} (p : Part) → next_of h s w.cursor ≡ Ok (part.Part p)
      → Taken h.size p (met_part s h.size p w work) work (Err r) work' → Turned h s w work (Err r) work'
  unfit_cut : {r : Refusal} {work' : List ℕ} (p : Part) → next_of h s w.cursor ≡ Ok (part.Cut p)
      → Ended h.size (met_cut s h.size p w work) work (Err r) work' → Turned h s w work (Err r) work'
  unread : {r : Refusal} → next_of h s w.cursor ≡ Err r → Turned h s w work (Err r) work

-- before the first part
pub record Begun (h : Header) (work : List ℕ) (r : Walk) (work' : List ℕ) : Type 0 where
  pub opens : r.cursor ≡ first_of h
  pub reaches : r.reached ≡ reached_planes h []
  pub skips : r.skipped ≡ zeros level_places
  pub lists : Agree (state_of h.size work' r.counts) (tree_start h.size)
  pub words : (x : ℕ) → x < area h.size → word_in h.size work' x ≡ word_in h.size work x
  pub same : length work' ≡ length work

-- what decoding the parts asks for: a header that was read, a pyramid of its size and workspace enough
pub record Lent (h : Header) (s : List ℕ) (out : List ℤ) (work : List ℕ) : Type 0 where
  pub read : read_header s ≡ Ok h
  pub whole : length out ≡ area h.size
  pub room : work_for h.size ≤ length work

-- Names fall from part to part, and so does this number of a name: the parts are few, and each makes words grow little.
abbrev pub order : PartName → ℕ
order p = suc level_places * p.plane + p.level

abbrev pub orders : ℕ
orders = suc level_places * most_planes

abbrev pub bound : PartName → ℕ
bound before = growth * (suc orders - order before)

abbrev pub names : Header → List ℕ → List PartName
names h s = map name_of (read_parts h s).parts

abbrev pub begin : Header → Progress
begin h = going (tree_start h.size) (replicate (area h.size) (pos 0))

abbrev pub walked : Header → List ℕ → List Part → Progress → Progress
walked h s ps g = decode_parts_of (trees h.size) h s (names h s) ps g

abbrev pub tail_walked : Header → List ℕ → PartRead → Progress → Progress
tail_walked h s x g = tail_onward_of (trees h.size) h s (names h s) x g

-- Where the walk stands: the parts that came by, the lists that they make, and what they draw.
pub record Walking (h : Header) (s : List ℕ) (w : Walk) (work : List ℕ) : Type 0 where
  pub room : work_for h.size ≤ length work
  pub seen : List Part
  pub stands : Stands h s w.cursor seen
  pub lists : State
  pub decodes : walked h s seen (begin h) ≡ going lists (drawn_in h.size work)
  pub reaches : w.reached ≡ reached_planes h (map name_of seen)
  pub skips : w.skipped ≡ skipped_by h (names h s) (map name_of seen)
  pub agrees : Agree (state_of h.size work w.counts) lists
  pub sound : TreeSound h.size lists
  pub few : length seen + order (named w.cursor.before) ≤ orders
  pub words : Words h.size (bound (named w.cursor.before)) work

-- what is accepted where no part is left
abbrev pub at_end : List ℕ → List ℤ → Walk → Result Picture
at_end s out w = accepted (record { pyramid = out; tail = length s - w.cursor.place; reached = w.reached; skipped = w.skipped })

-- The values drawn stand row by row.
abbrev pub LaysOut : Size → List ℕ → List ℤ → Type 0
LaysOut z work out = (q : ℕ) → q < area z → get_or out q (pos 0) ≡ get_or (drawn_in z work) (number_of z q) (pos 0)

-- the end of a walk that met no fault: laid out, what it drew is what the record is decoded to
pub record Complete (h : Header) (s : List ℕ) (w : Walk) (work : List ℕ) : Type 0 where
  pub within : w.cursor.place ≤ length s
  pub decodes : (out : List ℤ) → length out ≡ area h.size → LaysOut h.size work out → decoded_parts h s (read_parts h s) ≡ at_end s out w

-- the walk over all parts, by what it hands back
abbrev pub Walked : Header → List ℕ → Returned Walk Refusal → List ℕ → Type 0
Walked h s (Ok w) work' = Complete h s w work'
Walked h s (Err r) work' = decoded_parts h s (read_parts h s) ≡ refused r

-- The outcome x of a call before what was lent is cleared, by what is handed back: its pyramid stands in the output, or it is refused.
abbrev pub Decided : Result Picture → Returned Reach Refusal → List ℤ → Type 0
Decided x (Ok a) out' = x ≡ accepted (record { pyramid = out'; tail = a.tail; reached = a.reached; skipped = a.skipped })
Decided x (Err r) out' = x ≡ refused r
