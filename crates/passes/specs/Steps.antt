-- What the steps of a pass leave, in a level's stretch and in the output: the contracts of the functions inside.
use Rattle.std.specs.Prelude.{◌≡◌, List, [], ◌∷◌, ◌++◌, Bool, true, false, cond, ℕ, suc, ◌+◌, ◌*◌, ◌≤◌, ◌<◌, ◌^◌, leb, ltb, length}
use Rattle.rules.specs.Document.Pyramid.{legal_size, levels, most_planes}
use Rattle.rules.specs.Document.Passes.{Entry, typeA, typeB, in_level, opened, added, Lists, Course, listing, passed}
use Rattle.rules.specs.Laws.Pass.Steps.{tried_all, visited_all}
use Rattle.rules.specs.Laws.Pass.Levels.{Met, Placed}
use Rattle.rules.specs.Laws.Family.Sizes.{span, level_start, level_size}
use Rattle.rules.specs.Laws.Pass.Slots.{Room}
use Rattle.lists.specs.declared.Fill.{Fill}
use Rattle.stretches.specs.Cut.{values_in}
use Rattle.lists.specs.declared.Stretch.{Stretch}
use Rattle.lists.specs.Lists.{known, held, Fits, Beside}
use Rattle.testing.specs.declared.Run.{Run}
use Rattle.testing.specs.declared.Stand.{Stand}
use Rattle.testing.specs.Exchange.{Chan, chan, family_of, reads, side, Silent, Around}
use Rattle.testing.specs.Finding.{course}
use Rattle.testing.specs.Growing.{Growth}

-- What holds of every run.
pub record Proper (run : Run) : Type 0 where
  pub legal : legal_size run.z ≡ true
  pub plane : run.plane.0 < most_planes
  pub coarser : 1 ≤ run.level.0
  pub level : run.level.0 ≤ levels run.z
  pub size : run.stretch.n < 2 ^ 32
  pub count : run.stretch.n ≡ level_size run.z run.level.0
  pub first : run.stretch.first ≡ level_start run.z run.level.0
  pub parents : run.parents ≡ span run.z (run.level.0 + 1)
  pub elders : run.elders ≡ span run.z (run.level.0 + 2)
  pub from : run.from.at + 4 * run.stretch.n < 2 ^ 62

-- Sets were put at the end of LIS; all else is as it was.
pub record Added (es : List Entry) (t : Stretch) (s : List ℕ) (f : Fill) (s' : List ℕ) (r : Fill) : Type 0 where
  pub fill : r ≡ record { lip = f.lip; lsp = f.lsp; kept = f.kept; visited = f.visited; left = f.left + length es; moved = f.moved }
  pub holds : held t s' r ≡ record {
    lip = (held t s f).lip;
    lsp = (held t s f).lsp;
    kept = (held t s f).kept;
    todo = (held t s f).todo ++ es;
    moved = (held t s f).moved;
  }
  pub fits : Fits t s' r
  pub beside : Beside t r.moved s s'
  pub known : (m : ℕ) → m ≤ f.lsp → known t.n m s' ≡ known t.n m s

-- A set was opened: coefficients were tested, and sets were put at the end of LIS.
pub record Opened (run : Run) (body : List ℕ) (e : Entry) (s out : List ℕ) (w : Stand) (s' out' : List ℕ) (r : Stand) : Type 0 where
  pub makes : course run.stretch s' out' r ≡ tried_all (listing (side run s body)) (opened (family_of run) e) (course run.stretch s out w)
  pub todo : (held run.stretch s' r.fill).todo ≡ (held run.stretch s w.fill).todo ++ added (family_of run) e
  pub fits : Fits run.stretch s' r.fill
  pub around : Around run w.fill.moved s s'
  pub known : (m : ℕ) → m ≤ w.fill.lsp → known run.stretch.n m s' ≡ known run.stretch.n m s
  pub visited : r.fill.visited ≡ w.fill.visited
  pub left : r.fill.left ≡ w.fill.left + length (added (family_of run) e)
  pub kept : r.fill.kept ≡ w.fill.kept
  pub moved : r.fill.moved ≡ w.fill.moved
  pub both : r.fill.lip + r.fill.lsp ≡ w.fill.lip + w.fill.lsp + length (opened (family_of run) e)
  pub lsp : w.fill.lsp ≤ r.fill.lsp
  pub place : r.at.at ≤ w.at.at + 2 * length (opened (family_of run) e)

-- What an opening asks for: the set has members in the level, and there is room for what comes of it.
pub record Opening (run : Run) (e : Entry) (s : List ℕ) (w : Stand) : Type 0 where
  pub proper : Proper run
  pub met : Met (family_of run) run.level.0 e
  pub fits : Fits run.stretch s w.fill
  pub room : Room (family_of run) run.level.0 run.stretch.n (w.fill.lip + w.fill.lsp) w.fill.visited (opened (family_of run) e)
      ((held run.stretch s w.fill).todo ++ added (family_of run) e)
  pub place : w.at.at + 2 * length (opened (family_of run) e) < 2 ^ 62

-- Which sets of LIS have a member in the level, by their type and their place: the roots of level N+1 have none there. Elsewhere each of type A
-- has, and each of type B that was there at the beginning; one that was made meanwhile has its members in finer levels.
unfoldable pub has_member : Run → ℕ → Entry → Bool
has_member run v (typeA p) = leb run.level.0 run.z.n
has_member run v (typeB p) = cond (leb run.level.0 run.z.n) (ltb v run.olds) false

unfoldable pub Queued : Run → ℕ → List Entry → Type 0
Queued run v [] = Unit {0}
Queued run v (e ∷ es) = (in_level (family_of run) run.level.0 e ≡ has_member run v e) × Queued run (suc v) es

-- what is left of the visits makes of a course
abbrev pub visits_of : Run → List ℕ → List ℕ → List Entry → Course Chan → Course Chan
visits_of run body s es c = visited_all (family_of run) run.level.0 (listing (side run s body)) es c

-- In the midst of LIS: there is room for the rest, and behind the stretch for all that will have moved out; it is known which sets have a member in
-- the level, what was visited was kept, moved out or is gone, and each coefficient took two bits at most, each set one.
pub record Underway (run : Run) (body s out : List ℕ) (w : Stand) : Type 0 where
  pub fits : Fits run.stretch s w.fill
  pub away : run.stretch.away + length (visits_of run body s (held run.stretch s w.fill).todo (course run.stretch s out w)).moved ≤ length s
  pub room : Room (family_of run) run.level.0 run.stretch.n (w.fill.lip + w.fill.lsp) w.fill.visited [] (held run.stretch s w.fill).todo
  pub queue : Queued run w.fill.visited (held run.stretch s w.fill).todo
  pub olds : run.olds ≤ w.fill.visited + w.fill.left
  pub past : w.fill.kept + w.fill.moved ≤ w.fill.visited
  pub place : w.at.at ≤ run.from.at + 2 * (w.fill.lip + w.fill.lsp) + w.fill.visited

-- The same with a set e in hand, that has just been taken and has members in the level.
pub record InHand (run : Run) (body : List ℕ) (e : Entry) (s out : List ℕ) (w : Stand) : Type 0 where
  pub before : ℕ
  pub count : w.fill.visited ≡ before + 1
  pub fits : Fits run.stretch s w.fill
  pub away : run.stretch.away + length (visits_of run body s (e ∷ (held run.stretch s w.fill).todo) (course run.stretch s out w)).moved ≤ length s
  pub there : in_level (family_of run) run.level.0 e ≡ true
  pub room : Room (family_of run) run.level.0 run.stretch.n (w.fill.lip + w.fill.lsp) before [] (e ∷ (held run.stretch s w.fill).todo)
  pub queue : Queued run (suc before) (held run.stretch s w.fill).todo
  pub olds : run.olds ≤ w.fill.visited + w.fill.left
  pub past : w.fill.kept + w.fill.moved ≤ before
  pub place : w.at.at ≤ run.from.at + 2 * (w.fill.lip + w.fill.lsp) + before

-- The set in hand was visited, or some sets were: what is left of the visits makes of lists and side what it would have made before.
pub record Weighed (run : Run) (body : List ℕ) (e : Entry) (s out : List ℕ) (w : Stand) (s' out' : List ℕ) (r : Stand) : Type 0 where
  pub makes : visits_of run body s' (held run.stretch s' r.fill).todo (course run.stretch s' out' r)
      ≡ visits_of run body s (e ∷ (held run.stretch s w.fill).todo) (course run.stretch s out w)
  pub ready : Underway run body s' out' r
  pub around : Around run r.fill.moved s s'
  pub known : (m : ℕ) → m ≤ w.fill.lsp → known run.stretch.n m s' ≡ known run.stretch.n m s
  pub lsp : w.fill.lsp ≤ r.fill.lsp
  pub moved : w.fill.moved ≤ r.fill.moved
  pub visited : r.fill.visited ≡ w.fill.visited

pub record Visited (run : Run) (body s out : List ℕ) (w : Stand) (s' out' : List ℕ) (r : Stand) : Type 0 where
  pub makes : visits_of run body s' (held run.stretch s' r.fill).todo (course run.stretch s' out' r)
      ≡ visits_of run body s (held run.stretch s w.fill).todo (course run.stretch s out w)
  pub ready : Underway run body s' out' r
  pub around : Around run r.fill.moved s s'
  pub moved : w.fill.moved ≤ r.fill.moved
  pub known : (m : ℕ) → m ≤ w.fill.lsp → known run.stretch.n m s' ≡ known run.stretch.n m s
  pub lsp : w.fill.lsp ≤ r.fill.lsp

-- the lists of the level as a pass finds them
abbrev pub lists_of : Run → List ℕ → Stand → Lists
lists_of run s w =
    record { lip = (held run.stretch s w.fill).lip; lis = (held run.stretch s w.fill).todo; lsp = (held run.stretch s w.fill).lsp }

-- what a pass makes
abbrev pub pass_of : Run → List ℕ → List ℕ → List ℕ → Stand → Course Chan
pass_of run body s out w =
    passed (family_of run) run.level.0 (side run s body) (lists_of run s w) (chan out (values_in run.stretch.n s) w.at.at)

-- Before a pass: there is room for it, and behind the stretch for all that will move out; nothing of LIS was visited, no word is too large to be
-- refined, the lists hold what is of the level, and bits that aren't there are 0.
pub record Fresh (run : Run) (body s out : List ℕ) (w : Stand) : Type 0 where
  pub proper : Proper run
  pub fits : Fits run.stretch s w.fill
  pub room : Room (family_of run) run.level.0 run.stretch.n w.fill.lsp 0 (held run.stretch s w.fill).lip
      (held run.stretch s w.fill).todo
  pub away : run.stretch.away + length (pass_of run body s out w).moved ≤ length s
  pub queue : Queued run 0 (held run.stretch s w.fill).todo
  pub olds : run.olds ≤ w.fill.left
  pub kept : w.fill.kept ≡ 0
  pub visited : w.fill.visited ≡ 0
  pub moved : w.fill.moved ≡ 0
  pub place : w.at.at ≡ run.from.at
  pub growth : reads run ≡ true → Growth run.stretch.first run.plane.0 (2 ^ 30) (values_in run.stretch.n s) (held run.stretch s w.fill).lsp
  pub placed : Placed (family_of run) run.level.0 (lists_of run s w)
  pub silent : Silent run body

-- A pass was run.
pub record Ran (run : Run) (body s out : List ℕ) (w : Stand) (s' out' : List ℕ) (r : Stand) : Type 0 where
  pub makes : course run.stretch s' out' r ≡ pass_of run body s out w
  pub fits : Fits run.stretch s' r.fill
  pub around : Around run r.fill.moved s s'
