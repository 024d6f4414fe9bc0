-- One part in the workspace: the level's stretch, and the next level's behind it, are lent to the pass.
use Rattle.std.specs.Prelude.{◌≡◌, List, true, false, cond, ℕ, ◌+◌, ◌-◌, ◌*◌, ◌/◌, ◌≤◌, ◌<◌, ◌^◌, leb, length, get_or}
use Rattle.rules.specs.declared.Size.{Size}
use Rattle.rules.specs.declared.Plane.{Plane}
use Rattle.rules.specs.declared.Level.{Level}
use Rattle.bits.specs.declared.BitPosition.{BitPosition}
use Rattle.rules.specs.Document.Pyramid.{legal_size, levels}
use Rattle.rules.specs.Document.Passes.{Course, passed, after}
use Rattle.rules.specs.Document.Calls.{level_places, work_for}
use Rattle.rules.specs.Laws.Family.Sizes.{span, level_start, level_size}
use Rattle.stretches.specs.Seg.{seg}
use Rattle.stretches.specs.Cut.{lis_from, values_in, maxima_in, stretch_of}
use Rattle.stretches.specs.Workspace.{Words}
use Rattle.lists.specs.declared.Stretch.{Stretch}
use Rattle.lists.specs.declared.Role.{Role}
use Rattle.testing.specs.declared.Run.{Run}
use Rattle.testing.specs.declared.Stand.{Stand}
use Rattle.stretches.specs.Levels.{lent_to}
use Rattle.parts.specs.declared.Counts.{Counts}
use Rattle.parts.specs.declared.Passed.{Passed}
use Rattle.testing.specs.Exchange.{Chan, chan, family_of, side, reads, Silent}
use Rattle.passes.specs.Steps.{Fresh, Ran}
use Rattle.parts.specs.Standing.{count_at, with_sets, state_of, Agree, Ready, Marks}

-- what is lent to the pass of level k: its own stretch, and the next level's if there is one
abbrev pub lent_of : Size → ℕ → List ℕ → List ℕ
lent_of z k work = seg (4 * level_start z k) (lent_to z k - 4 * level_start z k) work

-- the stretch of level k, by how full the lists are: what moves out goes behind the sets of the next level's LIS
unfoldable pub away_for : Size → ℕ → Counts → ℕ
away_for z k counts = cond (leb 2 k) (4 * level_size z k + lis_from (level_size z (k - 1)) + (count_at counts (k - 1)).lis) (4 * level_size z k)

abbrev pub stretch_for : Role → Size → ℕ → Counts → Stretch
stretch_for role z k counts = record { role = role; n = level_size z k; first = level_start z k; away = away_for z k counts }

-- the counts with sets that came to the LIS of the level after k
unfoldable pub with_moved : Counts → ℕ → ℕ → Counts
with_moved c k moved = cond {A = Counts} (leb 2 k) (with_sets c (k - 1) moved) c

-- sets to be counted to the LIS of the level after k
pub record Counting (counts : Counts) (k : Level) (moved : ℕ) : Type 0 where
  pub coarser : 1 ≤ k.0
  pub level : k.0 ≤ level_places
  pub few : (count_at counts (k.0 - 1)).lis + moved < 2 ^ 32

pub record Cutting (z : Size) (k : Level) (counts : Counts) : Type 0 where
  pub legal : legal_size z ≡ true
  pub coarser : 1 ≤ k.0
  pub level : k.0 ≤ levels z
  pub few : (count_at counts (k.0 - 1)).lis < 2 ^ 32

-- the level's stretch and the next, lent to the pass
pub record Lending (run : Run) (body work out : List ℕ) (w : Stand) : Type 0 where
  pub room : work_for run.z ≤ length work
  pub size : run.stretch.n ≡ level_size run.z run.level.0
  pub fresh : Fresh run body (lent_of run.z run.level.0 work) out w

pub record Lent (run : Run) (body work out : List ℕ) (w : Stand) (work' out' : List ℕ) (r : Stand) : Type 0 where
  pub ran : Ran run body (lent_of run.z run.level.0 work) out w (lent_of run.z run.level.0 work') out' r
  pub before : (i : ℕ) → i < 4 * level_start run.z run.level.0 → get_or work' i 0 ≡ get_or work i 0
  pub behind : (i : ℕ) → lent_to run.z run.level.0 ≤ i → get_or work' i 0 ≡ get_or work i 0
  pub same : length work' ≡ length work

-- a part
abbrev pub run_of : Role → Size → Plane → Level → Counts → BitPosition → BitPosition → Run
run_of role z plane level counts from until =
    record {
      z = z;
      plane = plane;
      level = level;
      stretch = stretch_for role z level.0 counts;
      parents = span z (level.0 + 1);
      elders = span z (level.0 + 2);
      olds = (count_at counts level.0).lis;
      from = from;
      until = until;
    }

pub record Running (run : Run) (body work : List ℕ) (counts : Counts) (out : List ℕ) : Type 0 where
  pub ready : Ready run.z run.plane run.level work counts
  pub runs : run ≡ run_of run.stretch.role run.z run.plane run.level counts run.from run.until
  pub place : run.from.at + 4 * level_size run.z run.level.0 < 2 ^ 62
  pub words : reads run ≡ true → Words run.z (2 ^ 29) work
  pub marks : Marks run.stretch.role run.z work counts
  pub silent : Silent run body

-- what the pass makes of the level's lists, its values and the output
abbrev pub course_in : Run → List ℕ → List ℕ → Counts → List ℕ → Course Chan
course_in run body work counts out =
    passed (family_of run) run.level.0 (side run (stretch_of run.z run.level.0 work) body) (state_of run.z work counts run.level.0)
    (chan out (values_in (level_size run.z run.level.0) (stretch_of run.z run.level.0 work)) run.from.at)

-- The part was run: lists, values of the level and output are what its pass makes of them; the values of other levels, by the coder those of its own
-- too, and all maxima are as they were.
pub record PartRun (run : Run) (body work : List ℕ) (counts : Counts) (out : List ℕ) (r : Passed) (work' out' : List ℕ) : Type 0 where
  pub lists : Agree (state_of run.z work' r.counts) (after run.level.0 (course_in run body work counts out) (state_of run.z work counts))
  pub same : length work' ≡ length work
  pub side : chan out' (values_in (level_size run.z run.level.0) (stretch_of run.z run.level.0 work')) r.at.at
      ≡ (course_in run body work counts out).side
  pub words : (j i : ℕ) → 1 ≤ j → j ≤ levels run.z → (j ≡ run.level.0 → reads run ≡ false) → i < level_size run.z j
      → get_or (stretch_of run.z j work') i 0 ≡ get_or (stretch_of run.z j work) i 0
  pub maxima : (j i : ℕ) → 1 ≤ j → j ≤ run.z.n → i < level_size run.z j / 4
      → get_or (maxima_in (level_size run.z j) (stretch_of run.z j work')) i 0
      ≡ get_or (maxima_in (level_size run.z j) (stretch_of run.z j work)) i 0
  pub marks : Marks run.stretch.role run.z work' r.counts
