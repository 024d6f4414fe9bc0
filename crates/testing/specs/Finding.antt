-- What the tests of single coefficients and their refinement ask for, and what they leave, in a level's stretch and in the output.
use Rattle.std.specs.Prelude.{◌≡◌, refl, List, [], true, false, ℕ, ◌+◌, ◌*◌, ◌≤◌, ◌<◌, ◌^◌, length, get_or}
use Rattle.std.proofs.Common.{sym, subst, arith}
use Rattle.bits.specs.declared.BitPosition.{BitPosition}
use Rattle.rules.specs.Document.Pyramid.{most_planes}
use Rattle.rules.specs.Document.Passes.{Course, listing}
use Rattle.rules.specs.Laws.Pass.Steps.{tried_all, sharpened_all}
use Rattle.stretches.specs.Cut.{values_in, maxima_from}
use Rattle.lists.specs.declared.Stretch.{Stretch}
use Rattle.lists.specs.Lists.{Inside, coefficient, known, lip_at, lsp_at, Held, held, raised, Fits}
use Rattle.testing.specs.declared.Run.{Run}
use Rattle.testing.specs.declared.Stand.{Stand}
use Rattle.testing.specs.declared.Ends.{Ends}
use Rattle.testing.specs.Exchange.{Chan, chan, side, reads, Around, around_none}
use Rattle.testing.specs.Growing.{Growth}

-- where a pass stands: the lists that it has made so far, and its side
abbrev pub course_of : Held → Chan → Course Chan
course_of h x = record { lip = h.lip; lsp = h.lsp; lis = h.kept; moved = h.moved; side = x }

abbrev pub course : Stretch → List ℕ → List ℕ → Stand → Course Chan
course t s out w = course_of (held t s w.fill) (chan out (values_in t.n s) w.at.at)

-- the ends that a test moves, and where a pass stands once they are moved
abbrev pub ends_of : Stand → Ends
ends_of w = record { lip = w.fill.lip; lsp = w.fill.lsp; at = w.at }

abbrev pub moved_to : Stand → Ends → Stand
moved_to w e =
    record {
      fill = record {
        lip = e.lip;
        lsp = e.lsp;
        kept = w.fill.kept;
        visited = w.fill.visited;
        left = w.fill.left;
        moved = w.fill.moved;
      };
      at = e.at;
    }

-- m coefficients of the level wait behind LIP, and there is room for them.
pub record Testing (run : Run) (m : ℕ) (s : List ℕ) (w : Stand) : Type 0 where
  pub plane : run.plane.0 < most_planes
  pub size : run.stretch.n < 2 ^ 32
  pub fits : Fits run.stretch s (raised w.fill m)
  pub room : w.fill.lip + w.fill.lsp + m ≤ run.stretch.n
  pub place : w.at.at + 2 * m < 2 ^ 62
  pub inside : (i : ℕ) → i < m → Inside run.stretch (coefficient (lip_at run.stretch.n (w.fill.lip + i) s))

-- The coefficients ps were tested. What lies ahead in LIP, what was in LSP, and the sets are as they were.
pub record Tested (run : Run) (body : List ℕ) (ps s out : List ℕ) (w : Stand) (s' out' : List ℕ) (r : Stand) : Type 0 where
  pub makes : course run.stretch s' out' r ≡ tried_all (listing (side run s body)) ps (course run.stretch s out w)
  pub todo : (held run.stretch s' r.fill).todo ≡ (held run.stretch s w.fill).todo
  pub fits : Fits run.stretch s' r.fill
  pub around : Around run w.fill.moved s s'
  pub ahead : (i : ℕ) → w.fill.lip + length ps ≤ i → i < run.stretch.n → lip_at run.stretch.n i s' ≡ lip_at run.stretch.n i s
  pub known : (m : ℕ) → m ≤ w.fill.lsp → known run.stretch.n m s' ≡ known run.stretch.n m s
  pub visited : r.fill.visited ≡ w.fill.visited
  pub left : r.fill.left ≡ w.fill.left
  pub kept : r.fill.kept ≡ w.fill.kept
  pub moved : r.fill.moved ≡ w.fill.moved
  pub both : r.fill.lip + r.fill.lsp ≡ w.fill.lip + w.fill.lsp + length ps
  pub lip : w.fill.lip ≤ r.fill.lip
  pub lsp : w.fill.lsp ≤ r.fill.lsp
  pub place : r.at.at ≤ w.at.at + 2 * length ps

-- the same stand, by another name
pub stood : {run : Run} {body ps s out s' out' : List ℕ} {w r v : Stand} → r ≡ v → Tested run body ps s out w s' out' v → Tested run body ps s out w s' out' r
stood {run} {body} {ps} {s} {out} {s'} {out'} {w} e T = subst (λ x. Tested run body ps s out w s' out' x) (sym e) T

-- none tested
pub tested_none : (run : Run) (body s out : List ℕ) (w : Stand) → Fits run.stretch s w.fill → Tested run body [] s out w s out w
unfolding tried_all
tested_none run body s out w h =
    record {
      makes = refl;
      todo = refl;
      fits = h;
      around = around_none run w.fill.moved s;
      ahead = λ i a b. refl;
      known = λ m a. refl;
      visited = refl;
      left = refl;
      kept = refl;
      moved = refl;
      both = omega arith;
      lip = omega arith;
      lsp = omega arith;
      place = omega arith;
    }

-- Entries of LSP are to be refined.
pub record Refining (run : Run) (m : ℕ) (s : List ℕ) (at : BitPosition) : Type 0 where
  pub plane : run.plane.0 < most_planes
  pub size : run.stretch.n < 2 ^ 32
  pub room : 4 * run.stretch.n ≤ length s
  pub few : m ≤ run.stretch.n
  pub place : at.at + m < 2 ^ 62
  pub growth : reads run ≡ true → Growth run.stretch.first run.plane.0 (2 ^ 30) (values_in run.stretch.n s) (known run.stretch.n m s)
  pub inside : (i : ℕ) → i < m → Inside run.stretch (coefficient (lsp_at run.stretch.n i s))

-- The coefficients ps were refined: nothing but values has changed.
pub record Refined (run : Run) (body : List ℕ) (ps s out : List ℕ) (at : BitPosition) (s' out' : List ℕ) (r : BitPosition) : Type 0 where
  pub makes : chan out' (values_in run.stretch.n s') r.at ≡ sharpened_all (side run s body) ps (chan out (values_in run.stretch.n s) at.at)
  pub place : r.at ≡ at.at + length ps
  pub long : length s' ≡ length s
  pub values : reads run ≡ false → (i : ℕ) → i < run.stretch.n → get_or s' i 0 ≡ get_or s i 0
  pub others : (i : ℕ) → run.stretch.n ≤ i → get_or s' i 0 ≡ get_or s i 0

pub around_refined : {run : Run} {body ps s out : List ℕ} {at : BitPosition} {s' out' : List ℕ} {r : BitPosition} (m : ℕ)
    → Refined run body ps s out at s' out' r → 4 * run.stretch.n ≤ run.stretch.away → Around run m s s'
unfolding maxima_from
around_refined m R b =
    record { long = R.long; values = R.values; others = λ i h k. R.others i (omega arith); rest = λ i h. R.others i (omega arith) }
