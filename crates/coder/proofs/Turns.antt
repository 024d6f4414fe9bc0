-- The loops over a plane's levels and over the planes: what is left to write now makes what was to write at entry.
use mathlib.Core.Path.{◌≡◌, refl, sym, ap, subst, ◌∙◌}
use mathlib.Core.List.{List, [], ◌∷◌, ◌++◌}
use Prim.Native.Nat.{ℕ, suc, ◌+◌, ◌-◌, ◌*◌, ◌≤◌, ◌<◌}
use native.Mathlib.Omega.{arith}
use lib.ListN.{length}
use lib.IntN.{ℤ}
use Rattle.rules.specs.declared.Size.{Size}
use Rattle.rules.specs.declared.Plane.{Plane}
use Rattle.rules.specs.declared.Level.{Level}
use Rattle.rules.specs.Document.Pyramid.{levels, most_planes}
use Rattle.rules.specs.Document.Passes.{PartName, parts_of_plane, part_names}
use Rattle.rules.specs.Document.Calls.{level_places}
use Rattle.rules.proofs.Laws.Family.Sizes.{legal}
use Rattle.stretches.specs.Workspace.{Holds}
use Rattle.parts.specs.declared.Counts.{Counts}
use Rattle.parts.specs.Standing.{named}
use Rattle.coder.specs.declared.Progress.{Progress}
use Rattle.coder.specs.Writing.{Holding, Stage, stage_of, through, Going, Due, Reached}
use Rattle.coder.proofs.Stages.{through_append, through_length, going_onward, going_plane, going_fewer}

module _ (z : Size) where
  -- At the stage x, with m parts at most to come, the parts `left` make what `all` make of the stage x₀.
  pub record Left (work₀ : List ℕ) (x₀ : Stage) (all : List PartName) (work : List ℕ) (counts : Counts) (x : Stage) (left : List PartName) (m : ℕ)
      : Type 0 where
    pub holding : Holding z work counts
    pub going : Going z m x
    pub holds : (v : List ℤ) → Holds z v work₀ → Holds z v work
    pub makes : (v : List ℤ) → Holds z v work₀ → through v z left x ≡ through v z all x₀
    pub room : length x.out ≡ length x₀.out
    pub same : length work ≡ length work₀

  left_all : {work : List ℕ} {counts : Counts} {x : Stage} (all : List PartName) {m : ℕ} → Holding z work counts → Going z m x
      → Left work x all work counts x all m
  left_all all h g = record { holding = h; going = g; holds = λ v i. i; makes = λ v i. refl; room = refl; same = refl }

  module _ {work₀ : List ℕ} {x₀ : Stage} {all : List PartName} where
    -- At the end nothing is left.
    pub left_none : {work out : List ℕ} {p : Progress} {m : ℕ} (left : List PartName) → left ≡ []
        → Left work₀ x₀ all work p.counts (stage_of z work p out) left m → Reached z all work₀ x₀ p work out
    unfolding through
    left_none {work} {out} {p} left e l =
        record {
          same = l.same;
          stage = λ v i. ap (λ names. through v z names (stage_of z work p out)) (sym e) ∙ l.makes v i;
          holds = l.holds;
          marks = l.holding.marks;
        }

    module _ {work work' out' : List ℕ} {p : Progress} {counts : Counts} {x : Stage} {left : List PartName} {m : ℕ}
        (l : Left work₀ x₀ all work counts x left m) where
      -- Some of what was left is written.
      left_less : (ps rest : List PartName) (fewer : ℕ) → left ≡ ps ++ rest → Going z fewer (through l.holding.pyramid z ps x)
          → Reached z ps work x p work' out' → Left work₀ x₀ all work' p.counts (stage_of z work' p out') rest fewer
      left_less ps rest fewer e g r =
          let v : List ℤ = l.holding.pyramid in
          let reached : stage_of z work' p out' ≡ through v z ps x = r.stage v l.holding.holds in
          record {
            holding =
                record {
                  legal = l.holding.legal;
                  room = omega (arith, l.holding.room, r.same);
                  pyramid = v;
                  holds = r.holds v l.holding.holds;
                  marks = r.marks;
                };
            going = subst (Going z fewer) (sym reached) g;
            holds = λ u i. r.holds u (l.holds u i);
            makes =
                λ u i.
                ap (through u z rest) (r.stage u (l.holds u i)) ∙ sym (through_append u z ps rest x)
                ∙ ap (λ names. through u z names x) (sym e) ∙ l.makes u i;
            room = ap (λ y. length y.out) reached ∙ through_length v z ps x ∙ l.room;
            same = r.same ∙ l.same;
          }

  -- write_plane: the levels of plane n up to k are left.
  pub record LevelsLeft (n : Plane) (work₀ : List ℕ) (x₀ : Stage) (k : ℕ) (work : List ℕ) (counts : Counts) (x : Stage) : Type 0 where
    pub plane : n.0 < most_planes
    pub level : k ≤ levels z
    pub left : Left work₀ x₀ (parts_of_plane n.0 (levels z)) work counts x (parts_of_plane n.0 k) k

  pub levels_begin : {n : Plane} {work : List ℕ} {counts : Counts} {x : Stage} (k : ℕ) → k ≡ levels z → Holding z work counts → n.0 < most_planes
      → Going z level_places x → LevelsLeft n work x k work counts x
  levels_begin {n} k e h a g =
      record {
        plane = a;
        level = omega arith;
        left = rw e (left_all (parts_of_plane n.0 (levels z)) h (going_fewer (levels z) (omega (arith, (legal z h.legal).few)) g));
      }

  module _ {n : Plane} {work₀ : List ℕ} {x₀ : Stage} where
    pub levels_due : {work : List ℕ} {counts : Counts} {x : Stage} (k : Level) → 0 < k.0 → LevelsLeft n work₀ x₀ k.0 work counts x
        → Due z n k work counts x
    levels_due k b l =
        record { holding = l.left.holding; plane = l.plane; coarser = b; level = l.level; going = going_fewer 1 b l.left.going }

    pub levels_turn : {work work' out' : List ℕ} {p : Progress} {counts : Counts} {x : Stage} (k : Level) → 0 < k.0
        → LevelsLeft n work₀ x₀ k.0 work counts x → Reached z (named n k ∷ []) work x p work' out'
        → LevelsLeft n work₀ x₀ (k.0 - 1) work' p.counts (stage_of z work' p out')
    unfolding through parts_of_plane
    levels_turn {x = x} k b l r =
        let e : suc (k.0 - 1) ≡ k.0 = omega arith in
        let h : _ = l.left.holding in
        let next : List PartName = parts_of_plane n.0 (k.0 - 1) in
        let split : parts_of_plane n.0 k.0 ≡ named n k ∷ next =
        ap (parts_of_plane n.0) (sym e) ∙ ap (λ (i : ℕ). record { plane = n.0; level = i } ∷ next) e in
        let g = going_onward h.pyramid z h.legal (subst (λ (i : ℕ). Going z i x) (sym e) l.left.going) (named n k)
        (record { from1 = b; up_to = l.level }) l.plane in
        record { plane = l.plane; level = omega (arith, l.level); left = left_less l.left (named n k ∷ []) next (k.0 - 1) split g r }

    pub levels_end : {work out : List ℕ} {p : Progress} (k : ℕ) → k ≤ 0 → LevelsLeft n work₀ x₀ k work p.counts (stage_of z work p out)
        → Reached z (parts_of_plane n.0 (levels z)) work₀ x₀ p work out
    unfolding parts_of_plane
    levels_end k b l = let e : k ≡ 0 = omega arith in left_none (parts_of_plane n.0 k) (ap (parts_of_plane n.0) e) l.left

  -- write_planes: the n lowest planes are left.
  pub record PlanesLeft (planes : ℕ) (work₀ : List ℕ) (x₀ : Stage) (n : ℕ) (work : List ℕ) (counts : Counts) (x : Stage) : Type 0 where
    pub few : n ≤ most_planes
    pub left : Left work₀ x₀ (part_names (levels z) planes) work counts x (part_names (levels z) n) (level_places * n)

  pub planes_begin : {planes : ℕ} {work : List ℕ} {counts : Counts} {x : Stage} → Holding z work counts → planes ≤ most_planes
      → Going z (level_places * planes) x → PlanesLeft planes work x planes work counts x
  planes_begin {planes} h a g = record { few = a; left = left_all (part_names (levels z) planes) h g }

  module _ {planes : ℕ} {work₀ : List ℕ} {x₀ : Stage} where
    pub planes_due : {work : List ℕ} {counts : Counts} {x : Stage} (n : ℕ) → 0 < n → PlanesLeft planes work₀ x₀ n work counts x
        → Holding z work counts × (n - 1 < most_planes) × Going z level_places x
    planes_due n b l = (l.left.holding, omega (arith, l.few), going_fewer level_places (omega arith) l.left.going)

    pub planes_turn : {work work' out' : List ℕ} {p : Progress} {counts : Counts} {x : Stage} (n : ℕ) → 0 < n
        → PlanesLeft planes work₀ x₀ n work counts x → Reached z (parts_of_plane (n - 1) (levels z)) work x p work' out'
        → PlanesLeft planes work₀ x₀ (n - 1) work' p.counts (stage_of z work' p out')
    unfolding part_names
    planes_turn {x = x} n b l r =
        let below : ℕ = n - 1 in
        let e : n ≡ suc below = omega arith in
        let h : _ = l.left.holding in
        let g = going_plane h.pyramid z h.legal {m = level_places * below} below (levels z) (omega (arith, l.few)) (omega arith) x
        (going_fewer (levels z + level_places * below) (omega (arith, (legal z h.legal).few)) l.left.going) in
        record {
          few = omega (arith, l.few);
          left =
              left_less l.left (parts_of_plane below (levels z)) (part_names (levels z) below) (level_places * below) (ap (part_names (levels z)) e) g r;
        }

    pub planes_end : {work out : List ℕ} {p : Progress} (n : ℕ) → n ≤ 0 → PlanesLeft planes work₀ x₀ n work p.counts (stage_of z work p out)
        → Reached z (part_names (levels z) planes) work₀ x₀ p work out
    unfolding part_names
    planes_end n b l = let e : n ≡ 0 = omega arith in left_none (part_names (levels z) n) (ap (part_names (levels z)) e) l.left
