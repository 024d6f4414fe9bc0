-- A part as the code runs it: what it asks for, step by step, and what comes of it.
use mathlib.Core.Path.{◌≡◌, refl, sym, ap, ap₂, ◌∙◌, subst}
use mathlib.Core.List.{List}
use mathlib.Core.Bool.{true, true≢false}
use Prim.Native.Nat.{ℕ, ◌+◌, ◌-◌, ◌*◌, ◌≤◌, ◌<◌, ◌^◌}
use native.Mathlib.Omega.{arith}
use native.Mathlib.Decide.{dec_le}
use lib.ListN.{get_or}
use borrow.Author.Tests.{le-leb, lt-leb}
use Rattle.rules.specs.declared.Size.{Size}
use Rattle.rules.specs.declared.Plane.{Plane}
use Rattle.rules.specs.declared.Level.{Level}
use Rattle.bits.specs.declared.BitPosition.{BitPosition}
use Rattle.rules.specs.Document.Pyramid.{legal_size, levels}
use Rattle.rules.specs.Document.Numbers.{most_bits}
use Rattle.rules.specs.Document.Calls.{level_places}
use Rattle.rules.specs.Laws.Family.Sizes.{level_start, level_size}
use Rattle.rules.proofs.Laws.Family.Sizes.{legal, area_bound}
use Rattle.stretches.specs.Cut.{lis_from}
use Rattle.lists.specs.declared.Stretch.{Stretch}
use Rattle.lists.specs.declared.Fill.{Fill}
use Rattle.lists.specs.Lists.{sets_few}
use Rattle.lists.specs.Besides.{marked_none}
use Rattle.lists.specs.declared.Role.{Role}
use Rattle.lists.specs.declared.Role.TheVariants.{Codes, Reads}
use Rattle.testing.specs.declared.Run.{Run}
use Rattle.testing.specs.declared.Stand.{Stand}
use Rattle.parts.specs.declared.Counts.{Counts}
use Rattle.parts.specs.declared.Passed.{Passed}
use Rattle.testing.specs.Exchange.{Silent}
use Rattle.parts.specs.Standing.{unlisted, count_at, Places, fill_of, with_lists, Ready, ReadyToCode, PartCoded, ReadyToDecode, Quiet, PartDecoded}
use Rattle.parts.specs.Workspace.{away_for, stretch_for, with_moved, Counting, Cutting, Lending, Lent, run_of, Running, PartRun}
use Rattle.stretches.specs.Levels.{stretch_room, stretch_length}
use Rattle.parts.proofs.Parts.{level_fits, part_lending}
use Rattle.parts.proofs.Left.{part_run, more_fits}
use Rattle.parts.proofs.Coding.{coded_part}
use Rattle.parts.proofs.Decoding.{decoded_part_lem}

size_under : (z : Size) (k : ℕ) → legal_size z ≡ true → 1 ≤ k → k ≤ levels z → level_size z k < 2 ^ 31
size_under z k e a b = omega (arith, stretch_room z (legal z e) k a b, area_bound z e)

-- how many coefficients a level has, and the next
module _ {z : Size} {k : Level} {counts : Counts} (C : Cutting z k counts) where
  pub cut_under : level_size z k.0 < 2 ^ 31
  cut_under = size_under z k.0 C.legal C.coarser C.level

  pub next_under : 2 ≤ k.0 → level_size z (k.0 - 1) < 2 ^ 31
  next_under h = size_under z (k.0 - 1) C.legal (omega arith) (omega (arith, C.level))

-- the stretch of a level, as the code makes it
module _ (role : Role) (z : Size) (k : ℕ) (counts : Counts) {n away : ℕ} (e : n ≡ level_size z k) where
  pub first_away : k < 2 → away ≡ 4 * n → away ≡ away_for z k counts
  unfolding away_for
  first_away h i = rw (lt-leb 2 k h) (i ∙ ap (λ (x : ℕ). 4 * x) e)

  pub next_away : {m : ℕ} {f : Fill} → 2 ≤ k → m ≡ level_size z (k - 1) → f ≡ fill_of counts (k - 1) → away ≡ 4 * n + lis_from m + f.left
      → away ≡ away_for z k counts
  unfolding away_for
  next_away {m} {f} h i j g =
      rw (le-leb 2 k h)
      (g ∙ ap₂ (λ (x y : ℕ). 4 * x + lis_from y + f.left) e i
      ∙ ap (λ (x : Fill). 4 * level_size z k + lis_from (level_size z (k - 1)) + x.left) j)

  pub stretch_is : {first : ℕ} → first ≡ level_start z k → away ≡ away_for z k counts
      → ◌≡◌ {A = Stretch} (record { role = role; n = n; first = first; away = away }) (stretch_for role z k counts)
  stretch_is d a = cc

-- the part of a run
module _ {run : Run} {body work out : List ℕ} {counts : Counts} (H : Running run body work counts out) where
  abbrev k : ℕ
  k = run.level.0

  pub running_few : (1 ≤ k) × (k ≤ level_places)
  running_few = (H.ready.coarser, omega (arith, H.ready.level, (legal run.z H.ready.legal).few))

  pub running_lends : {f : Fill} → f ≡ fill_of counts k → Lending run body work out (record { fill = f; at = run.from })
  running_lends {f} e =
      subst (λ x. Lending x body work out (record { fill = f; at = run.from })) (sym H.runs)
      (part_lending run.stretch.role H.ready run.from run.until H.place H.words H.marks body out
      (subst (λ x. Silent x body) H.runs H.silent) e)

  module _ (six : Places counts) {f : Fill} (e : f ≡ fill_of counts k) {work₁ out₁ : List ℕ} {r : Stand}
      (T : Lent run body work out (record { fill = f; at = run.from }) work₁ out₁ r) {own : Counts} (i : own ≡ with_lists counts k r.fill) where
    lent_run : Lent (run_of run.stretch.role run.z run.plane run.level counts run.from run.until) body work out
        (record { fill = fill_of counts k; at = run.from }) work₁ out₁ r
    lent_run =
        subst (λ x. Lent x body work out (record { fill = fill_of counts k; at = run.from }) work₁ out₁ r) H.runs
        (subst (λ g. Lent run body work out (record { fill = g; at = run.from }) work₁ out₁ r) e T)

    pub running_more : Counting own run.level r.fill.moved
    running_more =
        record {
          coarser = running_few.0;
          level = running_few.1;
          few = rw i (more_fits run.stretch.role H.ready run.from run.until six lent_run);
        }

    pub running_done : {p : Passed} → p.counts ≡ with_moved own k r.fill.moved → p.at ≡ r.at → PartRun run body work counts out p work₁ out₁
    running_done {p} g h =
        subst (λ x. PartRun x body work counts out p work₁ out₁) (sym H.runs)
        (part_run run.stretch.role H.ready run.from run.until six lent_run H.marks (g ∙ ap (λ x. with_moved x k r.fill.moved) i) h)

-- A part that is coded or decoded can be cut and run.
module _ {z : Size} {plane : Plane} {level : Level} {work : List ℕ} {counts : Counts} (D : Ready z plane level work counts) where
  few : (j : ℕ) → 1 ≤ j → j ≤ levels z → (count_at counts j).lis < 2 ^ 32
  few j a b =
      omega (arith, sets_few (level_size z j) (count_at counts j).lis (omega (arith, (level_fits D j a b).visits)), size_under z j D.legal a b)

  pub ready_cuts : Cutting z level counts
  ready_cuts = record { legal = D.legal; coarser = D.coarser; level = D.level; few = by (dec_le 2 level.0) }
    where
      by : Dec (2 ≤ level.0) → (count_at counts (level.0 - 1)).lis < 2 ^ 32
      by (yes h) = few (level.0 - 1) (omega arith) (omega (arith, D.level))
      by (no h) =
          let same : level.0 - 1 - 1 ≡ level.0 - 1 = omega (arith, D.coarser) in
          omega (arith, ap (λ (i : ℕ). (get_or counts.levels i unlisted).lis) same, few level.0 D.coarser D.level)

  part_place : (at : ℕ) → at + most_bits z < 2 ^ 61 → at + 4 * level_size z level.0 < 2 ^ 62
  part_place at h = omega (arith, h, stretch_room z (legal z D.legal) level.0 D.coarser D.level)

module _ {z : Size} {plane : Plane} {level : Level} {work : List ℕ} {counts : Counts} {run : Run} {body out : List ℕ} where
  pub coding_runs : {at : BitPosition} → ReadyToCode z plane level work counts at → run ≡ run_of Codes z plane level counts at at
      → Running run body work counts out
  coding_runs {at} C e =
      subst (λ x. Running x body work counts out) (sym e)
      (record {
        ready = C.ready;
        runs = refl;
        place = part_place C.ready at.at C.place;
        words = λ h. absurd (true≢false (sym h));
        marks = C.marks;
        silent = record { bits = λ h. absurd (true≢false (sym h)) };
      })

  pub decoding_runs : {until : BitPosition} → ReadyToDecode z plane level work counts × Quiet body until
      → run ≡ run_of Reads z plane level counts (record { at = 0 }) until → Running run body work counts out
  decoding_runs (D, Q) e =
      subst (λ x. Running x body work counts out) (sym e)
      (record {
        ready = D.ready;
        runs = refl;
        place = part_place D.ready 0 (omega (arith, area_bound z D.ready.legal));
        words = λ h. D.words;
        marks = record { lips = λ k i a b h. marked_none refl };
        silent = record { bits = λ h. Q.bits };
      })

  module _ {work' out' : List ℕ} {r : Passed} where
    pub coding_done : {at : BitPosition} → ReadyToCode z plane level work counts at → run ≡ run_of Codes z plane level counts at at
        → PartRun run body work counts out r work' out' → PartCoded z plane level work counts out at r work' out'
    coding_done {at} C e P =
        coded_part z (legal z C.ready.legal) plane level counts at work C.ready.coarser
        (subst (λ x. PartRun x body work counts out r work' out') e P) C.ready

    pub decoding_done : {until : BitPosition} → ReadyToDecode z plane level work counts × Quiet body until
        → run ≡ run_of Reads z plane level counts (record { at = 0 }) until
        → PartRun run body work counts out r work' out' → PartDecoded body until z plane level work counts r work'
    decoding_done {until} (D, Q) e P =
        let Z = legal z D.ready.legal in
        decoded_part_lem z Z plane level counts work until D.ready.coarser
        (subst (λ x. PartRun x body work counts out r work' out') e P) D
        (omega (arith, stretch_length z Z work level.0 D.ready.coarser D.ready.level D.ready.room))
