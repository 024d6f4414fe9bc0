-- A part: the level's lists are such that its pass can begin, and what the pass leaves is what the part leaves.
use mathlib.Core.Path.{◌≡◌, refl, sym, ap, ap₂, ◌∙◌, subst}
use mathlib.Core.List.{List, [], ◌∷◌}
use mathlib.Core.Bool.{Bool, true, false, cond}
use Prim.Native.Nat.{ℕ, suc, ◌+◌, ◌-◌, ◌*◌, ◌/◌, ◌≤◌, ◌<◌, ◌^◌}
use native.Mathlib.Nat.{mul-le-mul_left}
use native.Mathlib.Omega.{arith}
use native.Mathlib.Decide.{dec_le}
use lib.Dec.{leb}
use lib.ListN.{length, get_or}
use lib.Pow.{pow_mono}
use borrow.Author.Tests.{le-leb, lt-leb, lt-ltb}
use Rattle.rules.specs.declared.Size.{Size}
use Rattle.rules.specs.declared.Plane.{Plane}
use Rattle.rules.specs.declared.Level.{Level}
use Rattle.bits.specs.declared.BitPosition.{BitPosition}
use Rattle.rules.specs.Document.Pyramid.{levels}
use Rattle.rules.specs.Document.Passes.{Entry, typeA, typeB, in_level, State, Side, passed}
use Rattle.rules.specs.Laws.Counting.Sums.{sum, is, All}
use Rattle.rules.proofs.Laws.Counting.Sums.{all_then}
use Rattle.rules.specs.Laws.Family.Sizes.{level_start, level_size}
use Rattle.rules.proofs.Laws.Family.Sizes.{legal, area_bound}
use Rattle.rules.specs.Laws.Pass.Levels.{Settled, Placed}
use Rattle.rules.proofs.Laws.Pass.Levels.{passed_level1}
use Rattle.rules.specs.Laws.Pass.Slots.{Room}
use Rattle.rules.proofs.Laws.Pass.Slots.{room_slots}
use Rattle.rules.specs.Promises.Vocabulary.{Legal}
use Rattle.trees.specs.Family.{trees}
use Rattle.trees.proofs.Lawful.{trees_lawful}
use Rattle.trees.proofs.Sound.{tree_part_room, tree_moved_room}
use Rattle.stretches.specs.Seg.{seg_at}
use Rattle.stretches.specs.Cut.{set_room, lip_from, lis_from, maxima_from, values_in, maxima_in, stretch_of}
use Rattle.stretches.specs.Levels.{size_some, stretch_room, next_start, stretch_length, lent_to, lent_next}
use Rattle.stretches.specs.Workspace.{Words}
use Rattle.lists.specs.declared.Stretch.{Stretch}
use Rattle.lists.specs.declared.Fill.{Fill}
use Rattle.lists.specs.Lists.{Marked, lip_at, lists_in, Held, held, Fits, lists_fit, sets_fit, sets_few, known_length, todo_length}
use Rattle.lists.specs.Lists.{held_begins, held_known}
use Rattle.lists.specs.Besides.{marked_none, marked_lent}
use Rattle.lists.specs.declared.Role.{Role}
use Rattle.lists.specs.declared.Role.TheVariants.{Reads}
use Rattle.testing.specs.declared.Run.{Run}
use Rattle.testing.specs.declared.Stand.{Stand}
use Rattle.testing.specs.Exchange.{Chan, chan, family_of, reads, side, side_kept, Silent}
use Rattle.testing.specs.Growing.{Growth}
use Rattle.passes.specs.Steps.{has_member, Queued, Fresh, lists_of, pass_of}
use Rattle.parts.specs.declared.Counts.{Counts}
use Rattle.parts.specs.Standing.{count_at, fill_of, lists_at, state_of, Ready, stretch_by, Marks}
use Rattle.parts.specs.Workspace.{lent_of, away_for, Lending, run_of, course_in}
use Rattle.parts.proofs.Nodes.{top_none}
use Rattle.parts.proofs.Workspace.{lent_fits, lent_inside, lent_length}
use Rattle.parts.proofs.States.{state_in, lists_agree}
use Rattle.parts.proofs.Growing.{sound_once, words_small}

-- Which sets have a member in the level is known where LIS holds what it began with.
queue_all : (run : Run) (b : Bool) → leb run.level.0 run.z.n ≡ b → (es : List Entry)
    → All (λ e. in_level (family_of run) run.level.0 e ≡ b) es → (v : ℕ) → v + length es ≤ run.olds → Queued run v es
unfolding All Queued has_member
queue_all run b e [] a v h = tt
queue_all run b e (typeA p ∷ es) a v h = (a.0 ∙ sym e, queue_all run b e es a.1 (suc v) (omega arith))
queue_all run b e (typeB p ∷ es) a v h =
    (a.0 ∙ rw (e, lt-ltb v run.olds (omega arith)) (by b), queue_all run b e es a.1 (suc v) (omega arith))
  where
    by : (b : Bool) → b ≡ cond b true false
    by true = refl
    by false = refl

-- the lists of a level, in the workspace
module _ {z : Size} {p : Plane} {l : Level} {work : List ℕ} {counts : Counts} (R : Ready z p l work counts) where
  Z : Legal z
  Z = legal z R.legal

  abbrev s : State
  s = state_of z work counts

  module _ (k : ℕ) (a : 1 ≤ k) (b : k ≤ levels z) where
    abbrev n : ℕ
    n = level_size z k

    abbrev t : List ℕ
    t = stretch_of z k work

    abbrev alone : Stretch
    alone = stretch_by Reads z k

    pub lists_are : lists_in n t (count_at counts k).lip (count_at counts k).lis (count_at counts k).lsp ≡ s k
    unfolding lists_at
    lists_are = sym (state_in z work counts k a b)

    pub level_room : Room (trees z) k n (length (s k).lsp) 0 (s k).lip (s k).lis
    level_room = tree_part_room z Z R.sound k a b

    pub level_fits : Fits alone t (fill_of counts k)
    level_fits =
        let r = level_room in
        let m = room_slots (trees_lawful z Z) r in
        let g = lists_are in
        let long = stretch_length z Z work k a b R.room in
        lists_fit alone t (count_at counts k).lip (count_at counts k).lis (count_at counts k).lsp (size_some z Z k a b)
        (omega (arith, long)) (omega arith) (omega (arith, long))
        (omega (arith, r.coefficients, ap (λ x. length x.lip) g))
        (omega (arith, m, ap (λ x. length x.lis) g))
        (omega (arith, r.coefficients, ap (λ x. length x.lsp) g)) (λ i h. marked_none refl)

    abbrev whole : Held
    whole = held alone t (fill_of counts k)

    level_begins : record { lip = whole.lip; lis = whole.todo; lsp = whole.lsp } ≡ s k
    level_begins = sym (held_begins alone t (fill_of counts k) refl) ∙ lists_are

    pub level_counts : (length (s k).lis ≡ (count_at counts k).lis) × (length (s k).lsp ≡ (count_at counts k).lsp)
    level_counts = (
      ap (λ x. length x.lis) (sym level_begins) ∙ todo_length alone t (fill_of counts k) level_fits,
      ap (λ x. length x.lsp) (sym level_begins) ∙ ap length (held_known alone t (fill_of counts k))
          ∙ known_length n (count_at counts k).lsp t level_fits.room level_fits.lsp,
    )

    -- each set has a member in the level, or none has
    pub level_queue : All (λ e. in_level (trees z) k e ≡ leb k z.n) (s k).lis
    level_queue = by (dec_le k z.n)
      where
        by : Dec (k ≤ z.n) → All (λ e. in_level (trees z) k e ≡ leb k z.n) (s k).lis
        by (yes l) = all_then _ _ (s k).lis (λ e m. m.there ∙ sym (le-leb k z.n l)) (R.sound.met k (omega arith))
        by (no l) =
            let e : levels z ≡ k = omega arith in
            let none = subst (λ (i : ℕ). (d : Entry) → Settled (trees z) i d → in_level (trees z) i d ≡ false) e (top_none z Z) in
            all_then _ _ (s k).lis (λ d m. none d m ∙ sym (lt-leb k z.n (omega arith))) (R.sound.placed k).sets

-- the pass of a part
module _ (role : Role) {z : Size} {plane : Plane} {level : Level} {work : List ℕ} {counts : Counts} (D : Ready z plane level work counts)
    (from until : BitPosition) where
  abbrev run : Run
  run = run_of role z plane level counts from until

  abbrev k : ℕ
  k = level.0

  abbrev a : 1 ≤ k
  a = D.coarser

  abbrev b : k ≤ levels z
  b = D.level

  L : Legal z
  L = legal z D.legal

  abbrev lent : List ℕ → List ℕ
  lent = lent_of z k

  abbrev begun : Stand
  begun = record { fill = fill_of counts k; at = from }

  -- where the sets go that move out
  pub away_first : k < 2 → run.stretch.away ≡ 4 * level_size z k
  unfolding away_for
  away_first h = rw (lt-leb 2 k h)

  pub away_next : 2 ≤ k → run.stretch.away ≡ 4 * level_size z k + lis_from (level_size z (k - 1)) + (count_at counts (k - 1)).lis
  unfolding away_for
  away_next h = rw (le-leb 2 k h)

  next_few : 2 ≤ k → (count_at counts (k - 1)).lis ≤ set_room (level_size z (k - 1))
  next_few h = omega (arith, (level_fits D (k - 1) (omega arith) (omega (arith, b))).visits)

  -- how long it is with the next level's
  pub lent_next_length : 2 ≤ k → lent_to z k ≡ 4 * level_start z k + 4 * level_size z k + 4 * level_size z (k - 1)
  lent_next_length h = omega (arith, lent_next z k h, next_start z L k h b)

  pass_behind : (4 * level_size z k ≤ run.stretch.away) × (run.stretch.away + 0 ≤ length (lent work))
  pass_behind = by (dec_le 2 k)
    where
      by : Dec (2 ≤ k) → (4 * level_size z k ≤ run.stretch.away) × (run.stretch.away + 0 ≤ length (lent work))
      by (yes h) =
          let few = sets_few (level_size z (k - 1)) (count_at counts (k - 1)).lis (next_few h) in
          let third : lis_from (level_size z (k - 1)) ≡ level_size z (k - 1) + level_size z (k - 1) + level_size z (k - 1) = unfold lis_from in refl in
          (omega (arith, away_next h), omega (arith, away_next h, lent_length z L k a b work D.room, lent_next_length h))
      by (no h) =
          (omega (arith, away_first (omega arith)), omega (arith, away_first (omega arith), lent_length z L k a b work D.room, (lent_fits z L k a b).0))

  -- the level's own stretch, number by number
  pub lent_own : (w : List ℕ) (i : ℕ) → i < 4 * level_size z k → get_or (lent w) i 0 ≡ get_or (stretch_of z k w) i 0
  unfolding stretch_of
  lent_own w i h =
      seg_at (4 * level_start z k) (lent_to z k - 4 * level_start z k) w i (omega (arith, (lent_fits z L k a b).0))
      ∙ sym (seg_at (4 * level_start z k) (4 * level_size z k) w i h)

  pub lent_lip : (w : List ℕ) (i : ℕ) → i < level_size z k → lip_at (level_size z k) i (lent w) ≡ lip_at (level_size z k) i (stretch_of z k w)
  unfolding lip_at lip_from
  lent_lip w i h = lent_own w (level_size z k + i) (omega arith)

  pass_fits : Marks role z work counts → Fits run.stretch (lent work) (fill_of counts k)
  pass_fits M =
      let f = level_fits D k a b in
      record {
        room = omega (arith, lent_length z L k a b work D.room, (lent_fits z L k a b).0);
        marked = λ i h.
            subst (Marked run.stretch (lent work)) (sym (lent_lip work i (omega (arith, f.lip))))
            (marked_lent (λ c j l. lent_own work j (omega arith)) (M.lips k i a b h));
        lip = f.lip;
        lsp = f.lsp;
        kept = f.kept;
        visits = f.visits;
        behind = pass_behind.0;
        moved = pass_behind.1;
      }

  -- what lies in the level's own stretch
  module _ (w : List ℕ) where
    pub values_lent : values_in (level_size z k) (lent w) ≡ values_in (level_size z k) (stretch_of z k w)
    unfolding values_in
    values_lent = lent_inside z L k a b w 0 (level_size z k) (omega arith)

    maxima_lent : maxima_in (level_size z k) (lent w) ≡ maxima_in (level_size z k) (stretch_of z k w)
    unfolding maxima_in maxima_from
    maxima_lent = lent_inside z L k a b w _ (level_size z k / 4) (omega arith)

    pub lists_lent : (lip lis lsp : ℕ) → lip ≤ level_size z k → lis ≤ set_room (level_size z k) → lsp ≤ level_size z k
        → lists_in (level_size z k) (lent w) lip lis lsp ≡ lists_in (level_size z k) (stretch_of z k w) lip lis lsp
    unfolding lis_from set_room
    lists_lent lip lis lsp g h i =
        lists_agree (level_size z k) (stretch_of z k w) (lent w) lip lis lsp g i (λ c m l e. lent_inside z L k a b w c m (omega arith))

  -- what the pass finds
  found : lists_of run (lent work) begun ≡ state_of z work counts k
  found =
      let f = level_fits D k a b in
      sym (held_begins run.stretch (lent work) (fill_of counts k) refl)
      ∙ lists_lent work (count_at counts k).lip (count_at counts k).lis (count_at counts k).lsp f.lip (omega (arith, f.visits)) f.lsp
      ∙ lists_are D k a b

  pub pass_is : (body out : List ℕ) → pass_of run body (lent work) out begun ≡ course_in run body work counts out
  pass_is body out =
      let t = stretch_of z k work in
      ap (λ C. passed (trees z) k C (lists_of run (lent work) begun) (chan out (values_in (level_size z k) (lent work)) from.at))
      (side_kept run t (lent work) (λ r. values_lent work) (maxima_lent work) body)
      ∙ ap₂ (λ l vs. passed (trees z) k (side run t body) l (chan out vs from.at)) found (values_lent work)

  -- What moves out has room in the next level, and nothing leaves level 1.
  module _ (C : Side Chan) (x : Chan) where
    pub moved_none : k < 2 → (passed (trees z) k C (state_of z work counts k) x).moved ≡ []
    moved_none h =
        let e : 1 ≡ k = omega (arith, a) in
        subst (λ (i : ℕ). Placed (trees z) i (state_of z work counts i) → (passed (trees z) i C (state_of z work counts i) x).moved ≡ []) e
        (passed_level1 (trees_lawful z L) C (state_of z work counts 1) x) (D.sound.placed k)

    pub moved_some : 2 ≤ k → (count_at counts (k - 1)).lis + length (passed (trees z) k C (state_of z work counts k) x).moved ≤ set_room (level_size z (k - 1))
    moved_some h =
        let j : ℕ = k - 1 in
        let i : suc j ≡ k = omega arith in
        let m = tree_moved_room z L D.sound j (omega arith) (omega (arith, b)) C x in
        let same = ap (λ (y : ℕ). length (passed (trees z) y C (state_of z work counts y) x).moved) i in
        sets_fit (level_size z j) _ (omega (arith, m, same, (level_counts D j (omega arith) (omega (arith, b))).0))

  moved_fits : (body out : List ℕ) → run.stretch.away + length (course_in run body work counts out).moved ≤ length (lent work)
  unfolding lis_from set_room
  moved_fits body out = by (dec_le 2 k)
    where
      C : Side Chan
      C = side run (stretch_of z k work) body

      x : Chan
      x = chan out (values_in (level_size z k) (stretch_of z k work)) from.at

      by : Dec (2 ≤ k) → run.stretch.away + length (course_in run body work counts out).moved ≤ length (lent work)
      by (yes h) = omega (arith, away_next h, lent_length z L k a b work D.room, lent_next_length h, moved_some C x h)
      by (no h) = omega (arith, ap length (moved_none C x (omega arith)), pass_behind.1)

  growth : Words z (2 ^ 29) work
      → Growth (level_start z k) plane.0 (2 ^ 30) (values_in (level_size z k) (lent work)) (state_of z work counts k).lsp
  growth W =
      let o : (q : ℕ) → sum (is q) (state_of z work counts k).lsp ≤ 1
      = λ q. omega (arith, sound_once z (state_of z work counts) D.sound k b q) in
      record {
        small = λ q.
            rw (values_lent work)
            (omega (
              arith,
              words_small z L k (2 ^ 29) a b work (omega (arith, stretch_length z L work k a b D.room)) W q,
              mul-le-mul_left (2 * 2 ^ plane.0) (o q),
              pow_mono {i = plane.0} {j = 16} (omega (arith, D.plane)),
            ));
        once = o;
      }

  module _ (place : from.at + 4 * level_size z k < 2 ^ 62) (words : reads run ≡ true → Words z (2 ^ 29) work) (marks : Marks role z work counts)
      (body out : List ℕ) (silent : Silent run body) where
    part_fresh : Fresh run body (lent work) out begun
    part_fresh =
        let n = level_counts D k a b in
        record {
          proper =
              record {
                legal = D.legal;
                plane = D.plane;
                coarser = a;
                level = b;
                size = omega (arith, stretch_room z L k a b, area_bound z D.legal);
                count = refl;
                first = refl;
                parents = refl;
                elders = refl;
                from = place;
              };
          fits = pass_fits marks;
          room =
              subst (λ x. Room (trees z) k (level_size z k) (count_at counts k).lsp 0 x.lip x.lis) (sym found)
              (rw (← n.1) (level_room D k a b));
          away = rw (pass_is body out) (moved_fits body out);
          queue =
              subst (λ x. Queued run 0 x.lis) (sym found)
              (queue_all run (leb k z.n) refl (state_of z work counts k).lis (level_queue D k a b) 0 (omega (arith, n.0)));
          olds = omega arith;
          kept = refl;
          visited = refl;
          moved = refl;
          place = refl;
          growth = λ r.
              subst (λ x. Growth (level_start z k) plane.0 (2 ^ 30) (values_in (level_size z k) (lent work)) x.lsp) (sym found)
              (growth (words r));
          placed = subst (Placed (trees z) k) (sym found) (D.sound.placed k);
          silent = silent;
        }

    pub part_lending : {f : Fill} → f ≡ fill_of counts k → Lending run body work out (record { fill = f; at = from })
    part_lending e =
        record {
          room = D.room;
          size = refl;
          fresh = subst (λ x. Fresh run body (lent work) out (record { fill = x; at = from })) (sym e) part_fresh;
        }
