-- What a pass leaves in the workspace is what its part leaves: the lists of its level and of the next, and all else as it was.
use mathlib.Core.Path.{◌≡◌, refl, sym, ap, ap₂, ◌∙◌, subst}
use mathlib.Core.List.{List, ◌++◌, map, append-nil}
use mathlib.Core.Bool.{false}
use mathlib.Core.Logic.{◌≢◌}
use Prim.Native.Nat.{ℕ, suc, ◌+◌, ◌-◌, ◌*◌, ◌/◌, ◌≤◌, ◌<◌, ◌^◌}
use native.Mathlib.Omega.{arith}
use native.Mathlib.Decide.{dec_le, dec_lt, ℕ_discrete}
use lib.ListN.{length, get_or}
use Rattle.rules.specs.declared.Size.{Size}
use Rattle.rules.specs.declared.Plane.{Plane}
use Rattle.rules.specs.declared.Level.{Level}
use Rattle.bits.specs.declared.BitPosition.{BitPosition}
use Rattle.rules.specs.Document.Pyramid.{levels}
use Rattle.rules.specs.Document.Passes.{State, Side, Course, own, handed, after}
use Rattle.rules.specs.Document.Calls.{level_places, work_for}
use Rattle.rules.specs.Laws.Family.Sizes.{level_start, level_size}
use Rattle.rules.proofs.Laws.Family.Sizes.{legal, area_bound}
use Rattle.rules.proofs.Laws.State.Weight.{after_own, after_next, after_other}
use Rattle.rules.specs.Promises.Vocabulary.{Legal}
use Rattle.stretches.specs.Seg.{seg, seg_same, seg_seg}
use Rattle.stretches.specs.Cut.{set_room, lip_from, lis_from, maxima_from, values_in, maxima_in, stretch_of, maxima_at}
use Rattle.stretches.specs.Levels.{stretch_room, next_start, level_before, stretch_at, stretch_length, lent_to, lent_next}
use Rattle.lists.specs.Lists.{Marked, lip_at, entry, sets, sets_few, moved_length, held_ends, held_moved}
use Rattle.lists.specs.Besides.{marked_lent, marks_kept}
use Rattle.lists.specs.declared.Role.{Role}
use Rattle.testing.specs.declared.Run.{Run}
use Rattle.testing.specs.declared.Stand.{Stand}
use Rattle.testing.specs.Exchange.{Chan, chan, reads, side}
use Rattle.testing.specs.Finding.{course}
use Rattle.parts.specs.declared.Counts.{Counts}
use Rattle.parts.specs.declared.Passed.{Passed}
use Rattle.parts.specs.Standing.{unlisted, count_at, Places, fill_of, with_lists, lists_at, state_of, Ready, stretch_by, Marks}
use Rattle.parts.specs.Workspace.{lent_of, with_moved, Lent, run_of, course_in, PartRun}
use Rattle.parts.proofs.Workspace.{Untouched, untouched}
use Rattle.parts.proofs.States.{state_in, state_out, state_same, lists_agree, lists_more}
use Rattle.parts.proofs.States.{own_same, own_other, counts_own, counts_other, counts_next, counts_lip}
use Rattle.parts.proofs.Parts.{level_fits, away_next, lent_own, lent_lip, values_lent, lists_lent, pass_is, moved_none, moved_some}

module _ (role : Role) {z : Size} {plane : Plane} {level : Level} {work : List ℕ} {counts : Counts} (D : Ready z plane level work counts)
    (from until : BitPosition) (six : Places counts) {body out work₁ out₁ : List ℕ} {r : Stand}
    (T : Lent (run_of role z plane level counts from until) body work out (record { fill = fill_of counts level.0; at = from }) work₁ out₁ r) where
  abbrev run : Run
  run = run_of role z plane level counts from until

  abbrev k : ℕ
  k = level.0

  abbrev a : 1 ≤ k
  a = D.coarser

  abbrev b : k ≤ levels z
  b = D.level

  L : Legal z
  L = legal z D.legal

  abbrev c : Course Chan
  c = course_in run body work counts out

  abbrev s : State
  s = state_of z work counts

  abbrev left : Counts
  left = with_moved (with_lists counts k r.fill) k r.fill.moved

  few : k ≤ level_places
  few = omega (arith, b, L.few)

  room : work_for z ≤ length work₁
  room = omega (arith, D.room, T.same)

  ran_course : course run.stretch (lent_of z k work₁) out₁ r ≡ c
  ran_course = T.ran.makes ∙ pass_is role D from until body out

  gone_count : length c.moved ≡ r.fill.moved
  gone_count = ap (λ x. length x.moved) (sym ran_course) ∙ moved_length run.stretch (lent_of z k work₁) r.fill T.ran.fits

  abbrev C : Side Chan
  C = side run (stretch_of z k work) body

  abbrev x₀ : Chan
  x₀ = chan out (values_in (level_size z k) (stretch_of z k work)) from.at

  -- how far the next level's LIS goes now
  gone_none : k < 2 → r.fill.moved ≡ 0
  gone_none h = sym gone_count ∙ ap length (moved_none role D from until C x₀ h)

  gone_some : 2 ≤ k → (count_at counts (k - 1)).lis + r.fill.moved ≤ set_room (level_size z (k - 1))
  gone_some h = omega (arith, moved_some role D from until C x₀ h, gone_count)

  U : Untouched run r.fill.moved work work₁
  U = untouched run D.legal a b refl D.room T

  -- what is as it was, level by level: all of those that are neither the level nor the next
  abbrev Same : ℕ → ℕ → Type 0
  Same j i = get_or (stretch_of z j work₁) i 0 ≡ get_or (stretch_of z j work) i 0

  same_at : (j i : ℕ) → i < 4 * level_size z j → get_or work₁ (4 * level_start z j + i) 0 ≡ get_or work (4 * level_start z j + i) 0 → Same j i
  same_at j i h e = stretch_at z L work₁ j i h ∙ e ∙ sym (stretch_at z L work j i h)

  other_same : (j : ℕ) → 1 ≤ j → j ≤ levels z → j ≢ k → suc j ≢ k → (i : ℕ) → i < 4 * level_size z j → Same j i
  other_same j u v d e i h = same_at j i h (by (dec_lt k j))
    where
      by : Dec (k < j) → get_or work₁ (4 * level_start z j + i) 0 ≡ get_or work (4 * level_start z j + i) 0
      by (yes l) = U.before _ (omega (arith, level_before z L j k a l v))
      by (no l) =
          U.rest _
          (omega (arith, U.ends, lent_next z k (omega arith), level_before z L (k - 1) j u (omega arith) (omega (arith, b))))

  -- the next level's, before the sets that came and behind them
  next_before_lem : 2 ≤ k → (i : ℕ) → i < lis_from (level_size z (k - 1)) + (count_at counts (k - 1)).lis → i < 4 * level_size z (k - 1) → Same (k - 1) i
  unfolding maxima_from
  next_before_lem h i l g =
      same_at (k - 1) i g (U.others _ (omega (arith, next_start z L k h b)) (omega (arith, next_start z L k h b, away_next role D from until h)))

  next_behind : 2 ≤ k → (i : ℕ) → lis_from (level_size z (k - 1)) + (count_at counts (k - 1)).lis + r.fill.moved ≤ i → i < 4 * level_size z (k - 1)
      → Same (k - 1) i
  next_behind h i l g = same_at (k - 1) i g (U.rest _ (omega (arith, next_start z L k h b, away_next role D from until h)))

  -- the level's own
  own_values : reads run ≡ false → (i : ℕ) → i < level_size z k → Same k i
  own_values e i h = same_at k i (omega arith) (U.values e _ (omega arith) (omega arith))

  own_maxima : (i : ℕ) → maxima_from (level_size z k) ≤ i → i < 4 * level_size z k → Same k i
  own_maxima i l h = same_at k i h (U.others _ (omega arith) (omega (arith, T.ran.fits.behind)))

  -- So are the words of other levels, by the coder those of its own too, and all maxima.
  words_same : (j i : ℕ) → 1 ≤ j → j ≤ levels z → (j ≡ k → reads run ≡ false) → i < level_size z j → Same j i
  unfolding lis_from
  words_same j i u v e h = by (ℕ_discrete j k) (ℕ_discrete (suc j) k)
    where
      by : Dec (j ≡ k) → Dec (suc j ≡ k) → Same j i
      by (yes d) g = subst (λ (y : ℕ). i < level_size z y → Same y i) (sym d) (own_values (e d) i) h
      by (no d) (yes g) =
          let n : k - 1 ≡ j = omega arith in
          subst (λ (y : ℕ). i < level_size z y → Same y i) n (λ l. next_before_lem (omega arith) i (omega arith) (omega arith)) h
      by (no d) (no g) = other_same j u v d g i (omega arith)

  maxima_same : (j i : ℕ) → 1 ≤ j → j ≤ z.n → i < level_size z j / 4
      → get_or (maxima_in (level_size z j) (stretch_of z j work₁)) i 0 ≡ get_or (maxima_in (level_size z j) (stretch_of z j work)) i 0
  unfolding lis_from maxima_from set_room
  maxima_same j i u v h =
      maxima_at (level_size z j) (stretch_of z j work₁) i h ∙ by (ℕ_discrete j k) (ℕ_discrete (suc j) k)
      ∙ sym (maxima_at (level_size z j) (stretch_of z j work) i h)
    where
      by : Dec (j ≡ k) → Dec (suc j ≡ k) → Same j (maxima_from (level_size z j) + i)
      by (yes d) g =
          subst (λ (y : ℕ). i < level_size z y / 4 → Same y (maxima_from (level_size z y) + i)) (sym d)
          (λ l. own_maxima _ (omega arith) (omega arith)) h
      by (no d) (yes g) =
          let n : k - 1 ≡ j = omega arith in
          let two : 2 ≤ k = omega arith in
          subst (λ (y : ℕ). i < level_size z y / 4 → Same y (maxima_from (level_size z y) + i)) n
          (λ l. next_behind two _ (omega (arith, gone_some two)) (omega arith)) h
      by (no d) (no g) = other_same j u (omega arith) d g _ (omega arith)

  -- the lists of another level
  seg_kept : (j c m : ℕ) → 1 ≤ j → j ≤ levels z → ((i : ℕ) → c ≤ i → i < c + m → Same j i)
      → seg c m (stretch_of z j work₁) ≡ seg c m (stretch_of z j work)
  seg_kept j c m u v f =
      seg_same c m (stretch_of z j work) (stretch_of z j work₁) (stretch_length z L work₁ j u v room ∙ sym (stretch_length z L work j u v D.room)) f

  other_lists : (j : ℕ) → j ≢ k → suc j ≢ k → state_of z work₁ left j ≡ s j
  unfolding lists_at lis_from set_room
  other_lists j d e =
      state_same z work work₁ counts left j (λ u v.
      let f = level_fits D j u v in
      rw (counts_other counts six k a few r.fill j u d e)
      (lists_agree (level_size z j) (stretch_of z j work) (stretch_of z j work₁) _ _ _ f.lip f.lsp
      (λ c m l g. seg_kept j c m u v (λ i o p. other_same j u v d e i (omega (arith, f.visits))))))

  -- of the level
  own_lists : state_of z work₁ left k ≡ own c
  unfolding lists_at
  own_lists =
      let f = T.ran.fits in
      state_in z work₁ left k a b
      ∙ rw (counts_own counts six k a few r.fill)
      (sym (lists_lent role D from until work₁ r.fill.lip r.fill.kept r.fill.lsp f.lip (omega (arith, f.kept, f.visits)) f.lsp)
      ∙ held_ends run.stretch (lent_of z k work₁) r.fill)
      ∙ ap own ran_course

  -- of the next, with the sets that moved out
  moved_there : 2 ≤ k
      → sets (lis_from (level_size z (k - 1)) + (count_at counts (k - 1)).lis) r.fill.moved (stretch_of z (k - 1) work₁) ≡ c.moved
  unfolding sets stretch_of lis_from set_room
  moved_there h =
      let j : ℕ = k - 1 in
      let m : ℕ = level_size z j in
      ap (map entry)
      (seg_seg (4 * level_start z j) (4 * m) (m + m + m + (count_at counts j).lis) r.fill.moved work₁ (omega (arith, gone_some h))
      ∙ ap (λ (y : ℕ). seg y r.fill.moved work₁) (omega (arith, next_start z L k h b, away_next role D from until h))
      ∙ sym (seg_seg (4 * level_start z k) (lent_to z k - 4 * level_start z k) run.stretch.away r.fill.moved work₁ (omega (arith, U.ends))))
      ∙ sym (held_moved run.stretch (lent_of z k work₁) r.fill)
      ∙ ap (λ y. y.moved) ran_course

  next_listed : 2 ≤ k → lists_at z work₁ left (k - 1) ≡ handed c (lists_at z work counts (k - 1))
  unfolding lists_at lis_from set_room
  next_listed h =
      let j : ℕ = k - 1 in
      let u : 1 ≤ j = omega arith in
      let v : j ≤ levels z = omega (arith, b) in
      let f = level_fits D j u v in
      rw (counts_next counts six k a few r.fill h)
      (lists_more (level_size z j) (stretch_of z j work) (stretch_of z j work₁) _ _ _ f.lip f.lsp
      (λ q m l g. seg_kept j q m u v (λ i o p. next_before_lem h i (omega arith) (omega (arith, f.visits)))) r.fill.moved
      ∙ ap (λ es. record {
        lip = (lists_at z work counts j).lip;
        lis = (lists_at z work counts j).lis ++ es;
        lsp = (lists_at z work counts j).lsp;
      }) (moved_there h))

  next_lists : 2 ≤ k → state_of z work₁ left (k - 1) ≡ handed c (s (k - 1))
  next_lists h =
      let u : 1 ≤ k - 1 = omega arith in
      let v : k - 1 ≤ levels z = omega (arith, b) in
      state_in z work₁ left (k - 1) u v ∙ next_listed h ∙ ap (handed c) (sym (state_in z work counts (k - 1) u v))

  none_handed : (j : ℕ) → k < 2 → handed c (s j) ≡ s j
  none_handed j h =
      ap (λ es. record { lip = (s j).lip; lis = (s j).lis ++ es; lsp = (s j).lsp }) (moved_none role D from until C x₀ h)
      ∙ ap (λ es. record { lip = (s j).lip; lis = es; lsp = (s j).lsp }) (append-nil (s j).lis)

  lists_left : (j : ℕ) → state_of z work₁ left j ≡ after k c s j
  lists_left j = by (ℕ_discrete j k) (ℕ_discrete (suc j) k) (dec_le 1 j)
    where
      by : Dec (j ≡ k) → Dec (suc j ≡ k) → Dec (1 ≤ j) → state_of z work₁ left j ≡ after k c s j
      by (yes i) m o = subst (λ (y : ℕ). state_of z work₁ left y ≡ after k c s y) (sym i) (own_lists ∙ sym (after_own c s k))
      by (no i) (yes m) (yes o) =
          let n : k - 1 ≡ j = omega arith in
          subst (λ (y : ℕ). state_of z work₁ left y ≡ handed c (s y)) n (next_lists (omega arith))
          ∙ sym (subst (λ (y : ℕ). after y c s j ≡ handed c (s j)) m (after_next c s j))
      by (no i) (yes m) (no o) =
          state_out z work₁ left j (λ u v. o u) ∙ sym (state_out z work counts j (λ u v. o u)) ∙ sym (none_handed j (omega arith))
          ∙ sym (subst (λ (y : ℕ). after y c s j ≡ handed c (s j)) m (after_next c s j))
      by (no i) (no m) o = other_lists j i m ∙ sym (after_other c s k j i m)

  -- LIP's entries are marked as they were, those of the level as the pass left them
  own_marks : (i : ℕ) → i < r.fill.lip → Marked (stretch_by role z k) (stretch_of z k work₁) (lip_at (level_size z k) i (stretch_of z k work₁))
  own_marks i h =
      let f = T.ran.fits in
      subst (Marked (stretch_by role z k) (stretch_of z k work₁)) (lent_lip role D from until work₁ i (omega (arith, f.lip)))
      (marked_lent (λ c j l. sym (lent_own role D from until work₁ j (omega arith))) (f.marked i h))

  other_marks : Marks role z work counts → (j i : ℕ) → 1 ≤ j → j ≤ levels z → j ≢ k → i < (count_at counts j).lip
      → Marked (stretch_by role z j) (stretch_of z j work₁) (lip_at (level_size z j) i (stretch_of z j work₁))
  unfolding lip_at lip_from lis_from
  other_marks M j i u v d h =
      marks_kept {t = stretch_by role z j} (λ c x l. words_same j x u v (λ e. absurd (d e)) l) (λ x l. there (ℕ_discrete (suc j) k) x (omega (arith, few_lips)))
      (λ x l. M.lips j x u v l) i h
    where
      few_lips : (count_at counts j).lip ≤ level_size z j
      few_lips = (level_fits D j u v).lip

      there : Dec (suc j ≡ k) → (x : ℕ) → x < level_size z j → Same j (level_size z j + x)
      there (yes g) x l =
          let n : k - 1 ≡ j = omega arith in
          subst (λ (y : ℕ). x < level_size z y → Same y (level_size z y + x)) n (λ o. next_before_lem (omega arith) _ (omega arith) (omega arith)) l
      there (no g) x l = other_same j u v d g _ (omega arith)

  marks_left : Marks role z work counts → Marks role z work₁ left
  marks_left M = record { lips = λ j i u v h. by j i u v (ℕ_discrete j k) h }
    where
      by : (j i : ℕ) → 1 ≤ j → j ≤ levels z → Dec (j ≡ k) → i < (count_at left j).lip
          → Marked (stretch_by role z j) (stretch_of z j work₁) (lip_at (level_size z j) i (stretch_of z j work₁))
      by j i u v (yes d) h =
          subst (λ (y : ℕ). Marked (stretch_by role z y) (stretch_of z y work₁) (lip_at (level_size z y) i (stretch_of z y work₁))) (sym d)
          (own_marks i (omega (arith, ap (λ l. l.lip) (counts_own counts six k a few r.fill), ap (λ (x : ℕ). (count_at left x).lip) d)))
      by j i u v (no d) h = other_marks M j i u v d (omega (arith, counts_lip counts six k a few r.fill j u d))

  -- the whole part
  pub part_run : {p : Passed} → Marks role z work counts → p.counts ≡ left → p.at ≡ r.at → PartRun run body work counts out p work₁ out₁
  part_run {p} M e i =
      record {
        lists = record { lists = λ j. ap (λ x. state_of z work₁ x j) e ∙ lists_left j };
        same = T.same;
        side =
            ap₂ (λ vs (x : BitPosition). chan out₁ vs x.at) (sym (values_lent role D from until work₁)) i ∙ ap (λ x. x.side) ran_course;
        words = words_same;
        maxima = maxima_same;
        marks = subst (Marks role z work₁) (sym e) (marks_left M);
      }

  pub more_fits : (count_at (with_lists counts k r.fill) (k - 1)).lis + r.fill.moved < 2 ^ 32
  more_fits = by (dec_le 2 k)
    where
      small : (j : ℕ) → 1 ≤ j → j ≤ levels z → level_size z j < 2 ^ 32
      small j u v = omega (arith, stretch_room z L j u v, area_bound z D.legal)

      by : Dec (2 ≤ k) → (count_at (with_lists counts k r.fill) (k - 1)).lis + r.fill.moved < 2 ^ 32
      by (yes h) =
          omega (
            arith,
            ap (λ l. l.lis) (own_other counts six k a few r.fill (k - 1) (omega arith) (λ e. omega arith)),
            sets_few (level_size z (k - 1)) _ (gone_some h),
            small (k - 1) (omega arith) (omega (arith, b)),
          )
      by (no h) =
          let same : k - 1 - 1 ≡ k - 1 = omega (arith, a) in
          omega (
            arith,
            ap (λ (i : ℕ). (get_or (with_lists counts k r.fill).levels i unlisted).lis) same,
            ap (λ l. l.lis) (own_same counts six k a few r.fill),
            gone_none (omega arith),
            sets_few (level_size z k) r.fill.kept (omega (arith, T.ran.fits.kept, T.ran.fits.visits)),
            small k a b,
          )
