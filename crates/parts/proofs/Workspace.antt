-- What is lent to the pass of a level, its own stretch and the next level's: where it lies, and what the pass leaves of the workspace.
use mathlib.Core.Path.{◌≡◌, sym, ap, ap₂, ◌∙◌, subst}
use mathlib.Core.List.{List}
use mathlib.Core.Bool.{true, false}
use Prim.Native.Nat.{ℕ, ◌+◌, ◌-◌, ◌*◌, ◌≤◌, ◌<◌}
use native.Mathlib.Omega.{arith}
use native.Mathlib.Decide.{dec_le, dec_lt}
use lib.ListN.{length, get_or, take, drop}
use borrow.Author.Tests.{le-leb, lt-leb}
use borrow.Rule.Slice.PartMut.{mid_of, put_mid, same_len_mid, mid_len}
use Rattle.rules.specs.declared.Size.{Size}
use Rattle.rules.specs.Document.Pyramid.{legal_size, levels}
use Rattle.rules.specs.Document.Calls.{work_for}
use Rattle.rules.specs.Laws.Family.Sizes.{level_start, level_size}
use Rattle.rules.proofs.Laws.Family.Sizes.{legal}
use Rattle.rules.specs.Promises.Vocabulary.{Legal}
use Rattle.stretches.specs.Seg.{seg, seg_at, seg_seg, seg_length}
use Rattle.stretches.specs.Cut.{maxima_from, stretch_of}
use Rattle.stretches.specs.Levels.{stretch_room, next_start, put_own, put_before, put_behind, lent_to, lent_first, lent_next}
use Rattle.testing.specs.declared.Run.{Run}
use Rattle.testing.specs.declared.Stand.{Stand}
use Rattle.testing.specs.Exchange.{reads}
use Rattle.passes.specs.Steps.{Fresh, Ran}
use Rattle.parts.specs.Workspace.{lent_of, Lending, Lent}

module _ (z : Size) (Z : Legal z) (k : ℕ) (a : 1 ≤ k) (b : k ≤ levels z) where
  pub lent_fits : (4 * level_start z k + 4 * level_size z k ≤ lent_to z k) × (lent_to z k ≤ work_for z)
  lent_fits = by (dec_le 2 k)
    where
      by : Dec (2 ≤ k) → (4 * level_start z k + 4 * level_size z k ≤ lent_to z k) × (lent_to z k ≤ work_for z)
      by (yes h) = (
        omega (arith, lent_next z k h, next_start z Z k h b),
        omega (arith, lent_next z k h, stretch_room z Z (k - 1) (omega arith) (omega arith)),
      )
      by (no h) = (omega (arith, lent_first z k (omega arith)), omega (arith, lent_first z k (omega arith), stretch_room z Z k a b))

  -- the level's own stretch in it, number by number and run by run
  pub lent_inside : (work : List ℕ) (c m : ℕ) → c + m ≤ 4 * level_size z k → seg c m (lent_of z k work) ≡ seg c m (stretch_of z k work)
  unfolding stretch_of
  lent_inside work c m h =
      seg_seg (4 * level_start z k) (lent_to z k - 4 * level_start z k) c m work (omega (arith, lent_fits.0))
      ∙ sym (seg_seg (4 * level_start z k) (4 * level_size z k) c m work h)

  pub lent_length : (work : List ℕ) → work_for z ≤ length work → length (lent_of z k work) ≡ lent_to z k - 4 * level_start z k
  lent_length work h = seg_length (4 * level_start z k) (lent_to z k - 4 * level_start z k) work (omega (arith, lent_fits.0, lent_fits.1))

  lent_at : (work : List ℕ) (p : ℕ) → 4 * level_start z k ≤ p → p < lent_to z k → get_or (lent_of z k work) (p - 4 * level_start z k) 0 ≡ get_or work p 0
  lent_at work p h l =
      seg_at (4 * level_start z k) (lent_to z k - 4 * level_start z k) work (p - 4 * level_start z k) (omega arith)
      ∙ ap (λ (i : ℕ). get_or work i 0) (omega arith)

  pub lent_same : (work work' : List ℕ) (p : ℕ) → 4 * level_start z k ≤ p → p < lent_to z k
      → get_or (lent_of z k work') (p - 4 * level_start z k) 0 ≡ get_or (lent_of z k work) (p - 4 * level_start z k) 0 → get_or work' p 0 ≡ get_or work p 0
  lent_same work work' p h l e = sym (lent_at work' p h l) ∙ e ∙ lent_at work p h l

-- a pass in what is lent
module _ (run : Run) {body work out : List ℕ} {w : Stand} (H : Lending run body work out w) {from to : ℕ}
    (e : from ≡ 4 * level_start run.z run.level.0) (i : to ≡ lent_to run.z run.level.0) where
  abbrev z : Size
  z = run.z

  abbrev k : ℕ
  k = run.level.0

  fits : (4 * level_start z k + 4 * level_size z k ≤ lent_to z k) × (lent_to z k ≤ work_for z)
  fits = lent_fits z (legal z H.fresh.proper.legal) k H.fresh.proper.coarser H.fresh.proper.level

  pub lent_order : (from ≤ to) × (to ≤ length work)
  lent_order = (omega (arith, fits.0), omega (arith, fits.1, H.room))

  lent_is : mid_of from (to - from) work ≡ lent_of z k work
  unfolding seg
  lent_is = ap₂ (λ (x y : ℕ). take (y - x) (drop x work)) e i

  pub lent_fresh : Fresh run body (mid_of from (to - from) work) out w
  lent_fresh = subst (λ s. Fresh run body s out w) (sym lent_is) H.fresh

  pub lent_back : {s' out' : List ℕ} {r : Stand} → Ran run body (mid_of from (to - from) work) out w s' out' r
      → Lent run body work out w (put_mid from (to - from) work s') out' r
  lent_back {s'} {out'} {r} R =
      let n = R.around.long in
      let m : length s' ≡ to - from = n ∙ mid_len from to work lent_order.1 in
      let l : from ≤ length work = omega (arith, lent_order) in
      let back : s' ≡ lent_of z k (put_mid from (to - from) work s') =
      sym (put_own from to work s' l m) ∙ ap₂ (λ (x y : ℕ). seg x (y - x) (put_mid from (to - from) work s')) e i in
      record {
        ran =
            subst (λ s. Ran run body (lent_of z k work) out w s out' r) back
            (subst (λ s. Ran run body s out w s' out' r) lent_is R);
        before = λ p h. put_before from (to - from) work s' p l (omega arith);
        behind = λ p h. put_behind from to work s' p lent_order.0 lent_order.1 m (omega arith);
        same = same_len_mid from (to - from) work s' n;
      }

-- What a pass leaves of the workspace: all but the lists of its level, the sets that moved out, and, by the decoder, the values of its level.
pub record Untouched (run : Run) (moved : ℕ) (work work' : List ℕ) : Type 0 where
  pub long : length work' ≡ length work
  pub before : (p : ℕ) → p < 4 * level_start run.z run.level.0 → get_or work' p 0 ≡ get_or work p 0
  pub values : reads run ≡ false → (p : ℕ) → 4 * level_start run.z run.level.0 ≤ p
      → p < 4 * level_start run.z run.level.0 + run.stretch.n → get_or work' p 0 ≡ get_or work p 0
  pub others : (p : ℕ) → 4 * level_start run.z run.level.0 + maxima_from run.stretch.n ≤ p
      → p < 4 * level_start run.z run.level.0 + run.stretch.away → get_or work' p 0 ≡ get_or work p 0
  pub rest : (p : ℕ) → 4 * level_start run.z run.level.0 + run.stretch.away + moved ≤ p → get_or work' p 0 ≡ get_or work p 0
  pub ends : 4 * level_start run.z run.level.0 + run.stretch.away + moved ≤ lent_to run.z run.level.0

pub untouched : (run : Run) {body work out : List ℕ} {w : Stand} {work' out' : List ℕ} {r : Stand} → legal_size run.z ≡ true
    → 1 ≤ run.level.0 → run.level.0 ≤ levels run.z → run.stretch.n ≡ level_size run.z run.level.0 → work_for run.z ≤ length work
    → Lent run body work out w work' out' r → Untouched run r.fill.moved work work'
unfolding maxima_from
untouched run {body} {work} {out} {w} {work'} {out'} {r} h a b n room T =
    record {
      long = T.same;
      before = T.before;
      values = λ c p l g. same p (omega arith) (omega (arith, f.0)) (T.ran.around.values c (p - A) (omega arith));
      others = λ p l g. same p (omega arith) (omega (arith, away)) (T.ran.around.others (p - A) (omega arith) (omega arith));
      rest = λ p l. past p l (dec_lt p (lent_to z k));
      ends = away;
    }
  where
    z : Size
    z = run.z

    k : ℕ
    k = run.level.0

    A : ℕ
    A = 4 * level_start z k

    Z : Legal z
    Z = legal z h

    f : (4 * level_start z k + 4 * level_size z k ≤ lent_to z k) × (lent_to z k ≤ work_for z)
    f = lent_fits z Z k a b

    away : A + run.stretch.away + r.fill.moved ≤ lent_to z k
    away = omega (arith, T.ran.fits.moved, lent_length z Z k a b work' (omega (arith, T.same)), f.0)

    same : (p : ℕ) → A ≤ p → p < lent_to z k → get_or (lent_of z k work') (p - A) 0 ≡ get_or (lent_of z k work) (p - A) 0 → get_or work' p 0 ≡ get_or work p 0
    same = lent_same z Z k a b work work'

    past : (p : ℕ) → A + run.stretch.away + r.fill.moved ≤ p → Dec (p < lent_to z k) → get_or work' p 0 ≡ get_or work p 0
    past p l (yes i) = same p (omega arith) i (T.ran.around.rest (p - A) (omega arith))
    past p l (no i) = T.behind p (omega arith)
