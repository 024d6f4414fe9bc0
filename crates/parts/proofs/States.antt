-- The lists of all levels in the workspace, by their stretches and counts: what a pass leaves of them.
use mathlib.Core.Path.{◌≡◌, sym, ap, ◌∙◌, subst}
use mathlib.Core.List.{List, ◌++◌, map, map-append}
use mathlib.Core.Bool.{cond, ◌&&◌}
use mathlib.Core.Logic.{◌≢◌}
use Prim.Native.Nat.{ℕ, suc, ◌+◌, ◌-◌, ◌≤◌}
use native.Mathlib.Omega.{arith}
use native.Mathlib.Decide.{ℕ_discrete, dec_le}
use lib.Dec.{leb}
use lib.ListN.{length-set, get_or, set}
use lib.Seq.{get_or-set_same, get_or-set_other}
use borrow.Author.Tests.{le-leb, lt-leb}
use Rattle.rules.specs.declared.Size.{Size}
use Rattle.rules.specs.Document.Pyramid.{levels}
use Rattle.rules.specs.Document.Calls.{level_places}
use Rattle.rules.specs.Document.Passes.{Lists}
use Rattle.stretches.specs.Seg.{seg, seg_add}
use Rattle.stretches.specs.Cut.{lip_from, lsp_from, lis_from}
use Rattle.lists.specs.declared.Fill.{Fill}
use Rattle.lists.specs.Lists.{coefficient, entry, sets, waiting, known, lists_in}
use Rattle.parts.specs.declared.Lengths.{Lengths}
use Rattle.parts.specs.declared.Counts.{Counts}
use Rattle.parts.specs.Standing.{unlisted, count_at, Places, with_lists, with_sets, nothing, lists_at, state_of}
use Rattle.parts.specs.Workspace.{with_moved}

module _ (z : Size) (work : List ℕ) (counts : Counts) (k : ℕ) where
  pub state_in : 1 ≤ k → k ≤ levels z → state_of z work counts k ≡ lists_at z work counts k
  unfolding state_of
  state_in a b = rw (le-leb 1 k a, le-leb k (levels z) b)

  pub state_out : (1 ≤ k → k ≤ levels z → ⊥) → state_of z work counts k ≡ nothing
  unfolding state_of
  state_out f = go (dec_le 1 k) (dec_le k (levels z))
    where
      go : Dec (1 ≤ k) → Dec (k ≤ levels z) → cond {A = Lists} (leb 1 k && leb k (levels z)) (lists_at z work counts k) nothing ≡ nothing
      go (yes a) (yes b) = absurd (f a b)
      go (yes a) (no b) = rw (le-leb 1 k a, lt-leb k (levels z) (omega arith))
      go (no a) b = rw (lt-leb 1 k (omega arith))

-- two levels' lists are the same, where inside the levels they are
pub state_same : (z : Size) (work work' : List ℕ) (counts counts' : Counts) (j : ℕ)
    → (1 ≤ j → j ≤ levels z → lists_at z work' counts' j ≡ lists_at z work counts j) → state_of z work' counts' j ≡ state_of z work counts j
state_same z work work' counts counts' j f = go (dec_le 1 j) (dec_le j (levels z))
  where
    go : Dec (1 ≤ j) → Dec (j ≤ levels z) → state_of z work' counts' j ≡ state_of z work counts j
    go (yes a) (yes b) = state_in z work' counts' j a b ∙ f a b ∙ sym (state_in z work counts j a b)
    go (yes a) (no b) = state_out z work' counts' j (λ u v. b v) ∙ sym (state_out z work counts j (λ u v. b v))
    go (no a) b = state_out z work' counts' j (λ u v. a u) ∙ sym (state_out z work counts j (λ u v. a u))

sets_add : (n : ℕ) (s : List ℕ) (lis m : ℕ) → sets (lis_from n) (lis + m) s ≡ sets (lis_from n) lis s ++ sets (lis_from n + lis) m s
unfolding sets
sets_add n s lis m = ap (map entry) (seg_add (lis_from n) lis m s) ∙ map-append entry (seg (lis_from n) lis s) (seg (lis_from n + lis) m s)

-- the lists in two stretches that agree from the values on up to the end of LIS
module _ (n : ℕ) (s s' : List ℕ) (lip lis lsp : ℕ) (a : lip ≤ n) (b : lsp ≤ n)
    (same : (c m : ℕ) → n ≤ c → c + m ≤ lis_from n + lis → seg c m s' ≡ seg c m s) where
  waiting_same : waiting n 0 lip s' ≡ waiting n 0 lip s
  unfolding waiting lip_from lis_from
  waiting_same = ap (map coefficient) (same (n + 0) lip (omega arith) (omega arith))

  known_same : known n lsp s' ≡ known n lsp s
  unfolding known lsp_from lis_from
  known_same = ap (map coefficient) (same (n + n) lsp (omega arith) (omega arith))

  sets_same : sets (lis_from n) lis s' ≡ sets (lis_from n) lis s
  unfolding sets lis_from
  sets_same = ap (map entry) (same (n + n + n) lis (omega arith) (omega arith))

  pub lists_agree : lists_in n s' lip lis lsp ≡ lists_in n s lip lis lsp
  unfolding lists_in
  lists_agree = rw (waiting_same, sets_same, known_same)

  -- with sets that came to the end of LIS
  pub lists_more : (m : ℕ) → lists_in n s' lip (lis + m) lsp ≡ record {
    lip = (lists_in n s lip lis lsp).lip;
    lis = (lists_in n s lip lis lsp).lis ++ sets (lis_from n + lis) m s';
    lsp = (lists_in n s lip lis lsp).lsp;
  }
  unfolding lists_in
  lists_more m = rw (waiting_same, more, known_same)
    where
      more : sets (lis_from n) (lis + m) s' ≡ sets (lis_from n) lis s ++ sets (lis_from n + lis) m s'
      more = sets_add n s' lis m ∙ ap (λ l. l ++ sets (lis_from n + lis) m s') sets_same

-- sets that came to the next level's LIS, as the code counts them
pub moved_first : (c : Counts) (k m : ℕ) → k ≤ 1 → c ≡ with_moved c k m
unfolding with_moved
moved_first c k m h = rw (lt-leb 2 k (omega arith))

abbrev pub longer : Lengths → ℕ → Lengths
longer l m = record { lip = l.lip; lsp = l.lsp; lis = l.lis + m }

pub moved_next : (c : Counts) (k m : ℕ) → 2 ≤ k
    → ◌≡◌ {A = Counts} (record { levels = set c.levels (k - 2) (longer (get_or c.levels (k - 2) unlisted) m) }) (with_moved c k m)
unfolding with_moved
moved_next c k m h =
    let i : k - 2 ≡ k - 1 - 1 = omega arith in
    rw (le-leb 2 k h) (ap (λ (j : ℕ). record { levels = set c.levels j (longer (get_or c.levels j unlisted) m) }) i)

-- the counts after a part
module _ (counts : Counts) (six : Places counts) (k : ℕ) (a : 1 ≤ k) (b : k ≤ level_places) (f : Fill) where
  abbrev own : Counts
  own = with_lists counts k f

  abbrev left : Counts
  left = with_moved own k f.moved

  pub own_same : count_at own k ≡ record { lip = f.lip; lsp = f.lsp; lis = f.kept }
  own_same = get_or-set_same counts.levels (k - 1) (record { lip = f.lip; lsp = f.lsp; lis = f.kept }) unlisted (omega (arith, six.levels))

  pub own_other : (j : ℕ) → 1 ≤ j → j ≢ k → count_at own j ≡ count_at counts j
  own_other j c d =
      get_or-set_other counts.levels (k - 1) (j - 1) (record { lip = f.lip; lsp = f.lsp; lis = f.kept }) unlisted (λ i. d (omega arith))

  -- what moved out counts in the next level only
  moved_other : (j : ℕ) → 1 ≤ j → suc j ≢ k → count_at left j ≡ count_at own j
  unfolding with_moved
  moved_other j c d = by (dec_le 2 k)
    where
      by : Dec (2 ≤ k) → count_at (cond {A = Counts} (leb 2 k) (with_sets own (k - 1) f.moved) own) j ≡ count_at own j
      by (yes h) = rw (le-leb 2 k h) (get_or-set_other own.levels (k - 1 - 1) (j - 1) _ unlisted (λ i. d (omega arith)))
      by (no h) = rw (lt-leb 2 k (omega arith))

  pub counts_own : count_at left k ≡ record { lip = f.lip; lsp = f.lsp; lis = f.kept }
  counts_own = moved_other k a (λ e. omega arith) ∙ own_same

  pub counts_other : (j : ℕ) → 1 ≤ j → j ≢ k → suc j ≢ k → count_at left j ≡ count_at counts j
  counts_other j c d e = moved_other j c e ∙ own_other j c d

  pub counts_next : 2 ≤ k → count_at left (k - 1) ≡ longer (count_at counts (k - 1)) f.moved
  unfolding with_moved
  counts_next h =
      rw (le-leb 2 k h)
      (get_or-set_same own.levels (k - 1 - 1) (longer (count_at own (k - 1)) f.moved) unlisted
      (omega (arith, six.levels, length-set counts.levels (k - 1) (record { lip = f.lip; lsp = f.lsp; lis = f.kept })))
      ∙ ap (λ l. longer l f.moved) (own_other (k - 1) (omega arith) (λ e. omega arith)))

  pub counts_lip : (j : ℕ) → 1 ≤ j → j ≢ k → (count_at left j).lip ≡ (count_at counts j).lip
  counts_lip j c d = by (ℕ_discrete (suc j) k)
    where
      by : Dec (suc j ≡ k) → (count_at left j).lip ≡ (count_at counts j).lip
      by (yes e) =
          let n : k - 1 ≡ j = omega arith in
          subst (λ (x : ℕ). (count_at left x).lip ≡ (count_at counts x).lip) n (ap (λ l. l.lip) (counts_next (omega arith)))
      by (no e) = ap (λ l. l.lip) (counts_other j c d e)
