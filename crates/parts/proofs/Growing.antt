-- How large a word can grow in a part: each coefficient is found or refined at most once in it.
use mathlib.Core.Path.{◌≡◌, sym, ap, ◌∙◌}
use mathlib.Core.List.{List, [], ◌∷◌}
use mathlib.Core.Bool.{Bool}
use Prim.Native.Nat.{ℕ, ◌+◌, ◌-◌, ◌*◌, ◌≤◌, ◌<◌, ◌^◌}
use native.Mathlib.Nat.{mul-le-mul_left}
use native.Mathlib.Omega.{arith}
use native.Mathlib.Decide.{dec_le, dec_lt}
use lib.Dec.{ltb}
use lib.ListN.{length, get_or-eq_default}
use lib.Pow.{pow_mono}
use borrow.Author.Tests.{lt-leb}
use Rattle.rules.specs.declared.Size.{Size}
use Rattle.rules.specs.Document.Pyramid.{Family, area, levels, most_planes}
use Rattle.rules.specs.Document.Passes.{Entry, added, to_lsp, refined, Lists, State, listed, listing, passed}
use Rattle.rules.specs.Laws.Counting.Sums.{sum, is}
use Rattle.rules.proofs.Laws.Counting.Sums.{is_yes, sum_append, one_most, from_once}
use Rattle.rules.specs.Laws.Family.Lawful.{Lawful}
use Rattle.rules.proofs.Laws.Family.Lawful.{set_splits}
use Rattle.rules.specs.Laws.Family.Sizes.{level_start, level_size}
use Rattle.rules.proofs.Laws.Family.Sizes.{span_whole, span_some}
use Rattle.rules.specs.Laws.Pass.Kept.{Kept}
use Rattle.rules.proofs.Laws.Pass.Kept.{kept_pass}
use Rattle.rules.specs.Laws.Pass.Lists.{set_weight, lists_weight}
use Rattle.rules.specs.Laws.Pass.Steps.{sign_noted, bit_noted, begun}
use Rattle.rules.proofs.Laws.State.Weight.{weight_part}
use Rattle.rules.specs.Promises.Vocabulary.{Legal}
use Rattle.trees.specs.Family.{trees, tree_level}
use Rattle.trees.specs.Sound.{TreeSound}
use Rattle.trees.proofs.Sound.{tree_level_area}
use Rattle.stretches.specs.Cut.{values_in, stretch_of, values_length, values_at}
use Rattle.stretches.specs.Workspace.{word_in, Words}
use Rattle.stretches.specs.Levels.{place_level, level_place, word_in_lem}
use Rattle.testing.specs.declared.Run.{Run}
use Rattle.testing.specs.Exchange.{chan, local_word, noted, side, quiet_to_lip, quiet_stays, quiet_moves}
use Rattle.testing.specs.Growing.{word_local, refined_most, found_most}

-- In sound lists each coefficient is in one place.
pub sound_once : (z : Size) (s : State) → TreeSound z s → (k : ℕ) → k ≤ levels z → (q : ℕ)
    → sum (is q) (s k).lip + sum (set_weight (trees z) (is q)) (s k).lis + sum (is q) (s k).lsp ≤ 1
unfolding lists_weight
sound_once z s h k l q =
    omega (arith, weight_part (trees z) (is q) s k (levels z) l, h.conserved (is q), from_once q (area z), one_most (ltb q (area z)))

-- A word among the values of its level; words of a level are small where those of all levels are.
pub word_here : (z : Size) (Z : Legal z) (work : List ℕ) (k x : ℕ) → tree_level z x ≡ k → 1 ≤ k
    → local_word (level_start z k) (values_in (level_size z k) (stretch_of z k work)) x ≡ word_in z work x
word_here z Z work k x e a =
    let p = level_place z Z k x e a in
    word_local (level_start z k) (values_in (level_size z k) (stretch_of z k work)) x p.1
    ∙ values_at (level_size z k) (stretch_of z k work) (x - level_start z k) (omega (arith, p.1, p.2)) ∙ sym (word_in_lem z Z work k x e a)

pub words_small : (z : Size) → Legal z → (k b : ℕ) → 1 ≤ k → k ≤ levels z → (work : List ℕ) → 4 * level_size z k ≤ length (stretch_of z k work)
    → Words z b work → (q : ℕ) → local_word (level_start z k) (values_in (level_size z k) (stretch_of z k work)) q < b
unfolding local_word
words_small z Z k b c d work long W q = by (dec_le (level_start z k) q) (dec_lt q (level_start z k + level_size z k))
  where
    vs : List ℕ
    vs = values_in (level_size z k) (stretch_of z k work)

    some : 1 ≤ b
    some = omega (arith, W.under 0 (omega (arith, span_whole z, span_some z Z 0 (omega arith))))

    by : Dec (level_start z k ≤ q) → Dec (q < level_start z k + level_size z k) → local_word (level_start z k) vs q < b
    by (yes i) (yes j) =
        let e = place_level z Z k q c d i j in
        omega (arith, word_here z Z work k q e c, W.under q (tree_level_area z Z q (omega arith)))
    by (yes i) (no j) =
        let n : length vs ≤ q - level_start z k = omega (arith, values_length (level_size z k) (stretch_of z k work) long) in
        omega (arith, word_local (level_start z k) vs q i, get_or-eq_default vs 0 n, some)
    by (no i) j = rw (lt-leb (level_start z k) q (omega arith)) some

module _ (run : Run) (F : Family) (k bound : ℕ) where
  -- twice a plane's bit, as a word has it
  abbrev bit : ℕ
  bit = 2 * 2 ^ run.plane.0

  -- In the midst of a part: the coefficients ks are still to be refined, and none of them, nor any that is still to be tested, comes twice.
  pub record Growing (vs ps : List ℕ) (es : List Entry) (ks : List ℕ) : Type 0 where
    pub small : (q : ℕ) → local_word run.stretch.first vs q + bit * sum (is q) ks < bound
    pub once : (q : ℕ) → sum (is q) ps + sum (set_weight F (is q)) es + sum (is q) ks ≤ 1

module _ (run : Run) {F : Family} (L : Lawful F) (k bound : ℕ) (large : 2 * 2 ^ run.plane.0 + 1 < bound) where
  abbrev Small : List ℕ → List ℕ → List Entry → List ℕ → Type 0
  Small = Growing run F k bound

  growing_found : (at p : ℕ) (b : Bool) (vs ps : List ℕ) (es : List Entry) (ks : List ℕ) → Small vs (p ∷ ps) es ks
      → Small (noted run at (to_lsp p b) vs) ps es ks
  unfolding sum
  growing_found at p b vs ps es ks h =
      record {
        small = λ q.
            let a : ℕ = 2 * 2 ^ run.plane.0 in
            let alone : q ≡ p → sum (is q) ks ≡ 0 = λ e. omega (arith, h.once q, is_yes q p (sym e)) in
            let room : ℕ = bound - 1 - a * sum (is q) ks in
            let fits : q ≡ p → a + 1 ≤ room = λ e. omega (arith, ap (λ (y : ℕ). a * y) (alone e), large) in
            omega (arith, found_most run at p b vs q room fits (omega (arith, h.small q)), h.small q);
        once = λ q. omega (arith, h.once q);
      }

  growing_refined : (at p : ℕ) (b : Bool) (vs ks : List ℕ) → Small vs [] [] (p ∷ ks) → Small (noted run at (refined p b) vs) [] [] ks
  unfolding sum
  growing_refined at p b vs ks h =
      record { small = λ q. omega (arith, refined_most run at p b vs q, h.small q); once = λ q. omega (arith, h.once q) }

  growing_kept : (s body : List ℕ) → Kept F k (listing (side run s body)) (λ c ps es ks. Small c.side.values ps es ks)
  unfolding listed sign_noted bit_noted side sum
  growing_kept s body = record {
    insignificant = λ c p ps es ks b h.
        record { small = rw (quiet_to_lip run (c.side.at + 1) p c.side.values) h.small; once = λ q. omega (arith, h.once q) };
    significant = λ c p ps es ks b h. growing_found _ p _ c.side.values ps es ks h;
    moving = λ c e es ks i h. record { small = rw (quiet_moves run c.side.at e c.side.values) h.small; once = λ q. omega (arith, h.once q) };
    staying = λ c e es ks i b h. record { small = rw (quiet_stays run (c.side.at + 1) e c.side.values) h.small; once = λ q. omega (arith, h.once q) };
    opening = λ c e es ks i b h.
        record {
          small = h.small;
          once = λ q. omega (arith, h.once q, sum_append (set_weight F (is q)) es (added F e), set_splits F L (is q) e);
        };
    refining = λ c p ks h. growing_refined _ p _ c.side.values ks h;
  }

-- Where every word is under b, each is under b + 2^18 after a part.
pub part_grows : (run : Run) {F : Family} → Lawful F → run.plane.0 < most_planes → (k : ℕ) (s body : List ℕ) (l : Lists)
    → ((q : ℕ) → sum (is q) l.lip + sum (set_weight F (is q)) l.lis + sum (is q) l.lsp ≤ 1)
    → (out vs : List ℕ) (at b : ℕ) → ((q : ℕ) → local_word run.stretch.first vs q < b) → (q : ℕ)
    → local_word run.stretch.first (passed F k (side run s body) l (chan out vs at)).side.values q < b + 2 * 2 ^ most_planes
unfolding passed sum
part_grows run {F} L low k s body l once out vs at b small q =
    let a : 2 ^ run.plane.0 ≤ 2 ^ 16 = pow_mono {i = run.plane.0} {j = 16} (omega arith) in
    let bound : ℕ = b + 2 * 2 ^ most_planes in
    let G : Growing run F k bound vs l.lip l.lis l.lsp = record {
      small = λ x.
          let o : sum (is x) l.lsp ≤ 1 = omega (arith, once x) in
          omega (arith, small x, mul-le-mul_left (2 * 2 ^ run.plane.0) o);
      once = once;
    } in
    let H = kept_pass (growing_kept run L k bound (omega (arith, small 0, a)) s body) L l (begun l (chan out vs at)) G in
    omega (arith, H.small q)
