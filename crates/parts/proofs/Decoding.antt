-- A part that was run by the decoder: the words of its level draw what document 01's decoder draws.
use mathlib.Core.Path.{◌≡◌, refl, sym, ap, ◌∙◌, subst}
use mathlib.Core.List.{List}
use mathlib.Core.Bool.{Bool, true, false, true≢false, cond}
use mathlib.Core.Logic.{◌≢◌}
use Prim.Native.Nat.{ℕ, ◌+◌, ◌-◌, ◌*◌, ◌≤◌, ◌<◌, ◌^◌}
use native.Mathlib.Omega.{arith}
use native.Mathlib.Decide.{ℕ_discrete}
use lib.ListN.{length, get_or, set, length-set}
use lib.Seq.{get_or-set_same, get_or-set_other, ext_get_or}
use lib.Pow.{pow_pos}
use lib.IntN.{ℤ, pos}
use lib.Dec.{leb}
use borrow.Author.Tests.{le-leb}
use Rattle.rules.specs.declared.Size.{Size}
use Rattle.rules.specs.declared.Plane.{Plane}
use Rattle.rules.specs.declared.Level.{Level}
use Rattle.bits.specs.declared.BitPosition.{BitPosition}
use Rattle.rules.specs.Document.Pyramid.{area, most_planes}
use Rattle.rules.specs.Document.Passes.{Event, to_lip, to_lsp, stays, moves, refined, Course, State, signed, grown, written, Reader, decoder, decoded}
use Rattle.rules.specs.Document.Layout.{bit_at}
use Rattle.rules.specs.Laws.Family.Sizes.{level_start, level_size}
use Rattle.rules.specs.Promises.Vocabulary.{Legal}
use Rattle.trees.specs.Family.{tree_level, trees}
use Rattle.trees.proofs.Lawful.{trees_lawful}
use Rattle.trees.proofs.Sound.{tree_level_area}
use Rattle.trees.specs.Within.{QuestionOf, EventOf, Agreeing, Related}
use Rattle.trees.proofs.Within.{passed_related, after_related}
use Rattle.coefficients.specs.Words.{word_of, value_of, value_word, value_refined}
use Rattle.stretches.specs.Cut.{values_in, stretch_of, values_length}
use Rattle.stretches.specs.Workspace.{word_in, drawn_in, Words, drawn_length, drawn_at}
use Rattle.lists.specs.declared.Role.TheVariants.{Reads}
use Rattle.testing.specs.declared.Run.{Run}
use Rattle.testing.specs.Exchange.{Chan, chan, local_word, drawn, noted, side}
use Rattle.testing.specs.Growing.{word_local}
use Rattle.parts.specs.declared.Counts.{Counts}
use Rattle.parts.specs.declared.Passed.{Passed}
use Rattle.parts.specs.Standing.{state_of, course_d, ReadyToDecode, PartDecoded}
use Rattle.parts.specs.Workspace.{run_of, course_in, PartRun}
use Rattle.stretches.specs.Levels.{level_place, level_some, word_in_lem}
use Rattle.parts.proofs.Growing.{sound_once, word_here, words_small, part_grows}

-- The words of level k, as the code has them, and the pyramid, as the document has it, tell the same; all other levels are as in the workspace.
pub record Drawn (z : Size) (k : ℕ) (work : List ℕ) (c : Chan) (r : Reader) : Type 0 where
  pub taken : c.at ≡ r.taken
  pub words : length c.values ≡ level_size z k
  pub values : length r.pyramid ≡ area z
  pub own : (x : ℕ) → tree_level z x ≡ k → get_or r.pyramid x (pos 0) ≡ value_of (local_word (level_start z k) c.values x)
  pub proper : (x : ℕ) → tree_level z x ≡ k → local_word (level_start z k) c.values x ≢ 1
  pub others : (x : ℕ) → x < area z → tree_level z x ≢ k → get_or r.pyramid x (pos 0) ≡ value_of (word_in z work x)

-- a word that is set
word_set : (first : ℕ) (vs : List ℕ) (p w : ℕ) → first ≤ p → p - first < length vs → local_word first (set vs (p - first) w) p ≡ w
word_set first vs p w h l = word_local first (set vs (p - first) w) p h ∙ get_or-set_same vs (p - first) w 0 l

word_kept : (first : ℕ) (vs : List ℕ) (p w x : ℕ) → first ≤ p → first ≤ x → x ≢ p → local_word first (set vs (p - first) w) x ≡ local_word first vs x
word_kept first vs p w x h l d =
    word_local first (set vs (p - first) w) x l
    ∙ get_or-set_other vs (p - first) (x - first) w 0 (λ e. d (omega arith))
    ∙ sym (word_local first vs x l)

found_proper : (b : Bool) (n : ℕ) → word_of b (2 ^ n) ≢ 1
unfolding word_of
found_proper true n e = omega (arith, pow_pos n)
found_proper false n e = omega (arith, pow_pos n)

refined_proper : (b : Bool) (n w : ℕ) → w ≢ 1 → w + cond b (2 * 2 ^ n) 0 ≢ 1
refined_proper true n w d e = omega (arith, pow_pos n)
refined_proper false n w d e = d (omega arith)

module _ (z : Size) (Z : Legal z) (k : ℕ) (a : 1 ≤ k) (work : List ℕ) where
  abbrev start : ℕ
  start = level_start z k

  drawn_set : {c : Chan} {r : Reader} → Drawn z k work c r → (p : ℕ) → tree_level z p ≡ k → (w : ℕ) (y : ℤ) → w ≢ 1 → value_of w ≡ y
      → Drawn z k work (chan c.bytes (set c.values (p - start) w) c.at) (record { taken = r.taken; pyramid = set r.pyramid p y })
  drawn_set {c} {r} D p e w y d v =
      record {
        taken = D.taken;
        words = length-set c.values (p - start) w ∙ D.words;
        values = length-set r.pyramid p y ∙ D.values;
        own = λ x i. drawn_own x i (ℕ_discrete x p);
        proper = λ x i. still x i (ℕ_discrete x p);
        others = λ x h i. get_or-set_other r.pyramid p x y (pos 0) (λ j. i (ap (tree_level z) j ∙ e)) ∙ D.others x h i;
      }
    where
      at : (x : ℕ) → tree_level z x ≡ k → start ≤ x
      at x i = (level_place z Z k x i a).1

      here : local_word start (set c.values (p - start) w) p ≡ w
      here = word_set start c.values p w (at p e) (omega (arith, at p e, (level_place z Z k p e a).2, D.words))

      drawn_own : (x : ℕ) → tree_level z x ≡ k → Dec (x ≡ p)
          → get_or (set r.pyramid p y) x (pos 0) ≡ value_of (local_word start (set c.values (p - start) w) x)
      drawn_own x i (yes j) =
          ap (λ (q : ℕ). get_or (set r.pyramid p y) q (pos 0)) j
          ∙ get_or-set_same r.pyramid p y (pos 0) (omega (arith, D.values, tree_level_area z Z p (omega arith)))
          ∙ sym v ∙ ap value_of (sym here) ∙ ap (λ (q : ℕ). value_of (local_word start (set c.values (p - start) w) q)) (sym j)
      drawn_own x i (no j) =
          get_or-set_other r.pyramid p x y (pos 0) j ∙ D.own x i
          ∙ ap value_of (sym (word_kept start c.values p w x (at p e) (at x i) j))

      still : (x : ℕ) → tree_level z x ≡ k → Dec (x ≡ p) → local_word start (set c.values (p - start) w) x ≢ 1
      still x i (yes j) g = d (sym here ∙ ap (local_word start (set c.values (p - start) w)) (sym j) ∙ g)
      still x i (no j) g = D.proper x i (sym (word_kept start c.values p w x (at p e) (at x i) j) ∙ g)

-- a word is drawn on both sides, or on neither
while_there : {z : Size} {k : ℕ} {work : List ℕ} {c : Chan} {r : Reader} {vs : List ℕ} {v : List ℤ} (x y : Bool) → x ≡ y
    → Drawn z k work (chan c.bytes vs c.at) (record { taken = r.taken; pyramid = v }) → Drawn z k work c r
    → Drawn z k work (chan c.bytes (cond x vs c.values) c.at) (record { taken = r.taken; pyramid = cond y v r.pyramid })
while_there true true e N D = N
while_there false false e N D = D
while_there true false e N D = absurd (true≢false e)
while_there false true e N D = absurd (true≢false (sym e))

module _ (z : Size) (Z : Legal z) (plane : Plane) (level : Level) (counts : Counts) (work : List ℕ) (until : BitPosition) (a : 1 ≤ level.0) where
  abbrev R : Run
  R = run_of Reads z plane level counts (record { at = 0 }) until

  abbrev k : ℕ
  k = level.0

  abbrev s : List ℕ
  s = stretch_of z k work

  module _ (body : List ℕ) where
    abbrev reader : Reader → Event → Reader
    reader r e = (decoder (bit_at body) until.at plane.0).note e r

    abbrev there : ℕ → Bool
    there at = leb at until.at

    drawn_there : {c : Chan} {r : Reader} {vs : List ℕ} {v : List ℤ}
        → Drawn z k work (chan c.bytes vs c.at) (record { taken = r.taken; pyramid = v }) → Drawn z k work c r
        → Drawn z k work (chan c.bytes (cond (there c.at) vs c.values) c.at)
        (record { taken = r.taken; pyramid = cond (there r.taken) v r.pyramid })
    drawn_there {c} {r} N D = while_there (there c.at) (there r.taken) (ap (λ (t : ℕ). there t) D.taken) N D

    draws_note : (e : Event) → EventOf (trees z) k e → (c : Chan) (r : Reader) → Drawn z k work c r
        → Drawn z k work ((side R s body).note e c) (reader r e)
    unfolding side noted drawn written EventOf
    draws_note (to_lip p) i c r D = drawn_there D D
    draws_note (to_lsp p b) i c r D =
        rw (le-leb (level_start z k) p (level_place z Z k p i a).1)
        (drawn_there
        (drawn_set z Z k a work D p i (word_of b (2 ^ plane.0)) (signed b (2 ^ plane.0)) (found_proper b plane.0) (value_word b (2 ^ plane.0))) D)
    draws_note (stays e) i c r D = drawn_there D D
    draws_note (moves e) i c r D = drawn_there D D
    draws_note (refined p b) i c r D =
        let first = (level_place z Z k p i a).1 in
        let w : ℕ = get_or c.values (p - level_start z k) 0 in
        let same = word_local (level_start z k) c.values p first in
        let d : w ≢ 1 = λ e. D.proper p i (same ∙ e) in
        rw (le-leb (level_start z k) p first)
        (drawn_there (drawn_set z Z k a work D p i (w + cond b (2 * 2 ^ plane.0) 0) (grown b (2 ^ plane.0) (get_or r.pyramid p (pos 0)))
        (refined_proper b plane.0 w d)
        (value_refined w (2 ^ plane.0) b d ∙ ap (grown b (2 ^ plane.0)) (sym (D.own p i ∙ ap value_of same)))) D)

    decoder_agrees : Agreeing (QuestionOf (trees z) k) (EventOf (trees z) k) (side R s body) (decoder (bit_at body) until.at plane.0) (Drawn z k work)
    unfolding side
    decoder_agrees =
        record {
          bit = λ q i c r D. ap (bit_at body) D.taken;
          next = λ q i c r D.
              record {
                taken = omega (arith, D.taken);
                words = D.words;
                values = D.values;
                own = D.own;
                proper = D.proper;
                others = D.others;
              };
          noted = draws_note;
        }

  draws_first : (out : List ℕ) → 4 * level_size z k ≤ length s → Words z (2 ^ 29) work
      → Drawn z k work (chan out (values_in (level_size z k) s) 0) (record { taken = 0; pyramid = drawn_in z work })
  draws_first out long W =
      record {
        taken = refl;
        words = values_length (level_size z k) s long;
        values = drawn_length z work;
        own = λ x i. drawn_at z work x (inside x i) ∙ ap value_of (sym (word_here z Z work k x i a));
        proper = λ x i e. W.proper x (inside x i) (sym (word_here z Z work k x i a) ∙ e);
        others = λ x h i. drawn_at z work x h;
      }
    where
      inside : (x : ℕ) → tree_level z x ≡ k → x < area z
      inside x i = tree_level_area z Z x (omega arith)

  module _ {body out out' work' : List ℕ} {r : Passed} (P : PartRun R body work counts out r work' out') where
    -- the other levels' words are as they were
    words_kept : (x : ℕ) → x < area z → tree_level z x ≢ k → word_in z work' x ≡ word_in z work x
    words_kept x h d =
        let j = tree_level z x in
        let l = level_some z Z x h in
        let p = level_place z Z j x refl l in
        word_in_lem z Z work' j x refl l
        ∙ P.words j (x - level_start z j) l p.0 (λ e. absurd (d e)) (omega (arith, p.1, p.2))
        ∙ sym (word_in_lem z Z work j x refl l)

    -- So a part that was run is a part decoded.
    module _ (D : ReadyToDecode z plane level work counts) (long : 4 * level_size z k ≤ length s) where
      abbrev c : Course Chan
      c = course_in R body work counts out

      abbrev d : Course Reader
      d = course_d body until z plane level work counts

      alike : Related (Drawn z k work) c d
      unfolding decoded
      alike =
          passed_related (trees_lawful z Z) _ _ _ (decoder_agrees body) (state_of z work counts k) (D.ready.sound.placed k)
          (chan out (values_in (level_size z k) s) 0) _ (draws_first out long D.words)

      left : Drawn z k work (chan out' (values_in (level_size z k) (stretch_of z k work')) r.at.at) d.side
      left = subst (λ x. Drawn z k work x d.side) (sym P.side) alike.side

      drawn_one : (x : ℕ) → x < area z → Dec (tree_level z x ≡ k) → get_or (drawn_in z work') x (pos 0) ≡ get_or d.side.pyramid x (pos 0)
      drawn_one x h (yes i) = drawn_at z work' x h ∙ ap value_of (sym (word_here z Z work' k x i a)) ∙ sym (left.own x i)
      drawn_one x h (no i) = drawn_at z work' x h ∙ ap value_of (words_kept x h i) ∙ sym (left.others x h i)

      module _ (b : ℕ) (W : Words z b work) where
        grown_word : (q : ℕ) → local_word (level_start z k) (values_in (level_size z k) (stretch_of z k work')) q < b + 2 * 2 ^ most_planes
        grown_word q =
            subst (λ x. local_word (level_start z k) x.values q < b + 2 * 2 ^ most_planes) (sym P.side)
            (part_grows R (trees_lawful z Z) D.ready.plane k s body (state_of z work counts k)
            (sound_once z (state_of z work counts) D.ready.sound k D.ready.level) out (values_in (level_size z k) s) 0 b
            (words_small z Z k b a D.ready.level work long W) q)

        under : (x : ℕ) → x < area z → Dec (tree_level z x ≡ k) → word_in z work' x < b + 2 * 2 ^ most_planes
        under x h (yes i) = omega (arith, word_here z Z work' k x i a, grown_word x)
        under x h (no i) = omega (arith, words_kept x h i, W.under x h)

        proper : (x : ℕ) → x < area z → Dec (tree_level z x ≡ k) → word_in z work' x ≢ 1
        proper x h (yes i) e = left.proper x i (word_here z Z work' k x i a ∙ e)
        proper x h (no i) e = W.proper x h (sym (words_kept x h i) ∙ e)

      pub decoded_part_lem : PartDecoded body until z plane level work counts r work'
      decoded_part_lem =
          record {
            lists = record { lists = λ j. P.lists.lists j ∙ ap (λ (t : State). t j) (after_related _ k c d (state_of z work counts) alike) };
            same = P.same;
            taken = left.taken;
            draws =
                ext_get_or (pos 0) (drawn_in z work') d.side.pyramid (drawn_length z work' ∙ sym left.values)
                (λ x h. let i : x < area z = omega (arith, drawn_length z work') in drawn_one x i (ℕ_discrete (tree_level z x) k));
            grows = λ b W.
                record {
                  under = λ x h. under b W x h (ℕ_discrete (tree_level z x) k);
                  proper = λ x h. proper b W x h (ℕ_discrete (tree_level z x) k);
                };
          }
