-- The lists of all levels in tree numbers, between parts: sound at the start and after each part, so that a part has room in its level.
--
--   TreeSound z s       what holds of the lists s of all levels between parts
--   TreeProgress z g    and while a record is decoded
use Rattle.std.specs.Prelude.{◌≡◌, refl, List, [], map, Bool, true, cond, eqb, length}
use Rattle.std.proofs.Common.{ap, sym, ◌∙◌, subst, arith, length-append, lt-ltb, eq-eqb, ne_eqb}
use Rattle.std.proofs.Math.Path.{ap₂}
use Rattle.std.proofs.Math.Bool.{false}
use Prim.Native.Nat.{ℕ, suc, ◌+◌, ◌*◌, ◌≤◌, ◌<◌}
use Rattle.std.proofs.Math.Decide.{dec_lt, ℕ_discrete}
use Rattle.rules.specs.declared.Size.{Size}
use Rattle.rules.specs.declared.Part.{Part}
use Rattle.rules.specs.declared.Header.{Header}
use Rattle.rules.specs.Document.Pyramid.{family, area, levels, level_of}
use Rattle.rules.specs.Document.Passes.{Entry, typeA, typeB, Side, Course, members, passed, State, after, from, band_ll, PartName}
use Rattle.rules.specs.Document.Passes.{Reader, decoded}
use Rattle.rules.specs.Document.Layout.{bit_at, body_of, bits_there, name_of, usable}
use Rattle.rules.specs.Document.Calls.{Progress, going, unfit, used}
use Rattle.rules.specs.Laws.Counting.Sums.{sum, one, is, All, Every}
use Rattle.rules.proofs.Laws.Counting.Sums.{sum-map, sum_same, sum_pointwise, is_yes, is_no, all_then, all_map}
use Rattle.rules.proofs.Laws.Counting.Sums.{every_all, from_all, from_once, sum_once}
use Rattle.rules.specs.Laws.Family.Sizes.{span, level_size}
use Rattle.rules.proofs.Laws.Family.Sizes.{level_size_fine}
use Rattle.rules.proofs.Laws.Family.Lawful.{grandchild}
use Rattle.rules.specs.Promises.Vocabulary.{Legal}
use Rattle.rules.proofs.Laws.Offspring.Level.{level_most, level_area}
use Rattle.rules.proofs.Laws.Offspring.Once.{band_level}
use Rattle.rules.proofs.Laws.Offspring.Start.{band_length, start_weighs}
use Rattle.rules.proofs.Laws.Offspring.Counts.{level_count_lem}
use Rattle.rules.specs.Laws.Pass.Lists.{set_weight}
use Rattle.rules.specs.Laws.Pass.Levels.{Settled, node_of}
use Rattle.rules.proofs.Laws.Pass.Levels.{settled_offspring}
use Rattle.rules.specs.Laws.Pass.Slots.{Room}
use Rattle.rules.proofs.Laws.Pass.Slots.{room_slots}
use Rattle.rules.proofs.Laws.State.Weight.{after_next}
use Rattle.rules.proofs.Laws.State.Sound.{sound_room, sound_after}
use Rattle.rules.specs.Laws.State.Parts.{OfLevel}
use Rattle.rules.proofs.Laws.State.Parts.{decoded_sound}
use Rattle.rules.specs.Laws.State.Start.{roots_of, Begins}
use Rattle.rules.proofs.Laws.State.Start.{roots_paid, begins_sound}
use Rattle.trees.specs.Renamed.{name_entry}
use Rattle.trees.proofs.Renamed.{map_length, members_renamed}
use Rattle.trees.specs.Family.{trees, tree_level, tree_offspring, coefficient_of}
use Rattle.trees.proofs.Family.{level_same, trees_rename}
use Rattle.trees.proofs.Family.{tree_offspring_none, tree_offspring_group}
use Rattle.trees.specs.Run.{number_of, tree_band, tree_root, tree_start}
use Rattle.trees.proofs.Run.{number_level, number_area, coefficient_number, number_coefficient}
use Rattle.trees.proofs.Run.{coefficient_under, roots_renamed}
use Rattle.trees.specs.Decoding.{onward_of}
use Rattle.trees.proofs.Lawful.{trees_lawful}
use Rattle.trees.specs.Sound.{TreeSound, TreeProgress}

module _ (z : Size) (Z : Legal z) where
  -- A tree number is in the pyramid if it has a level, and so is every member of a set.
  pub tree_level_most : (x : ℕ) → tree_level z x ≤ levels z
  tree_level_most x = omega (arith, level_same z Z x, level_most z (coefficient_of z x))

  pub tree_level_area : (x : ℕ) → 1 ≤ tree_level z x → x < area z
  tree_level_area x h = (coefficient_under z Z x).1 (level_area z Z (coefficient_of z x) (omega (arith, level_same z Z x)))

  pub tree_members_area : (e : Entry) → Every (λ x. x < area z) (members (trees z) e)
  unfolding members
  tree_members_area (typeA p) x i = tree_level_area x ((trees_lawful z Z).from1 p x i)
  tree_members_area (typeB p) x i =
      let g : _ = grandchild (trees z) (trees_lawful z Z) p x i in
      tree_level_area x ((trees_lawful z Z).from1 g.0 x g.2)

  -- The numbers of all coefficients are all numbers, each once: so they weigh the same, and each level has as many.
  number_is : (x q : ℕ) → x < area z → q < area z → is x (number_of z q) ≡ is (coefficient_of z x) q
  number_is x q h l = by (ℕ_discrete (number_of z q) x)
    where
      by : Dec (number_of z q ≡ x) → is x (number_of z q) ≡ is (coefficient_of z x) q
      by (yes e) = is_yes x (number_of z q) e ∙ sym (is_yes (coefficient_of z x) q (sym (coefficient_number z Z q l) ∙ ap (coefficient_of z) e))
      by (no d) =
          is_no x (number_of z q) d
          ∙ sym (is_no (coefficient_of z x) q (λ e. d (ap (number_of z) e ∙ number_coefficient z Z x h)))

  pub numbers_weigh : (w : ℕ → ℕ) → sum (λ q. w (number_of z q)) (from 0 (area z)) ≡ sum w (from 0 (area z))
  numbers_weigh w =
      sym (sum-map w (number_of z) (from 0 (area z)))
      ∙ sum_once w (area z) (map (number_of z) (from 0 (area z))) (all_map _ (number_of z) (from 0 (area z)) (inside (λ q. number_area z Z q))) once
    where
      inside : {P : ℕ → Type 0} → ((q : ℕ) → q < area z → P q) → All P (from 0 (area z))
      inside f = all_then _ _ (from 0 (area z)) (λ q i. f q (omega arith)) (from_all 0 (area z))

      once : (x : ℕ) → x < area z → sum (is x) (map (number_of z) (from 0 (area z))) ≡ 1
      once x h =
          sum-map (is x) (number_of z) (from 0 (area z))
          ∙ sum_same _ (is (coefficient_of z x)) (from 0 (area z)) (inside (λ q l. number_is x q h l))
          ∙ from_once (coefficient_of z x) (area z)
          ∙ unfold one in rw (lt-ltb (coefficient_of z x) (area z) ((coefficient_under z Z x).0 h))

  pub tree_level_count : (k : ℕ) → 1 ≤ k → k ≤ levels z → sum (λ x. is k (tree_level z x)) (from 0 (area z)) ≡ level_size z k
  tree_level_count k a b =
      sym (numbers_weigh (λ x. is k (tree_level z x)))
      ∙ sum_same _ (λ q. is k (level_of z q)) (from 0 (area z))
      (all_then _ _ (from 0 (area z)) (λ q i. ap (is k) (number_level z Z q (omega arith))) (from_all 0 (area z)))
      ∙ level_count_lem z k a b

  -- In every weight, what the passes start with is the pyramid.
  set_weighs : (w : ℕ → ℕ) (e : Entry)
      → sum (λ q. w (number_of z q)) (members (family z) (name_entry (coefficient_of z) e)) ≡ sum w (members (trees z) e)
  set_weighs w e =
      ap (sum (λ q. w (number_of z q))) (members_renamed (coefficient_of z) (family z) (trees z) (trees_rename z Z) e)
      ∙ sum-map (λ q. w (number_of z q)) (coefficient_of z) (members (trees z) e)
      ∙ sum_same _ w (members (trees z) e)
      (every_all _ (members (trees z) e) (λ x i. ap w (number_coefficient z Z x (tree_members_area e x i))))

  pub tree_start_weighs : (w : ℕ → ℕ) → sum w (tree_band z) + sum (set_weight (trees z) w) (roots_of (trees z) (tree_band z)) ≡ sum w (from 0 (area z))
  unfolding roots_of tree_root
  tree_start_weighs w =
      let v : ℕ → ℕ = λ q. w (number_of z q) in
      ap₂ ◌+◌ (sum-map w (number_of z) (band_ll z))
      (sym (ap (sum (set_weight (family z) v)) (roots_renamed z Z)
      ∙ sum-map (set_weight (family z) v) (name_entry (coefficient_of z)) (roots_of (trees z) (tree_band z))
      ∙ sum_pointwise _ (set_weight (trees z) w) (roots_of (trees z) (tree_band z)) (set_weighs w)))
      ∙ start_weighs z Z v
      ∙ numbers_weigh w

  -- The start is sound.
  start_begins : Begins (trees z) (levels z) (tree_band z) (tree_start z)
  unfolding tree_start tree_root roots_of
  start_begins =
      record { first = rw (eq-eqb (levels z) (levels z) refl); others = λ k d. rw (ne_eqb k (levels z) d) }

  pub tree_start_sound : TreeSound z (tree_start z)
  tree_start_sound =
      begins_sound (trees_lawful z Z) tree_level_most (from 0 (area z)) (tree_band z) in_top tree_start_weighs (tree_start z) start_begins
      (roots_paid (trees_lawful z Z) tree_level_most (from 0 (area z)) (tree_band z) in_top tree_start_weighs next)
    where
      in_top : All (λ x. tree_level z x ≡ levels z) (tree_band z)
      in_top =
          all_map _ (number_of z) (band_ll z)
          (every_all _ (band_ll z) (λ p i.
          let v : level_of z p ≡ levels z = band_level z Z p i in
          number_level z Z p (level_area z Z p (omega arith)) ∙ v))

      next : sum (λ x. is z.n (tree_level z x)) (from 0 (area z)) ≤ 3 * length (tree_band z)
      next =
          omega (
            arith,
            tree_level_count z.n Z.some (omega arith),
            level_size_fine z Z z.n Z.some (omega arith),
            band_length z,
            map_length (number_of z) (band_ll z),
          )

  module _ {s : State} (h : TreeSound z s) where
    -- A part of level k has room in the stretch of its level, which has n_k coefficients.
    pub tree_part_room : (k : ℕ) → 1 ≤ k → k ≤ levels z → Room (trees z) k (level_size z k) (length (s k).lsp) 0 (s k).lip (s k).lis
    tree_part_room k a b =
        subst (λ (n : ℕ). Room (trees z) k n (length (s k).lsp) 0 (s k).lip (s k).lis) (tree_level_count k a b)
        (sound_room h (trees_lawful z Z) k b)

    -- Whatever its side, a part leaves sound lists.
    pub tree_after_sound : (k : ℕ) → 1 ≤ k → k ≤ levels z → {S : Type 0} (C : Side S) (x : S) → TreeSound z (after k (passed (trees z) k C (s k) x) s)
    tree_after_sound k a b C x = sound_after (trees_lawful z Z) h k a b C x

  -- What moves out of a level has room in the next.
  pub tree_moved_room : {s : State} → TreeSound z s → (j : ℕ) → 1 ≤ j → suc j ≤ levels z → {S : Type 0} (C : Side S) (x : S)
      → 4 * (length (s j).lis + length (passed (trees z) (suc j) C (s (suc j)) x).moved) ≤ 3 * level_size z j
  tree_moved_room {s} h j a b C x =
      let c = passed (trees z) (suc j) C (s (suc j)) x in
      omega (
        arith,
        room_slots (trees_lawful z Z) (tree_part_room (tree_after_sound h (suc j) (omega arith) b C x) j a (omega arith)),
        ap (λ l. length l.lis) (after_next c s j),
        length-append (s j).lis c.moved,
      )

  -- The node of a set of any LIS has four offspring: so it is a root or of a level from 2 on.
  pub tree_node : {k : ℕ} (e : Entry) → Settled (trees z) k e → (span z (levels z) ≤ node_of e) × (node_of e < span z 1)
  tree_node e s = (over (dec_lt (node_of e) (span z (levels z))), under (dec_lt (node_of e) (span z 1)))
    where
      none : tree_offspring z (node_of e) ≡ [] → ⊥
      none h = let n : length (tree_offspring z (node_of e)) ≡ 0 = rw h in omega (arith, settled_offspring (trees_lawful z Z) e s)

      over : Dec (node_of e < span z (levels z)) → span z (levels z) ≤ node_of e
      over (yes l) = absurd (none (tree_offspring_group z (node_of e) l))
      over (no d) = omega arith

      under : Dec (node_of e < span z 1) → node_of e < span z 1
      under (yes l) = l
      under (no d) = absurd (none (tree_offspring_none z (node_of e) (omega arith)))

-- Decoding, too, goes from sound lists to sound lists.
module _ (h : Header) (Z : Legal h.size) (bytes : List ℕ) (there : List PartName) where
  pub tree_onward_sound : (p : Part) → OfLevel (levels h.size) (name_of p) → (g : Progress) → TreeProgress h.size g
      → TreeProgress h.size (onward_of (trees h.size) h bytes there p g)
  unfolding onward_of TreeProgress
  tree_onward_sound p o (unfit at) i = tt
  tree_onward_sound p o (going s v) i = by (usable (levels h.size) h.planes there (name_of p))
    where
      c : Course Reader
      c = decoded (trees h.size) (name_of p) (bit_at (body_of bytes p)) (bits_there bytes p) s v

      fit : (b : Bool) → TreeProgress h.size (cond b (going (after p.level.0 c s) c.side.pyramid) (unfit p.place))
      fit true = unfold name_of in decoded_sound (trees_lawful h.size Z) i o (bit_at (body_of bytes p)) (bits_there bytes p) v
      fit false = tt

      by : (b : Bool) → TreeProgress h.size (cond b (used p s c) (going s v))
      by true = unfold used in fit (eqb c.side.taken p.bits)
      by false = i
