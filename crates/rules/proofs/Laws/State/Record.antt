-- The lists of document 01's pyramid, for every legal size: sound at the start and after each part, so that a part has room in its level.
use Rattle.std.specs.Prelude.{◌≡◌, ℕ, ◌*◌, ◌≤◌, length, ℤ}
use Rattle.std.proofs.Common.{subst, arith}
use mathlib.Core.List.{List}
use Rattle.rules.specs.declared.Size.{Size}
use Rattle.rules.specs.Document.Pyramid.{family, area, levels, level_of, magnitude, negative}
use Rattle.rules.specs.Document.Passes.{State, from, band_ll, root_of, start, PartName, part_names}
use Rattle.rules.specs.Document.Layout.{planes_in, parts_of}
use Rattle.rules.specs.Document.Numbers.{most_bits}
use Rattle.rules.specs.Laws.Counting.Sums.{sum, is, All}
use Rattle.rules.proofs.Laws.Counting.Sums.{all_then, every_all, from_length}
use Rattle.rules.specs.Laws.Family.Sizes.{level_size}
use Rattle.rules.proofs.Laws.Family.Sizes.{level_size_fine}
use Rattle.rules.specs.Promises.Vocabulary.{Legal}
use Rattle.rules.proofs.Laws.Offspring.Level.{level_most}
use Rattle.rules.proofs.Laws.Offspring.Lawful.{lawful}
use Rattle.rules.proofs.Laws.Offspring.Once.{band_level}
use Rattle.rules.proofs.Laws.Offspring.Start.{start_top, start_else, band_length, start_weighs}
use Rattle.rules.proofs.Laws.Offspring.Counts.{level_count_lem}
use Rattle.rules.specs.Laws.Pass.Slots.{Room}
use Rattle.rules.proofs.Laws.State.Sound.{sound_room}
use Rattle.rules.proofs.Laws.State.Parts.{part_names_levels, coded_parts_bits}
use Rattle.rules.specs.Laws.State.Start.{roots_of, Begins}
use Rattle.rules.proofs.Laws.State.Start.{roots_paid, begins_sound}
use Rattle.rules.specs.Laws.State.Record.{SoundLists}

module _ (z : Size) (Z : Legal z) where
  start_begins : Begins (family z) (levels z) (band_ll z) (start z)
  unfolding roots_of root_of
  start_begins = record { first = start_top z; others = start_else z }

  -- The start is sound.
  pub start_sound : SoundLists z (start z)
  unfolding roots_of root_of
  start_sound =
      begins_sound (lawful z Z) (level_most z) (from 0 (area z)) (band_ll z) in_top (start_weighs z Z) (start z) start_begins
      (roots_paid (lawful z Z) (level_most z) (from 0 (area z)) (band_ll z) in_top (start_weighs z Z) next)
    where
      in_top : All (λ p. level_of z p ≡ levels z) (band_ll z)
      in_top = every_all _ (band_ll z) (band_level z Z)

      next : sum (λ q. is z.n (level_of z q)) (from 0 (area z)) ≤ 3 * length (band_ll z)
      next = omega (arith, level_count_lem z z.n Z.some (omega arith), level_size_fine z Z z.n Z.some (omega arith), band_length z)

  module _ {s : State} (h : SoundLists z s) where
    -- A part of level k has room in the stretch of its level, which has n_k coefficients.
    pub part_room : (k : ℕ) → 1 ≤ k → k ≤ levels z → Room (family z) k (level_size z k) (length (s k).lsp) 0 (s k).lip (s k).lis
    part_room k a b =
        subst (λ (n : ℕ). Room (family z) k n (length (s k).lsp) 0 (s k).lip (s k).lis) (level_count_lem z k a b) (sound_room h (lawful z Z) k b)

  -- No part of a record has more than 4 x W x H bits.
  pub parts_of_bits : (pyramid : List ℤ) → All (λ c. length c.bits ≤ most_bits z) (parts_of z pyramid)
  unfolding parts_of
  parts_of_bits pyramid =
      let names : List PartName = part_names (levels z) (planes_in pyramid) in
      all_then _ _ (parts_of z pyramid) (λ c l. omega (arith, l, from_length 0 (area z)))
      (coded_parts_bits (lawful z Z) (magnitude pyramid) (negative pyramid) names (part_names_levels (levels z) (planes_in pyramid))
      (start z) start_sound)
