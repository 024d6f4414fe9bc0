-- The coder's and the decoder's parts: each leaves the lists of all levels sound, and takes at most four bits for each coefficient there is.
use Rattle.std.specs.Prelude.{refl, Bool, ℕ, zero, suc, ◌*◌, ◌≤◌, length, ℤ}
use mathlib.Core.List.{List, [], ◌∷◌}
use Rattle.std.proofs.Common.{arith, length-append}
use Rattle.rules.specs.Document.Pyramid.{Family}
use Rattle.rules.specs.Document.Passes.{State, after, PartName, parts_of_plane, part_names, truth, coder, coded, decoder, decoded}
use Rattle.rules.specs.Document.Layout.{coded_parts}
use Rattle.rules.specs.Laws.Counting.Sums.{is, All}
use Rattle.rules.proofs.Laws.Counting.Sums.{sum_le, sum_one, is_most, all_of, all_then, all_append}
use Rattle.rules.specs.Laws.Family.Lawful.{Lawful}
use Rattle.rules.specs.Laws.Pass.Bounds.{Taking}
use Rattle.rules.proofs.Laws.Pass.Bounds.{passed_bounded}
use Rattle.rules.specs.Laws.State.Sound.{Sound, level_count}
use Rattle.rules.proofs.Laws.State.Sound.{sound_room, sound_after}
use Rattle.rules.specs.Laws.State.Parts.{OfLevel}

pub coder_takes : (F : Family) (mag : ℕ → ℕ) (neg : ℕ → Bool) (n : ℕ) → Taking (coder F mag neg n) length
coder_takes F mag neg n =
    record { asked = λ q bits. omega (arith, length-append bits (truth F mag neg n q ∷ [])); noted = λ e bits. omega arith }

level_count_most : (F : Family) (all : List ℕ) (k : ℕ) → level_count F all k ≤ length all
level_count_most F all k =
    omega (
      arith,
      sum_le (λ q. is k (F.level q)) (λ q. 1) all (all_of _ all (λ q. is_most k (F.level q))),
      sum_one (λ q. 1) all (all_of _ all (λ q. refl)),
    )

module _ {F : Family} (L : Lawful F) {top : ℕ} {all : List ℕ} {s : State} (h : Sound F top all s) {p : PartName} (o : OfLevel top p) where
  -- One part of the coder.
  module _ (mag : ℕ → ℕ) (neg : ℕ → Bool) where
    pub coded_sound : Sound F top all (after p.level (coded F mag neg p s) s)
    unfolding coded
    coded_sound = sound_after L h p.level o.from1 o.up_to (coder F mag neg p.plane) []

    -- at most eleven bits for every four coefficients of its level
    pub coded_taken : 4 * length (coded F mag neg p s).side ≤ 11 * level_count F all p.level
    unfolding coded
    coded_taken =
        omega (arith, (passed_bounded L (coder_takes F mag neg p.plane) (s p.level) [] (sound_room h L p.level o.up_to)).taken)

    pub coded_bits : length (coded F mag neg p s).side ≤ 4 * length all
    coded_bits = omega (arith, coded_taken, level_count_most F all p.level)

  -- One part of the decoder, whatever its bits.
  module _ (bit : ℕ → Bool) (there : ℕ) (v : List ℤ) where
    pub decoded_sound : Sound F top all (after p.level (decoded F p bit there s v) s)
    unfolding decoded
    decoded_sound = sound_after L h p.level o.from1 o.up_to (decoder bit there p.plane) (record { taken = 0; pyramid = v })

-- All parts of the coder.
parts_of_plane_levels : (top n k : ℕ) → k ≤ top → All (OfLevel top) (parts_of_plane n k)
unfolding All parts_of_plane
parts_of_plane_levels top n zero h = tt
parts_of_plane_levels top n (suc k) h = (record { from1 = omega arith; up_to = h }, parts_of_plane_levels top n k (omega arith))

pub part_names_levels : (top planes : ℕ) → All (OfLevel top) (part_names top planes)
unfolding All part_names
part_names_levels top zero = tt
part_names_levels top (suc n) =
    all_append (OfLevel top) (parts_of_plane n top) (part_names top n) (parts_of_plane_levels top n top (omega arith)) (part_names_levels top n)

module _ {F : Family} (L : Lawful F) {top : ℕ} {all : List ℕ} (mag : ℕ → ℕ) (neg : ℕ → Bool) where
  pub coded_parts_taken : (ps : List PartName) → All (OfLevel top) ps → (s : State) → Sound F top all s
      → All (λ c. 4 * length c.bits ≤ 11 * level_count F all c.name.level) (coded_parts F mag neg ps s)
  unfolding All coded_parts
  coded_parts_taken [] o s h = tt
  coded_parts_taken (p ∷ ps) o s h =
      (coded_taken L h o.0 mag neg, coded_parts_taken ps o.1 _ (coded_sound L h o.0 mag neg))

  pub coded_parts_bits : (ps : List PartName) → All (OfLevel top) ps → (s : State) → Sound F top all s
      → All (λ c. length c.bits ≤ 4 * length all) (coded_parts F mag neg ps s)
  coded_parts_bits ps o s h =
      all_then _ _ (coded_parts F mag neg ps s) (λ c l. omega (arith, l, level_count_most F all c.name.level)) (coded_parts_taken ps o s h)
