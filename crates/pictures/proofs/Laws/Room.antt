-- Room: for N up to 8, every number that a turn takes, leaves in between or gives is within 2^24 of 0, so every tone within 2^24 of the bias:
-- on the way in of pixels up to 255, and on the way back of a pyramid with magnitudes up to 131,071.
use Rattle.std.specs.Prelude.{◌≡◌, ℕ, suc, ◌+◌, ◌*◌, ◌/◌, ◌^◌, ◌≤◌}
use Rattle.std.proofs.Common.{arith, div-one}
use Rattle.rules.specs.declared.Size.{Size}
use Rattle.rules.specs.Promises.Vocabulary.{Legal}
use Rattle.pictures.specs.Document.Lifting.{Grid, forward, back}
use Rattle.pictures.proofs.Laws.Reversible.{even_rows, even_columns}
use Rattle.pictures.specs.Laws.Turns.{Most, most_pixel, grown}
use Rattle.pictures.proofs.Laws.Turns.{grown_more, columns_split_most, forward_low, forward_most}
use Rattle.pictures.specs.Laws.Turns.{Bands, back_most, Unturned, returned}
use Rattle.pictures.proofs.Laws.Turns.{bands_most, rows_joined_most, back_bands, returned_back, returned_unturned}
use Rattle.pictures.specs.Laws.Room.{most_turns, shallow, most_back, RoomIn, RoomBack}

grown_room : (l : ℕ) → l ≤ most_turns → 4 * grown l most_pixel ≤ shallow
unfolding grown
grown_room l h = omega (arith, grown_more l most_turns most_pixel h)

module _ (z : Size) (Z : Legal z) (few_turns : z.n ≤ most_turns) where
  pub room_in : (g : Grid) → Most z.h z.w most_pixel g → (l : ℕ) → l ≤ z.n → RoomIn z g l
  room_in g few l a =
      let room : 4 * grown l most_pixel ≤ shallow = grown_room l (omega arith) in
      let low : Most (z.h / 2 ^ l) (z.w / 2 ^ l) (grown l most_pixel) (forward z l g) = forward_low z Z most_pixel g few l a (omega arith) in
      record {
        taken = λ i j c d. omega (arith, low i j c d);
        columns = λ i j c d.
            let even = even_rows z Z l a in
            omega (arith, columns_split_most (z.h / 2 ^ l) (z.w / 2 ^ l) (grown l most_pixel) (forward z l g) (omega arith) low even i j c d);
        whole = λ i j c d. omega (arith, forward_most z Z most_pixel g few l l a (omega arith) (omega arith) i j c d);
      }

  module _ (g : Grid) (few : Most z.h z.w most_back g) where
    unturned : (k l : ℕ) → k + l ≡ z.n → Unturned z most_back k l (returned z k g)
    unturned k l e = returned_unturned z g k Z most_back l few (omega arith) e

    pub room_back : (k l : ℕ) → k + suc l ≡ z.n → RoomBack z (returned z k g) l
    room_back k l e =
        let h : ℕ = z.h / 2 ^ l in
        let w : ℕ = z.w / 2 ^ l in
        let y : Grid = returned z k g in
        let B : Bands h w (back_most most_back k) most_back y = back_bands z Z most_back k l (omega arith) y (unturned k (suc l) e) in
        let f : w ≡ 2 * (w / 2) = even_columns z Z l (omega arith) in
        record {
          taken = λ i j c d. omega (arith, bands_most h w (back_most most_back k) most_back y (omega arith) B i j c d);
          rows = λ i j c d.
              omega (arith, rows_joined_most h w (back_most most_back k) most_back y (omega arith) (omega arith) B f (omega arith) i j c d);
        }

    pub room_back_whole : Most z.h z.w shallow (back z z.n g)
    room_back_whole i j c d =
        rw (← (returned_back z g))
        (omega (arith, (unturned z.n 0 (omega arith)).inside i j (omega (arith, div-one z.h)) (omega (arith, div-one z.w))))
