-- A part of which only the first bits are there, as long as they are the coder's: each coefficient is as before the part or as behind it, and with
-- more bits none goes back. So one of the part's level is rounded at its plane or at the one above, and all others are as they were.
use Rattle.std.specs.Prelude.{◌≡◌, Bool, false, ℕ, ◌≤◌, ◌<◌, length, get_or, ℤ, pos}
use Rattle.std.proofs.Math.Path.{ap}
use Rattle.std.proofs.Common.{sym, ◌∙◌, subst, arith, zero-add}
use mathlib.Core.List.{List, ◌++◌}
use Rattle.rules.specs.Document.Pyramid.{Family}
use Rattle.rules.specs.Document.Passes.{Event, walk, State, PartName, truth, Reader, decoder, decoded}
use Rattle.rules.specs.Laws.Counting.Sums.{sum, is}
use Rattle.rules.specs.Laws.Family.Lawful.{Lawful}
use Rattle.rules.specs.Laws.Pass.Simulation.{drawn, course}
use Rattle.rules.proofs.Laws.Pass.Simulation.{passed_told, talk_of, bits_of, events_of}
use Rattle.rules.specs.Laws.Pass.Early.{writes}
use Rattle.rules.proofs.Laws.Pass.Early.{early, early_front, early_outcomes, Left, draws_early, takes_enough, drawn_length, writes_most}
use Rattle.rules.specs.Laws.Pass.Early.{Between}
use Rattle.rules.proofs.Laws.Pass.Early.{drawn_between}
use Rattle.rules.proofs.Laws.State.Weight.{weight_part}
use Rattle.rules.specs.Laws.State.Sound.{Sound}
use Rattle.rules.proofs.Laws.Rounding.Known.{follower_passed}
use Rattle.rules.proofs.Laws.Rounding.KnownState.{followed}

module _ (F : Family) (mag : ℕ → ℕ) (neg : ℕ → Bool) (p : PartName) (s : State) where
  -- the pyramid after the first m bits of the part
  unfoldable pub drawn_to : ℕ → List ℤ → List ℤ
  drawn_to m v = drawn p.plane (early (truth F mag neg p.plane) (talk_of F mag neg p s) m) v

  pub drawn_to_length : (m : ℕ) (v : List ℤ) → length (drawn_to m v) ≡ length v
  unfolding drawn_to
  drawn_to_length m v = drawn_length p.plane (early (truth F mag neg p.plane) (talk_of F mag neg p s) m) v

  followed_drawn : (v : List ℤ) → (followed F mag neg p s v).side ≡ drawn p.plane (events_of F mag neg p s) v
  unfolding followed course
  followed_drawn v = ap (λ c. c.side) (follower_passed F mag neg p.plane p.level (s p.level) v)

  -- The decoder draws just that, and takes as many bits as are there, so it fits.
  module _ (bit : ℕ → Bool) (there : ℕ) (v : List ℤ) (same : (i : ℕ) → i < there → bit i ≡ get_or (bits_of F mag neg p s) i false)
      (some : there ≤ length (bits_of F mag neg p s)) where
    abbrev begun : Reader
    begun = record { taken = 0; pyramid = v }

    begins : Left bit there p.plane (truth F mag neg p.plane) there (talk_of F mag neg p s) begun
    begins = (omega arith, λ i l k. ap bit (zero-add i) ∙ same i l)

    its_side : (decoded F p bit there s v).side ≡ walk (decoder bit there p.plane) (talk_of F mag neg p s) begun
    unfolding decoded course
    its_side = ap (λ c. c.side) (passed_told F p.level (decoder bit there p.plane) (s p.level) begun)

    pub cut_drawn : (decoded F p bit there s v).side.pyramid ≡ drawn_to there v
    unfolding drawn_to
    cut_drawn =
        ap (λ r. r.pyramid) its_side
        ∙ draws_early bit there p.plane (truth F mag neg p.plane) (talk_of F mag neg p s) begun there begins

    pub cut_fits : there ≤ (decoded F p bit there s v).side.taken
    cut_fits =
        subst (λ r. there ≤ r.taken) (sym its_side)
        (takes_enough bit there p.plane (truth F mag neg p.plane) (talk_of F mag neg p s) begun there begins some)

  module _ (L : Lawful F) {top : ℕ} {all : List ℕ} (h : Sound F top all s) (b : p.level ≤ top) (q : ℕ) (once : sum (is q) all ≤ 1) where
    written_once : writes q (events_of F mag neg p s) ≤ 1
    written_once =
        omega (
          arith,
          writes_most (truth F mag neg p.plane) q L p.level (s p.level),
          h.conserved (is q),
          weight_part F (is q) s p.level top b,
        )

    pub part_between : (v : List ℤ) (l m : ℕ) → l ≤ m
        → Between (get_or v q (pos 0)) (get_or (drawn_to l v) q (pos 0)) (get_or (drawn_to m v) q (pos 0)) (get_or (followed F mag neg p s v).side q (pos 0))
    unfolding drawn_to
    part_between v l m i =
        let t = truth F mag neg p.plane in
        let talk = talk_of F mag neg p s in
        let more : (later : List Event) × (early t talk m ≡ early t talk l ++ later) = early_front t talk l m i in
        let rest : (later : List Event) × (events_of F mag neg p s ≡ early t talk m ++ later) = early_outcomes t talk m in
        let all-events : events_of F mag neg p s ≡ early t talk l ++ more.0 ++ rest.0 = rest.1 ∙ ap (λ x. x ++ rest.0) more.1 in
        let end : (followed F mag neg p s v).side ≡ drawn p.plane (early t talk l ++ more.0 ++ rest.0) v
        = followed_drawn v ∙ ap (λ x. drawn p.plane x v) all-events in
        rw (end, more.1) (drawn_between p.plane q (early t talk l) more.0 rest.0 v (subst (λ x. writes q x ≤ 1) all-events written_once))
