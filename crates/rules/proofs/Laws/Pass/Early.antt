-- A pass of which only the first bits are there. What is told before more bits are asked for is a front of all that comes out; and no place of
-- the pyramid is written twice in a pass, so after that front each place holds what it held before, or what it holds in the end.
use Rattle.std.specs.Prelude.{◌≡◌, Bool, false, length, get_or, ℤ, pos}
use Rattle.std.proofs.Math.Path.{refl, ap, subst}
use Rattle.std.proofs.Common.{sym, ◌∙◌, le-leb}
use mathlib.Core.List.{List, [], ◌∷◌, ◌++◌}
use Rattle.std.proofs.Math.Bool.{cond}
use Prim.Native.Nat.{ℕ, zero, suc, ◌+◌, ◌≤◌, ◌<◌}
use native.Mathlib.Omega.{arith}
use Rattle.std.proofs.Math.ListN.{length-set}
use Rattle.std.proofs.Math.Seq.{get_or-set_other}
use Rattle.std.proofs.lemmas.Bool.{lt-leb}
use Rattle.rules.specs.Document.Notation.{flat}
use Rattle.rules.specs.Document.Pyramid.{Family}
use Rattle.rules.specs.Document.Passes.{Question, Event, to_lip, to_lsp, stays, moves, refined, Talk, done, ask, tell, Lists, added, pass, Side, walk}
use Rattle.rules.specs.Document.Passes.{Reader, written, decoder}
use Rattle.rules.specs.Laws.Counting.Sums.{sum, is}
use Rattle.rules.proofs.Laws.Counting.Sums.{sum_append, is_same, flat_append}
use Rattle.rules.specs.Laws.Family.Lawful.{Lawful}
use Rattle.rules.proofs.Laws.Family.Lawful.{set_splits}
use Rattle.rules.specs.Laws.Pass.Steps.{sign_noted, bit_noted}
use Rattle.rules.specs.Laws.Pass.Kept.{Kept}
use Rattle.rules.proofs.Laws.Pass.Kept.{kept_pass}
use Rattle.rules.specs.Laws.Pass.Lists.{set_weight, lists_weight}
use Rattle.rules.specs.Laws.Pass.Simulation.{spoken, outcomes, drawn}
use Rattle.rules.proofs.Laws.Pass.Simulation.{taken_said, decoder_reads}
use Rattle.rules.specs.Laws.Pass.Early.{places_of, writes, Between, untouched, only_further, both_drawn}

-- What is told before more than m bits are asked for.
module _ (answer : Question → Bool) where
  unfoldable pub early : Talk → ℕ → List Event
  early done m = []
  early (ask q go) zero = []
  early (ask q go) (suc m) = early (go (answer q)) m
  early (tell e next) m = e ∷ early next m

  -- With more bits it goes on from there, and with all of them it is all that comes out.
  pub early_front : (t : Talk) (l m : ℕ) → l ≤ m → (later : List Event) × (early t m ≡ early t l ++ later)
  unfolding early
  early_front done l m h = ([], refl)
  early_front (ask q go) zero m h = (early (ask q go) m, refl)
  early_front (ask q go) (suc l) zero h = absurd (omega arith)
  early_front (ask q go) (suc l) (suc m) h = early_front (go (answer q)) l m (omega arith)
  early_front (tell e next) l m h = let r = early_front next l m h in (r.0, ap (λ es. e ∷ es) r.1)

  pub early_all : (t : Talk) (m : ℕ) → length (spoken answer t) ≤ m → early t m ≡ outcomes answer t
  unfolding early spoken outcomes
  early_all done m h = refl
  early_all (ask q go) zero h = absurd (omega arith)
  early_all (ask q go) (suc m) h = early_all (go (answer q)) m (omega arith)
  early_all (tell e next) m h = ap (λ es. e ∷ es) (early_all next m h)

  pub early_outcomes : (t : Talk) (m : ℕ) → (later : List Event) × (outcomes answer t ≡ early t m ++ later)
  early_outcomes t m =
      let all : ℕ = m + length (spoken answer t) in
      let r = early_front t m all (omega arith) in
      (r.0, sym (early_all t all (omega arith)) ∙ r.1)

-- The decoder, of whose bits the first are there and are those that are spoken: what is told early it draws, and then nothing more, whatever it
-- hears; and it takes as many as are there, if so many are spoken.
module _ (bit : ℕ → Bool) (there n : ℕ) where
  abbrev D : Side Reader
  D = decoder bit there n

  pub stopped_stays : (t : Talk) (r : Reader) → there < r.taken → (walk (decoder bit there n) t r).pyramid ≡ r.pyramid
  unfolding walk
  stopped_stays done r h = refl
  stopped_stays (ask q go) r h = stopped_stays (go (bit r.taken)) (D.reply q r).next (omega arith)
  stopped_stays (tell e next) r h =
      stopped_stays next (D.note e r) h ∙ ap (λ b. cond b (written n e r.pyramid) r.pyramid) (lt-leb r.taken there h)

  module _ (answer : Question → Bool) where
    -- as many bits more are there, and these are the next that are spoken
    abbrev pub Left : ℕ → Talk → Reader → Type 0
    Left m t r =
        (there ≡ r.taken + m) × ((i : ℕ) → i < m → i < length (spoken answer t) → bit (r.taken + i) ≡ get_or (spoken answer t) i false)

    left_next : (q : Question) (go : Bool → Talk) (r : Reader) (m : ℕ) → Left (suc m) (ask q go) r
        → (bit r.taken ≡ answer q) × Left m (go (answer q)) (D.reply q r).next
    unfolding spoken
    left_next q go r m h = (
      ap bit (omega arith) ∙ h.1 0 (omega arith) (omega arith),
      (omega (arith, h.0), λ i l k. ap bit (omega arith) ∙ h.1 (suc i) (omega arith) (omega arith)),
    )

    pub draws_early : (t : Talk) (r : Reader) (m : ℕ) → Left m t r
        → (walk (decoder bit there n) t r).pyramid ≡ drawn n (early answer t m) r.pyramid
    unfolding walk early drawn
    draws_early done r m h = refl
    draws_early (ask q go) r zero h = stopped_stays (go (bit r.taken)) (D.reply q r).next (omega (arith, h.0))
    draws_early (ask q go) r (suc m) h =
        let next = left_next q go r m h in
        ap (λ b. (walk D (go b) (D.reply q r).next).pyramid) next.0 ∙ draws_early (go (answer q)) (D.reply q r).next m next.1
    draws_early (tell e next) r m h =
        draws_early next (D.note e r) m (unfold spoken in h)
        ∙ ap (λ b. drawn n (early answer next m) (cond b (written n e r.pyramid) r.pyramid)) (le-leb r.taken there (omega (arith, h.0)))

    pub takes_enough : (t : Talk) (r : Reader) (m : ℕ) → Left m t r → m ≤ length (spoken answer t) → there ≤ (walk (decoder bit there n) t r).taken
    unfolding walk spoken
    takes_enough done r m h l = omega (arith, h.0)
    takes_enough (ask q go) r zero h l =
        omega (arith, h.0, taken_said D bit (λ r. r.taken) (decoder_reads bit there n) (go (bit r.taken)) (D.reply q r).next)
    takes_enough (ask q go) r (suc m) h l =
        let next = left_next q go r m h in
        subst (λ b. there ≤ (walk D (go b) (D.reply q r).next).taken) (sym next.0)
        (takes_enough (go (answer q)) (D.reply q r).next m next.1 (omega arith))
    takes_enough (tell e next) r m h l = takes_enough next (D.note e r) m h l

writes_append : (q : ℕ) (es fs : List Event) → writes q (es ++ fs) ≡ writes q es + writes q fs
writes_append q es fs = ap (sum (is q)) (flat_append places_of es fs) ∙ sum_append (is q) (flat places_of es) (flat places_of fs)

module _ (n q : ℕ) where
  written_elsewhere : (e : Event) (v : List ℤ) → sum (is q) (places_of e) ≡ 0 → get_or (written n e v) q (pos 0) ≡ get_or v q (pos 0)
  unfolding written places_of sum
  written_elsewhere (to_lip p) v h = refl
  written_elsewhere (to_lsp p b) v h = get_or-set_other v p q _ (pos 0) (λ e. omega (arith, ap (λ (x : ℕ). is x p) e, is_same p))
  written_elsewhere (stays e) v h = refl
  written_elsewhere (moves e) v h = refl
  written_elsewhere (refined p b) v h = get_or-set_other v p q _ (pos 0) (λ e. omega (arith, ap (λ (x : ℕ). is x p) e, is_same p))

  pub drawn_elsewhere : (es : List Event) (v : List ℤ) → writes q es ≡ 0 → get_or (drawn n es v) q (pos 0) ≡ get_or v q (pos 0)
  unfolding drawn flat sum
  drawn_elsewhere [] v h = refl
  drawn_elsewhere (e ∷ es) v h =
      drawn_elsewhere es (written n e v) (omega (arith, sum_append (is q) (places_of e) (flat places_of es)))
      ∙ written_elsewhere e v (omega (arith, sum_append (is q) (places_of e) (flat places_of es)))

pub drawn_length : (n : ℕ) (es : List Event) (v : List ℤ) → length (drawn n es v) ≡ length v
unfolding drawn
drawn_length n [] v = refl
drawn_length n (e ∷ es) v = drawn_length n es (written n e v) ∙ same e
  where
    same : (e : Event) → length (written n e v) ≡ length v
    same (to_lip p) = unfold written in refl
    same (to_lsp p b) = unfold written in length-set v p _
    same (stays d) = unfold written in refl
    same (moves d) = unfold written in refl
    same (refined p b) = unfold written in length-set v p _

drawn_append : (n : ℕ) (es fs : List Event) (v : List ℤ) → drawn n (es ++ fs) v ≡ drawn n fs (drawn n es v)
unfolding drawn
drawn_append n [] fs v = refl
drawn_append n (e ∷ es) fs v = drawn_append n es fs (written n e v)

-- In a pass no place is written more often than it stands in the lists.
module _ (answer : Question → Bool) (q : ℕ) where
  abbrev tally : Side ℕ
  tally = record { reply = λ x s. record { bit = answer x; next = s }; note = λ e s. s + sum (is q) (places_of e) }

  tally_writes : (t : Talk) (s : ℕ) → walk tally t s ≡ s + writes q (outcomes answer t)
  unfolding walk outcomes flat sum
  tally_writes done s = omega arith
  tally_writes (ask x go) s = tally_writes (go (answer x)) s
  tally_writes (tell e next) s =
      omega (arith, tally_writes next (s + sum (is q) (places_of e)), sum_append (is q) (places_of e) (flat places_of (outcomes answer next)))

  module _ {F : Family} (L : Lawful F) (k : ℕ) where
    tally_kept : (most : ℕ) → Kept F k tally (λ s ps es ks. s + sum (is q) ps + sum (set_weight F (is q)) es + sum (is q) ks ≤ most)
    unfolding sign_noted bit_noted sum places_of
    tally_kept most = record {
      insignificant = λ s p ps es ks b h. omega arith;
      significant = λ s p ps es ks b h. omega arith;
      moving = λ s e es ks i h. omega arith;
      staying = λ s e es ks i b h. omega arith;
      opening = λ s e es ks i b h. omega (arith, sum_append (set_weight F (is q)) es (added F e), set_splits F L (is q) e);
      refining = λ s p ks h. omega arith;
    }

    pub writes_most : (l : Lists) → writes q (outcomes answer (pass F k l)) ≤ lists_weight F (is q) l
    unfolding lists_weight sum
    writes_most l =
        let h : walk tally (pass F k l) 0 + 0 + 0 + 0 ≤ lists_weight F (is q) l = kept_pass (tally_kept (lists_weight F (is q) l)) L l 0 (omega arith) in
        omega (arith, tally_writes (pass F k l) 0)

module _ (n q : ℕ) (es fs gs : List Event) (v : List ℤ) (once : writes q (es ++ fs ++ gs) ≤ 1) where
  abbrev place : List ℤ → ℤ
  place w = get_or w q (pos 0)

  split : writes q (es ++ fs ++ gs) ≡ writes q es + writes q fs + writes q gs
  split = writes_append q (es ++ fs) gs ∙ ap (λ (x : ℕ). x + writes q gs) (writes_append q es fs)

  further : writes q fs ≡ 0 → place (drawn n (es ++ fs) v) ≡ place (drawn n es v)
  further h = ap place (drawn_append n es fs v) ∙ drawn_elsewhere n q fs (drawn n es v) h

  ends : writes q gs ≡ 0 → place (drawn n (es ++ fs ++ gs) v) ≡ place (drawn n (es ++ fs) v)
  ends h = ap place (drawn_append n (es ++ fs) gs v) ∙ drawn_elsewhere n q gs (drawn n (es ++ fs) v) h

  pub drawn_between : Between (place v) (place (drawn n es v)) (place (drawn n (es ++ fs) v)) (place (drawn n (es ++ fs ++ gs) v))
  drawn_between = by (writes q es) refl (writes q fs) refl
    where
      by : (x : ℕ) → writes q es ≡ x → (y : ℕ) → writes q fs ≡ y
          → Between (place v) (place (drawn n es v)) (place (drawn n (es ++ fs) v)) (place (drawn n (es ++ fs ++ gs) v))
      by zero e zero f =
          let a : place (drawn n es v) ≡ place v = drawn_elsewhere n q es v e in
          untouched a (further f ∙ a)
      by zero e (suc y) f = only_further (drawn_elsewhere n q es v e) (sym (ends (omega (arith, split))))
      by (suc x) e y f =
          let same : place (drawn n (es ++ fs ++ gs) v) ≡ place (drawn n (es ++ fs) v) = ends (omega (arith, split)) in
          both_drawn (sym (further (omega (arith, split))) ∙ sym same) (sym same)
