-- Decoding parts that a coder made, some of them struck out: a usable part has just the bits that the decoder's lists ask for, so it fits, and
-- the decoder goes on as the coder went.
use Rattle.std.specs.Prelude.{◌≡◌, Bool, true, false, cond, ℕ, suc, ◌+◌, ◌≤◌, leb, get_or, drop, ℤ}
use Rattle.std.proofs.Math.Path.{refl, ap}
use Rattle.std.proofs.Common.{sym, ◌∙◌, true≢false, leb-true, leb-false, eq-eqb}
use mathlib.Core.List.{List, [], ◌∷◌, ◌++◌, append_assoc}
use native.Mathlib.Omega.{arith}
use Rattle.std.proofs.Math.ListN.{length}
use Rattle.rules.specs.declared.Header.{Header}
use Rattle.rules.specs.Document.Notation.{flat}
use Rattle.rules.specs.Document.Pyramid.{Family, family}
use Rattle.rules.specs.Document.Passes.{Event, pass, Course, State, after, PartName, truth, coded, decoded}
use Rattle.rules.specs.Document.Layout.{CodedPart, part_bytes, coded_parts, bytes_for, bit_at, body_of, bits_there, name_of, usable}
use Rattle.rules.specs.Document.Numbers.{headed, top_level}
use Rattle.rules.specs.Document.Calls.{going, used, onward, decode_parts}
use Rattle.rules.specs.Laws.Counting.Sums.{All}
use Rattle.rules.specs.Laws.Reading.Parts.{InOrder, After}
use Rattle.rules.proofs.Laws.Reading.Parts.{follows_after}
use Rattle.rules.specs.Laws.Pass.Simulation.{spoken, course, drawn}
use Rattle.rules.proofs.Laws.Pass.Simulation.{bits_of, events_of, coded_course, decoded_course, after_course}
use Rattle.rules.proofs.Laws.Bytes.BodyBack.{packed_bit, packed_length}
use Rattle.rules.proofs.Laws.Bytes.PartBack.{part_body, next_stands}
use Rattle.rules.specs.Promises.Vocabulary.{part_at, parts_at, selection}
use Rattle.rules.proofs.Laws.Rounding.Known.{follower_passed}
use Rattle.rules.proofs.Laws.Rounding.KnownState.{followed}
use Rattle.rules.specs.Laws.State.Agreement.{lists_with, Alike}
use Rattle.rules.proofs.Laws.State.Agreement.{alike_used, alike_unused}
use Rattle.rules.proofs.Laws.Rounding.Rebuilt.{rebuilt}

module _ (F : Family) (mag : ℕ → ℕ) (neg : ℕ → Bool) (p : PartName) where
  pub coded_spoken : (s : State) → (coded F mag neg p s).side ≡ bits_of F mag neg p s
  unfolding course
  coded_spoken s = ap (λ c. c.side) (coded_course F mag neg p s)

  -- The decoder that follows makes the coder's lists.
  pub followed_lists : (s : State) (v : List ℤ) → lists_with F mag neg p s ≡ after p.level (followed F mag neg p s v) s
  unfolding followed
  followed_lists s v =
      ap (λ c. after p.level c s) (coded_course F mag neg p s)
      ∙ after_course p.level (s p.level) (events_of F mag neg p s) _ (drawn p.plane (events_of F mag neg p s) v) s
      ∙ ap (λ c. after p.level c s) (sym (follower_passed F mag neg p.plane p.level (s p.level) v))

module _ (h : Header) (bytes : List ℕ) (there : List PartName) (mag : ℕ → ℕ) (neg : ℕ → Bool) where
  abbrev F : Family
  F = family h.size

  -- One part.
  module _ (place : ℕ) (q : CodedPart) (s : State) (v : List ℤ) where
    onward_unusable : usable (top_level h) h.planes there q.name ≡ false → onward h bytes there (part_at place q) (going s v) ≡ going s v
    unfolding onward name_of part_at headed
    onward_unusable u = rw u

    module _ (rest : List ℕ) (stands : drop place bytes ≡ part_bytes q ++ rest) (same : q.bits ≡ bits_of (family h.size) mag neg q.name s) where
      abbrev events : List Event
      events = events_of F mag neg q.name s

      all_there : bits_there bytes (part_at place q) ≡ length q.bits
      unfolding bits_there
      all_there =
          let long : length (body_of bytes (part_at place q)) ≡ bytes_for (length q.bits)
          = ap length (part_body bytes place q rest stands) ∙ packed_length q.bits in
          let count : (part_at place q).bits ≡ length q.bits = unfold part_at headed in refl in
          omega arith

      fits : decoded F q.name (bit_at (body_of bytes (part_at place q))) (bits_there bytes (part_at place q)) s v
          ≡ course (s q.name.level) events (record { taken = length q.bits; pyramid = drawn q.name.plane events v })
      fits =
          decoded_course F mag neg q.name s (bit_at (body_of bytes (part_at place q))) (bits_there bytes (part_at place q)) v (λ i l.
          ap (λ b. bit_at b i) (part_body bytes place q rest stands) ∙ packed_bit q.bits i ∙ ap (λ b. get_or b i false) same)
          (omega (arith, all_there, ap length same))
          ∙ ap (λ b. course (s q.name.level) events (record { taken = length b; pyramid = drawn q.name.plane events v })) (sym same)

      onward_usable : usable (top_level h) h.planes there q.name ≡ true
          → onward h bytes there (part_at place q) (going s v)
          ≡ going (after q.name.level (followed F mag neg q.name s v) s) (followed F mag neg q.name s v).side
      unfolding onward used name_of part_at headed followed course after
      onward_usable u =
          rw u
          (ap (used (part_at place q) s) fits
          ∙ rw (eq-eqb (length q.bits) (length q.bits) refl)
          (ap (λ c. going (after q.name.level c s) c.side) (sym (follower_passed F mag neg q.name.plane q.name.level (s q.name.level) v))))

  -- All parts, R being the planes that the levels reached, and none of the usable parts struck out.
  module _ (R : ℕ → ℕ) (falls : (k : ℕ) → R (suc k) ≤ R k) (keep : PartName → Bool) where
    pub record Arrives (p : PartName) : Type 0 where
      pub if_usable : usable (top_level h) h.planes there p ≡ leb (R p.level) p.plane
      pub then_kept : leb (R p.level) p.plane ≡ true → keep p ≡ true

    abbrev parts : List PartName → State → List CodedPart
    parts ps s = selection (λ q. keep q.name) (coded_parts F mag neg ps s)

    pub decodes_rebuilt : (ps : List PartName) (before : PartName) → InOrder before ps → All Arrives ps
        → (s t : State) → Alike (λ k. R k ≤ before.plane) s t → (v : List ℤ) (place : ℕ) (rest : List ℕ)
        → drop place bytes ≡ flat part_bytes (selection (λ q. keep q.name) (coded_parts (family h.size) mag neg ps s)) ++ rest
        → decode_parts h bytes there (parts_at place (selection (λ q. keep q.name) (coded_parts (family h.size) mag neg ps s))) (going t v)
        ≡ rebuilt (family h.size) mag neg R ps t v
    unfolding InOrder All coded_parts selection parts_at flat decode_parts rebuilt
    decodes_rebuilt [] before o a s t same v place rest stands = refl
    decodes_rebuilt (p ∷ ps) before o a s t same v place rest stands =
        by (keep p) refl (leb (R p.level) p.plane) refl stands
        (λ u alike w here more. decodes_rebuilt ps p o.1 a.1 (lists_with F mag neg p s) u alike w here rest more)
      where
        q : CodedPart
        q = record { name = p; bits = (coded F mag neg p s).side }

        later : List CodedPart
        later = parts ps (lists_with F mag neg p s)

        next : Course (List ℤ)
        next = followed F mag neg p t v

        still : Alike (λ k. R k ≤ p.plane) s t
        still k l = let f : After before p = follows_after before p o.0 in same k (omega (arith, f.downward))

        bits_same : leb (R p.level) p.plane ≡ true → q.bits ≡ bits_of F mag neg p t
        bits_same u =
            coded_spoken F mag neg p s
            ∙ ap (λ l. spoken (truth F mag neg p.plane) (pass F p.level l)) (still p.level (leb-true (R p.level) p.plane u))

        alike_next : leb (R p.level) p.plane ≡ true → Alike (λ k. R k ≤ p.plane) (lists_with F mag neg p s) (after p.level next t)
        alike_next u =
            rw (followed_lists F mag neg p t v) at
            (alike_used F mag neg (λ k. R k ≤ p.plane) p s t (leb-true (R p.level) p.plane u) still)

        alike_over : leb (R p.level) p.plane ≡ false → Alike (λ k. R k ≤ p.plane) (lists_with F mag neg p s) t
        alike_over u k l =
            alike_unused F mag neg (λ k. R k ≤ p.plane) p s (λ j i. omega (arith, falls j))
            (λ i. omega (arith, leb-false (R p.level) p.plane u)) k l
            ∙ still k l

        by : (x : Bool) → keep p ≡ x → (u : Bool) → leb (R p.level) p.plane ≡ u → drop place bytes ≡ flat part_bytes (cond x (q ∷ later) later) ++ rest
            → ((u : State) → Alike (λ k. R k ≤ p.plane) (lists_with F mag neg p s) u → (w : List ℤ) (here : ℕ)
            → drop here bytes ≡ flat part_bytes later ++ rest
            → decode_parts h bytes there (parts_at here later) (going u w) ≡ rebuilt F mag neg R ps u w)
            → decode_parts h bytes there (parts_at place (cond x (q ∷ later) later)) (going t v)
            ≡ cond u (rebuilt F mag neg R ps (after p.level next t) next.side) (rebuilt F mag neg R ps t v)
        by false e true f i r = absurd (true≢false (sym (a.0.then_kept f) ∙ e))
        by false e false f i r = r t (alike_over f) v place i
        by true e u f i r =
            let this : drop place bytes ≡ part_bytes q ++ (flat part_bytes later ++ rest) = i ∙ append_assoc (part_bytes q) (flat part_bytes later) rest in
            let behind : drop (place + length (part_bytes q)) bytes ≡ flat part_bytes later ++ rest = next_stands bytes place q _ this in
            go u f this behind
          where
            go : (u : Bool) → leb (R p.level) p.plane ≡ u → drop place bytes ≡ part_bytes q ++ (flat part_bytes later ++ rest)
                → drop (place + length (part_bytes q)) bytes ≡ flat part_bytes later ++ rest
                → decode_parts h bytes there (parts_at (place + length (part_bytes q)) later) (onward h bytes there (part_at place q) (going t v))
                ≡ cond u (rebuilt F mag neg R ps (after p.level next t) next.side) (rebuilt F mag neg R ps t v)
            go true f this behind =
                ap (decode_parts h bytes there (parts_at (place + length (part_bytes q)) later))
                (onward_usable place q t v _ this (bits_same f) (a.0.if_usable ∙ f))
                ∙ r _ (alike_next f) _ _ behind
            go false f this behind =
                ap (decode_parts h bytes there (parts_at (place + length (part_bytes q)) later)) (onward_unusable place q t v (a.0.if_usable ∙ f))
                ∙ r t (alike_over f) v _ behind
