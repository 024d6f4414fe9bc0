-- write_part: what a pass asks for, and what its bits and the head put before them make.
use mathlib.Core.Path.{◌≡◌, sym, ap, ap₂, ◌∙◌}
use mathlib.Core.List.{List, [], ◌∷◌, ◌++◌}
use mathlib.Core.Bool.{Bool, true}
use Prim.Native.Nat.{ℕ, ◌+◌, ◌-◌, ◌*◌, ◌≤◌, ◌<◌}
use native.Mathlib.Omega.{arith}
use lib.ListN.{length, length-append}
use lib.IntN.{ℤ}
use lib.Seq.{sets}
use Rattle.rules.specs.declared.Size.{Size}
use Rattle.rules.specs.declared.Plane.{Plane}
use Rattle.rules.specs.declared.Level.{Level}
use Rattle.bits.specs.declared.BitPosition.{BitPosition}
use Rattle.parts.specs.declared.Passed.{Passed}
use Rattle.rules.specs.Document.Pyramid.{legal_size, levels}
use Rattle.rules.specs.Document.Passes.{State}
use Rattle.rules.specs.Document.Layout.{packed, bytes_for}
use Rattle.rules.specs.Document.Numbers.{part_most}
use Rattle.rules.proofs.Laws.Family.Sizes.{legal}
use Rattle.rules.specs.Laws.State.Parts.{OfLevel}
use Rattle.rules.proofs.Laws.Family.Sizes.{area_bound}
use Rattle.rules.proofs.Laws.Bytes.BodyBack.{packed_length}
use Rattle.bits.specs.Written.{write_bits_packed}
use Rattle.bits.specs.Bits.{write_bits}
use Rattle.parts.specs.Standing.{named, state_of, agree_same, ReadyToCode, PartCoded, CodedFrom, course_c}
use Rattle.coder.specs.declared.Progress.{Progress}
use Rattle.record.specs.Write.{short_head, head_of, made_way, HeadFits, Headed}
use Rattle.coder.specs.Writing.{Stage, stage_of, bytes_of, onward, through, Due, Reached}
use Rattle.coder.proofs.Heads.{headed_whole}
use Rattle.coder.proofs.Stages.{bytes_of_head, bits_few}

stage_same : {s s' : State} {o o' : List ℕ} {a a' : ℕ} → s ≡ s' → o ≡ o' → a ≡ a'
    → ◌≡◌ {A = Stage} (record { lists = s; out = o; place = a }) (record { lists = s'; out = o'; place = a' })
stage_same e f g = cc

module _ (z : Size) (n : Plane) (k : Level) (work : List ℕ) (p : Progress) (out : List ℕ) (at : BitPosition)
    (start : at.at ≡ 8 * (p.place + short_head)) (due : Due z n k work p.counts (stage_of z work p out)) where
  l : legal_size z ≡ true
  l = due.holding.legal

  -- What the pass asks for.
  pub part_ready : ReadyToCode z n k work p.counts at
  part_ready =
      record {
        ready =
            record { legal = l; room = due.holding.room; plane = due.plane; coarser = due.coarser; level = due.level; sound = due.going.sound };
        place = omega (arith, start, due.going.near, area_bound z l);
        marks = due.holding.marks;
      }

  few : (v : List ℤ) → (length (course_c v z n k work p.counts).side ≤ part_most) × (n.0 < 128) × (k.0 < 128)
  few v =
      let o : OfLevel (levels z) (named n k) = record { from1 = due.coarser; up_to = due.level } in
      omega (arith, bits_few v z l (named n k) (state_of z work p.counts) o due.going.sound, (legal z l).few, due.plane)

  module _ (passed : Passed) (work' out' : List ℕ) (h : PartCoded z n k work p.counts out at passed work' out') where
    pub part_forward : (from to : ℕ) → from ≡ at.at → to ≡ passed.at.at → from ≤ to
    part_forward from to e f = omega (arith, (h.coded due.holding.pyramid due.holding.holds).place)

    -- What the head is put with.
    pub part_bits : (bits : ℕ) → bits ≡ passed.at.at - at.at → HeadFits p.place n k bits
    part_bits bits e =
        let v : List ℤ = due.holding.pyramid in
        record {
          near = omega (arith, due.going.near);
          plane = (few v).1;
          level = (few v).2;
          count = omega (arith, (few v).0, (h.coded v due.holding.holds).place);
        }

    -- The part is written.
    module _ (bits end : ℕ) (out'' : List ℕ) (e : bits ≡ passed.at.at - at.at) (w : Headed out' p.place n.0 k.0 bits end out'') where
      written : (v : List ℤ) → CodedFrom v z n k work p.counts out at passed work' out'
          → stage_of z work' (record { counts = passed.counts; place = end }) out'' ≡ onward v z (named n k) (stage_of z work p out)
      unfolding onward
      written v c =
          let side : List Bool = (course_c v z n k work p.counts).side in
          let count : bits ≡ length side = omega (arith, e, c.place) in
          let whole : List ℕ = head_of n.0 k.0 (length side) ++ packed side in
          let same : bytes_of v z (named n k) (state_of z work p.counts) ≡ whole = bytes_of_head v z (named n k) (state_of z work p.counts) in
          let body : out' ≡ sets out (p.place + short_head) (packed side) =
          c.bits ∙ ap (λ i. write_bits out i side) start
          ∙ write_bits_packed out (p.place + short_head) side (λ j i. due.going.clear j (omega arith)) in
          let bytes : out'' ≡ sets out p.place whole =
          w.bytes ∙ ap₂ (λ l i. sets (made_way l p.place i) p.place (head_of n.0 k.0 i)) body count
          ∙ headed_whole out p.place n.0 k.0 side (few v).1 (few v).2 in
          stage_same (agree_same c.lists) (bytes ∙ ap (sets out p.place) (sym same))
          (omega (
            arith,
            w.after,
            ap (λ i. length (head_of n.0 k.0 i)) count,
            ap bytes_for count,
            packed_length side,
            length-append (head_of n.0 k.0 (length side)) (packed side),
            ap length same,
          ))

      pub part_written : Reached z (named n k ∷ []) work (stage_of z work p out) (record { counts = passed.counts; place = end }) work' out''
      unfolding through
      part_written =
          record { same = h.same; stage = λ v held. written v (h.coded v held); holds = λ v held. (h.coded v held).holds; marks = h.marks }
