use Rattle.std.specs.Prelude.{Ok}
-- One part: what decoding it or walking over it makes of the walk, and that this is what the definition makes of the same lists.
use mathlib.Core.Path.{◌≡◌, refl, sym, ◌∙◌}
use mathlib.Core.List.{List}
use mathlib.Core.Bool.{false}
use Prim.Native.Nat.{ℕ, ◌+◌, ◌-◌, ◌≤◌}
use native.Mathlib.Omega.{arith}
use lib.ListN.{length, drop, length-take, length-drop, get_or-eq_default}
use Rattle.rules.specs.declared.Size.{Size}
use Rattle.rules.specs.declared.Header.{Header}
use Rattle.rules.specs.declared.Part.{Part}
use Rattle.rules.specs.declared.Piece.TheVariants as part
use Rattle.decoder.specs.declared.Walk.{Walk}
use Rattle.rules.specs.Document.Passes.{PartName}
use Rattle.rules.specs.Document.Layout.{bytes_for, body_of, bits_there, name_of}
use Rattle.rules.specs.Promises.Vocabulary.{LegalHead, bits_from}
use Rattle.rules.specs.Laws.Reading.Stands.{PartStands}
use Rattle.rules.specs.Laws.Reading.CutPart.{CutStands}
use Rattle.rules.proofs.Laws.Reading.CutPart.{whole_there_lem, cut_there}
use Rattle.rules.proofs.Laws.Bytes.BodyBack.{first_length, body_bit, bit_past}
use Rattle.record.specs.Named.{named}
use Rattle.record.specs.Walk.{next_of, next_stands, next_cut}
use Rattle.stretches.specs.Workspace.{Words}
use Rattle.parts.specs.Standing.{Quiet}
use Rattle.reached.specs.Planes.{size_levels}
use Rattle.decoder.specs.Walking.{Taking, Standing}

-- Bits that aren't there are 0: padding of a whole part, all behind the end of one that is cut.
whole_quiet : (h : Header) (s : List ℕ) (before : PartName) (place : ℕ) (p : Part) → PartStands h s before place p
    → Quiet (body_of s p) (record { at = bits_there s p })
unfolding body_of
whole_quiet h s before place p t =
    record {
      bits = λ i l.
          let short : length (body_of s p) ≤ bytes_for p.bits = omega (arith, length-take (bytes_for p.bits) (drop p.body s)) in
          body_bit (body_of s p) p.bits short t.clear i
          ∙ get_or-eq_default (bits_from (body_of s p) 0 p.bits) false {n = i} (omega (arith, first_length (body_of s p) 0 p.bits, whole_there_lem t));
    }

cut_quiet : (h : Header) (s : List ℕ) (before : PartName) (place : ℕ) (p : Part) → CutStands h s before place p
    → Quiet (body_of s p) (record { at = bits_there s p })
unfolding body_of
cut_quiet h s before place p t =
    record {
      bits = λ i l.
          bit_past (body_of s p) i
          (omega (arith, length-take (bytes_for p.bits) (drop p.body s), length-drop p.body s, (cut_there t).0));
    }

pub words_more : (z : Size) (a b : ℕ) (work : List ℕ) → a ≤ b → Words z a work → Words z b work
words_more z a b work l h = record { under = λ x i. omega (arith, h.under x i); proper = h.proper }

-- what was read
module _ (h : Header) (s : List ℕ) (w : Walk) (work : List ℕ) where
  taking : (p : Part) {before : PartName} → LegalHead h before (name_of p) p.bits → p.end ≡ p.body + bytes_for p.bits → p.body ≤ length s
      → Quiet (body_of s p) (record { at = bits_there s p }) → Standing h s w work → Taking s h.size p w work
  unfolding name_of
  taking p l ends within quiet t =
      record {
        drawing = record {
          decoding = record {
            ready = record {
              legal = t.legal;
              room = t.room;
              plane = omega (arith, l.named.under, t.planes);
              coarser = l.named.from1;
              level = l.named.up_to;
              sound = t.sound;
            };
            words = t.words;
          };
          ends = ends;
          within = within;
          quiet = quiet;
        };
        level = omega (arith, l.named.up_to, size_levels h.size t.legal);
        six = t.six;
        few = t.few (p.level.0 - 1);
      }

  pub read_taking : (p : Part) → next_of h s w.cursor ≡ Ok (part.Part p) → Standing h s w work → Taking s h.size p w work
  read_taking p e t =
      let q : PartStands h s (named w.cursor.before) w.cursor.place p = next_stands h s w.cursor (Ok (part.Part p)) (sym e) p refl in
      taking p q.legal q.end (omega (arith, q.end, q.within)) (whole_quiet h s _ _ p q) t

  pub cut_taking : (p : Part) → next_of h s w.cursor ≡ Ok (part.Cut p) → Standing h s w work → Taking s h.size p w work
  cut_taking p e t =
      let q : CutStands h s (named w.cursor.before) w.cursor.place p = next_cut h s w.cursor (Ok (part.Cut p)) (sym e) p refl in
      taking p q.legal q.end q.within (cut_quiet h s _ _ p q) t
