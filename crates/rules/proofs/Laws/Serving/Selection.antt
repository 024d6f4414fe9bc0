-- "Any selection in that order is also a record": pieces, parts that were read somewhere, put together in order behind a header, read as just these
-- parts, moved; so do any of one record's parts.
use Rattle.std.specs.Prelude.{◌≡◌, Bool, true, false, cond, ◌&&◌, leb, take, drop, Ok}
use Rattle.std.proofs.Math.Path.{refl, ap, ap₂, subst}
use Rattle.std.proofs.Common.{sym, ◌∙◌, subst₂, length-append, length-drop, get_or-append-add, get_or-take, get_or-drop, length-take-le, take_at}
use mathlib.Core.List.{List, [], ◌∷◌, ◌++◌, map, append_assoc, append-nil}
use Prim.Native.Nat.{ℕ, ◌+◌, ◌-◌, ◌≤◌}
use native.Mathlib.Omega.{arith}
use Rattle.std.proofs.Math.ListN.{length, get_or-append}
use Rattle.std.proofs.Math.Seq.{drop-append_seam}
use Rattle.rules.specs.declared.Header.{Header}
use Rattle.rules.specs.declared.Part.{Part}
use Rattle.rules.specs.declared.Piece.TheVariants as part
use Rattle.rules.specs.Document.Notation.{flat}
use Rattle.rules.specs.Document.Passes.{PartName}
use Rattle.rules.specs.Document.Layout.{whole_of, name_of}
use Rattle.rules.specs.Document.Numbers.{follows, read_part, tail, Reading}
use Rattle.rules.specs.Document.Calls.{kept_of}
use Rattle.rules.specs.Laws.Reading.Stands.{PartStands}
use Rattle.rules.proofs.Laws.Reading.Stands.{read_part_stands}
use Rattle.rules.specs.Laws.Reading.Walk.{parts_from}
use Rattle.rules.proofs.Laws.Reading.Walk.{read_part_past, parts_from_part, parts_from_tail}
use Rattle.rules.specs.Laws.Reading.Local.{Same}
use Rattle.rules.proofs.Laws.Reading.Local.{read_part_local}
use Rattle.rules.specs.Promises.Vocabulary.{placed_from, moved_to, selection}
use Rattle.rules.specs.Laws.Reading.Parts.{InOrder}
use Rattle.rules.proofs.Laws.Reading.Parts.{head_legal, legal_behind, follows_follows}
use Rattle.rules.specs.Laws.Reading.WholeParts.{WholeParts}
use Rattle.rules.specs.Laws.Serving.Selection.{Piece, Held, holds, piece_holds, piece_name, piece_bytes, PiecesOf}

-- bytes that stand behind others
whole_same : (s : List ℕ) (p : Part) → p.place ≤ p.end → p.end ≤ length s → (front rest : List ℕ)
    → Same s p.place (front ++ (whole_of s p ++ rest)) (length front) (p.end - p.place)
unfolding whole_of
whole_same s p o l front rest =
    let w = take (p.end - p.place) (drop p.place s) in
    let e : length w ≡ p.end - p.place = length-take-le (p.end - p.place) (drop p.place s) (omega (arith, length-drop p.place s)) in
    record {
      there = omega (arith, length-append front (w ++ rest), length-append w rest);
      bytes = λ i j.
          get_or-append-add front (w ++ rest) i 0 ∙ get_or-append w rest 0 i (omega arith)
          ∙ get_or-take (p.end - p.place) (drop p.place s) i 0 j ∙ get_or-drop p.place s i 0;
    }

pub whole_length : (s : List ℕ) (p : Part) → p.place ≤ p.end → p.end ≤ length s → length (whole_of s p) ≡ p.end - p.place
unfolding whole_of
whole_length s p o l = length-take-le (p.end - p.place) (drop p.place s) (omega (arith, length-drop p.place s))

-- A part that was moved holds the same bytes.
pub moved_whole : (s : List ℕ) (x : Part) → length (whole_of s x) ≡ x.end - x.place → (front rest : List ℕ)
    → whole_of (front ++ (whole_of s x ++ rest)) (moved_to (length front) x) ≡ whole_of s x
unfolding whole_of moved_to
moved_whole s x len front rest =
    let w : List ℕ = take (x.end - x.place) (drop x.place s) in
    let n : length front + (x.end - x.place) - length front ≡ length w = omega (arith, len) in
    ap₂ (λ (m : ℕ) (l : List ℕ). take m l) n (drop-append_seam front (w ++ rest)) ∙ take_at w rest (length w) refl

module _ {h : Header} where
  pub piece_stands : (x : Piece h) → PartStands h x.source x.before x.place x.this
  piece_stands x = read_part_stands h x.source x.before x.place x.this x.read

  -- It ends behind its place, and has as many bytes as that says.
  pub piece_ordered : (x : Piece h) → x.this.place ≤ x.this.end
  piece_ordered x = let st = piece_stands x in omega (arith, st.placed, st.after, st.end)

  pub piece_length : (x : Piece h) → length (piece_bytes x) ≡ x.this.end - x.this.place
  piece_length x = whole_length x.source x.this (piece_ordered x) (piece_stands x).within

  front_length : (front : List ℕ) (x : Piece h) → length (front ++ piece_bytes x) ≡ length front + (x.this.end - x.this.place)
  front_length front x = length-append front (piece_bytes x) ∙ ap (λ (n : ℕ). length front + n) (piece_length x)

  -- Pieces in order read as themselves, wherever they stand.
  pub pieces_read : (xs : List (Piece h)) (earlier : PartName) → InOrder earlier (map piece_name xs) → (front : List ℕ)
      → parts_from h (front ++ flat piece_bytes xs) earlier (length front)
      ≡ record { parts = placed_from (length front) (map (λ x. x.this) xs); ending = tail 0 }
  unfolding InOrder flat placed_from moved_to name_of
  pieces_read [] earlier o front =
      let e : length front - length front ≡ 0 = omega arith in
      subst (λ (u : List ℕ). parts_from h u earlier (length front) ≡ record { parts = []; ending = tail 0 }) (sym (append-nil front))
      (parts_from_tail h front earlier (length front) (read_part_past h front earlier (length front) (omega arith))
      ∙ ap (λ (n : ℕ). record { parts = []; ending = tail n }) e)
  pieces_read (x ∷ xs) earlier o front =
      parts_from_part h u earlier (length front) (moved_to (length front) p) here
      ∙ ap (λ (r : Reading). record { parts = moved_to (length front) p ∷ r.parts; ending = r.ending })
      (next (pieces_read xs (piece_name x) o.1 (front ++ piece_bytes x)))
    where
      p : Part
      p = x.this

      rest : List ℕ
      rest = flat piece_bytes xs

      u : List ℕ
      u = front ++ (piece_bytes x ++ rest)

      st : PartStands h x.source x.before x.place p
      st = piece_stands x

      here : read_part h u earlier (length front) ≡ Ok (part.Part (moved_to (length front) p))
      here =
          read_part_local h x.source x.before x.place p x.read u (length front) earlier
          (subst (λ (i : ℕ). Same x.source i u (length front) (p.end - i)) st.placed
          (whole_same x.source p (piece_ordered x) st.within front rest))
          (head_legal h earlier (name_of p) p.bits (legal_behind st.legal o.0))

      next : parts_from h ((front ++ piece_bytes x) ++ rest) (name_of p) (length (front ++ piece_bytes x))
          ≡ record { parts = placed_from (length (front ++ piece_bytes x)) (map (λ x. x.this) xs); ending = tail 0 }
          → parts_from h u (name_of p) (length front + (p.end - p.place))
          ≡ record { parts = placed_from (length front + (p.end - p.place)) (map (λ x. x.this) xs); ending = tail 0 }
      next k =
          subst₂ (λ (v : List ℕ) (n : ℕ). parts_from h v (name_of p) n ≡ record { parts = placed_from n (map (λ x. x.this) xs); ending = tail 0 })
          (append_assoc front (piece_bytes x) rest) (front_length front x) k

  -- So put together, they hold what they held.
  pub pieces_hold : (xs : List (Piece h)) (front : List ℕ)
      → map (holds (front ++ flat piece_bytes xs)) (placed_from (length front) (map (λ x. x.this) xs)) ≡ map piece_holds xs
  unfolding flat placed_from moved_to name_of
  pieces_hold [] front = refl
  pieces_hold (x ∷ xs) front =
      let rest : List ℕ = flat piece_bytes xs in
      let these : List Part = map (λ y. y.this) xs in
      ap₂ (λ (w : List ℕ) (l : List Held). record { name = piece_name x; bytes = w } ∷ l) (moved_whole x.source x.this (piece_length x) front rest)
      (ap₂ (λ (l : List ℕ) (n : ℕ). map (holds l) (placed_from n these)) (sym (append_assoc front (piece_bytes x) rest)) (sym (front_length front x))
      ∙ pieces_hold xs (front ++ piece_bytes x))

-- What a request keeps goes by what a part holds.
kept_held : ℕ → ℕ → Held → List ℕ
kept_held r p x = cond (leb r x.name.level && leb p x.name.plane) x.bytes []

kept_held_lem : (r p : ℕ) (s : List ℕ) (ps : List Part) → flat (kept_of s r p) ps ≡ flat (kept_held r p) (map (holds s) ps)
unfolding flat kept_of name_of kept_held
kept_held_lem r p s [] = refl
kept_held_lem r p s (x ∷ ps) = ap (λ (l : List ℕ). kept_of s r p x ++ l) (kept_held_lem r p s ps)

module _ (h : Header) (s : List ℕ) (t : Part → Bool) where
  pub pieces_of : (ps : List Part) (before : PartName) (place : ℕ) → WholeParts h s before place ps → PiecesOf h s before (selection t ps)
  unfolding WholeParts selection flat InOrder
  pieces_of [] before place c = record { pieces = []; are = refl; bytes = refl; hold = refl; in_order = λ earlier w. tt }
  pieces_of (p ∷ ps) before place c = by (t p) (pieces_of ps (name_of p) p.end c.1)
    where
      these : List Part
      these = selection t ps

      this : Piece h
      this = record { source = s; before = before; place = place; this = p; read = c.0 }

      behind : (earlier : PartName) → ((x : PartName) → follows before x ≡ true → follows earlier x ≡ true) → follows earlier (name_of p) ≡ true
      behind earlier w = w (name_of p) (piece_stands this).legal.in_order

      by : (b : Bool) → PiecesOf h s (name_of p) these → PiecesOf h s before (cond b (p ∷ these) these)
      by true r =
          record {
            pieces = this ∷ r.pieces;
            are = ap (λ (l : List Part). p ∷ l) r.are;
            bytes = ap (λ (l : List ℕ). whole_of s p ++ l) r.bytes;
            hold = ap (λ (l : List Held). holds s p ∷ l) r.hold;
            in_order = λ earlier w. (behind earlier w, r.in_order (name_of p) (λ x y. y));
          }
      by false r =
          record {
            pieces = r.pieces;
            are = r.are;
            bytes = r.bytes;
            hold = r.hold;
            in_order = λ earlier w. r.in_order earlier (λ x y. follows_follows earlier (name_of p) x (behind earlier w) y);
          }

  module _ (ps : List Part) (before : PartName) (place : ℕ) (c : WholeParts h s before place ps) where
    -- A selection reads as itself, wherever it stands and however early the part before it.
    pub selection_read : (earlier : PartName) → ((x : PartName) → follows before x ≡ true → follows earlier x ≡ true) → (front : List ℕ)
        → parts_from h (front ++ flat (whole_of s) (selection t ps)) earlier (length front)
        ≡ record { parts = placed_from (length front) (selection t ps); ending = tail 0 }
    selection_read earlier w front =
        let r = pieces_of ps before place c in
        subst₂ (λ (l : List ℕ) (these : List Part).
        parts_from h (front ++ l) earlier (length front) ≡ record { parts = placed_from (length front) these; ending = tail 0 })
        r.bytes r.are (pieces_read r.pieces earlier (r.in_order earlier w) front)

    selection_holds : (front : List ℕ)
        → map (holds (front ++ flat (whole_of s) (selection t ps))) (placed_from (length front) (selection t ps)) ≡ map (holds s) (selection t ps)
    selection_holds front =
        let r = pieces_of ps before place c in
        ap₂ (λ (l : List ℕ) (these : List Part). map (holds (front ++ l)) (placed_from (length front) these)) (sym r.bytes) (sym r.are)
        ∙ pieces_hold r.pieces front ∙ r.hold

    -- What is kept of parts that were put together anew is what is kept of the parts themselves.
    pub kept_moved : (r p : ℕ) (front : List ℕ)
        → flat (kept_of (front ++ flat (whole_of s) (selection t ps)) r p) (placed_from (length front) (selection t ps))
        ≡ flat (kept_of s r p) (selection t ps)
    kept_moved r p front =
        kept_held_lem r p _ (placed_from (length front) (selection t ps)) ∙ ap (flat (kept_held r p)) (selection_holds front)
        ∙ sym (kept_held_lem r p s (selection t ps))
