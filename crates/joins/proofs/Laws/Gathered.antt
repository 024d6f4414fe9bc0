-- Pieces gathered by name: where under each name there is nothing, or what a piece of that name holds, then what is there, put together in order of the
-- names behind a header, is a record, and under each name it has just that.
use Rattle.std.specs.Prelude.{◌≡◌, Bool, ◌||◌, ℕ, ◌≤◌, length}
use Rattle.std.proofs.Math.Path.{refl, ap, ap₂, sym, subst}
use Rattle.std.proofs.Common.{◌∙◌, arith}
use mathlib.Core.List.{List, [], ◌∷◌, ◌++◌, map}
use Rattle.std.proofs.Math.Bool.{true, false, cond}
use Rattle.rules.specs.declared.Header.{Header}
use Rattle.rules.specs.declared.Part.{Part}
use Rattle.rules.specs.Document.Notation.{any, flat}
use Rattle.rules.specs.Document.Passes.{PartName}
use Rattle.rules.specs.Document.Layout.{whole_of, name_of, same_name}
use Rattle.rules.specs.Document.Numbers.{follows}
use Rattle.rules.specs.Laws.Reading.Parts.{InOrder}
use Rattle.rules.proofs.Laws.Reading.Parts.{same_name_lem, follows_follows}
use Rattle.rules.specs.Promises.Vocabulary.{present}
use Rattle.rules.specs.Laws.Reading.WholeParts.{WholeParts}
use Rattle.rules.specs.Laws.Serving.Selection.{Piece, piece_holds, piece_name, piece_bytes}
use Rattle.rules.proofs.Laws.Serving.Selection.{piece_stands, piece_length}
use Rattle.joins.specs.Document.Joining.{part_named, or_else}
use Rattle.joins.specs.Laws.ByName.{found}
use Rattle.joins.specs.Laws.Gathered.{Under, nothing, piece, Gathered}

order_earlier : (ns : List PartName) (n earlier : PartName) → follows earlier n ≡ true → InOrder n ns → InOrder earlier ns
unfolding InOrder
order_earlier [] n earlier f o = tt
order_earlier (x ∷ ns) n earlier f o = (follows_follows earlier n x f o.0, o.1)

module _ (h : Header) (f : PartName → List ℕ) (under : (x : PartName) → Under h x (f x)) where
  pub gathered : (ns : List PartName) → Gathered h f ns
  unfolding flat found present any InOrder
  gathered [] = record { pieces = []; bytes = refl; hold = λ x. refl; in_order = λ earlier o. o }
  gathered (n ∷ ns) = by (f n) refl (under n) (gathered ns)
    where
      by : (w : List ℕ) → f n ≡ w → Under h n w → Gathered h f ns → Gathered h f (n ∷ ns)
      by w e nothing r =
          record {
            pieces = r.pieces;
            bytes = r.bytes ∙ ap (λ l. l ++ flat f ns) (sym e);
            hold = λ x. r.hold x ∙ here x (same_name x n) refl;
            in_order = λ earlier o. r.in_order earlier (order_earlier ns n earlier o.0 o.1);
          }
        where
          here : (x : PartName) (t : Bool) → same_name x n ≡ t → cond (present ns x) (f x) [] ≡ cond (t || any (same_name x) ns) (f x) []
          here x false g = refl
          here x true g = none (present ns x) ∙ sym (ap f (same_name_lem x n g) ∙ e)
            where
              none : (t : Bool) → cond t (f x) [] ≡ []
              none true = ap f (same_name_lem x n g) ∙ e
              none false = refl
      by w e (piece y g) r =
          record {
            pieces = y ∷ r.pieces;
            bytes = ap₂ ◌++◌ (sym e) r.bytes;
            hold = λ x. ap (λ m. cond (same_name x m) (piece_bytes y) (found (map piece_holds r.pieces) x)) g ∙ here x (same_name x n) refl;
            in_order = λ earlier o.
                subst (λ m. (follows earlier m ≡ true) × InOrder m (map piece_name r.pieces)) (sym g) (o.0, r.in_order n o.1);
          }
        where
          here : (x : PartName) (t : Bool) → same_name x n ≡ t
              → cond t (piece_bytes y) (found (map piece_holds r.pieces) x) ≡ cond (t || any (same_name x) ns) (f x) []
          here x true k = sym (ap f (same_name_lem x n k) ∙ e)
          here x false k = r.hold x

pub or_first : (xs ys : List ℕ) → 1 ≤ length xs → or_else xs ys ≡ xs
unfolding or_else
or_first [] ys l = absurd (omega arith)
or_first (x ∷ xs) ys l = refl

-- The part of a name in a record is such, and so is one record's, else another's.
module _ {h : Header} where
  pub under_named : (s : List ℕ) (x : PartName) (ps : List Part) (before : PartName) (place : ℕ) → WholeParts h s before place ps
      → Under h x (part_named s ps x)
  unfolding WholeParts part_named
  under_named s x [] before place c = nothing
  under_named s x (p ∷ ps) before place c = by (same_name x (name_of p)) refl (under_named s x ps (name_of p) p.end c.1)
    where
      by : (t : Bool) → same_name x (name_of p) ≡ t → Under h x (part_named s ps x) → Under h x (cond t (whole_of s p) (part_named s ps x))
      by true e r =
          piece (record { source = s; before = before; place = place; this = p; read = c.0 }) (sym (same_name_lem x (name_of p) e))
      by false e r = r

  pub piece_some : (y : Piece h) → 1 ≤ length (piece_bytes y)
  piece_some y = let st = piece_stands y in omega (arith, piece_length y, st.placed, st.after, st.end)

  pub under_either : {x : PartName} {u v : List ℕ} → Under h x u → Under h x v → Under h x (or_else u v)
  unfolding or_else
  under_either nothing r = r
  under_either {x} {u} {v} (piece y e) r = subst (Under h x) (sym (or_first (piece_bytes y) v (piece_some y))) (piece y e)
