-- The walk of a survey: it counts the parts that it came past.
use Rattle.std.specs.Prelude.{Ok, Err}
use mathlib.Core.Path.{◌≡◌, refl, ap, sym, ◌∙◌}
use mathlib.Core.List.{List, [], ◌∷◌, ◌++◌}
use mathlib.Core.Bool.{true}
use Prim.Native.Nat.{ℕ, ◌+◌, ◌-◌}
use native.Mathlib.Omega.{arith}
use lib.ListN.{length, length-append}
use Rattle.rules.specs.declared.Refusal.{Refusal}
use Rattle.rules.specs.Document.Numbers.{Accepted}
use Rattle.rules.specs.declared.Header.{Header}
use Rattle.rules.specs.Document.Numbers.{HeaderRead}
use Rattle.rules.specs.declared.Part.{Part}
use Rattle.rules.specs.Document.Numbers.{PartRead}
use Rattle.rules.specs.declared.Piece.{Piece}
use Rattle.rules.specs.declared.Piece.TheVariants as part
use Rattle.rules.specs.Document.Pyramid.{legal_size}
use Rattle.rules.specs.Document.Numbers.{tail, read_header, read_parts}
use Rattle.record.specs.declared.walk.Cursor.{Cursor}
use Rattle.record.specs.Walk.{first_of, next_of, past_of, Stands, stands_first, stands_legal, Short, stands_past, stands_short, stands_fault}
use Rattle.survey.specs.Surveyed.{Survey, as_survey, walked_with, headed_with, survey_of, part_behind, part_at}

pub record Surveying (s : List ℕ) (h : Header) (c : Cursor) (parts : ℕ) : Type 0 where
  pub seen : List Part
  pub stands : Stands h s c seen
  pub counts : parts ≡ length seen

pub surveying_first : (s : List ℕ) (h : Header) (c : Cursor) → read_header s ≡ Ok h → c ≡ first_of h → Surveying s h c 0
surveying_first s h c e f = record { seen = []; stands = stands_first h s c e f; counts = omega arith }

module _ (s : List ℕ) (h : Header) (c : Cursor) (parts : ℕ) (v : Surveying s h c parts) where
  pub surveying_legal : legal_size h.size ≡ true
  surveying_legal = stands_legal h s c v.seen v.stands

  module _ (found : PartRead) (e : found ≡ next_of h s c) where
    pub surveying_past : (p : Part) (d : Cursor) → found ≡ Ok (part.Part p) → d ≡ past_of p → Surveying s h d (parts + 1)
    surveying_past p d f g =
        let one : length (v.seen ++ (p ∷ [])) ≡ length v.seen + 1 = length-append v.seen (p ∷ []) in
        record {
          seen = v.seen ++ (p ∷ []);
          stands = stands_past h s c found e v.seen v.stands p d f g;
          counts = omega (arith, one, v.counts);
        }

    pub surveying_whole : (x : Piece) → found ≡ Ok x → Short x
        → as_survey (Ok (record { header = h; parts = parts; tail = length s - c.place })) ≡ walked_with h (read_parts h s)
    unfolding as_survey
    surveying_whole x f short =
        ap (λ (n : ℕ). record { verdict = Accepted; header = h; parts = n; tail = length s - c.place }) v.counts
        ∙ ap (walked_with h) (sym (stands_short h s c found e v.seen v.stands x f short))

    pub surveying_fault : (q : Refusal) → found ≡ Err q → as_survey (Err q) ≡ walked_with h (read_parts h s)
    unfolding as_survey
    surveying_fault q f = ap (walked_with h) (sym (stands_fault h s c found e v.seen v.stands q f))

pub surveyed : (s : List ℕ) (x y : HeaderRead) (a : Survey) → x ≡ read_header s → x ≡ y → a ≡ headed_with s y → a ≡ survey_of s
unfolding survey_of
surveyed s x y a e f g = g ∙ ap (headed_with s) (sym f ∙ e)

pub found_at : (s : List ℕ) (c : Cursor) (x y : HeaderRead) (r : PartRead) → x ≡ read_header s → x ≡ y → r ≡ part_behind s c y → r ≡ part_at s c
unfolding part_at
found_at s c x y r e f g = g ∙ ap (part_behind s c) (sym f ∙ e)
