-- A record is its parts by name: parts in order, one behind the other, are the part of each name that there is, in order of the names.
use Rattle.std.specs.Prelude.{◌≡◌, refl, List, [], ◌∷◌, ◌++◌, map, Bool, true, false, cond, ◌||◌, ℕ}
use Rattle.std.proofs.Common.{ap, ap₂, sym, ◌∙◌, subst, true≢false, arith}
use Rattle.std.proofs.Math.Path.{fun_ext}
use Rattle.rules.specs.declared.Header.{Header}
use Rattle.rules.specs.declared.Part.{Part}
use Rattle.rules.specs.Document.Notation.{any, flat}
use Rattle.rules.specs.Document.Passes.{PartName}
use Rattle.rules.specs.Document.Layout.{whole_of, name_of, same_name}
use Rattle.rules.specs.Document.Numbers.{top_level, read_parts}
use Rattle.rules.proofs.Laws.Counting.Booleans.{not_test}
use Rattle.rules.specs.Laws.Counting.Sums.{All}
use Rattle.rules.proofs.Laws.Counting.Sums.{all_then, all_both, map_all, flat_same}
use Rattle.rules.specs.Promises.Vocabulary.{Named, present}
use Rattle.rules.specs.Laws.Reading.Parts.{After, InOrder}
use Rattle.rules.proofs.Laws.Reading.Parts.{all_present, same_name_lem, name_same, after_after, order_after, names_in_order}
use Rattle.rules.specs.Laws.Reading.WholeParts.{WholeParts}
use Rattle.rules.proofs.Laws.Reading.WholeParts.{whole_in_order, whole_named, read_parts_whole}
use Rattle.rules.specs.Laws.Serving.Selection.{Held, holds}
use Rattle.joins.specs.Document.Joining.{part_named}
use Rattle.joins.specs.Laws.ByName.{found, held_names, held_bytes, Among, none, this, other, all_names, first}

-- Names of which one comes after the other are two.
pub after_other : (x y : PartName) → After x y → (same_name y x ≡ false) × (same_name x y ≡ false)
after_other x y a = (not_test _ (λ e. apart (sym (same_name_lem y x e))), not_test _ (λ e. apart (same_name_lem x y e)))
  where
    apart : x ≡ y → ⊥
    apart e =
        let n : x.plane ≡ y.plane = ap (λ z. z.plane) e in
        let k : x.level ≡ y.level = ap (λ z. z.level) e in
        omega (arith, a.in_plane (omega arith))

pub among_all : (P : PartName → Type 0) (ns xs : List PartName) → Among xs ns → All P ns → All P xs
unfolding All
among_all P [] [] none a = tt
among_all P [] (x ∷ xs) r a = elim r [ ]
among_all P (n ∷ ns) (x ∷ xs) (this r) a = (a.0, among_all P ns xs r a.1)
among_all P (n ∷ ns) xs (other r) a = among_all P ns xs r a.1

-- Nothing is held under a name that comes before all.
pub found_none : (x : PartName) (ps : List Held) → All (After x) (held_names ps) → found ps x ≡ []
unfolding found All
found_none x [] a = refl
found_none x (p ∷ ps) a = rw (after_other x p.name a.0).1 (found_none x ps a.1)

-- Parts whose names are some of others that are in order: for each of these, in order, what is held under it.
pub by_name : (ns : List PartName) (before : PartName) → InOrder before ns → (ps : List Held) → Among (held_names ps) ns
    → held_bytes ps ≡ flat (found ps) ns
unfolding flat found InOrder
by_name [] before o [] none = refl
by_name [] before o (p ∷ ps) r = elim r [ ]
by_name (x ∷ ns) before o [] (other r) = by_name ns x o.1 [] r
by_name (x ∷ ns) before o (p ∷ ps) (other r) =
    ap₂ ◌++◌ (sym (found_none x (p ∷ ps) (among_all (After x) ns (held_names (p ∷ ps)) r (order_after x ns o.1))))
    (by_name ns x o.1 (p ∷ ps) r)
by_name (x ∷ ns) before o (p ∷ ps) (this r) =
    rw (name_same x x refl refl)
    (ap (λ l. p.bytes ++ l)
    (by_name ns x o.1 ps r
    ∙ flat_same (found ps) (found (p ∷ ps)) ns (all_then _ _ ns (λ y a. rw (after_other x y a).0) (order_after x ns o.1))))

-- What is present among names has what all of them have.
pub present_has : (P : PartName → Type 0) (ns : List PartName) (x : PartName) → All P ns → present ns x ≡ true → P x
unfolding All present any
present_has P [] x a e = absurd (true≢false (sym e))
present_has P (n ∷ ns) x a e = by (same_name x n) refl e (present_has P ns x a.1)
  where
    by : (t : Bool) → same_name x n ≡ t → t || any (same_name x) ns ≡ true → (present ns x ≡ true → P x) → P x
    by true f g r = subst P (sym (same_name_lem x n f)) a.0
    by false f g r = r g

behind_present : (n : PartName) (ns xs : List PartName) → All (After n) xs → All (λ y. present (n ∷ ns) y ≡ true) xs → All (λ y. present ns y ≡ true) xs
unfolding present any
behind_present n ns xs f a = all_then _ _ xs (λ y e. rw (after_other n y e.0).0 at e.1) (all_both _ _ xs f a)

-- Names in order, all of which are among others in order, are some of these in the same order.
pub among : (ns : List PartName) (c : PartName) → InOrder c ns → (xs : List PartName) (b : PartName) → InOrder b xs
    → All (λ y. present ns y ≡ true) xs → Among xs ns
unfolding InOrder All present any
among [] c q [] b o a = none
among [] c q (x ∷ xs) b o a = absurd (true≢false (sym a.0))
among (n ∷ ns) c q [] b o a = other (among ns n q.1 [] b o a)
among (n ∷ ns) c q (x ∷ xs) b o a = by (same_name x n) refl (among ns n q.1)
  where
    rest : All (After n) xs → All (λ y. present ns y ≡ true) xs
    rest f = behind_present n ns xs f a.1

    by : (t : Bool) → same_name x n ≡ t → ((xs : List PartName) (b : PartName) → InOrder b xs → All (λ y. present ns y ≡ true) xs → Among xs ns)
        → Among (x ∷ xs) (n ∷ ns)
    by true e r =
        let f : x ≡ n = same_name_lem x n e in
        subst (λ z. Among (z ∷ xs) (n ∷ ns)) (sym f)
        (this (r xs x o.1 (rest (subst (λ z. All (After z) xs) f (order_after x xs o.1)))))
    by false e r =
        let there : present ns x ≡ true = rw e at a.0 in
        let f : After n x = present_has (After n) ns x (order_after n ns q.1) there in
        other (r (x ∷ xs) b o (there, rest (all_then (After x) (After n) xs (λ y g. after_after n x y f g) (order_after x xs o.1))))

-- What is looked up in a record by name is what its parts hold; and all of its parts are so.
pub named_found : (s : List ℕ) (ps : List Part) (x : PartName) → part_named s ps x ≡ found (map (holds s) ps) x
unfolding part_named found
named_found s [] x = refl
named_found s (p ∷ ps) x = ap (λ l. cond (same_name x (name_of p)) (whole_of s p) l) (named_found s ps x)

pub named_none : (s : List ℕ) (x : PartName) (ps : List Part) → All (After x) (map name_of ps) → part_named s ps x ≡ []
unfolding part_named All
named_none s x [] a = refl
named_none s x (p ∷ ps) a = rw (after_other x (name_of p) a.0).1 (named_none s x ps a.1)

held_bytes_lem : (s : List ℕ) (ps : List Part) → held_bytes (map (holds s) ps) ≡ flat (whole_of s) ps
unfolding flat
held_bytes_lem s [] = refl
held_bytes_lem s (p ∷ ps) = ap (λ l. whole_of s p ++ l) (held_bytes_lem s ps)

held_names_lem : (s : List ℕ) (ps : List Part) → held_names (map (holds s) ps) ≡ map name_of ps
held_names_lem s [] = refl
held_names_lem s (p ∷ ps) = ap (λ l. name_of p ∷ l) (held_names_lem s ps)

pub all_in_order : (h : Header) → InOrder (first h) (all_names h)
all_in_order h = names_in_order (top_level h) h.planes (first h) (omega arith)

module _ (h : Header) (s : List ℕ) where
  abbrev parts : List Part
  parts = (read_parts h s).parts

  whole : WholeParts h s (first h) h.end parts
  whole = read_parts_whole h s

  names_present : All (λ x. present (all_names h) x ≡ true) (map name_of parts)
  names_present =
      all_then (Named (top_level h) h.planes) _ (map name_of parts) (all_present (top_level h) h.planes)
      (whole_named h s (first h) h.end parts whole)

  pub parts_present : All (λ p. present (all_names h) (name_of p) ≡ true) (read_parts h s).parts
  parts_present = map_all (λ x. present (all_names h) x ≡ true) name_of parts names_present

  pub parts_among : Among (map name_of (read_parts h s).parts) (all_names h)
  parts_among =
      among (all_names h) (first h) (all_in_order h) (map name_of parts) (first h) (whole_in_order h s (first h) h.end parts whole) names_present

  pub record_by_name : flat (whole_of s) (read_parts h s).parts ≡ flat (part_named s (read_parts h s).parts) (all_names h)
  record_by_name =
      sym (held_bytes_lem s parts)
      ∙ by_name (all_names h) (first h) (all_in_order h) (map (holds s) parts) (subst (λ l. Among l (all_names h)) (sym (held_names_lem s parts)) parts_among)
      ∙ ap (λ f. flat f (all_names h)) (fun_ext (λ x. sym (named_found s parts x)))
