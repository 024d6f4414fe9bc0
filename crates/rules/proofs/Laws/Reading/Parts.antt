-- The parts of a record: their names, which of them are there, and their order.
use Rattle.std.specs.Prelude.{◌≡◌, Bool, false, ◌&&◌, ◌||◌, leb, ltb, eqb}
use Rattle.std.proofs.Math.Path.{refl, ap, sym}
use Rattle.std.proofs.Common.{◌∙◌, subst, ⊎_elim, arith, leb-true, le-leb, ltb-true, lt-ltb, eqb-true, eq-eqb}
use mathlib.Core.List.{List, [], ◌∷◌, ◌++◌, append_assoc}
use Rattle.std.proofs.Math.Bool.{true}
use Prim.Native.Nat.{ℕ, zero, suc, ◌≤◌, ◌<◌}
use Rattle.std.proofs.Math.Decide.{dec_le, dec_lt}
use Rattle.rules.specs.declared.Header.{Header}
use Rattle.rules.specs.Document.Notation.{any, every}
use Rattle.rules.specs.Document.Passes.{PartName, parts_of_plane, part_names}
use Rattle.rules.specs.Document.Layout.{same_name, needs}
use Rattle.rules.specs.Document.Numbers.{most_bits, follows, legal_head, top_level}
use Rattle.rules.specs.Promises.Vocabulary.{at, Named, present, LegalHead}
use Rattle.rules.specs.Laws.Counting.Sums.{All}
use Rattle.rules.proofs.Laws.Counting.Sums.{all_then, all_append}
use Rattle.rules.proofs.Laws.Counting.Booleans.{both, both_left, both_right, either, either_right, any_append, every_append}
use Rattle.rules.specs.Laws.Reading.Parts.{After, InOrder}

-- names
pub same_name_lem : (p q : PartName) → same_name p q ≡ true → p ≡ q
unfolding same_name
same_name_lem p q h =
    let a : p.plane ≡ q.plane = eqb-true _ _ (both_left _ _ h) in
    let b : p.level ≡ q.level = eqb-true _ _ (both_right (eqb p.plane q.plane) _ h) in
    λ i. record { plane = a i; level = b i }

pub name_same : (p q : PartName) → p.plane ≡ q.plane → p.level ≡ q.level → same_name p q ≡ true
unfolding same_name
name_same p q a b = both _ _ (eq-eqb _ _ a) (eq-eqb _ _ b)

pub needs_above : (p q : PartName) → needs p q ≡ true → (p.plane ≤ q.plane) × (p.level ≤ q.level)
unfolding needs
needs_above p q h = (leb-true _ _ (both_left _ _ h), leb-true _ _ (both_right (leb p.plane q.plane) _ h))

pub above_needs : (p q : PartName) → p.plane ≤ q.plane → p.level ≤ q.level → needs p q ≡ true
unfolding needs
above_needs p q a b = both _ _ (le-leb _ _ a) (le-leb _ _ b)

-- A test of every name is a statement about each.
module _ (t : PartName → Bool) where
  every_level : (n k : ℕ) → every t (parts_of_plane n k) ≡ true → (j : ℕ) → 1 ≤ j → j ≤ k → t (at n j) ≡ true
  unfolding every parts_of_plane
  every_level n zero h j a b = absurd (omega arith)
  every_level n (suc k) h j a b = cases (dec_le j k) (every_level n k (both_right (t (at n (suc k))) _ h) j a)
    where
      cases : Dec (j ≤ k) → (j ≤ k → t (at n j) ≡ true) → t (at n j) ≡ true
      cases (yes l) r = r l
      cases (no l) r = ap (λ x. t (at n x)) (omega arith) ∙ both_left _ _ h

  level_every : (n k : ℕ) → ((j : ℕ) → 1 ≤ j → j ≤ k → t (at n j) ≡ true) → every t (parts_of_plane n k) ≡ true
  unfolding every parts_of_plane
  level_every n zero h = refl
  level_every n (suc k) h = both _ _ (h (suc k) (omega arith) (omega arith)) (level_every n k (λ j a b. h j a (omega arith)))

  pub every_name : (top planes : ℕ) → every t (part_names top planes) ≡ true → (p : PartName) → Named top planes p → t p ≡ true
  unfolding every part_names
  every_name top zero h p l = absurd (omega (arith, l.under))
  every_name top (suc n) h p l =
      let both_hold : every t (parts_of_plane n top) && every t (part_names top n) ≡ true
      = sym (every_append t (parts_of_plane n top) (part_names top n)) ∙ h in
      cases (dec_lt p.plane n) (both_left _ _ both_hold) (λ x.
      every_name top n (both_right (every t (parts_of_plane n top)) _ both_hold) p (record { under = x; from1 = l.from1; up_to = l.up_to }))
    where
      cases : Dec (p.plane < n) → every t (parts_of_plane n top) ≡ true → (p.plane < n → t p ≡ true) → t p ≡ true
      cases (yes x) i r = r x
      cases (no x) i r = ap (λ m. t (at m p.level)) (omega (arith, l.under)) ∙ every_level n top i p.level l.from1 l.up_to

  pub name_every : (top planes : ℕ) → ((p : PartName) → Named top planes p → t p ≡ true) → every t (part_names top planes) ≡ true
  unfolding every part_names
  name_every top zero h = refl
  name_every top (suc n) h =
      every_append t (parts_of_plane n top) (part_names top n)
      ∙ both _ _
      (level_every n top (λ j a b. h _ (record { under = omega arith; from1 = a; up_to = b })))
      (name_every top n (λ p l. h p (record { under = omega (arith, l.under); from1 = l.from1; up_to = l.up_to })))

levels_named : (top planes n k : ℕ) → n < planes → k ≤ top → All (Named top planes) (parts_of_plane n k)
unfolding All parts_of_plane
levels_named top planes n zero a b = tt
levels_named top planes n (suc k) a b = (record { under = a; from1 = omega arith; up_to = b }, levels_named top planes n k a (omega arith))

planes_named : (top planes m : ℕ) → m ≤ planes → All (Named top planes) (part_names top m)
unfolding All part_names
planes_named top planes zero l = tt
planes_named top planes (suc m) l =
    all_append (Named top planes) (parts_of_plane m top) (part_names top m)
    (levels_named top planes m top l (omega arith))
    (planes_named top planes m (omega arith))

pub names_named : (top planes : ℕ) → All (Named top planes) (part_names top planes)
names_named top planes = planes_named top planes planes (omega arith)

-- What is there: of lists put together, and what is not.
pub present_append : (xs ys : List PartName) (q : PartName) → present (xs ++ ys) q ≡ present xs q || present ys q
unfolding present
present_append xs ys q = any_append (same_name q) xs ys

-- Every name that a record may have is among all names.
each_present : (xs ys : List PartName) → every (present (ys ++ xs)) xs ≡ true
unfolding every present any
each_present [] ys = refl
each_present (x ∷ xs) ys =
    both _ _
    (present_append ys (x ∷ xs) x ∙ either_right (present ys x) _ (rw (name_same x x refl refl)))
    (subst (λ l. every (present l) xs ≡ true) (append_assoc ys (x ∷ []) xs) (each_present xs (ys ++ (x ∷ []))))

pub all_present : (top planes : ℕ) (p : PartName) → Named top planes p → present (part_names top planes) p ≡ true
all_present top planes = every_name (present (part_names top planes)) top planes (each_present (part_names top planes) [])

pub absent : (P : PartName → Type 0) (xs : List PartName) (q : PartName) → All P xs → (P q → ⊥) → present xs q ≡ false
unfolding present any All
absent P [] q a h = refl
absent P (x ∷ xs) q a h = cases (same_name q x) refl (absent P xs q a.1 h)
  where
    cases : (b : Bool) → same_name q x ≡ b → any (same_name q) xs ≡ false → b || any (same_name q) xs ≡ false
    cases true e r = absurd (h (subst P (sym (same_name_lem q x e)) a.0))
    cases false e r = r

-- The order: what `follows` says, and that it is one.
pub follows_after : (a b : PartName) → follows a b ≡ true → After a b
unfolding follows
follows_after a b h = ⊎_elim lower level (either (ltb b.plane a.plane) _ h)
  where
    lower : ltb b.plane a.plane ≡ true → After a b
    lower t = let l : b.plane < a.plane = ltb-true _ _ t in record { downward = omega arith; in_plane = λ x. absurd (omega arith) }

    level : eqb b.plane a.plane && ltb b.level a.level ≡ true → After a b
    level t =
        let e : b.plane ≡ a.plane = eqb-true _ _ (both_left _ _ t) in
        let l : b.level < a.level = ltb-true _ _ (both_right (eqb b.plane a.plane) _ t) in
        record { downward = omega arith; in_plane = λ x. l }

pub after_follows : (a b : PartName) → After a b → follows a b ≡ true
unfolding follows
after_follows a b x = cases (dec_le a.plane b.plane)
  where
    cases : Dec (a.plane ≤ b.plane) → ltb b.plane a.plane || eqb b.plane a.plane && ltb b.level a.level ≡ true
    cases (yes l) =
        either_right (ltb b.plane a.plane) _
        (both _ _ (eq-eqb b.plane a.plane (omega (arith, x.downward))) (lt-ltb _ _ (x.in_plane l)))
    cases (no l) = rw (lt-ltb b.plane a.plane (omega arith))

pub after_after : (a b c : PartName) → After a b → After b c → After a c
after_after a b c x y =
    record { downward = omega arith; in_plane = λ l. omega (arith, x.in_plane (omega arith), y.in_plane (omega arith)) }

pub follows_follows : (a b c : PartName) → follows a b ≡ true → follows b c ≡ true → follows a c ≡ true
follows_follows a b c x y = after_follows a c (after_after a b c (follows_after a b x) (follows_after b c y))

-- In a list that is in order, what stands behind a part comes after it, and what stands before it comes before it.
pub order_after : (before : PartName) (ps : List PartName) → InOrder before ps → All (After before) ps
unfolding InOrder All
order_after before [] o = tt
order_after before (p ∷ ps) o =
    let a : After before p = follows_after before p o.0 in
    (a, all_then (After p) (After before) ps (λ q b. after_after before p q a b) (order_after p ps o.1))

pub all_middle : {X : Type 0} (P : X → Type 0) (xs : List X) (x : X) (ys : List X) → All P (xs ++ x ∷ ys) → P x
unfolding All
all_middle P [] x ys a = a.0
all_middle P (y ∷ xs) x ys a = all_middle P xs x ys a.1

module _ (p : PartName) (later : List PartName) where
  pub order_behind : (before : PartName) (seen : List PartName) → InOrder before (seen ++ p ∷ later) → All (After p) later
  unfolding InOrder
  order_behind before [] o = order_after p later o.1
  order_behind before (q ∷ seen) o = order_behind q seen o.1

  pub order_front : (before : PartName) (seen : List PartName) → InOrder before (seen ++ p ∷ later) → All (λ q. After q p) seen
  unfolding InOrder All
  order_front before [] o = tt
  order_front before (q ∷ seen) o = (all_middle (After q) seen p later (order_after q (seen ++ p ∷ later) o.1), order_front q seen o.1)

-- "Planes downward and levels downward in a plane": all parts, as the coder writes them, are in order.
levels_in_order : (n k : ℕ) (before : PartName) (rest : List PartName) → After before (at n k)
    → ((b : PartName) → n ≤ b.plane → InOrder b rest) → InOrder before (parts_of_plane n k ++ rest)
unfolding InOrder parts_of_plane
levels_in_order n zero before rest a h = h before a.downward
levels_in_order n (suc k) before rest a h =
    let next : After (at n (suc k)) (at n k) = record { downward = omega arith; in_plane = λ x. omega arith } in
    (after_follows before (at n (suc k)) a, levels_in_order n k (at n (suc k)) rest next h)

pub names_in_order : (top planes : ℕ) (before : PartName) → planes ≤ before.plane → InOrder before (part_names top planes)
unfolding InOrder part_names
names_in_order top zero before l = tt
names_in_order top (suc n) before l =
    let first : After before (at n top) = record { downward = omega arith; in_plane = λ x. absurd (omega arith) } in
    levels_in_order n top before (part_names top n) first (λ b h. names_in_order top n b h)

-- legal_head says so.
pub legal_head_lem : (h : Header) (before p : PartName) (bits : ℕ) → legal_head h before p bits ≡ true → LegalHead h before p bits
unfolding legal_head
legal_head_lem h before p bits e =
    let n : Bool = ltb p.plane h.planes in
    let k : Bool = leb 1 p.level in
    let m : Bool = leb p.level (top_level h) in
    let f : Bool = follows before p in
    let a : n && k && m && f ≡ true = both_left (n && k && m && f) _ e in
    let b : n && k && m ≡ true = both_left (n && k && m) _ a in
    let c : n && k ≡ true = both_left (n && k) _ b in
    record {
      named = record {
        under = ltb-true _ _ (both_left n _ c);
        from1 = leb-true _ _ (both_right n _ c);
        up_to = leb-true _ _ (both_right (n && k) _ b);
      };
      in_order = both_right (n && k && m) _ a;
      bits_most = leb-true _ _ (both_right (n && k && m && f) _ e);
    }

pub head_legal : (h : Header) (before p : PartName) (bits : ℕ) → LegalHead h before p bits → legal_head h before p bits ≡ true
unfolding legal_head
head_legal h before p bits l =
    rw (
      lt-ltb p.plane h.planes l.named.under,
      le-leb 1 p.level l.named.from1,
      le-leb p.level (top_level h) l.named.up_to,
      l.in_order,
      le-leb bits (most_bits h.size) l.bits_most,
    )

-- A legal head stays legal behind an earlier part.
pub legal_behind : {h : Header} {before earlier p : PartName} {bits : ℕ} → LegalHead h before p bits → follows earlier p ≡ true
    → LegalHead h earlier p bits
legal_behind l f = record { named = l.named; in_order = f; bits_most = l.bits_most }
