-- What is joined: two records with one header that agree on the parts they share; and it is a record again, without a tail, that has under each name
-- the part of the first, else that of the second.
use Rattle.std.specs.Prelude.{◌≡◌, Bool, ◌&&◌, ◌||◌, ◌⊎◌, ℕ, ◌≤◌, leb, eqb, length, take, drop, Ok}
use Rattle.std.proofs.Math.Path.{refl, ap, ap₂, sym}
use Rattle.std.proofs.Common.{◌∙◌, subst, subst₂, true≢false, inl, inr, arith, take-append-drop, length-take-le, take_at, eqb-true, eq-eqb}
use mathlib.Core.List.{List, [], ◌∷◌, ◌++◌, map}
use Rattle.std.proofs.Math.Bool.{true, false, cond, not}
use Rattle.rules.specs.declared.Refusal.TheVariants as refusal
use Rattle.rules.specs.declared.Header.{Header}
use Rattle.rules.specs.Document.Numbers.{HeaderRead}
use Rattle.rules.specs.declared.Part.{Part}
use Rattle.rules.specs.Document.Notation.{any, flat}
use Rattle.rules.specs.Document.Passes.{PartName}
use Rattle.rules.specs.Document.Layout.{whole_of, name_of, same_name}
use Rattle.rules.specs.Document.Numbers.{tail, read_header, read_parts}
use Rattle.rules.specs.Document.Calls.{Result, accepted, unless, on_header, on_ending, fitted}
use Rattle.rules.proofs.Laws.Counting.Booleans.{both, both_left, both_right}
use Rattle.rules.specs.Laws.Counting.Sums.{All}
use Rattle.rules.proofs.Laws.Counting.Sums.{all_then, all_both, map_all}
use Rattle.rules.specs.Laws.Reading.Parts.{After, InOrder}
use Rattle.rules.proofs.Laws.Reading.Parts.{same_name_lem, name_same, order_after}
use Rattle.rules.specs.Promises.Vocabulary.{present, placed_from}
use Rattle.rules.proofs.Laws.Reading.Stands.{read_header_stands, header_within}
use Rattle.rules.proofs.Laws.Calls.Results.{unless_accepted, on_header_accepted, on_ending_accepted, accepted_same}
use Rattle.rules.specs.Laws.Reading.Walk.{parts_from}
use Rattle.rules.proofs.Laws.Reading.Walk.{read_parts_from}
use Rattle.rules.specs.Laws.Reading.WholeParts.{WholeParts}
use Rattle.rules.proofs.Laws.Reading.WholeParts.{read_parts_whole, whole_in_order}
use Rattle.rules.specs.Laws.Reading.Local.{Same}
use Rattle.rules.proofs.Laws.Reading.Local.{same_taken, read_header_local}
use Rattle.rules.specs.Laws.Serving.Selection.{holds, piece_holds, piece_bytes}
use Rattle.rules.proofs.Laws.Serving.Selection.{pieces_read, pieces_hold}
use Rattle.rules.proofs.Laws.Serving.Served.{served_whole}
use Rattle.joins.specs.Document.Joining.{same_bytes, part_named, or_else, joined_part, joined_bytes, clashes, unless_clash, on_record, joining}
use Rattle.joins.specs.Laws.ByName.{found, all_names, first}
use Rattle.joins.proofs.Laws.ByName.{named_found, after_other, all_in_order, parts_present}
use Rattle.joins.specs.Laws.Gathered.{Gathered}
use Rattle.joins.proofs.Laws.Gathered.{gathered, under_named, under_either, or_first, piece_some}
use Rattle.joins.specs.Laws.Joined.{part_of, either_of, join_of, Readable, Joinable, IsJoined, JoinedRecord, Own, Agrees}

-- The same bytes.
pub same_bytes_lem : (xs ys : List ℕ) → same_bytes xs ys ≡ true → xs ≡ ys
unfolding same_bytes
same_bytes_lem [] [] e = refl
same_bytes_lem [] (y ∷ ys) e = absurd (true≢false (sym e))
same_bytes_lem (x ∷ xs) [] e = absurd (true≢false (sym e))
same_bytes_lem (x ∷ xs) (y ∷ ys) e = ap₂ ◌∷◌ (eqb-true x y (both_left _ _ e)) (same_bytes_lem xs ys (both_right (eqb x y) _ e))

itself_same : (xs : List ℕ) → same_bytes xs xs ≡ true
unfolding same_bytes
itself_same [] = refl
itself_same (x ∷ xs) = both _ _ (eq-eqb x x refl) (itself_same xs)

pub bytes_same : (xs ys : List ℕ) → xs ≡ ys → same_bytes xs ys ≡ true
bytes_same xs ys e = subst (λ l. same_bytes xs l ≡ true) e (itself_same xs)

-- Reading a record accepts it or not, whatever comes of it.
module _ {X : Type 0} (s : List ℕ) (go : Header → List Part → Result X) where
  pub on_record_readable : (h : Header) → Readable s h → on_record s go ≡ go h (read_parts h s).parts
  unfolding on_record on_header on_ending
  on_record_readable h r = rw (r.read, r.ending)

  pub on_record_accepted : (x : X) → on_record s go ≡ accepted x → (h : Header) × Readable s h × (go h (read_parts h s).parts ≡ accepted x)
  unfolding on_record
  on_record_accepted x e =
      let h = on_header_accepted (read_header s) _ x e in
      let t = on_ending_accepted (read_parts h.0 s).ending _ x h.2 in
      (h.0, record { read = h.1; cut = t.0; ending = t.1 }, t.2)

pub readable_within : {s : List ℕ} {h : Header} → Readable s h → h.end ≤ length s
readable_within {s} {h} r = header_within (read_header_stands s h r.read)

-- What is found under a name is a part of that name, with whatever is known of each; or there is none.
pub named_cases : (s : List ℕ) (x : PartName) (P : Part → Type 0) (ps : List Part) → All P ps
    → (part_named s ps x ≡ []) ⊎ ((p : Part) × (name_of p ≡ x) × (part_named s ps x ≡ whole_of s p) × P p)
unfolding part_named All
named_cases s x P [] a = inl refl
named_cases s x P (p ∷ ps) a = by (same_name x (name_of p)) refl (named_cases s x P ps a.1)
  where
    by : (t : Bool) → same_name x (name_of p) ≡ t
        → (part_named s ps x ≡ []) ⊎ ((p : Part) × (name_of p ≡ x) × (part_named s ps x ≡ whole_of s p) × P p)
        → (cond t (whole_of s p) (part_named s ps x) ≡ []) ⊎ ((q : Part) × (name_of q ≡ x) × (cond t (whole_of s p) (part_named s ps x) ≡ whole_of s q) × P q)
    by true e r = inr (p, sym (same_name_lem x (name_of p) e), refl, a.0)
    by false e r = r

own_parts : (h : Header) (s : List ℕ) (ps : List Part) (before : PartName) (place : ℕ) → WholeParts h s before place ps → All (Own s ps) ps
unfolding WholeParts All part_named InOrder
own_parts h s [] before place c = tt
own_parts h s (p ∷ ps) before place c = (
  record {
    found = rw (name_same (name_of p) (name_of p) refl refl);
    some = piece_some (record { source = s; before = before; place = place; this = p; read = c.0 });
  },
  all_then (λ q. After (name_of p) (name_of q) × Own s ps q) (Own s (p ∷ ps)) ps
      (λ q o. record { found = rw (after_other (name_of p) (name_of q) o.0).0 o.1.found; some = o.1.some })
      (all_both _ _ ps
      (map_all (After (name_of p)) name_of ps (order_after (name_of p) (map name_of ps) (whole_in_order h s (name_of p) p.end ps c.1)))
      (own_parts h s ps (name_of p) p.end c.1)),
)

pub parts_own : (h : Header) (s : List ℕ) → All (Own s (read_parts h s).parts) (read_parts h s).parts
parts_own h s = own_parts h s (read_parts h s).parts (first h) h.end (read_parts_whole h s)

-- This, else that: it is the same which comes first just where both are the same, or one is nothing.
pub or-none : (xs : List ℕ) → or_else xs [] ≡ xs
unfolding or_else
or-none [] = refl
or-none (x ∷ xs) = refl

pub or_same : (xs ys : List ℕ) → 1 ≤ length xs → 1 ≤ length ys → or_else xs ys ≡ or_else ys xs → xs ≡ ys
or_same xs ys l m e = sym (or_first xs ys l) ∙ e ∙ or_first ys xs m

module _ (a b : List ℕ) where
  pub agrees_clear : (p : Part) (qs : List Part) → Agrees a b qs p → clashes a b qs p ≡ false
  unfolding clashes any All
  agrees_clear p [] c = refl
  agrees_clear p (q ∷ qs) c = by (same_name (name_of p) (name_of q)) refl (agrees_clear p qs c.1)
    where
      by : (t : Bool) → same_name (name_of p) (name_of q) ≡ t → clashes a b qs p ≡ false
          → t && not (same_bytes (whole_of a p) (whole_of b q)) || clashes a b qs p ≡ false
      by true e r = rw (bytes_same (whole_of a p) (whole_of b q) (c.0 e)) r
      by false e r = r

  pub clear_agrees : (p : Part) (qs : List Part) → clashes a b qs p ≡ false → Agrees a b qs p
  unfolding clashes any All
  clear_agrees p [] e = tt
  clear_agrees p (q ∷ qs) e = (
    λ n. same_bytes_lem (whole_of a p) (whole_of b q) (by n (same_bytes (whole_of a p) (whole_of b q)) e),
    clear_agrees p qs (neither (same_name (name_of p) (name_of q) && not (same_bytes (whole_of a p) (whole_of b q))) _ e),
  )
    where
      neither : (s t : Bool) → s || t ≡ false → t ≡ false
      neither true t f = absurd (true≢false f)
      neither false t f = f

      by : same_name (name_of p) (name_of q) ≡ true → (t : Bool) → same_name (name_of p) (name_of q) && not t || clashes a b qs p ≡ false → t ≡ true
      by n true f = refl
      by n false f = absurd (true≢false (rw n at f))

  pub unless_clash_clear : {X : Type 0} (ps qs : List Part) (x : Result X) → All (Agrees a b qs) ps → unless_clash a ps b qs x ≡ x
  unfolding unless_clash unless All
  unless_clash_clear [] qs x c = refl
  unless_clash_clear (p ∷ ps) qs x c = rw (agrees_clear p qs c.0) (unless_clash_clear ps qs x c.1)

  pub unless_clash_accepted : {X : Type 0} (ps qs : List Part) (y : Result X) (x : X) → unless_clash a ps b qs y ≡ accepted x
      → All (Agrees a b qs) ps × (y ≡ accepted x)
  unfolding unless_clash All
  unless_clash_accepted [] qs y x e = (tt, e)
  unless_clash_accepted (p ∷ ps) qs y x e =
      let u = unless_accepted (not (clashes a b qs p)) (refusal.Clash p.place) _ x e in
      let r = unless_clash_accepted ps qs y x u.1 in
      ((clear_agrees p qs (off _ u.0), r.0), r.1)
    where
      off : (t : Bool) → not t ≡ true → t ≡ false
      off true f = absurd (true≢false (sym f))
      off false f = refl

  -- No clash: under each name it is the same which record comes first.
  pub agree_named : (ps qs : List Part) → All (Agrees a b qs) ps → (x : PartName) → joined_part a ps b qs x ≡ joined_part b qs a ps x
  unfolding joined_part or_else
  agree_named ps qs c x = by (named_cases a x (Agrees a b qs) ps c)
    where
      by : (part_named a ps x ≡ []) ⊎ ((p : Part) × (name_of p ≡ x) × (part_named a ps x ≡ whole_of a p) × Agrees a b qs p)
          → or_else (part_named a ps x) (part_named b qs x) ≡ or_else (part_named b qs x) (part_named a ps x)
      by (inl e) = rw e (sym (or-none (part_named b qs x)))
      by (inr (p, n, e, d)) = other (named_cases b x (λ q. same_name (name_of p) (name_of q) ≡ true → whole_of a p ≡ whole_of b q) qs d)
        where
          other : (part_named b qs x ≡ [])
              ⊎ ((q : Part) × (name_of q ≡ x) × (part_named b qs x ≡ whole_of b q) × (same_name (name_of p) (name_of q) ≡ true → whole_of a p ≡ whole_of b q))
              → or_else (part_named a ps x) (part_named b qs x) ≡ or_else (part_named b qs x) (part_named a ps x)
          other (inl f) = rw f (or-none (part_named a ps x))
          other (inr (q, m, f, same)) =
              let g : part_named a ps x ≡ part_named b qs x
              = e ∙ same (ap₂ same_name n m ∙ name_same x x refl refl) ∙ sym f in
              ap₂ or_else g (sym g)

  -- And the other way round.
  pub named_agree : (ps qs : List Part) → All (Own a ps) ps → All (Own b qs) qs
      → ((x : PartName) → joined_part a ps b qs x ≡ joined_part b qs a ps x) → All (Agrees a b qs) ps
  unfolding joined_part
  named_agree ps qs own others agree =
      all_then (Own a ps) (Agrees a b qs) ps
      (λ p o. all_then (Own b qs) (λ q. same_name (name_of p) (name_of q) ≡ true → whole_of a p ≡ whole_of b q) qs
      (λ q u e.
      let n : name_of q ≡ name_of p = sym (same_name_lem (name_of p) (name_of q) e) in
      let v : part_named b qs (name_of p) ≡ whole_of b q = ap (part_named b qs) (sym n) ∙ u.found in
      or_same (whole_of a p) (whole_of b q) o.some u.some
      (ap₂ or_else (sym o.found) (sym v) ∙ agree (name_of p) ∙ ap₂ or_else v o.found))
      others)
      own

-- Bytes have one header, and records with the same bytes for a header have one.
pub one_header : {x : HeaderRead} {h g : Header} → x ≡ Ok h → x ≡ Ok g → h ≡ g
one_header a b = cc

pub same_header : {a b : List ℕ} {h g : Header} → Readable a h → Readable b g → take h.end a ≡ take g.end b → h ≡ g
same_header {a} {b} {h} {g} r q e = one_header there q.read
  where
    bytes : take h.end a ++ drop g.end b ≡ b
    bytes = ap (λ l. l ++ drop g.end b) e ∙ take-append-drop g.end b

    there : read_header b ≡ Ok h
    there =
        read_header_local a h r.read b
        (subst (λ l. Same a 0 l 0 h.end) bytes (same_taken a h.end (drop g.end b) (readable_within r)))

-- Two records that were read: what is left to judge.
pub joining_read : {a b : List ℕ} {h g : Header} → Readable a h → Readable b g → (room : ℕ)
    → joining a b room
    ≡ unless (same_bytes (take h.end a) (take g.end b)) refusal.Mixed
    (unless_clash a (read_parts h a).parts b (read_parts g b).parts (fitted (joined_bytes h a (read_parts h a).parts b (read_parts g b).parts) room))
unfolding joining
joining_read {a} {b} {h} {g} r q room = on_record_readable a _ h r ∙ on_record_readable b _ g q

-- Joining accepts just such records, given room.
pub joining_joinable : {a b : List ℕ} {h : Header} → Joinable a b h → (room : ℕ) → joining a b room ≡ fitted (join_of h a b) room
unfolding unless
joining_joinable {a} {b} {h} j room =
    joining_read j.one j.two room
    ∙ rw (bytes_same (take h.end a) (take h.end b) j.front)
    (unless_clash_clear a b (read_parts h a).parts (read_parts h b).parts _
    (named_agree a b (read_parts h a).parts (read_parts h b).parts (parts_own h a) (parts_own h b) j.agree))

pub joining_joined : (a b : List ℕ) (room : ℕ) (j : List ℕ) → joining a b room ≡ accepted j → IsJoined a b j
unfolding joining fitted
joining_joined a b room j e =
    let r = on_record_accepted a _ j e in
    let h : Header = r.0 in
    let q = on_record_accepted b _ j r.2 in
    let m = unless_accepted (same_bytes (take h.end a) (take q.0.end b)) refusal.Mixed _ j q.2 in
    let front : take h.end a ≡ take q.0.end b = same_bytes_lem _ _ m.0 in
    let one : q.0 ≡ h = sym (same_header r.1 q.1 front) in
    let c = unless_clash_accepted a b (read_parts h a).parts (read_parts q.0 b).parts _ j m.1 in
    let f = unless_accepted (leb (length (joined_bytes h a (read_parts h a).parts b (read_parts q.0 b).parts)) room) refusal.Room _ j c.1 in
    record {
      head = h;
      joinable = record {
        one = r.1;
        two = subst (Readable b) one q.1;
        front = front ∙ ap (λ g. take g.end b) one;
        agree = agree_named a b (read_parts h a).parts (read_parts h b).parts
            (subst (λ g. All (Agrees a b (read_parts g b).parts) (read_parts h a).parts) one c.0);
      };
      bytes = sym (accepted_same f.1) ∙ ap (λ g. joined_bytes h a (read_parts h a).parts b (read_parts g b).parts) one;
    }

-- What is put together by name, of two records that can be joined, is a record.
module _ (h : Header) (a b : List ℕ) (r : Readable a h) where
  abbrev head : List ℕ
  head = take h.end a

  head_length : length head ≡ h.end
  head_length = length-take-le h.end a (readable_within r)

  together : Gathered h (either_of h a b) (all_names h)
  unfolding joined_part
  together =
      gathered h (either_of h a b)
      (λ x. under_either (under_named a x (read_parts h a).parts (first h) h.end (read_parts_whole h a))
      (under_named b x (read_parts h b).parts (first h) h.end (read_parts_whole h b)))
      (all_names h)

  abbrev placed : List Part
  placed = placed_from h.end (map (λ x. x.this) together.pieces)

  join_bytes : head ++ flat piece_bytes together.pieces ≡ join_of h a b
  unfolding joined_bytes
  join_bytes = ap (λ l. head ++ l) together.bytes

  join_header : read_header (join_of h a b) ≡ Ok h
  join_header =
      read_header_local a h r.read (join_of h a b)
      (subst (λ l. Same a 0 l 0 h.end) join_bytes (same_taken a h.end (flat piece_bytes together.pieces) (readable_within r)))

  join_parts : read_parts h (join_of h a b) ≡ record { parts = placed; ending = tail 0 }
  join_parts =
      read_parts_from h (join_of h a b) (header_within (read_header_stands (join_of h a b) h join_header))
      ∙ subst₂ (λ l n. parts_from h l (first h) n ≡ record { parts = placed_from n (map (λ x. x.this) together.pieces); ending = tail 0 })
      join_bytes head_length (pieces_read together.pieces (first h) (together.in_order (first h) (all_in_order h)) head)

  -- Under a name that no record with this header may have there is nothing.
  none_beyond : (s : List ℕ) (x : PartName) → present (all_names h) x ≡ false → part_of h s x ≡ []
  none_beyond s x e = by (named_cases s x (λ p. present (all_names h) (name_of p) ≡ true) (read_parts h s).parts (parts_present h s))
    where
      by : (part_of h s x ≡ []) ⊎ ((p : Part) × (name_of p ≡ x) × (part_of h s x ≡ whole_of s p) × (present (all_names h) (name_of p) ≡ true))
          → part_of h s x ≡ []
      by (inl f) = f
      by (inr (p, n, f, t)) = absurd (true≢false (sym t ∙ ap (present (all_names h)) n ∙ e))

  join_part : (x : PartName) → part_of h (join_of h a b) x ≡ either_of h a b x
  unfolding joined_part or_else
  join_part x =
      ap (λ y. part_named (join_of h a b) y.parts x) join_parts ∙ named_found (join_of h a b) placed x
      ∙ ap (λ l. found l x)
      (subst₂ (λ l n. map (holds l) (placed_from n (map (λ y. y.this) together.pieces)) ≡ map piece_holds together.pieces) join_bytes head_length
      (pieces_hold together.pieces head))
      ∙ together.hold x ∙ by (present (all_names h) x) refl
    where
      by : (t : Bool) → present (all_names h) x ≡ t → cond t (either_of h a b x) [] ≡ either_of h a b x
      by true e = refl
      by false e = rw (none_beyond a x e, none_beyond b x e)

  pub join_is_record : JoinedRecord a b h (join_of h a b)
  join_is_record =
      let ending : (read_parts h (join_of h a b)).ending ≡ tail 0 = ap (λ y. y.ending) join_parts in
      record {
        read = join_header;
        ending = ending;
        front = ap (take h.end) (sym join_bytes) ∙ take_at head (flat piece_bytes together.pieces) h.end head_length;
        part = join_part;
        served = served_whole (join_of h a b) h (length (join_of h a b)) join_header ending (omega arith);
      }

-- Whatever was joined.
pub joined_record : {a b j : List ℕ} (i : IsJoined a b j) → JoinedRecord a b i.head j
joined_record {a} {b} i =
    subst (JoinedRecord a b i.head) (sym i.bytes) (join_is_record i.head a b i.joinable.one)
