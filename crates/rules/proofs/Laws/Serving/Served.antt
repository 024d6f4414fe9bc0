-- Serving: what is served is a record with exactly the parts named and no tail; a record served whole is itself less its tail.
use Rattle.std.proofs.Math.Path.{◌≡◌, refl, ap, fun_ext}
use Rattle.std.proofs.Common.{ap₂, sym, ◌∙◌, subst, subst₂, leb-true, le-leb, length-append, length-drop, length-take-le, take_all, take_at, drop-drop, Ok, Err}
use mathlib.Core.List.{List, [], ◌∷◌, ◌++◌, append_assoc}
use Rattle.std.specs.Prelude.{Bool, true, false, cond, ◌&&◌, leb}
use Prim.Native.Nat.{ℕ, zero, suc, ◌+◌, ◌-◌, ◌≤◌, max}
use native.Mathlib.Omega.{arith}
use Rattle.std.proofs.Math.ListN.{length, take, drop, take-append-drop}
use Rattle.rules.specs.declared.Refusal.TheVariants as refusal
use Rattle.rules.specs.declared.Header.{Header}
use Rattle.rules.specs.declared.Part.{Part}
use Rattle.rules.specs.Document.Notation.{flat}
use Rattle.rules.specs.Document.Passes.{PartName}
use Rattle.rules.specs.Document.Layout.{whole_of, name_of}
use Rattle.rules.specs.declared.Piece.TheVariants as part
use Rattle.rules.specs.Document.Numbers.{tail, Reading, read_header, read_part, go_on, read_from, read_parts, top_level, PartRead}
use Rattle.rules.specs.Document.Calls.{accepted, unless, on_header, on_ending, legal_ask, kept_of, served_bytes, Portion, portioned, serving}
use Rattle.rules.specs.Promises.Vocabulary.{wanted, IsServed, selection, placed_from}
use Rattle.rules.proofs.Laws.Reading.Stands.{read_header_stands, header_within, read_part_stands}
use Rattle.rules.proofs.Laws.Counting.Booleans.{selection_both, same_test, both, both_left, both_right}
use Rattle.rules.proofs.Laws.Calls.Results.{unless_accepted, on_header_accepted, on_ending_accepted, accepted_same}
use Rattle.rules.specs.Laws.Reading.Walk.{parts_from}
use Rattle.rules.proofs.Laws.Reading.Walk.{read_parts_from}
use Rattle.rules.specs.Laws.Reading.Local.{Same}
use Rattle.rules.proofs.Laws.Reading.Local.{same_taken, read_header_local}
use Rattle.rules.proofs.Laws.Serving.Selection.{selection_read}
use Rattle.rules.specs.Laws.Reading.WholeParts.{WholeParts}
use Rattle.rules.proofs.Laws.Reading.WholeParts.{read_parts_whole}

-- Two requests are one: what both want is what the larger level and the larger plane want.
leb_both : (a b x : ℕ) → leb a x && leb b x ≡ leb (max a b) x
leb_both a b x =
    same_test _ _ (λ e. le-leb (max a b) x (omega (arith, leb-true a x (both_left _ _ e), leb-true b x (both_right (leb a x) _ e))))
    (λ e. both _ _ (le-leb a x (omega (arith, leb-true (max a b) x e))) (le-leb b x (omega (arith, leb-true (max a b) x e))))

pub wanted_both : (r1 p1 r2 p2 : ℕ) (x : Part) → wanted r1 p1 x && wanted r2 p2 x ≡ wanted (max r1 r2) (max p1 p2) x
wanted_both r1 p1 r2 p2 x =
    four (leb r1 x.level.0) (leb p1 x.plane.0) (leb r2 x.level.0) (leb p2 x.plane.0)
    ∙ ap₂ ◌&&◌ (leb_both r1 r2 x.level.0) (leb_both p1 p2 x.plane.0)
  where
    four : (a b c d : Bool) → (a && b) && (c && d) ≡ (a && c) && (b && d)
    four true true c d = refl
    four true false true d = refl
    four true false false d = refl
    four false b c d = refl

flat_selection : (s : List ℕ) (r p : ℕ) (ps : List Part) → flat (kept_of s r p) ps ≡ flat (whole_of s) (selection (wanted r p) ps)
unfolding flat kept_of selection
flat_selection s r p [] = refl
flat_selection s r p (x ∷ ps) = go (wanted r p x) (flat_selection s r p ps)
  where
    go : (b : Bool) → flat (kept_of s r p) ps ≡ flat (whole_of s) (selection (wanted r p) ps)
        → cond b (whole_of s x) [] ++ flat (kept_of s r p) ps ≡ flat (whole_of s) (cond b (x ∷ selection (wanted r p) ps) (selection (wanted r p) ps))
    go true e = ap (λ (l : List ℕ). whole_of s x ++ l) e
    go false e = e

-- what a request keeps of what another one selects
pub kept_both : (s : List ℕ) (r1 p1 r2 p2 : ℕ) (ps : List Part)
    → flat (kept_of s r2 p2) (selection (wanted r1 p1) ps) ≡ flat (kept_of s (max r1 r2) (max p1 p2)) ps
kept_both s r1 p1 r2 p2 ps =
    let one : selection (wanted r2 p2) (selection (wanted r1 p1) ps) ≡ selection (wanted (max r1 r2) (max p1 p2)) ps
    = sym (selection_both (wanted r1 p1) (wanted r2 p2) ps) ∙ ap (λ t. selection t ps) (fun_ext (wanted_both r1 p1 r2 p2)) in
    flat_selection s r2 p2 (selection (wanted r1 p1) ps) ∙ ap (flat (whole_of s)) one ∙ sym (flat_selection s (max r1 r2) (max p1 p2) ps)

pub serving_served : (s : List ℕ) (r p room : ℕ) (x : Portion) → serving s r p room ≡ accepted x → IsServed s r p x
unfolding serving portioned served_bytes
serving_served s r p room x e =
    let h = on_header_accepted (read_header s) _ x e in
    let a = unless_accepted (legal_ask h.0 r p) refusal.Ask _ x h.2 in
    let t = on_ending_accepted (read_parts h.0 s).ending _ x a.1 in
    let b = unless_accepted _ refusal.Room _ x t.2 in
    let y : record { bytes = served_bytes h.0 s r p (read_parts h.0 s).parts; tail = t.0 } ≡ x = accepted_same b.1 in
    subst (IsServed s r p) y
    (record {
      head = h.0;
      read = h.1;
      asked = a.0;
      ending = t.1;
      bytes = ap (λ (l : List ℕ). take h.0.end s ++ l) (flat_selection s r p (read_parts h.0 s).parts);
    })

-- What was served reads as the parts named, one behind the other, and nothing else.
module _ (s : List ℕ) (r p : ℕ) (x : Portion) (v : IsServed s r p x) where
  abbrev named : List Part
  named = selection (wanted r p) (read_parts v.head s).parts

  within : v.head.end ≤ length s
  within = header_within (read_header_stands s v.head v.read)

  pub served_header : read_header x.bytes ≡ Ok v.head
  served_header =
      read_header_local s v.head v.read x.bytes
      (subst (λ (l : List ℕ). Same s 0 l 0 v.head.end) (sym v.bytes) (same_taken s v.head.end (flat (whole_of s) named) within))

  pub served_parts : read_parts v.head x.bytes ≡ record { parts = placed_from v.head.end named; ending = tail 0 }
  served_parts =
      let f = take v.head.end s in
      let n : length f ≡ v.head.end = length-take-le v.head.end s within in
      let first : PartName = record { plane = v.head.planes; level = 0 } in
      let c : parts_from v.head (f ++ flat (whole_of s) named) first (length f) ≡ record { parts = placed_from (length f) named; ending = tail 0 }
      = selection_read v.head s (wanted r p) (read_parts v.head s).parts first v.head.end (read_parts_whole v.head s) first (λ y t. t) f in
      read_parts_from v.head x.bytes (header_within (read_header_stands x.bytes v.head served_header))
      ∙ subst₂ (λ (l : List ℕ) (k : ℕ). parts_from v.head l first k ≡ record { parts = placed_from k named; ending = tail 0 }) (sym v.bytes) n c

-- A record is its header, its parts and its tail.
module _ (h : Header) (s : List ℕ) where
  tail_rest : (place k : ℕ) → place ≤ length s → tail (length s - place) ≡ tail k → drop (length s - k) s ≡ drop place s
  tail_rest place k l e =
      let f : length s - place ≡ k = cc in
      let g : length s - k ≡ place = omega arith in
      ap (λ (n : ℕ). drop n s) g

  whole_rest : (p : Part) → p.place ≤ p.end → whole_of s p ++ drop p.end s ≡ drop p.place s
  unfolding whole_of
  whole_rest p o =
      let e : p.end ≡ p.place + (p.end - p.place) = omega arith in
      ap (λ (n : ℕ). take (p.end - p.place) (drop p.place s) ++ drop n s) e
      ∙ ap (λ (l : List ℕ). take (p.end - p.place) (drop p.place s) ++ l) (sym (drop-drop (p.end - p.place) p.place s))
      ∙ take-append-drop (p.end - p.place) (drop p.place s)

  read_from_bytes : (m : ℕ) (before : PartName) (place k : ℕ) → place ≤ length s → (read_from m h s before place).ending ≡ tail k
      → flat (whole_of s) (read_from m h s before place).parts ++ drop (length s - k) s ≡ drop place s
  unfolding read_from flat go_on
  read_from_bytes zero before place k l e = tail_rest place k l e
  read_from_bytes (suc m) before place k l e = go (read_part h s before place) refl e (λ p o. read_from_bytes m (name_of p) p.end k o)
    where
      go : (x : PartRead) → read_part h s before place ≡ x → (go_on s place x (λ p. read_from m h s (name_of p) p.end)).ending ≡ tail k
          → ((p : Part) → p.end ≤ length s → (read_from m h s (name_of p) p.end).ending ≡ tail k
          → flat (whole_of s) (read_from m h s (name_of p) p.end).parts ++ drop (length s - k) s ≡ drop p.end s)
          → flat (whole_of s) (go_on s place x (λ p. read_from m h s (name_of p) p.end)).parts ++ drop (length s - k) s ≡ drop place s
      go (Ok (part.Part p)) f i r =
          let st = read_part_stands h s before place p f in
          append_assoc (whole_of s p) _ (drop (length s - k) s) ∙ ap (λ (l : List ℕ). whole_of s p ++ l) (r p st.within i)
          ∙ whole_rest p (omega (arith, st.placed, st.after, st.end)) ∙ ap (λ (n : ℕ). drop n s) st.placed
      go (Ok (part.Cut p)) f i r = tail_rest place k l i
      go (Ok part.Tail) f i r = tail_rest place k l i
      go (Err q) f i r = absurd (let z : ◌≡◌ {A = ℕ} 0 1 = cc in omega arith)

  pub record_bytes_lem : (k : ℕ) → h.end ≤ length s → (read_parts h s).ending ≡ tail k
      → take h.end s ++ (flat (whole_of s) (read_parts h s).parts ++ drop (length s - k) s) ≡ s
  unfolding read_parts
  record_bytes_lem k l e =
      ap (λ (x : List ℕ). take h.end s ++ x) (read_from_bytes (length s) (record { plane = h.planes; level = 0 }) h.end k l e)
      ∙ take-append-drop h.end s

-- Served for r = 1 and p = 0, every part is kept.
selection_all : (h : Header) (s : List ℕ) (before : PartName) (place : ℕ) (ps : List Part) → WholeParts h s before place ps → selection (wanted 1 0) ps ≡ ps
unfolding WholeParts selection name_of
selection_all h s before place [] c = refl
selection_all h s before place (p ∷ ps) c =
    let st = read_part_stands h s before place p c.0 in
    let k : leb 1 p.level.0 ≡ true = le-leb 1 p.level.0 st.legal.named.from1 in
    let n : leb 0 p.plane.0 ≡ true = le-leb 0 p.plane.0 (omega arith) in
    rw (k, n) (ap (λ (l : List Part). p ∷ l) (selection_all h s (name_of p) p.end ps c.1))

pub asks_all : (h : Header) → legal_ask h 1 0 ≡ true
unfolding legal_ask
asks_all h = both _ _ (both _ _ (le-leb 1 1 (omega arith)) (le-leb 1 (top_level h) (omega arith))) (le-leb 0 h.planes (omega arith))

-- A record without its tail is its header and its parts.
pub record_whole : (s : List ℕ) (h : Header) (k : ℕ) → h.end ≤ length s → (read_parts h s).ending ≡ tail k
    → take h.end s ++ flat (whole_of s) (read_parts h s).parts ≡ take (length s - k) s
record_whole s h k l e =
    let kept = take h.end s ++ flat (whole_of s) (read_parts h s).parts in
    let cut = drop (length s - k) s in
    let whole : kept ++ cut ≡ s = append_assoc (take h.end s) _ cut ∙ record_bytes_lem h s k l e in
    let n : length kept ≡ length s - k = omega (arith, sym (length-append kept cut) ∙ ap length whole, length-drop (length s - k) s) in
    sym (take_at kept cut (length s - k) n) ∙ ap (take (length s - k)) whole

serves_all : (s : List ℕ) (h : Header) (k : ℕ) → h.end ≤ length s → (read_parts h s).ending ≡ tail k
    → served_bytes h s 1 0 (read_parts h s).parts ≡ take (length s - k) s
unfolding served_bytes
serves_all s h k l e =
    let c = selection_all h s (record { plane = h.planes; level = 0 }) h.end (read_parts h s).parts (read_parts_whole h s) in
    ap (λ (x : List ℕ). take h.end s ++ x) (flat_selection s 1 0 (read_parts h s).parts ∙ ap (flat (whole_of s)) c) ∙ record_whole s h k l e

-- A record served whole is itself less its tail, in whatever room there is; without a tail it is itself.
pub serving_all : (s : List ℕ) (h : Header) (k room : ℕ) → read_header s ≡ Ok h → (read_parts h s).ending ≡ tail k
    → serving s 1 0 room ≡ portioned (take (length s - k) s) k room
unfolding serving on_header on_ending unless
serving_all s h k room a e =
    rw (a, asks_all h, e) (ap (λ (x : List ℕ). portioned x k room) (serves_all s h k (header_within (read_header_stands s h a)) e))

pub served_whole : (s : List ℕ) (h : Header) (room : ℕ) → read_header s ≡ Ok h → (read_parts h s).ending ≡ tail 0 → length s ≤ room
    → serving s 1 0 room ≡ accepted (record { bytes = s; tail = 0 })
unfolding portioned unless
served_whole s h room a e l =
    let b : take (length s - 0) s ≡ s = take_all (length s - 0) s (omega arith) in
    serving_all s h 0 room a e ∙ rw (b, le-leb (length s) room l)

-- What was served is accepted by serving, for any legal request and with room.
pub served_is_record : (s : List ℕ) (r p room : ℕ) (x : Portion) → serving s r p room ≡ accepted x
    → serving x.bytes 1 0 (length x.bytes) ≡ accepted (record { bytes = x.bytes; tail = 0 })
served_is_record s r p room x e =
    let v = serving_served s r p room x e in
    served_whole x.bytes v.head (length x.bytes) (served_header s r p x v) (ap (λ (y : Reading). y.ending) (served_parts s r p x v)) (omega arith)
