-- Serving step by step: the request, one part kept, and what is left of the walk.
use Rattle.std.specs.Prelude.{◌⊎◌, Result, Ok, Err, is_err}
use mathlib.Core.Path.{◌≡◌, refl, ap, ap₂, sym, ◌∙◌}
use mathlib.Core.Logic.{inl, inr}
use mathlib.Core.List.{List, [], ◌∷◌, ◌++◌, append_assoc, append-nil}
use mathlib.Core.Bool.{Bool, true, false, cond, ◌&&◌}
use Prim.Native.Nat.{ℕ, ◌+◌, ◌-◌, ◌≤◌, ◌<◌}
use native.Mathlib.Omega.{arith}
use lib.Dec.{leb}
use lib.ListN.{length, take, drop, replicate, length-append, length-replicate}
use lib.Seq.{sets, length-sets, length-take-le}
use borrow.Author.Tests.{le-leb, lt-leb}
use Rattle.rules.specs.declared.Refusal.{Refusal}
use Rattle.rules.specs.declared.Refusal.TheVariants as refusal
use Rattle.rules.specs.declared.Header.{Header}
use Rattle.rules.specs.declared.Part.{Part}
use Rattle.rules.specs.declared.Piece.{Piece}
use Rattle.rules.specs.declared.Piece.TheVariants as part
use Rattle.rules.specs.declared.Plane.{Plane}
use Rattle.rules.specs.declared.Level.{Level}
use Rattle.rules.specs.Document.Notation.{flat, zeros}
use Rattle.rules.specs.Document.Pyramid.{legal_size}
use Rattle.rules.specs.Document.Layout.{whole_of}
use Rattle.rules.specs.Document.Numbers.{Ending, tail, fault, Reading, read_header, read_parts, PartRead, HeaderRead, Accepted}
use Rattle.rules.specs.Document.Calls.{refused, accepted, unless, on_header, on_ending, legal_ask, kept_of, served_bytes, portioned}
use Rattle.rules.specs.Document.Calls.{serving, serve_out, serve_answer, Serving}
use Rattle.rules.proofs.Laws.Counting.Sums.{flat_append}
use Rattle.rules.specs.Laws.Bytes.Output.{clipped}
use Rattle.rules.proofs.Laws.Bytes.Output.{clipped_nothing, clipped_length, clipped_append, clipped_fits}
use Rattle.rules.proofs.Laws.Serving.Selection.{whole_length}
use Rattle.record.specs.declared.walk.Cursor.{Cursor}
use Rattle.record.specs.Walk.{first_of, next_of, past_of, Stands, stands_first, stands_legal, next_stands, Short, stands_past, stands_short, stands_fault}
use Rattle.rules.specs.declared.Extent.{Extent}
use Rattle.rules.specs.Document.Answers.{as_served}
use Rattle.server.specs.Walk.{Copies, Kept, Begun, end_of, result, Walked, Answered}

-- One part.
module _ (s : List ℕ) (p : Part) (level : Level) (plane : Plane) (out : List ℕ) (written : ℕ) where
  kept_nothing : kept_of s level.0 plane.0 p ≡ [] → Kept s p level plane out written written out
  kept_nothing e =
      record {
        counts = let f : written ≡ written + 0 = omega arith in f ∙ ap (λ (l : List ℕ). written + length l) (sym e);
        copies = ap (λ (l : List ℕ). sets out written l) (sym e);
      }

  pub kept_none : (p.level.0 < level.0) ⊎ ((level.0 ≤ p.level.0) × (p.plane.0 < plane.0)) → Kept s p level plane out written written out
  unfolding kept_of
  kept_none (inl l) = kept_nothing (rw (lt-leb level.0 p.level.0 l))
  kept_none (inr (k, l)) = kept_nothing (rw (le-leb level.0 p.level.0 k, lt-leb plane.0 p.plane.0 l))

  pub kept_whole : Copies s p written → level.0 ≤ p.level.0 → plane.0 ≤ p.plane.0 → (out' : List ℕ)
      → out' ≡ sets out written (take (p.end - p.place) (drop p.place s)) → Kept s p level plane out written (written + (p.end - p.place)) out'
  unfolding kept_of whole_of
  kept_whole c k l out' e =
      let f : kept_of s level.0 plane.0 p ≡ whole_of s p = rw (le-leb level.0 p.level.0 k, le-leb plane.0 p.plane.0 l) in
      record {
        counts = ap (λ (n : ℕ). written + n) (sym (whole_length s p c.ordered c.within) ∙ ap length (sym f));
        copies = e ∙ ap (λ (l : List ℕ). sets out written l) (sym f);
      }

kept_most : (s : List ℕ) (p : Part) (level : Level) (plane : Plane) → p.place ≤ p.end → p.end ≤ length s
    → length (kept_of s level.0 plane.0 p) ≤ p.end - p.place
unfolding kept_of
kept_most s p level plane o l = go (leb level.0 p.level.0 && leb plane.0 p.plane.0)
  where
    go : (b : Bool) → length (cond b (whole_of s p) []) ≤ p.end - p.place
    go true = omega (arith, whole_length s p o l)
    go false = omega arith

ending_clash : (q : Refusal) (n : ℕ) → fault q ≡ tail n → ◌≡◌ {A = ℕ} 0 1
ending_clash q n e = cc

-- The walk: what the parts that it came past come to is written.
pub record Walking (s : List ℕ) (h : Header) (level : Level) (plane : Plane) (room : ℕ) (out : List ℕ) (c : Cursor) (written : ℕ) : Type 0 where
  pub seen : List Part
  pub stands : Stands h s c seen
  pub count : written ≡ length (served_bytes h s level.0 plane.0 seen)
  pub holds : out ≡ clipped room (served_bytes h s level.0 plane.0 seen)
  pub behind : written ≤ c.place

module _ (s : List ℕ) (h : Header) (level : Level) (plane : Plane) where
  abbrev bytes : List Part → List ℕ
  bytes ps = served_bytes h s level.0 plane.0 ps

  served_none : bytes [] ≡ take h.end s
  unfolding served_bytes flat
  served_none = append-nil (take h.end s)

  served_more : (ps : List Part) (p : Part) → bytes (ps ++ (p ∷ [])) ≡ bytes ps ++ kept_of s level.0 plane.0 p
  unfolding served_bytes flat
  served_more ps p =
      let f = kept_of s level.0 plane.0 in
      ap (λ (x : List ℕ). take h.end s ++ x) (flat_append f ps (p ∷ []) ∙ ap (λ (x : List ℕ). flat f ps ++ x) (append-nil (f p)))
      ∙ sym (append_assoc (take h.end s) (flat f ps) (f p))

  pub walking_first : (c : Cursor) (out : List ℕ) → Begun s h out → c ≡ first_of h → Walking s h level plane (length out) out c h.end
  walking_first c out b e =
      let st : Stands h s c [] = stands_first h s c b.read e in
      let at : c.place ≡ h.end = ap (λ (x : Cursor). x.place) e in
      let w : h.end ≤ length s = omega (arith, st.within, at) in
      record {
        seen = [];
        stands = st;
        count = sym (ap length served_none ∙ length-take-le h.end s w);
        holds = b.copied ∙ ap (clipped (length out)) (sym served_none);
        behind = omega (arith, at);
      }

  module _ (room : ℕ) (out : List ℕ) (c : Cursor) (written : ℕ) (w : Walking s h level plane room out c written) where
    pub walking_legal : legal_size h.size ≡ true
    walking_legal = stands_legal h s c w.seen w.stands

    module _ (found : PartRead) (e : found ≡ next_of h s c) where
      pub walking_copies : (p : Part) → found ≡ Ok (part.Part p) → Copies s p written
      walking_copies p f =
          let st = next_stands h s c found e p f in
          record { behind = omega (arith, w.behind, st.placed); ordered = omega (arith, st.placed, st.after, st.end); within = st.within }

      pub walking_past : (p : Part) (d : Cursor) (more : ℕ) (out' : List ℕ) → found ≡ Ok (part.Part p) → d ≡ past_of p
          → Kept s p level plane out written more out' → Walking s h level plane room out' d more
      walking_past p d more out' f g k =
          let own = kept_of s level.0 plane.0 p in
          let copies : Copies s p written = walking_copies p f in
          let at : d.place ≡ p.end = ap (λ (x : Cursor). x.place) g in
          let longer : length (bytes (w.seen ++ (p ∷ []))) ≡ written + length own
          = ap length (served_more w.seen p) ∙ length-append (bytes w.seen) own ∙ ap (λ (n : ℕ). n + length own) (sym w.count) in
          record {
            seen = w.seen ++ (p ∷ []);
            stands = stands_past h s c found e w.seen w.stands p d f g;
            count = k.counts ∙ sym longer;
            holds =
                k.copies ∙ ap₂ (λ (l : List ℕ) (n : ℕ). sets l n own) w.holds w.count ∙ clipped_append room (bytes w.seen) own
                ∙ ap (clipped room) (sym (served_more w.seen p));
            behind = omega (arith, k.counts, kept_most s p level plane copies.ordered copies.within, copies.behind, copies.ordered, at);
          }

    -- The walk's two ends, for whoever lent the output as `first`.
    module _ (first : List ℕ) (lent : room ≡ length first) where
      pub walking_same : length out ≡ length first
      walking_same = ap length w.holds ∙ clipped_length room (bytes w.seen) ∙ lent

      module _ (found : PartRead) (e : found ≡ next_of h s c) where
        pub walking_whole : (x : Piece) → found ≡ Ok x → Short x
            → Walked s h level plane first (Ok (record { length = written; tail = length s - c.place })) out
        unfolding end_of
        walking_whole x f short =
            let all : read_parts h s ≡ record { parts = w.seen; ending = tail (length s - c.place) } = stands_short h s c found e w.seen w.stands x f short in
            record {
              ends = rw all (ap (λ (n : ℕ). Ok (record { length = n; tail = length s - c.place })) w.count);
              same = walking_same;
              holds = λ n u. rw all (w.holds ∙ ap (λ (k : ℕ). clipped k (bytes w.seen)) lent);
            }

        pub walking_fault : (q : Refusal) → found ≡ Err q → Walked s h level plane first (Err q) out
        unfolding end_of
        walking_fault q f =
            let all : read_parts h s ≡ record { parts = w.seen; ending = fault q } = stands_fault h s c found e w.seen w.stands q f in
            record {
              ends = rw all;
              same = walking_same;
              holds = λ n u. absurd (let z : ◌≡◌ {A = ℕ} 0 1 = ending_clash q n (sym (ap (λ (x : Reading). x.ending) all) ∙ u) in omega arith);
            }

-- How a walk that ended so ended.
ended_fault : (y : Ending) (bytes : List ℕ) (q : Refusal) → end_of y bytes ≡ Err q → y ≡ fault q
unfolding end_of
ended_fault (tail t) bytes q e = absurd (let z : ◌≡◌ {A = ℕ} 0 1 = cc in omega arith)
ended_fault (fault r) bytes q e = cc

ended_whole : (y : Ending) (bytes : List ℕ) (x : Extent) → end_of y bytes ≡ Ok x → (y ≡ tail x.tail) × (x.length ≡ length bytes)
unfolding end_of
ended_whole (tail u) bytes x e = let same : record { length = length bytes; tail = u } ≡ x = cc in (ap (λ z. tail z.tail) same, sym (ap (λ z. z.length) same))
ended_whole (fault r) bytes x e = absurd (let z : ◌≡◌ {A = ℕ} 0 1 = cc in omega arith)

err_same : {q r : Refusal} → ◌≡◌ {A = Result Extent Refusal} (Err q) (Err r) → q ≡ r
err_same e = cc

-- The call as a whole, for a header that was read and a request that was judged.
module _ (s : List ℕ) (level : Level) (plane : Plane) (out : List ℕ) where
  refused_with : (q : Refusal) (then : List ℕ) → length then ≡ length out → serving s level.0 plane.0 (length out) ≡ refused q
      → Answered s level plane out (Err q) then
  refused_with q then l e =
      record {
        same = l;
        refuses = λ r f. e ∙ ap refused (err_same f);
        serves = λ x f. absurd (let z : ◌≡◌ {A = ℕ} 0 1 = cc in omega arith);
      }

  -- Behind it, what was written for a refusal is cleared.
  pub cleared : (r : Result Extent Refusal) (then out' : List ℕ) → Answered s level plane out r then → is_err r ≡ true → out' ≡ replicate (length then) 0
      → Serving s level.0 plane.0 out (as_served r) out'
  unfolding as_served serve_answer serve_out
  cleared (Ok x) then out' w e g = absurd (let z : ◌≡◌ {A = ℕ} 0 1 = cc in omega arith)
  cleared (Err q) then out' w e g =
      let f = w.refuses q refl in
      record { answers = rw f; writes = g ∙ ap (λ n. replicate n 0) w.same ∙ ap (serve_out (length out)) (sym f) }

  pub unheaded : (x : HeaderRead) (q : Refusal) → x ≡ read_header s → x ≡ Err q → Answered s level plane out (Err q) out
  unfolding serving on_header
  unheaded x q e f = refused_with q out refl (rw (sym e ∙ f))

  module _ (h : Header) (read : read_header s ≡ Ok h) where
    pub unasked : (b : Bool) → b ≡ legal_ask h level.0 plane.0 → b ≡ false → Answered s level plane out (Err refusal.Ask) out
    unfolding serving on_header unless
    unasked b e f = refused_with refusal.Ask out refl (rw (read, sym e ∙ f))

    -- The output zeroed, and the header copied to its front.
    module _ (zeroed copied : List ℕ) (zeroes : zeroed ≡ replicate (length out) 0) (copies : copied ≡ sets zeroed 0 (take h.end (drop 0 s))) where
      copied_is : copied ≡ sets (zeros (length out)) 0 (take h.end s)
      copied_is = copies ∙ ap (λ (x : List ℕ). sets x 0 (take h.end s)) zeroes

      lent : length copied ≡ length out
      lent = ap length copied_is ∙ length-sets (zeros (length out)) 0 (take h.end s) ∙ length-replicate (length out) 0

      pub begun : Begun s h copied
      begun =
          record {
            read = read;
            copied =
                copied_is ∙ ap (λ (x : List ℕ). sets x 0 (take h.end s)) (sym (clipped_nothing (length out)))
                ∙ clipped_append (length out) [] (take h.end s) ∙ ap (λ (n : ℕ). clipped n (take h.end s)) (sym lent);
          }

      -- The walk has ended.
      module _ (b : Bool) (asked : b ≡ legal_ask h level.0 plane.0) (legal_ask_lem : b ≡ true) (e : Result Extent Refusal) (out₁ : List ℕ)
          (w : Walked s h level plane copied e out₁) where
        pub faulted : (q : Refusal) → e ≡ Err q → Answered s level plane out (Err q) out₁
        unfolding serving on_header unless on_ending
        faulted q f =
            let y : (read_parts h s).ending ≡ fault q = ended_fault _ (result s h level plane) q (sym w.ends ∙ f) in
            refused_with q out₁ (w.same ∙ lent) (rw (read, sym asked ∙ legal_ask_lem, y))

        pub roomless : (x : Extent) → e ≡ Ok x → length out₁ < x.length → Answered s level plane out (Err refusal.Room) out₁
        unfolding serving on_header unless on_ending portioned
        roomless x f l =
            let y = ended_whole _ (result s h level plane) x (sym w.ends ∙ f) in
            let m : length out < length (result s h level plane) = omega (arith, lent, w.same, y.1) in
            refused_with refusal.Room out₁ (w.same ∙ lent)
            (rw (read, sym asked ∙ legal_ask_lem, y.0, lt-leb (length (result s h level plane)) (length out) m))

        pub served : (x : Extent) → e ≡ Ok x → x.length ≤ length out₁ → Answered s level plane out (Ok x) out₁
        unfolding serving on_header unless on_ending portioned as_served serve_answer serve_out
        served x f l =
            let y = ended_whole _ (result s h level plane) x (sym w.ends ∙ f) in
            let m : length (result s h level plane) ≤ length out = omega (arith, lent, w.same, y.1) in
            let v : serving s level.0 plane.0 (length out) ≡ accepted (record { bytes = result s h level plane; tail = x.tail })
            = rw (read, sym asked ∙ legal_ask_lem, y.0, le-leb (length (result s h level plane)) (length out) m) in
            record {
              same = w.same ∙ lent;
              refuses = λ q g. absurd (let z : ◌≡◌ {A = ℕ} 0 1 = cc in omega arith);
              serves = λ x' g.
                  record {
                    answers = ap (λ (k : ℕ). record { verdict = Accepted; length = k; tail = x.tail }) y.1 ∙ ap serve_answer (sym v);
                    writes =
                        w.holds x.tail y.0 ∙ ap (λ (k : ℕ). clipped k (result s h level plane)) lent
                        ∙ clipped_fits (length out) (result s h level plane) m ∙ ap (serve_out (length out)) (sym v);
                  };
            }
