-- Demand 1 of joining: a call comes back with a number and place exactly where the case of that refusal holds for it (JoinCauses), with 0 exactly where it
-- is accepted; and what it leaves in the memory lent to it is what coding leaves. For the export: what its routine leaves, with the answer written.
use Rattle.std.specs.Prelude.{◌≡◌, Bool, ℕ, ◌-◌, ◌≤◌, ◌<◌, length}
use Rattle.std.proofs.Math.Path.{refl, sym}
use Rattle.std.proofs.Common.{ap, ◌∙◌}
use mathlib.Core.List.{List, [], ◌∷◌, ◌++◌}
use Rattle.std.proofs.Math.Bool.{true, false, not, true≢false}
use Rattle.std.proofs.Math.Dec.{leb}
use Rattle.std.proofs.Math.ListN.{take}
use borrow.Author.Tests.{leb-true, leb-false, le-leb, lt-leb}
use Rattle.rules.specs.declared.Refusal.{Refusal}
use Rattle.rules.specs.declared.Refusal.TheVariants as refusal
use Rattle.rules.specs.Document.Calls.{Coded}
use Rattle.rules.specs.declared.Header.{Header}
use Rattle.rules.specs.declared.Part.{Part}
use Rattle.rules.specs.Document.Notation.{any, zeros}
use Rattle.rules.specs.Document.Numbers.{refusal_number, verdict_number, tail, fault, read_header, read_parts}
use Rattle.rules.specs.Document.Calls.{Result, refused, unless, on_header, on_ending, fitted, filled, code_out, code_answer, code_numbers, code_places}
use Rattle.rules.specs.Document.Calls.{returned, reported, lent_out}
use Rattle.rules.proofs.Laws.Counting.Booleans.{not_test}
use Rattle.rules.specs.Laws.Counting.Sums.{All}
use Rattle.rules.proofs.Laws.Calls.Results.{unless_case, on_header_case, on_ending_case}
use Rattle.rules.proofs.Laws.Reading.PartCases.{header_is}
use Rattle.rules.proofs.Laws.Calls.Cases.{header_of_lem, parts_to, parts_of_lem}
use Rattle.rules.specs.Promises.Vocabulary.{among, Exactly}
use Rattle.rules.specs.Laws.Calls.Refused.{verdict_of}
use Rattle.rules.proofs.Laws.Calls.Refused.{exactly, header_gives, parts_gives, code_verdict}
use Rattle.joins.specs.Document.Joining.{same_bytes, joined_bytes, clashes, unless_clash, on_record, joining, Joining, AfsJoin}
use Rattle.joins.specs.Laws.Joined.{Agrees}
use Rattle.joins.proofs.Laws.Joined.{same_bytes_lem, bytes_same, agrees_clear, clear_agrees, unless_clash_clear}
use Rattle.joins.specs.Laws.JoinCauses.{ReadingCase, HEADER, PARTS, Reads, FirstClash, JoiningCase, FIRST, SECOND, MIXED, CLASH, ROOM, JOINED}
use Rattle.joins.specs.Laws.JoinRefusals.{joining_numbers}

-- Reading a record: its case, and no other's.
module _ {X : Type 0} (s : List ℕ) (go : Header → List Part → Result X) where
  on_record_case : (P : Result X → Type 0) → ((why : Refusal) → ReadingCase s why → P (refused why))
      → ((h : Header) → Reads s h (read_parts h s).parts → P (go h (read_parts h s).parts)) → P (on_record s go)
  unfolding on_record
  on_record_case P bad on =
      on_header_case P (read_header s) _ (λ why e. bad why (HEADER (header_of_lem s _ e))) (λ h e.
      on_ending_case P (read_parts h s).ending _ (λ why f. bad why (PARTS (header_of_lem s _ e) (parts_to s h _ f))) (λ t f.
      on h (record { headed = header_of_lem s _ e; cut = t; walked = parts_to s h _ f })))

  on_record_refused : (why : Refusal) → ReadingCase s why → on_record s go ≡ refused why
  unfolding on_record on_header on_ending
  on_record_refused why (HEADER c) = rw (header_is s _ c)
  on_record_refused why (PARTS {h = h} {ps = ps} c w) = rw (header_is s _ c, parts_of_lem s h ps (fault why) c w)

  on_record_reads : (h : Header) (ps : List Part) → Reads s h ps → on_record s go ≡ go h ps
  unfolding on_record on_header on_ending
  on_record_reads h ps r = rw (header_is s _ r.headed, parts_of_lem s h ps (tail r.cut) r.headed r.walked)

-- The first clash, or none.
module _ {X : Type 0} (a b : List ℕ) (qs : List Part) where
  unless_clash_case : (P : Result X → Type 0) (ps : List Part) (x : Result X)
      → ((at : ℕ) → FirstClash a ps b qs at → P (refused (refusal.Clash at))) → (All (Agrees a b qs) ps → P x) → P (unless_clash a ps b qs x)
  unfolding unless_clash All
  unless_clash_case P [] x bad on = on tt
  unless_clash_case P (p ∷ ps) x bad on =
      unless_case P (not (clashes a b qs p)) (refusal.Clash p.place) _
      (λ e. bad p.place (record { seen = []; this = p; later = ps; split = refl; before = tt; clash = off e; placed = refl }))
      (λ e. unless_clash_case P ps x (λ at f. bad at (behind e at f)) (λ c. on (clear_agrees a b p qs (turn _ e), c)))
    where
      turn : (t : Bool) → not t ≡ true → t ≡ false
      turn true f = sym f
      turn false f = refl

      off : not (clashes a b qs p) ≡ false → ¬ Agrees a b qs p
      off e c = true≢false (ap not (sym (agrees_clear a b p qs c)) ∙ e)

      behind : not (clashes a b qs p) ≡ true → (at : ℕ) → FirstClash a ps b qs at → FirstClash a (p ∷ ps) b qs at
      behind e at f =
          record {
            seen = p ∷ f.seen;
            this = f.this;
            later = f.later;
            split = ap (λ l. p ∷ l) f.split;
            before = (clear_agrees a b p qs (turn _ e), f.before);
            clash = f.clash;
            placed = f.placed;
          }

  pub clash_behind : (seen : List Part) (p : Part) (later : List Part) (x : Result X) → All (Agrees a b qs) seen → ¬ Agrees a b qs p
      → unless_clash a (seen ++ p ∷ later) b qs x ≡ refused (refusal.Clash p.place)
  unfolding unless_clash unless All
  clash_behind [] p later x c n = rw (on (clashes a b qs p) refl)
    where
      on : (t : Bool) → clashes a b qs p ≡ t → clashes a b qs p ≡ true
      on true e = e
      on false e = absurd (n (clear_agrees a b p qs e))
  clash_behind (q ∷ seen) p later x c n = rw (agrees_clear a b q qs c.0) (clash_behind seen p later x c.1 n)

  unless_clash_first : (ps : List Part) (x : Result X) (at : ℕ) → FirstClash a ps b qs at → unless_clash a ps b qs x ≡ refused (refusal.Clash at)
  unless_clash_first ps x at f =
      ap (λ l. unless_clash a l b qs x) f.split ∙ clash_behind f.seen f.this f.later x f.before f.clash
      ∙ ap (λ n. refused (refusal.Clash n)) f.placed

-- Joining has the outcome that its case says, and no other.
module _ (a b : List ℕ) (room : ℕ) where
  abbrev Joins : Result (List ℕ) → Type 0
  Joins = JoiningCase a b room

  pub joining_case : JoiningCase a b room (joining a b room)
  unfolding joining fitted
  joining_case =
      on_record_case a _ Joins (λ why c. FIRST c) (λ h r.
      on_record_case b _ Joins (λ why c. SECOND r c) (λ g q.
      unless_case Joins (same_bytes (take h.end a) (take g.end b)) refusal.Mixed _
      (λ e. MIXED r q (λ f. true≢false (sym (bytes_same _ _ f) ∙ e))) (λ e.
      let same : take h.end a ≡ take g.end b = same_bytes_lem _ _ e in
      unless_clash_case a b (read_parts g b).parts Joins (read_parts h a).parts _ (λ at f. CLASH r q same f) (λ c.
      unless_case Joins (leb (length (joined_bytes h a (read_parts h a).parts b (read_parts g b).parts)) room) refusal.Room _
      (λ e. ROOM r q same c (leb-false _ _ e)) (λ e. JOINED r q same c (leb-true _ _ e))))))

  -- two records that were read, with one header
  both_read : {h g : Header} {ps qs : List Part} → Reads a h ps → Reads b g qs → take h.end a ≡ take g.end b
      → joining a b room ≡ unless_clash a ps b qs (fitted (joined_bytes h a ps b qs) room)
  unfolding joining unless
  both_read {h} {g} {ps} {qs} r q e =
      on_record_reads a _ h ps r ∙ on_record_reads b _ g qs q ∙ rw (bytes_same (take h.end a) (take g.end b) e)

  pub joining_is : (x : Result (List ℕ)) → JoiningCase a b room x → joining a b room ≡ x
  unfolding joining fitted unless
  joining_is x (FIRST c) = on_record_refused a _ _ c
  joining_is x (SECOND {h = h} {ps = ps} r c) = on_record_reads a _ h ps r ∙ on_record_refused b _ _ c
  joining_is x (MIXED {h = h} {g = g} {ps = ps} {qs = qs} r q n) =
      on_record_reads a _ h ps r ∙ on_record_reads b _ g qs q
      ∙ rw (not_test (same_bytes (take h.end a) (take g.end b)) (λ e. n (same_bytes_lem _ _ e)))
  joining_is x (CLASH {ps = ps} {qs = qs} {at = at} r q e f) = both_read r q e ∙ unless_clash_first a b qs ps _ at f
  joining_is x (ROOM {h = h} {ps = ps} {qs = qs} r q e c l) =
      both_read r q e ∙ unless_clash_clear a b ps qs _ c ∙ rw (lt-leb (length (joined_bytes h a ps b qs)) room l)
  joining_is x (JOINED {h = h} {ps = ps} {qs = qs} r q e c l) =
      both_read r q e ∙ unless_clash_clear a b ps qs _ c ∙ rw (le-leb (length (joined_bytes h a ps b qs)) room l)

-- It gives its own numbers only.
reading_gives : {s : List ℕ} {why : Refusal} → ReadingCase s why → among joining_numbers (refusal_number why)
unfolding any
reading_gives (HEADER c) = header_gives (among joining_numbers) refl refl refl refl c
reading_gives (PARTS c w) = parts_gives (among joining_numbers) refl refl refl w

joining_gives : {a b : List ℕ} {room : ℕ} {y : Result (List ℕ)} → JoiningCase a b room y → among joining_numbers (verdict_number (verdict_of y))
unfolding verdict_of any
joining_gives (FIRST c) = reading_gives c
joining_gives (SECOND r c) = reading_gives c
joining_gives (MIXED r q n) = refl
joining_gives (CLASH r q e f) = refl
joining_gives (ROOM r q e c l) = refl
joining_gives (JOINED r q e c l) = refl

-- Every outcome of the routine.
pub joining_refused : {a b out : List ℕ} {answer : Coded} {out' : List ℕ} → Joining a b out answer out'
    → Exactly (JoiningCase a b (length out)) joining_numbers answer.verdict
    ((answer.length ≡ 0) × (out' ≡ zeros (length out)))
    (λ bytes. (answer.length ≡ length bytes) × (out' ≡ bytes ++ zeros (length out - length bytes)))
unfolding code_answer code_out filled verdict_of
joining_refused {a} {b} {out} {answer} x =
    let y : Result (List ℕ) = joining a b (length out) in
    let c : JoiningCase a b (length out) y = joining_case a b (length out) in
    exactly (JoiningCase a b (length out)) y c (joining_is a b (length out)) joining_numbers (joining_gives c)
    answer.verdict (ap (λ a. a.verdict) x.answers ∙ code_verdict y)
    _ (λ r e. (ap (λ a. a.length) (x.answers ∙ ap code_answer e), x.writes ∙ ap (code_out (length out)) e))
    _ (λ bytes e. (ap (λ a. a.length) (x.answers ∙ ap code_answer e), x.writes ∙ ap (code_out (length out)) e))

-- The export: an answer slice that is too short gives 5, all 0; in one that is long enough stands the routine's answer, the rest 0.
module _ {a b out answer : List ℕ} {number : ℕ} {out' answer' : List ℕ} (x : AfsJoin a b out answer number out' answer') where
  pub afs_join_short : length answer < code_places → (number ≡ 5) × (out' ≡ zeros (length out)) × (answer' ≡ zeros (length answer))
  unfolding returned reported lent_out
  afs_join_short l =
      let e : leb code_places (length answer) ≡ false = lt-leb code_places (length answer) l in
      (x.returns ∙ rw e, x.writes ∙ rw e, x.reports ∙ rw e)

  pub afs_join_joins : code_places ≤ length answer
      → (r : Coded) × Joining a b out r out' × (number ≡ verdict_number r.verdict) × (answer' ≡ code_numbers r ++ zeros (length answer - code_places))
  unfolding returned reported lent_out filled code_numbers
  afs_join_joins l =
      let e : leb code_places (length answer) ≡ true = le-leb code_places (length answer) l in
      (code_answer (joining a b (length out)), record { answers = refl; writes = x.writes ∙ rw e }, x.returns ∙ rw e, x.reports ∙ rw e)
