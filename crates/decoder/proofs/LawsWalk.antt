use Rattle.std.specs.Prelude.{Some, None, Ok, Err}
use Rattle.std.specs.Prelude.{Result as Returned}
-- The walk over all parts of a record: the lists and the values drawn are what the parts that came by make of those at the start.
use mathlib.Core.Path.{◌≡◌, refl, ap, ap₂, sym, ◌∙◌, subst}
use mathlib.Core.List.{List, [], ◌∷◌, ◌++◌, map, append_assoc, map-append}
use mathlib.Core.Bool.{Bool, true, false, cond}
use Prim.Native.Nat.{ℕ, ◌-◌, ◌≤◌, ◌<◌, ◌^◌}
use native.Mathlib.Omega.{arith}
use native.Mathlib.Decide.{dec_le}
use lib.ListN.{length, set, length-append, length-map}
use lib.IntN.{ℤ}
use Rattle.rules.specs.declared.Plane.{Plane}
use Rattle.rules.specs.declared.Refusal.{Refusal}
use Rattle.rules.specs.declared.Refusal.TheVariants as refusal
use Rattle.rules.specs.declared.Header.{Header}
use Rattle.rules.specs.declared.Part.{Part}
use Rattle.rules.specs.Document.Numbers.{PartRead}
use Rattle.rules.specs.declared.Piece.TheVariants as part
use Rattle.decoder.specs.declared.Walk.{Walk}
use Rattle.rules.specs.Document.Pyramid.{area}
use Rattle.rules.specs.Document.Passes.{PartName, State}
use Rattle.rules.specs.Document.Layout.{name_of, usable, reached}
use Rattle.rules.specs.Document.Numbers.{tail, fault, Reading, read_parts, behind, top_level}
use Rattle.rules.specs.Document.Calls.{level_places, refused, accepted, Progress, going, unfit, on_ending}
use Rattle.rules.specs.Document.Calls.{reached_planes, skipped_counts, count_in, pictured, decoded_parts}
use Rattle.rules.proofs.Laws.Family.Sizes.{legal}
use Rattle.rules.specs.Laws.Reading.Parts.{After}
use Rattle.rules.proofs.Laws.Reading.Parts.{follows_after}
use Rattle.rules.specs.Laws.Reading.OneWalk.{usable_now, reached_now}
use Rattle.rules.specs.Laws.Reading.Stands.{HeaderStands, PartStands}
use Rattle.rules.proofs.Laws.Reading.Stands.{read_header_stands, header_legal, header_planes}
use Rattle.rules.specs.Laws.Reading.WholeParts.{WholeParts}
use Rattle.rules.proofs.Laws.Reading.WholeParts.{parts_whole, usable_read, reached_read}
use Rattle.rules.specs.Laws.Reading.CutPart.{CutStands}
use Rattle.rules.proofs.Laws.Reading.CutPart.{usable_cut}
use Rattle.rules.specs.Promises.Vocabulary.{Legal}
use Rattle.record.specs.declared.walk.Cursor.{Cursor}
use Rattle.record.specs.Named.{named}
use Rattle.record.specs.Walk.{next_of, past_of, left, Stands, stands_first, next_stands, next_falls, stands_past, next_cut, stands_behind}
use Rattle.record.specs.Walk.{stands_tail, stands_cut, stands_fault}
use Rattle.trees.specs.Family.{trees}
use Rattle.trees.specs.Run.{tree_start}
use Rattle.trees.specs.Decoding.{onward_of, decode_parts_of, tail_onward_of}
use Rattle.trees.specs.Sound.{TreeSound, TreeProgress}
use Rattle.trees.proofs.Sound.{tree_start_sound, tree_onward_sound}
use Rattle.stretches.specs.Workspace.{word_in, drawn_in}
use Rattle.placing.specs.Placing.{Roomy, Cleared}
use Rattle.parts.specs.Standing.{state_of, agree_same}
use Rattle.decoder.specs.Walking.{Found, Outcome, gone, one_part_more, used_on, met_on, cut_on, met_part, met_cut, Taken, Ended, Standing, Turned, Begun}
use Rattle.decoder.specs.Walking.{past_part, at_cut, at_tail, unfit_part, unfit_cut, unread}
use Rattle.decoder.specs.Walking.{Lent, Walking, at_end, LaysOut, Complete}
use Rattle.decoder.specs.Walking.{order, names, begin, walked, tail_walked}
use Rattle.reached.specs.Skips.{skipped_by, skipped_by_none, skipped_by_all, skipped_by_most, skipped_by_used, skipped_by_over}
use Rattle.reached.specs.Planes.{reached_at, usable_now_same, size_levels, six_planes, reached_at_planes, reached_planes_used, reached_planes_over}
use Rattle.decoder.proofs.LawsPart.{words_more}
use Rattle.decoder.proofs.LawsLaid.{drawn_blank, walked_append, walked_unfit, tail_unfit, Defined, defined_unfit, defined_going, defined_out}
use Rattle.decoder.proofs.LawsOutcome.{taken_alike, met_part_lem, met_refused, ended_alike, Goes, cut_tail, cut_refused}

-- What a header that was read says of the memory lent.
module _ (h : Header) (s : List ℕ) (out : List ℤ) (work : List ℕ) (l : Lent h s out work) where
  lent_header : HeaderStands s h
  lent_header = read_header_stands s h l.read

  pub lent_roomy : (work' : List ℕ) → length work' ≡ length work → Roomy h.size work'
  lent_roomy work' e = record { legal = header_legal lent_header; room = omega (arith, l.room) }

  module _ (blank : List ℕ) (c : Cleared h.size work blank) where
    module _ (w : Walk) (opened : List ℕ) (b : Begun h blank w opened) where
      pub walking_first : Walking h s w opened
      unfolding decode_parts_of
      walking_first =
          let o : order (named w.cursor.before) ≡ order (record { plane = h.planes; level = 0 })
          = ap (λ (x : Cursor). order (named x.before)) b.opens in
          let none : (x : ℕ) → x < area h.size → word_in h.size opened x ≡ 0 = λ x i. b.words x i ∙ c.words x i in
          record {
            room = omega (arith, l.room, b.same, c.same);
            seen = [];
            stands = stands_first h s w.cursor l.read b.opens;
            lists = tree_start h.size;
            decodes = ap (going (tree_start h.size)) (sym (drawn_blank h.size opened none));
            reaches = b.reaches;
            skips = b.skips ∙ sym (skipped_by_none h (names h s));
            agrees = b.lists;
            sound = tree_start_sound h.size (legal h.size (header_legal lent_header));
            few = omega (arith, o, header_planes lent_header);
            words =
                record {
                  under = λ x i. omega (arith, none x i, o, header_planes lent_header);
                  proper = λ x i e. omega (arith, none x i);
                };
          }

module _ (h : Header) (s : List ℕ) (w : Walk) (work : List ℕ) (W : Walking h s w work) where
  whole_header : HeaderStands s h
  whole_header = read_header_stands s h W.stands.read

  sized : Legal h.size
  sized = legal h.size (header_legal whole_header)

  pub walking_roomy : (work' : List ℕ) → length work' ≡ length work → Roomy h.size work'
  walking_roomy work' e = record { legal = header_legal whole_header; room = omega (arith, W.room) }

  -- A turn can be made.
  pub walking_standing : Standing h s w work
  walking_standing =
      record {
        legal = header_legal whole_header;
        planes = header_planes whole_header;
        room = W.room;
        six = ap length W.reaches ∙ six_planes h (map name_of W.seen);
        few = λ i.
            omega (
              arith,
              ap (λ (x : List ℕ). count_in x i) W.skips,
              skipped_by_most h (names h s) (map name_of W.seen) i,
              length-map W.seen name_of,
              W.few,
            );
        sound = subst (TreeSound h.size) (sym (agree_same W.agrees)) W.sound;
        words = words_more h.size _ (2 ^ 29) work (omega arith) W.words;
      }

  -- No whole part is left: all came by, and x stands behind them. What it makes of the values drawn is laid out.
  module _ (x : PartRead) (behind-seen : behind h s W.seen ≡ x)
      (all : read_parts h s ≡ record { parts = W.seen; ending = tail (length s - w.cursor.place) }) where
    ended_defined : (st : State) (work' : List ℕ)
        → tail_walked h s x (going W.lists (drawn_in h.size work)) ≡ going st (drawn_in h.size work') → Defined h s sized W.seen x work'
    ended_defined st work' e = defined_going h s sized W.seen x st work' (ap (tail_walked h s x) W.decodes ∙ e)

    walking_ended : (st : State) (work' : List ℕ)
        → tail_walked h s x (going W.lists (drawn_in h.size work)) ≡ going st (drawn_in h.size work')
        → (out : List ℤ) → length out ≡ area h.size → LaysOut h.size work' out → decoded_parts h s (read_parts h s) ≡ at_end s out w
    unfolding decoded_parts pictured on_ending
    walking_ended st work' e out n lays =
        let g = defined_out h s sized W.seen x work' (ended_defined st work' e) out n lays in
        let k : skipped_counts h (map name_of W.seen) ≡ w.skipped
        = sym (W.skips ∙ ap (λ (y : Reading). skipped_by h (map name_of y.parts) (map name_of W.seen)) all ∙ skipped_by_all h (map name_of W.seen)) in
        rw (all, behind-seen, rw all at g)
        (ap₂ (λ (y : List Plane) (z : List ℕ). accepted (record { pyramid = out; tail = length s - w.cursor.place; reached = y; skipped = z }))
        (sym W.reaches) k)

    walking_misfit : (at : ℕ) → tail_walked h s x (going W.lists (drawn_in h.size work)) ≡ unfit at
        → decoded_parts h s (read_parts h s) ≡ refused (refusal.Fit at)
    unfolding decoded_parts pictured
    walking_misfit at e =
        let g = defined_unfit h s sized W.seen x at (ap (tail_walked h s x) W.decodes ∙ e) in
        rw (all, behind-seen, rw all at g)

  walking_tail : next_of h s w.cursor ≡ Ok part.Tail → (out : List ℤ) → length out ≡ area h.size
      → LaysOut h.size work out → decoded_parts h s (read_parts h s) ≡ at_end s out w
  unfolding tail_onward_of
  walking_tail e out n lays =
      walking_ended (Ok part.Tail) (stands_behind h s w.cursor (Ok part.Tail) (sym e) W.seen W.stands)
      (stands_tail h s w.cursor (Ok part.Tail) (sym e) W.seen W.stands refl) W.lists work refl out n lays

  fault_defined : (v : Refusal) → Defined h s sized W.seen (Err v) work
  unfolding tail_onward_of
  fault_defined v = defined_going h s sized W.seen (Err v) W.lists work W.decodes

  walking_fault : (v : Refusal) → next_of h s w.cursor ≡ Err v → decoded_parts h s (read_parts h s) ≡ refused v
  unfolding decoded_parts pictured on_ending tail_onward_of
  walking_fault v e =
      let x : PartRead = Err v in
      let all : read_parts h s ≡ record { parts = W.seen; ending = fault v } = stands_fault h s w.cursor x (sym e) W.seen W.stands v refl in
      let b : behind h s W.seen ≡ x = stands_behind h s w.cursor x (sym e) W.seen W.stands in
      let g = (fault_defined v).goes in
      rw (all, b, rw all at g)

  -- the planes reached are those of the parts that came by
  R : ℕ → ℕ
  R k = reached (top_level h) h.planes (map name_of W.seen) k

  R-held : (k : ℕ) → 1 ≤ k → R k ≡ reached_at w.reached k
  unfolding R
  R-held k f =
      sym (ap (λ (x : List Plane). reached_at x k) W.reaches ∙ reached_at_planes h (map name_of W.seen) (header_legal whole_header) k f)

  abbrev first : PartName
  first = record { plane = h.planes; level = 0 }

  all_whole : (ps : List Part) → (read_parts h s).parts ≡ ps → WholeParts h s first h.end ps
  unfolding read_parts
  all_whole ps e = subst (WholeParts h s first h.end) e (parts_whole (length s) h s first h.end)

  -- A part that is cut, p: no whole part is left.
  module _ (p : Part) (e : next_of h s w.cursor ≡ Ok (part.Cut p)) where
    cut_stands : CutStands h s (named w.cursor.before) w.cursor.place p
    cut_stands = next_cut h s w.cursor (Ok (part.Cut p)) (sym e) p refl

    cut_behind : behind h s W.seen ≡ Ok (part.Cut p)
    cut_behind = stands_behind h s w.cursor (Ok (part.Cut p)) (sym e) W.seen W.stands

    cut_all : read_parts h s ≡ record { parts = W.seen; ending = tail (length s - w.cursor.place) }
    cut_all = stands_cut h s w.cursor (Ok (part.Cut p)) (sym e) W.seen W.stands p refl

    cut_test : usable (top_level h) h.planes (names h s ++ (name_of p ∷ [])) (name_of p) ≡ usable_now (reached_at w.reached) (name_of p)
    unfolding R
    cut_test =
        ap (λ (x : Reading). usable (top_level h) h.planes (map name_of x.parts ++ (name_of p ∷ [])) (name_of p)) cut_all
        ∙ usable_cut h s first h.end W.seen p (all_whole W.seen (ap (λ (x : Reading). x.parts) cut_all)) cut_behind
        ∙ usable_now_same R (reached_at w.reached) (name_of p) cut_stands.legal.named.from1 R-held

    module _ (r : Found) (work' : List ℕ) (T : Ended h.size (met_cut s h.size p w work) work r work') where
      met_cut_lem : Ended h.size (cut_on s h.size p w.reached W.lists (drawn_in h.size work)) work r work'
      unfolding name_of
      met_cut_lem =
          ended_alike s h.size p w.reached (state_of h.size work w.counts) W.lists (drawn_in h.size work) W.agrees work r work' T

      walking_cut : r ≡ Ok tt → (out : List ℤ) → length out ≡ area h.size → LaysOut h.size work' out
          → decoded_parts h s (read_parts h s) ≡ at_end s out w
      walking_cut f out n lays =
          let g : Goes _ _ = cut_tail h s (names h s) p w.reached W.lists (drawn_in h.size work) cut_test (sym met_cut_lem.finds ∙ f) in
          walking_ended (Ok (part.Cut p)) cut_behind cut_all g.lists work' (g.goes ∙ ap (going g.lists) (sym met_cut_lem.draws)) out n lays

      walking_cut_unfit : (v : Refusal) → r ≡ Err v → decoded_parts h s (read_parts h s) ≡ refused v
      walking_cut_unfit v f =
          let m = cut_refused h s (names h s) p w.reached W.lists (drawn_in h.size work) cut_test v (sym met_cut_lem.finds ∙ f) in
          walking_misfit (Ok (part.Cut p)) cut_behind cut_all p.place m.0 ∙ ap refused (sym m.1)

  -- The next part, p.
  module _ (p : Part) (e : next_of h s w.cursor ≡ Ok (part.Part p)) where
    whole : PartStands h s (named w.cursor.before) w.cursor.place p
    whole = next_stands h s w.cursor (Ok (part.Part p)) (sym e) p refl

    abbrev came : List Part
    came = W.seen ++ (p ∷ [])

    over : Stands h s (past_of p) came
    over = stands_past h s w.cursor (Ok (part.Part p)) (sym e) W.seen W.stands p (past_of p) refl refl

    abbrev later : List Part
    later = (left h s (past_of p)).parts

    parts_part : (read_parts h s).parts ≡ W.seen ++ p ∷ later
    parts_part = over.parts ∙ append_assoc W.seen (p ∷ []) later

    wholes : WholeParts h s first h.end (W.seen ++ p ∷ later)
    wholes = all_whole (W.seen ++ p ∷ later) parts_part

    test_held : usable_now R (name_of p) ≡ usable_now (reached_at w.reached) (name_of p)
    test_held = usable_now_same R (reached_at w.reached) (name_of p) whole.legal.named.from1 R-held

    test : usable (top_level h) h.planes (names h s) (name_of p) ≡ usable_now (reached_at w.reached) (name_of p)
    unfolding R
    test =
        ap (λ (ps : List Part). usable (top_level h) h.planes (map name_of ps) (name_of p)) parts_part
        ∙ usable_read h s first h.end W.seen p (later) wholes
        ∙ test_held

    abbrev met : Outcome
    met = met_on s h.size p w.reached w.skipped W.lists (drawn_in h.size work)

    met_reached : met.reached ≡ reached_planes h (map name_of came)
    unfolding met_on used_on gone R name_of
    met_reached = cases (usable_now (reached_at w.reached) (name_of p)) refl
      where
        is : (k : ℕ) → 1 ≤ k → reached (top_level h) h.planes (map name_of came) k ≡ reached_now R (name_of p) k
        is k f = reached_read h s first h.end W.seen p (later) wholes k f

        cases : (b : Bool) → usable_now (reached_at w.reached) (name_of p) ≡ b
            → (cond b (used_on s h.size p w.reached w.skipped W.lists (drawn_in h.size work))
            (record { found = Ok tt; lists = W.lists; drawn = drawn_in h.size work; reached = w.reached; skipped = one_part_more p w.skipped })).reached
            ≡ reached_planes h (map name_of came)
        cases true u =
            ap (λ (x : List Plane). set x (p.level.0 - 1) p.plane) W.reaches
            ∙ reached_planes_used h (map name_of W.seen) (map name_of came) R (name_of p) p.plane refl
            whole.legal.named.from1 whole.legal.named.up_to (λ k. refl) is (test_held ∙ u)
        cases false u =
            W.reaches
            ∙ reached_planes_over h (map name_of W.seen) (map name_of came) R (name_of p) p.plane refl
            whole.legal.named.from1 whole.legal.named.up_to (λ k. refl) is (test_held ∙ u)

    met_skipped : met.skipped ≡ skipped_by h (names h s) (map name_of came)
    unfolding met_on used_on gone name_of
    met_skipped = cases (usable_now (reached_at w.reached) (name_of p)) refl
      where
        last : map name_of came ≡ map name_of W.seen ++ (name_of p ∷ [])
        last = map-append name_of W.seen (p ∷ [])

        cases : (b : Bool) → usable_now (reached_at w.reached) (name_of p) ≡ b
            → (cond b (used_on s h.size p w.reached w.skipped W.lists (drawn_in h.size work))
            (record { found = Ok tt; lists = W.lists; drawn = drawn_in h.size work; reached = w.reached; skipped = one_part_more p w.skipped })).skipped
            ≡ skipped_by h (names h s) (map name_of came)
        cases true u =
            W.skips ∙ skipped_by_used h (names h s) (map name_of W.seen) (name_of p) (test ∙ u) ∙ ap (skipped_by h (names h s)) (sym last)
        cases false u =
            ap (one_part_more p) W.skips
            ∙ skipped_by_over h (names h s) (map name_of W.seen) (name_of p) (test ∙ u) whole.legal.named.from1
            (omega (arith, whole.legal.named.up_to, size_levels h.size (header_legal whole_header)))
            ∙ ap (skipped_by h (names h s)) (sym last)

    -- what all parts up to this one, and all parts, make of the start
    abbrev onto : Progress
    onto = onward_of (trees h.size) h s (names h s) p (going W.lists (drawn_in h.size work))

    walked_came : walked h s came (begin h) ≡ onto
    unfolding decode_parts_of
    walked_came =
        walked_append h s W.seen (p ∷ []) (begin h) ∙ ap (onward_of (trees h.size) h s (names h s) p) W.decodes

    walked_all : walked h s (read_parts h s).parts (begin h) ≡ walked h s later onto
    walked_all =
        ap (λ (ps : List Part). walked h s ps (begin h)) over.parts ∙ walked_append h s came later (begin h) ∙ ap (walked h s later) walked_came

    name_falls : order (name_of p) < order (named w.cursor.before)
    unfolding name_of
    name_falls =
        let a : After (named w.cursor.before) (name_of p) = follows_after (named w.cursor.before) (name_of p) whole.legal.in_order in
        let six : p.level.0 ≤ level_places = omega (arith, whole.legal.named.up_to, size_levels h.size (header_legal whole_header)) in
        cases a six (dec_le w.cursor.before.plane.0 p.plane.0)
      where
        cases : After (named w.cursor.before) (name_of p) → p.level.0 ≤ level_places → Dec (w.cursor.before.plane.0 ≤ p.plane.0)
            → order (name_of p) < order (named w.cursor.before)
        cases a six (yes l) = omega (arith, a.downward, a.in_plane l)
        cases a six (no l) = omega arith

    -- The part was taken.
    module _ (r : Returned Walk Refusal) (work' : List ℕ) (T : Taken h.size p (met_part s h.size p w work) work r work') where
      taken : Taken h.size p met work r work'
      unfolding name_of
      taken =
          taken_alike s h.size p w.reached w.skipped (state_of h.size work w.counts) W.lists (drawn_in h.size work) W.agrees
          work r work' T

    walking_unfit : (v : Refusal) (work' : List ℕ) → Taken h.size p (met_part s h.size p w work) work (Err v) work'
        → decoded_parts h s (read_parts h s) ≡ refused v
    unfolding decoded_parts pictured
    walking_unfit v work' T =
        let m : (onto ≡ unfit p.place) × (v ≡ refusal.Fit p.place)
        = met_refused h s (names h s) p w.reached w.skipped W.lists _ test v (sym (taken (Err v) work' T).finds) in
        let x : PartRead = behind h s (read_parts h s).parts in
        let g = defined_unfit h s sized (read_parts h s).parts x p.place
        (ap (tail_walked h s x) (walked_all ∙ ap (walked h s later) m.0 ∙ walked_unfit h s later p.place) ∙ tail_unfit h s x p.place) in
        ap (pictured h (names h s) (read_parts h s).ending) g ∙ ap refused (sym m.1)

    walking_on : (next : Walk) (work' : List ℕ) → Taken h.size p (met_part s h.size p w work) work (Ok next) work' → Walking h s next work'
    unfolding TreeProgress name_of
    walking_on next work' T =
        let t : Taken h.size p met work (Ok next) work' = taken (Ok next) work' T in
        let m : onto ≡ going met.lists met.drawn
        = met_part_lem h s (names h s) p w.reached w.skipped W.lists _ test (sym t.finds) in
        let o : order (named next.cursor.before) ≡ order (name_of p) = ap (λ (x : Cursor). order (named x.before)) t.past.over in
        record {
          room = omega (arith, W.room, t.same);
          seen = came;
          stands = subst (λ (x : Cursor). Stands h s x came) (sym t.past.over) over;
          lists = met.lists;
          decodes = walked_came ∙ m ∙ ap (going met.lists) (sym t.draws);
          reaches = t.past.reaches ∙ met_reached;
          skips = t.past.skips ∙ met_skipped;
          agrees = t.lists;
          sound =
              subst (TreeProgress h.size) m
              (tree_onward_sound h sized s (names h s) p
              (record { from1 = whole.legal.named.from1; up_to = whole.legal.named.up_to }) (going W.lists _) W.sound);
          few = omega (arith, o, name_falls, W.few, length-append W.seen (p ∷ []));
          words = words_more h.size _ _ work' (omega (arith, o, name_falls, W.few)) (t.grows _ W.words);
        }

  -- One turn, by what it hands back.
  pub turn_on : {next : Walk} {work' : List ℕ} → Turned h s w work (Ok (Some next)) work' → Walking h s next work'
  turn_on (past_part p e t) = walking_on p e _ _ t

  pub turn_falls : {next : Walk} {work' : List ℕ} → Turned h s w work (Ok (Some next)) work'
      → length s - next.cursor.place < length s - w.cursor.place
  turn_falls {next} (past_part p e t) = next_falls h s w.cursor (Ok (part.Part p)) (sym e) p next.cursor refl t.past.over

  pub turn_ends : {work' : List ℕ} → Turned h s w work (Ok None) work' → Complete h s w work'
  turn_ends {work'} (at_cut p e t) = record { within = W.stands.within; decodes = walking_cut p e (Ok tt) work' t refl }
  turn_ends (at_tail e) = record { within = W.stands.within; decodes = walking_tail e }

  pub turn_refused : {v : Refusal} {work' : List ℕ} → Turned h s w work (Err v) work' → decoded_parts h s (read_parts h s) ≡ refused v
  turn_refused {v} {work'} (unfit_part p e t) = walking_unfit p e v work' t
  turn_refused {v} {work'} (unfit_cut p e t) = walking_cut_unfit p e (Err v) work' t v refl
  turn_refused {v} (unread e) = walking_fault v e
