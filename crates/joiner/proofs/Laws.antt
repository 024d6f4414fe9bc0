-- Joining name by name: what each record offers, one turn, and what it comes to at the end.
use Rattle.std.specs.Prelude.{Option, Some, None, MatchOption, Ok, Err, is_err}
use mathlib.Core.Path.{◌≡◌, refl, ap, ap₂, sym, ◌∙◌, subst}
use mathlib.Core.List.{List, [], ◌∷◌, ◌++◌, map, append_assoc, append-nil}
use mathlib.Core.Bool.{Bool, true, false, cond, true≢false}
use mathlib.Core.Logic.{◌↔◌}
use Prim.Native.Nat.{ℕ, zero, suc, ◌+◌, ◌-◌, ◌^◌, ◌≤◌, ◌<◌}
use native.Mathlib.Omega.{arith}
use lib.ListN.{length, take, drop, length-append, length-replicate}
use borrow.Author.Tests.{le-leb, lt-leb}
use lib.Seq.{sets, length-sets, length-take-le}
use Rattle.rules.specs.declared.Refusal.{Refusal}
use Rattle.rules.specs.declared.Refusal.TheVariants as refusal
use Rattle.rules.specs.Document.Numbers.{Accepted, Refused}
use Rattle.rules.specs.Document.Answers.{as_coded}
use Rattle.rules.specs.declared.Header.{Header}
use Rattle.rules.specs.declared.Part.{Part}
use Rattle.rules.specs.Document.Numbers.{PartRead}
use Rattle.rules.specs.declared.Piece.TheVariants as part
use Rattle.rules.specs.Document.Notation.{any, flat, zeros}
use Rattle.rules.specs.Document.Passes.{PartName, parts_of_plane, part_names}
use Rattle.rules.specs.Document.Layout.{whole_of, name_of, same_name}
use Rattle.rules.specs.Document.Numbers.{top_level, Reading, read_part}
use Rattle.rules.specs.Document.Calls.{Result, refused, accepted, unless, on_header, on_ending, fitted, code_out, code_answer}
use Rattle.rules.specs.Laws.Counting.Sums.{All}
use Rattle.rules.proofs.Laws.Counting.Sums.{all_then, flat_same, map_all}
use Rattle.rules.specs.Promises.Vocabulary.{at}
use Rattle.rules.specs.Laws.Reading.Parts.{After, InOrder}
use Rattle.rules.proofs.Laws.Reading.Parts.{same_name_lem, name_same, order_after}
use Rattle.rules.proofs.Laws.Counting.Booleans.{not_test}
use Rattle.rules.proofs.Laws.Family.Sizes.{legal}
use Rattle.rules.proofs.Laws.Reading.Stands.{read_header_stands, header_legal, read_part_stands}
use Rattle.rules.specs.Laws.Reading.Walk.{parts_from}
use Rattle.rules.proofs.Laws.Reading.Walk.{read_parts_from, parts_from_part, parts_from_tail, parts_from_cut, parts_from_fault}
use Rattle.rules.proofs.Laws.Serving.Selection.{whole_length}
use Rattle.rules.specs.Laws.Bytes.Output.{clipped}
use Rattle.rules.proofs.Laws.Bytes.Output.{clipped_nothing, clipped_length, clipped_append, clipped_fits}
use Rattle.rules.specs.declared.Plane.{Plane}
use Rattle.rules.specs.declared.Level.{Level}
use Rattle.record.specs.Named.{name_by, named}
use Rattle.joins.specs.Document.Joining.{same_bytes, part_named, or_else, joined_part, joined_bytes, clashes, unless_clash, on_record, joining, Joining}
use Rattle.joins.specs.Laws.ByName.{Among, none, this, other, all_names, first}
use Rattle.joins.proofs.Laws.ByName.{after_other, among_all, named_none, all_in_order, parts_among}
use Rattle.joins.proofs.Laws.Gathered.{or_first}
use Rattle.joins.specs.Laws.Joined.{Agrees}
use Rattle.joins.specs.Laws.Joined.{Readable}
use Rattle.joins.proofs.Laws.Joined.{readable_within, agrees_clear, same_bytes_lem, bytes_same, same_header, on_record_readable, joining_read}
use Rattle.joins.proofs.Laws.JoinRefusals.{clash_behind}
use Rattle.survey.specs.declared.Contents.{Contents}
use Rattle.survey.specs.Surveyed.{Survey, as_survey, survey_of}
use Rattle.survey.proofs.AsServing.{survey_of_case}
use Rattle.record.specs.declared.walk.Cursor.{Cursor}
use Rattle.record.specs.Walk.{first_of, next_of, past_of}
use Rattle.joiner.specs.declared.Joint.{Joint}
use Rattle.joiner.specs.Ahead.{Surveyed, Step, Answer, offer_of, bytes_of, count_of, hand_of, Alike, Differs, Copied, Appended, names_from, left}
use Rattle.joiner.specs.Ahead.{Standing, Ahead, Clashed, Stepped, Before, AfterTurn, BothRead, Answered}

-- The next part has the name, or its name is one of those behind.
among_this : (x : PartName) (ns : List PartName) (y : PartName) (ys : List PartName) → InOrder x ns → same_name x y ≡ true → Among (y ∷ ys) (x ∷ ns)
    → Among ys ns
unfolding All
among_this x ns y ys o e (this r) = r
among_this x ns y ys o e (other r) =
    let behind : All (After x) (y ∷ ys) = among_all (After x) ns (y ∷ ys) r (order_after x ns o) in
    absurd (true≢false (sym e ∙ (after_other x y behind.0).1))

among_other : (x : PartName) (ns : List PartName) (y : PartName) (ys : List PartName) → same_name x y ≡ false → Among (y ∷ ys) (x ∷ ns)
    → Among (y ∷ ys) ns
among_other x ns y ys e (this r) = absurd (true≢false (sym (name_same x x refl refl) ∙ e))
among_other x ns y ys e (other r) = r

among_none : (x : PartName) (ns : List PartName) → Among [] (x ∷ ns) → Among [] ns
among_none x ns (other r) = r

-- Whether a part of the name was taken from a record: the next one, and it has some bytes.
abbrev Taking : Header → List ℕ → PartName → Cursor → Option Part → Type 0
Taking h s x hand None = Unit {0}
Taking h s x hand (Some p) = (left h s hand ≡ p ∷ left h s (past_of p)) × (name_of p ≡ x) × (1 ≤ p.end - p.place)

-- What a record offers under the next name.
pub record Offered (h : Header) (s : List ℕ) (x : PartName) (ns : List PartName) (hand : Cursor) (r : Option Part) : Type 0 where
  pub bytes : bytes_of s r ≡ part_named s (left h s hand) x
  pub long : length (bytes_of s r) ≡ count_of r
  pub standing : Standing h s ns (hand_of hand r)
  pub same : (y : PartName) → After x y → part_named s (left h s hand) y ≡ part_named s (left h s (hand_of hand r)) y
  pub further : hand.place + count_of r ≤ (hand_of hand r).place
  pub taking : Taking h s x hand r

module _ (h : Header) (s : List ℕ) (x : PartName) (ns : List PartName) (hand : Cursor) (o : InOrder x ns) (st : Standing h s (x ∷ ns) hand) where
  abbrev before : PartName
  before = named hand.before

  behind_all : (k : Cursor) → Standing h s ns k → All (After x) (map name_of (left h s k))
  behind_all k t = among_all (After x) ns (map name_of (left h s k)) t.among (order_after x ns o)

  -- no part of this name
  offered_none : Among (map name_of (left h s hand)) ns → Offered h s x ns hand None
  offered_none r =
      let t : Standing h s ns hand = record { among = r; within = st.within } in
      record {
        bytes = sym (named_none s x (left h s hand) (behind_all hand t));
        long = refl;
        standing = t;
        same = λ y a. refl;
        further = omega arith;
        taking = tt;
      }

  offered_end : left h s hand ≡ [] → Offered h s x ns hand None
  offered_end e =
      offered_none (subst (λ l. Among (map name_of l) ns) (sym e) (among_none x ns (subst (λ l. Among (map name_of l) (x ∷ ns)) e st.among)))

  -- a part, of this name or a later one
  module _ (p : Part) (e : read_part h s before hand.place ≡ Ok (part.Part p)) where
    abbrev rest : List Part
    rest = (parts_from h s (name_of p) p.end).parts

    next : left h s hand ≡ p ∷ rest
    next = ap (λ (y : Reading). y.parts) (parts_from_part h s before hand.place p e)

    there : Among (name_of p ∷ map name_of rest) (x ∷ ns)
    there = subst (λ l. Among (map name_of l) (x ∷ ns)) next st.among

    offered_part : same_name x (name_of p) ≡ true → Offered h s x ns hand (Some p)
    unfolding part_named whole_of name_of
    offered_part f =
        let q = read_part_stands h s before hand.place p e in
        let n : x ≡ name_of p = same_name_lem x (name_of p) f in
        record {
          bytes = sym (ap (λ l. part_named s l x) next ∙ rw f);
          long = whole_length s p (omega (arith, q.placed, q.after, q.end)) q.within;
          standing = record { among = among_this x ns (name_of p) (map name_of rest) o f there; within = q.within };
          same = λ y a. ap (λ l. part_named s l y) next ∙ rw (ap (same_name y) (sym n) ∙ (after_other x y a).0);
          further = omega (arith, q.placed, q.after, q.end);
          taking = (next, sym n, omega (arith, q.placed, q.after, q.end));
        }

    offered_later : same_name x (name_of p) ≡ false → Offered h s x ns hand None
    offered_later f = offered_none (subst (λ l. Among (map name_of l) ns) (sym next) (among_other x ns (name_of p) (map name_of rest) f there))

  pub offered_is : (r : Option Part) → r ≡ offer_of x (read_part h s before hand.place) → Offered h s x ns hand r
  offered_is r e = subst (Offered h s x ns hand) (sym e) (by (read_part h s before hand.place) refl)
    where
      part_by : (p : Part) → read_part h s before hand.place ≡ Ok (part.Part p) → (t : Bool) → same_name x (name_of p) ≡ t
          → Offered h s x ns hand (cond t (Some p) None)
      part_by p f true g = offered_part p f g
      part_by p f false g = offered_later p f g

      by : (y : PartRead) → read_part h s before hand.place ≡ y → Offered h s x ns hand (offer_of x y)
      by (Ok (part.Part p)) f = part_by p f (same_name x (name_of p)) refl
      by (Ok (part.Cut p)) f = offered_end (ap (λ (y : Reading). y.parts) (parts_from_cut h s before hand.place p f))
      by (Ok part.Tail) f = offered_end (ap (λ (y : Reading). y.parts) (parts_from_tail h s before hand.place f))
      by (Err q) f = offered_end (ap (λ (y : Reading). y.parts) (parts_from_fault h s before hand.place q f))

-- Clashes: of a part with parts behind its name there is none, and a part before all others' names clashes with none of them.
module _ (a b : List ℕ) where
  clear_behind : (p : Part) (qs : List Part) → All (After (name_of p)) (map name_of qs) → Agrees a b qs p
  clear_behind p qs f =
      all_then (λ q. After (name_of p) (name_of q)) _ qs (λ q g e. absurd (true≢false (sym e ∙ (after_other (name_of p) (name_of q) g).1)))
      (map_all (After (name_of p)) name_of qs f)

  clash_skip : {X : Type 0} (q : Part) (qs ps : List Part) → All (After (name_of q)) (map name_of ps) → (y : Result X)
      → unless_clash a ps b (q ∷ qs) y ≡ unless_clash a ps b qs y
  unfolding unless_clash clashes any All
  clash_skip q qs [] f y = refl
  clash_skip q qs (p ∷ ps) f y = rw ((after_other (name_of q) (name_of p) f.0).0, clash_skip q qs ps f.1 y)

-- One name, of both records.
module _ (a b : List ℕ) (h : Header) (x : PartName) (ns : List PartName) (o : InOrder x ns) (one two : Cursor) (mine theirs : Option Part)
    (m : Offered h a x ns one mine) (t : Offered h b x ns two theirs) where
  abbrev ps : List Part
  ps = left h a one

  abbrev qs : List Part
  qs = left h b two

  abbrev ps' : List Part
  ps' = left h a (hand_of one mine)

  abbrev qs' : List Part
  qs' = left h b (hand_of two theirs)

  after_mine : All (After x) (map name_of ps')
  after_mine = among_all (After x) ns (map name_of ps') m.standing.among (order_after x ns o)

  after_theirs : All (After x) (map name_of qs')
  after_theirs = among_all (After x) ns (map name_of qs') t.standing.among (order_after x ns o)

  -- No clash there: they go on behind it.
  goes_on : {X : Type 0} → Alike a mine b theirs → (y : Result X) → unless_clash a ps b qs y ≡ unless_clash a ps' b qs' y
  unfolding unless_clash unless All whole_of
  goes_on {X} alike y = by mine theirs m.taking t.taking after_mine after_theirs alike
    where
      by : (u w : Option Part) → Taking h a x one u → Taking h b x two w → All (After x) (map name_of (left h a (hand_of one u)))
          → All (After x) (map name_of (left h b (hand_of two w))) → Alike a u b w
          → unless_clash a ps b qs y ≡ unless_clash a (left h a (hand_of one u)) b (left h b (hand_of two w)) y
      by None None e f k l same = refl
      by None (Some q) e f k l same =
          ap (λ l. unless_clash a ps b l y) f.0
          ∙ clash_skip a b q (left h b (past_of q)) ps (subst (λ z. All (After z) (map name_of ps)) (sym f.1) k) y
      by (Some p) None e f k l same =
          let clear : clashes a b qs p ≡ false
          = agrees_clear a b p qs (clear_behind a b p qs (subst (λ z. All (After z) (map name_of qs)) (sym e.1) l)) in
          ap (λ l. unless_clash a l b qs y) e.0 ∙ rw clear
      by (Some p) (Some q) e f k l same =
          let later = left h a (past_of p) in
          let others = left h b (past_of q) in
          let clear : clashes a b (q ∷ others) p ≡ false
          = agrees_clear a b p (q ∷ others) (λ g. same, clear_behind a b p others (subst (λ z. All (After z) (map name_of others)) (sym e.1) l)) in
          ap₂ (λ l k. unless_clash a l b k y) e.0 f.0 ∙ rw clear
          (clash_skip a b q others later (subst (λ z. All (After z) (map name_of later)) (sym f.1) k) y)

  -- A clash there.
  clashes_here : {X : Type 0} (why : Refusal) → Differs a mine b theirs why → (y : Result X) → unless_clash a ps b qs y ≡ refused why
  unfolding All whole_of
  clashes_here {X} why differ y = by mine theirs m.taking t.taking differ
    where
      by : (u w : Option Part) → Taking h a x one u → Taking h b x two w → Differs a u b w why → unless_clash a ps b qs y ≡ refused why
      by None w e f d = absurd d
      by (Some p) None e f d = absurd d
      by (Some p) (Some q) e f d =
          ap₂ (λ l k. unless_clash a l b k y) e.0 f.0
          ∙ clash_behind a b (q ∷ left h b (past_of q)) [] p (left h a (past_of p)) y tt
          (λ g. d.1 (g.0 (ap₂ same_name e.1 f.1 ∙ name_same x x refl refl)))
          ∙ ap refused (sym d.0)

  -- What is left to write.
  flat_on : flat (joined_part a ps b qs) (x ∷ ns) ≡ or_else (bytes_of a mine) (bytes_of b theirs) ++ flat (joined_part a ps' b qs') ns
  unfolding flat joined_part
  flat_on =
      ap₂ ◌++◌ (ap₂ or_else (sym m.bytes) (sym t.bytes))
      (flat_same (joined_part a ps b qs) (joined_part a ps' b qs') ns
      (all_then (After x) _ ns (λ y g. ap₂ or_else (m.same y g) (t.same y g)) (order_after x ns o)))

-- One turn.
module _ (a b : List ℕ) (h : Header) (room : ℕ) (x : PartName) (ns : List PartName) (j : Joint) (out : List ℕ) (v : Ahead a b h room (x ∷ ns) j out)
    (mine theirs : Option Part) (me : mine ≡ offer_of x (next_of h a j.one)) (te : theirs ≡ offer_of x (next_of h b j.two)) where
  behind : InOrder x ns
  unfolding InOrder
  behind = v.in_order.1

  of_first : Offered h a x ns j.one mine
  of_first = offered_is h a x ns j.one behind v.one mine me

  of_second : Offered h b x ns j.two theirs
  of_second = offered_is h b x ns j.two behind v.two theirs te

  -- both fit behind what was written
  pub fits : (j.written + count_of mine < 2 ^ 64) × (j.written + count_of theirs < 2 ^ 64)
  fits =
      let m = of_first in
      let t = of_second in (
        omega (arith, v.small, v.behind, m.further, m.standing.within, v.two.within),
        omega (arith, v.small, v.behind, t.further, t.standing.within, v.one.within),
      )

  pub turn_clash : (why : Refusal) → Differs a mine b theirs why → Clashed a b room why out
  turn_clash why d =
      record {
        refuses = v.comes_to ∙ clashes_here a b h x ns behind j.one j.two mine theirs of_first of_second why d _;
        same = ap length v.holds ∙ clipped_length room v.bytes;
      }

  -- what is taken, from either
  module _ (alike : Alike a mine b theirs) (written : ℕ) (out' : List ℕ) where
    abbrev onward : Joint
    onward = record { one = hand_of j.one mine; two = hand_of j.two theirs; written = written }

    taken_on : (s : List ℕ) (o : Option Part) → or_else (bytes_of a mine) (bytes_of b theirs) ≡ bytes_of s o → length (bytes_of s o) ≡ count_of o
        → count_of o ≤ count_of mine + count_of theirs → Copied s o out j.written written out' → Ahead a b h room ns onward out'
    taken_on s o e l most c =
        let m = of_first in
        let t = of_second in
        let own = bytes_of s o in
        let ps = left h a (hand_of j.one mine) in
        let qs = left h b (hand_of j.two theirs) in
        record {
          legal = v.legal;
          small = v.small;
          one = m.standing;
          two = t.standing;
          earlier = x;
          in_order = behind;
          bytes = v.bytes ++ own;
          count = length-append v.bytes own ∙ ap₂ ◌+◌ v.count l ∙ sym c.counts;
          behind = omega (arith, v.behind, m.further, t.further, c.counts);
          holds = c.copies ∙ ap₂ (λ (k : List ℕ) (n : ℕ). sets k n own) v.holds (sym v.count) ∙ clipped_append room v.bytes own;
          comes_to = v.comes_to ∙ goes_on a b h x ns behind j.one j.two mine theirs m t alike _
              ∙ ap (λ l. unless_clash a ps b qs (fitted l room))
              (ap (λ l. v.bytes ++ l)
              (flat_on a b h x ns behind j.one j.two mine theirs m t ∙ ap (λ k. k ++ flat (joined_part a ps b qs) ns) e)
              ∙ sym (append_assoc v.bytes own _));
        }

    pub turn_on : Appended a mine b theirs out j.written written out' → Ahead a b h room ns onward out'
    unfolding or_else
    turn_on c = by mine refl
      where
        by : (o : Option Part) → mine ≡ o → Ahead a b h room ns onward out'
        by (Some p) e =
            let some = (subst (Taking h a x j.one) e of_first.taking).2 in
            let l : 1 ≤ length (bytes_of a mine) = omega (arith, of_first.long, ap count_of e, some) in
            let d : Copied a (Some p) out j.written written out' = subst (λ k. Appended a k b theirs out j.written written out') e c in
            taken_on a mine (or_first (bytes_of a mine) (bytes_of b theirs) l) of_first.long (omega arith)
            (subst (λ k. Copied a k out j.written written out') (sym e) d)
        by None e =
            taken_on b theirs (ap (λ k. or_else (bytes_of a k) (bytes_of b theirs)) e) of_second.long (omega arith)
            (subst (λ k. Appended a k b theirs out j.written written out') e c)

-- The same by plane and level.
names_next : (top n k : ℕ) → 1 ≤ k → names_from top n k ≡ at n k ∷ names_from top n (k - 1)
unfolding names_from parts_of_plane
names_next top n zero l = absurd (omega arith)
names_next top n (suc k) l = let e : k ≡ suc k - 1 = omega arith in ap (λ m. at n (suc k) ∷ names_from top n m) e

module _ (a b : List ℕ) (h : Header) (plane : Plane) (level : Level) (j : Joint) (out : List ℕ) (v : Before a b h plane level j out)
    (mine theirs : Option Part) (me : mine ≡ offer_of (name_by plane level) (next_of h a j.one))
    (te : theirs ≡ offer_of (name_by plane level) (next_of h b j.two)) where
  abbrev behind_it : List PartName
  behind_it = names_from (top_level h) plane.0 (level.0 - 1)

  at_it : Ahead a b h (length out) (name_by plane level ∷ behind_it) j out
  at_it = subst (λ ns. Ahead a b h (length out) ns j out) (names_next (top_level h) plane.0 level.0 v.some) v.ahead

  pub turn_fits : (j.written + count_of mine < 2 ^ 64) × (j.written + count_of theirs < 2 ^ 64)
  turn_fits = fits a b h (length out) (name_by plane level) behind_it j out at_it mine theirs me te

  pub turn_clashes : (why : Refusal) → Differs a mine b theirs why → AfterTurn a b h plane level out (Err why) out
  unfolding Stepped
  turn_clashes why d = turn_clash a b h (length out) (name_by plane level) behind_it j out at_it mine theirs me te why d

  pub turn_joins : Alike a mine b theirs → (written : ℕ) (out' : List ℕ) → Appended a mine b theirs out j.written written out'
      → (one two : Cursor) → one ≡ hand_of j.one mine → two ≡ hand_of j.two theirs
      → AfterTurn a b h plane level out (Ok (record { one = one; two = two; written = written })) out'
  unfolding Stepped
  turn_joins alike written out' c one two e f =
      rw (e, f) (turn_on a b h (length out) (name_by plane level) behind_it j out at_it mine theirs me te alike written out' c)

pub hand_is : (hand : Cursor) (o : Option Part) (r : Cursor) → MatchOption o (r ≡ hand) (λ p. r ≡ past_of p) → r ≡ hand_of hand o
hand_is hand None r m = m
hand_is hand (Some p) r m = m

-- From step to step: the room is that of the output, whoever has it.
module _ (a b : List ℕ) (h : Header) (room : ℕ) (ns : List PartName) (j : Joint) (out : List ℕ) (v : Ahead a b h room ns j out) where
  pub ahead_same : length out ≡ room
  ahead_same = ap length v.holds ∙ clipped_length room v.bytes

  module _ (later : List PartName) (r : Step) (out' : List ℕ) (s : Stepped a b h (length out) later r out') where
    stepped : Stepped a b h room later r out'
    stepped = subst (λ n. Stepped a b h n later r out') ahead_same s

    pub step_on : (k : Joint) → r ≡ Ok k → Ahead a b h room later k out'
    unfolding Stepped
    step_on k e = subst (λ (q : Step). Stepped a b h room later q out') e stepped

    clashed : (why : Refusal) → r ≡ Err why → Clashed a b room why out'
    unfolding Stepped
    clashed why e = subst (λ (q : Step). Stepped a b h room later q out') e stepped

    pub step_clash : (why : Refusal) → r ≡ Err why → (last : List PartName) → Stepped a b h room last (Err why) out'
    unfolding Stepped
    step_clash why e last = clashed why e

-- All levels of a plane.
module _ (a b : List ℕ) (h : Header) (room : ℕ) (plane : Plane) (level : ℕ) (j : Joint) (out : List ℕ)
    (v : Ahead a b h room (names_from (top_level h) plane.0 level) j out) where
  pub level_last : level ≤ 0 → Stepped a b h room (part_names (top_level h) plane.0) (Ok j) out
  unfolding Stepped names_from parts_of_plane
  level_last l = let e : level ≡ 0 = omega arith in subst (λ k. Ahead a b h room (names_from (top_level h) plane.0 k) j out) e v

pub few_levels : {a b : List ℕ} {h : Header} {room : ℕ} {ns : List PartName} {j : Joint} {out : List ℕ} → Ahead a b h room ns j out
    → h.size.n + 1 < 2 ^ 64
few_levels {h = h} v = omega (arith, (legal h.size v.legal).few)

-- All planes.
plane_names : (top n : ℕ) → 0 < n → part_names top n ≡ names_from top (n - 1) top
unfolding names_from part_names
plane_names top zero l = absurd (omega arith)
plane_names top (suc n) l = let e : n ≡ suc n - 1 = omega arith in ap (λ m. names_from top m top) e

module _ (a b : List ℕ) (h : Header) (room n : ℕ) (j : Joint) (out : List ℕ) (v : Ahead a b h room (part_names (top_level h) n) j out) where
  pub plane_before : 0 < n → Ahead a b h (length out) (names_from (top_level h) (n - 1) (top_level h)) j out
  plane_before l =
      subst (λ ns. Ahead a b h (length out) ns j out) (plane_names (top_level h) n l)
      (subst (λ m. Ahead a b h m (part_names (top_level h) n) j out) (sym (ahead_same a b h room _ j out v)) v)

  pub plane_last : n ≤ 0 → Stepped a b h room (part_names (top_level h) 0) (Ok j) out
  unfolding Stepped
  plane_last l = let e : n ≡ 0 = omega arith in subst (λ k. Ahead a b h room (part_names (top_level h) k) j out) e v

-- A call as a whole, but that the output of a refusal is still to be cleared.
err_same : {q r : Refusal} → ◌≡◌ {A = Answer} (Err q) (Err r) → q ≡ r
err_same e = cc

module _ (a b out : List ℕ) where
  refused_with : (why : Refusal) (then : List ℕ) → length then ≡ length out → joining a b (length out) ≡ refused why → Answered a b out (Err why) then
  refused_with why then l e =
      record {
        same = l;
        refuses = λ q f. e ∙ ap refused (err_same f);
        joins = λ n f. absurd (let z : ◌≡◌ {A = ℕ} 0 1 = cc in omega arith);
      }

  -- Behind it, what was written for a refusal is cleared.
  module _ (r : Answer) (then : List ℕ) (w : Answered a b out r then) where
    pub cleared : is_err r ≡ true → (out' : List ℕ) → out' ≡ zeros (length then) → Joining a b out (as_coded r) out'
    unfolding as_coded code_answer code_out
    cleared f out' g = by r refl
      where
        by : (x : Answer) → r ≡ x → Joining a b out (as_coded r) out'
        by (Ok n) h = absurd (true≢false (sym f ∙ ap is_err h))
        by (Err why) h =
            let e = w.refuses why h in
            record { answers = rw (h, e); writes = g ∙ ap zeros w.same ∙ ap (code_out (length out)) (sym e) }

-- The beginning: two records that were read, and whether their headers are the same.
module _ (a b : List ℕ) (h g : Header) (r : BothRead a b h g) (t : Bool) (k : (t ≡ true) ↔ (take h.end (drop 0 a) ≡ take g.end (drop 0 b))) where
  pub mixed : t ≡ false → (out : List ℕ) → Answered a b out (Err refusal.Mixed) out
  unfolding unless
  mixed e out =
      let unlike : same_bytes (take h.end a) (take g.end b) ≡ false
      = not_test _ (λ u. true≢false (sym (k.1 (same_bytes_lem _ _ u)) ∙ e)) in
      refused_with a b out refusal.Mixed out refl (joining_read r.one r.two (length out) ∙ rw unlike)

  module _ (e : t ≡ true) where
    front : take h.end a ≡ take g.end b
    front = k.0 e

    one_head : g ≡ h
    one_head = sym (same_header r.one r.two front)

    standing : (s : List ℕ) → Readable s h → Standing h s (all_names h) (first_of h)
    standing s q =
        let w = readable_within q in
        record { among = subst (λ (x : Reading). Among (map name_of x.parts) (all_names h)) (read_parts_from h s w) (parts_among h s); within = w }

    comes_to_join : (room : ℕ) → joining a b room
        ≡ unless_clash a (left h a (first_of h)) b (left h b (first_of h))
        (fitted (take h.end a ++ flat (joined_part a (left h a (first_of h)) b (left h b (first_of h))) (all_names h)) room)
    unfolding joined_bytes unless
    comes_to_join room =
        let second : Readable b h = subst (Readable b) one_head r.two in
        joining_read r.one second room
        ∙ rw (bytes_same (take h.end a) (take h.end b) (front ∙ ap (λ (x : Header). take x.end b) one_head))
        (ap₂ (λ (x y : Reading).
        unless_clash a x.parts b y.parts (fitted (take h.end a ++ flat (joined_part a x.parts b y.parts) (all_names h)) room))
        (read_parts_from h a (readable_within r.one)) (read_parts_from h b (readable_within second)))

    -- the output zeroed, and the header copied to it
    pub begun : length a + length b < 2 ^ 64 → (room : ℕ) (zeroed copied : List ℕ) → zeroed ≡ zeros room
        → copied ≡ sets zeroed 0 (take h.end (drop 0 a)) → (start : Cursor) → start ≡ first_of h
        → Ahead a b h (length copied) (part_names (top_level h) h.planes) (record { one = start; two = start; written = h.end }) copied
    begun small room zeroed copied z w start opens =
        let front-copied : copied ≡ clipped room (take h.end a)
        = w ∙ ap (λ (x : List ℕ). sets x 0 (take h.end a)) (z ∙ sym (clipped_nothing room))
        ∙ clipped_append room [] (take h.end a) in
        let long : length copied ≡ room = ap length front-copied ∙ clipped_length room (take h.end a) in
        rw opens
        (record {
          legal = header_legal (read_header_stands a h r.one.read);
          small = small;
          one = standing a r.one;
          two = standing b (subst (Readable b) one_head r.two);
          earlier = first h;
          in_order = all_in_order h;
          bytes = take h.end a;
          count = length-take-le h.end a (readable_within r.one);
          behind = omega arith;
          holds = front-copied ∙ ap (λ (n : ℕ). clipped n (take h.end a)) (sym long);
          comes_to = comes_to_join (length copied);
        })

-- The output is as long as it was lent when it has been zeroed and written to.
pub copied_long : (lent zeroed copied own : List ℕ) → zeroed ≡ zeros (length lent) → copied ≡ sets zeroed 0 own → length copied ≡ length lent
copied_long lent zeroed copied own z w = ap length w ∙ length-sets zeroed 0 own ∙ ap length z ∙ length-replicate (length lent) 0

-- The end: no name is left.
among_end : (xs : List PartName) → Among xs [] → xs ≡ []
among_end [] none = refl
among_end (_ ∷ _) some = elim some [ ]

nothing_left : (ps : List Part) → map name_of ps ≡ [] → ps ≡ []
nothing_left [] e = refl
nothing_left (p ∷ ps) e = absurd (let z : ◌≡◌ {A = ℕ} 0 1 = cc in omega arith)

module _ (a b : List ℕ) (h : Header) (lent : List ℕ) (room : ℕ) (r : Step) (out : List ℕ)
    (s : Stepped a b h room (part_names (top_level h) 0) r out) (long : room ≡ length lent) where
  pub ended_clash : (why : Refusal) → r ≡ Err why → Answered a b lent (Err why) out
  unfolding Stepped
  ended_clash why e =
      let c : Clashed a b room why out = subst (λ (q : Step). Stepped a b h room (part_names (top_level h) 0) q out) e s in
      refused_with a b lent why out (c.same ∙ long) (ap (joining a b) (sym long) ∙ c.refuses)

  module _ (j : Joint) (e : r ≡ Ok j) where
    last : Ahead a b h room [] j out
    unfolding Stepped part_names
    last = subst (λ (q : Step). Stepped a b h room [] q out) e s

    comes_to_fitted : joining a b (length lent) ≡ fitted last.bytes (length lent)
    unfolding flat unless_clash
    comes_to_fitted =
        let none_left : left h a j.one ≡ [] = nothing_left (left h a j.one) (among_end (map name_of (left h a j.one)) last.one.among) in
        ap (joining a b) (sym long) ∙ last.comes_to
        ∙ ap (λ l. unless_clash a l b (left h b j.two) (fitted (last.bytes ++ []) room)) none_left
        ∙ ap₂ fitted (append-nil last.bytes) long

    as_lent : length out ≡ length lent
    as_lent = ahead_same a b h room [] j out last ∙ long

    pub ended_short : length out < j.written → Answered a b lent (Err refusal.Room) out
    unfolding fitted unless
    ended_short l =
        let m : length lent < length last.bytes = omega (arith, last.count, as_lent) in
        refused_with a b lent refusal.Room out as_lent (comes_to_fitted ∙ rw (lt-leb (length last.bytes) (length lent) m))

    pub ended_joined : j.written ≤ length out → Answered a b lent (Ok j.written) out
    unfolding fitted unless code_answer code_out as_coded
    ended_joined l =
        let m : length last.bytes ≤ length lent = omega (arith, last.count, as_lent) in
        let f : joining a b (length lent) ≡ accepted last.bytes = comes_to_fitted ∙ rw (le-leb (length last.bytes) (length lent) m) in
        record {
          same = as_lent;
          refuses = λ why g. absurd (let z : ◌≡◌ {A = ℕ} 0 1 = cc in omega arith);
          joins = λ n g.
              record {
                answers = ap (λ n. record { verdict = Accepted; length = n }) (sym last.count) ∙ ap code_answer (sym f);
                writes = last.holds ∙ ap (λ n. clipped n last.bytes) long ∙ clipped_fits (length lent) last.bytes m ∙ ap (code_out (length lent)) (sym f);
              };
        }

-- What a survey says of a record.
surveyed_read : (s : List ℕ) → (survey_of s).verdict ≡ Accepted → Readable s (survey_of s).header
surveyed_read s =
    survey_of_case (λ v. v.verdict ≡ Accepted → Readable s v.header) s (λ r f e. absurd (refused_accepted e)) (λ h r f g e. absurd (refused_accepted e))
    (λ h t f g e. record { read = f; cut = t; ending = g })
  where
    refused_accepted : {r : Refusal} → Refused r ≡ Accepted → ⊥
    refused_accepted e = let z : ◌≡◌ {A = ℕ} 0 1 = cc in omega arith

surveyed_refused : {X : Type 0} (s : List ℕ) (go : Header → List Part → Result X) (r : Refusal) → (survey_of s).verdict ≡ Refused r
    → on_record s go ≡ refused r
unfolding on_record on_header on_ending
surveyed_refused s go r =
    survey_of_case (λ v. v.verdict ≡ Refused r → on_record s go ≡ refused r) s (λ q f e. rw f (ap refused (one e)))
    (λ h q f g e. rw (f, g) (ap refused (one e)))
    (λ h t f g e. absurd (accepted_refused e))
  where
    one : {q : Refusal} → Refused q ≡ Refused r → q ≡ r
    one e = cc

    accepted_refused : Accepted ≡ Refused r → ⊥
    accepted_refused e = let z : ◌≡◌ {A = ℕ} 0 1 = cc in omega arith

-- Two surveys: the first refused, the second, or neither.
module _ (a b : List ℕ) (v : Surveyed) (e : as_survey v ≡ survey_of a) where
  pub first_refused : (why : Refusal) → v ≡ Err why → (out : List ℕ) → Answered a b out (Err why) out
  unfolding joining as_survey
  first_refused why f out = refused_with a b out why out refl (surveyed_refused a _ why (ap (λ (x : Survey). x.verdict) (sym e ∙ ap as_survey f)))

  module _ (one : Contents) (f : v ≡ Ok one) (w : Surveyed) (g : as_survey w ≡ survey_of b) where
    first_read : Readable a one.header
    unfolding as_survey
    first_read =
        let same : as_survey (Ok one) ≡ survey_of a = ap as_survey (sym f) ∙ e in
        subst (λ (x : Survey). x.verdict ≡ Accepted → Readable a x.header) (sym same) (surveyed_read a) refl

    pub second_refused : (why : Refusal) → w ≡ Err why → (out : List ℕ) → Answered a b out (Err why) out
    unfolding joining as_survey
    second_refused why k out =
        refused_with a b out why out refl
        (on_record_readable a _ one.header first_read ∙ surveyed_refused b _ why (ap (λ (x : Survey). x.verdict) (sym g ∙ ap as_survey k)))

    pub both_read : (two : Contents) → w ≡ Ok two → BothRead a b one.header two.header
    unfolding as_survey
    both_read two k =
        let same : as_survey (Ok two) ≡ survey_of b = ap as_survey (sym k) ∙ g in
        record { one = first_read; two = subst (λ (x : Survey). x.verdict ≡ Accepted → Readable b x.header) (sym same) (surveyed_read b) refl }
