-- Decoding what arrived of a coder's record, the last part cut perhaps: it is accepted, and each coefficient is rounded at the plane that its level
-- reached, or at the one below where that is the plane of the part that was cut.
use Rattle.std.specs.Prelude.{◌≡◌, Bool, cond, ◌&&◌, ltb, take, replicate, ℤ, pos, Ok}
use Rattle.std.proofs.Math.Path.{refl, ap, ap₂, sym, subst}
use Rattle.std.proofs.Common.{◌∙◌, true≢false, ⊎_elim, get_or-take}
use mathlib.Core.List.{List, [], ◌∷◌, ◌++◌, map-append}
use Rattle.std.proofs.Math.Bool.{true, false}
use Prim.Native.Nat.{ℕ, suc, ◌+◌, ◌-◌, ◌*◌, ◌/◌, ◌%◌, ◌^◌, ◌≤◌, ◌<◌, min}
use native.Mathlib.Omega.{arith}
use Rattle.std.proofs.Math.Dec.{leb, eqb}
use Rattle.std.proofs.Math.ListN.{length, get_or, length-take}
use borrow.Author.Tests.{leb-true, le-leb, lt-leb, eqb-true}
use Rattle.rules.specs.declared.Size.{Size}
use Rattle.rules.specs.declared.Header.{Header}
use Rattle.rules.specs.declared.Part.{Part}
use Rattle.rules.specs.declared.Piece.TheVariants as part
use Rattle.rules.specs.Document.Notation.{any, flat}
use Rattle.rules.specs.Document.Pyramid.{Family, legal_size, area, levels, level_of, family, magnitude, negative, most_planes}
use Rattle.rules.specs.Document.Passes.{State, start, after, from, PartName, part_names, Course, Reader, signed, decoded}
use Rattle.rules.specs.Document.Layout.{header_bytes, CodedPart, parts_with, part_bytes, packed, bit_at, body_of, bits_there, name_of, usable, reached}
use Rattle.rules.specs.Document.Numbers.{headed, behind, PartRead}
use Rattle.rules.specs.Document.Calls.{going, used_cut, tail_onward, decoding}
use Rattle.rules.proofs.Laws.Counting.Booleans.{clash, both_left, both_right, not_test}
use Rattle.rules.specs.Laws.Counting.Sums.{All, is, sum}
use Rattle.rules.proofs.Laws.Counting.Sums.{all_then, all_both, one_most, from_once}
use Rattle.rules.proofs.Laws.Family.Sizes.{legal}
use Rattle.rules.specs.Promises.Vocabulary.{present, header_of, part_at, parts_at, Stated, names, kept, head_bytes, whole_in, tail_in, cut_in}
use Rattle.rules.specs.Promises.Vocabulary.{at, arrived, toward_zero, RoundedAt, at_reached, at_cut, Rounded, ReadsAs, Named}
use Rattle.rules.proofs.Laws.Offspring.Level.{level_least}
use Rattle.rules.proofs.Laws.Offspring.Lawful.{lawful}
use Rattle.rules.specs.Laws.Reading.Parts.{InOrder, After}
use Rattle.rules.proofs.Laws.Reading.Parts.{absent, all_middle, order_front, order_behind, names_named, names_in_order, name_same}
use Rattle.rules.proofs.Laws.Reading.Usable.{usable_there, usable_reached, reached_falls}
use Rattle.rules.specs.Laws.Reading.OneWalk.{usable_now, reached_now}
use Rattle.rules.proofs.Laws.Reading.OneWalk.{differs, usable_other, reached_above, reached_now_lem}
use Rattle.rules.proofs.Laws.Pass.Simulation.{bits_of}
use Rattle.rules.specs.Laws.Pass.Early.{Between, untouched, only_further, both_drawn}
use Rattle.rules.proofs.Laws.Bytes.BodyBack.{packed_bit, packed_length}
use Rattle.rules.specs.Laws.Bytes.PartBack.{cut_at}
use Rattle.rules.proofs.Laws.Bytes.PartBack.{part_length, cut_body}
use Rattle.rules.specs.Laws.Bytes.RecordBack.{before_all, LegalParts}
use Rattle.rules.proofs.Laws.Rounding.KnownState.{followed}
use Rattle.rules.proofs.Laws.Rounding.CutPass.{drawn_to, drawn_to_length, cut_drawn, cut_fits, part_between}
use Rattle.rules.specs.Laws.Rounding.CutTurn.{used_by}
use Rattle.rules.proofs.Laws.Rounding.CutTurn.{MadeAt, made_at, Turn, turn}
use Rattle.rules.specs.Laws.Rounding.Arrival.{CutIn, AllThere}
use Rattle.rules.proofs.Laws.Rounding.Arrival.{all_or_cut, none_behind, arrived_reads, cut_stands, cut_behind, arrived_selection, legal_order, legal_named}
use Rattle.rules.proofs.Laws.Rounding.Run.{kept_legal, Run, run_of, Onward, RoundedTo, rounded_by, unused_rounded}
use Rattle.rules.specs.Laws.Rounding.CutRun.{bits_held_in}

-- A bit of a body that is cut is that of the body.
cut_bit : (body : List ℕ) (d i : ℕ) → i < 8 * d → bit_at (take d body) i ≡ bit_at body i
unfolding bit_at
cut_bit body d i l = ap (λ (x : ℕ). eqb (x / 2 ^ (7 - i % 8) % 2) 1) (get_or-take d body (i / 8) 0 (omega arith))

all_parts : {X : Type 0} (P : X → Type 0) (xs : List X) (x : X) (ys : List X) → All P (xs ++ x ∷ ys) → All P xs × All P ys
unfolding All
all_parts P [] x ys a = (tt, a.1)
all_parts P (y ∷ xs) x ys a = let r = all_parts P xs x ys a.1 in ((a.0, r.0), r.1)

-- A part behind some that are there: which of all parts are used with it, and which without.
module _ (top planes : ℕ) (there : List PartName) (x : PartName) (front : All (λ p. After p x) there) (named : Named top planes x) where
  abbrev R : ℕ → ℕ
  R k = reached top planes there k

  abbrev R' : ℕ → ℕ
  R' k = reached top planes (there ++ (x ∷ [])) k

  same_used : (p : PartName) → Named top planes p → (p.plane ≡ x.plane → p.level ≡ x.level → ⊥) → used_by R p ≡ used_by R' p
  same_used p n d =
      sym (usable_reached top planes there p.plane p.level n.under)
      ∙ sym (usable_other top planes there x front named p n.from1 (differs top planes there x front named p d))
      ∙ usable_reached top planes (there ++ (x ∷ [])) p.plane p.level n.under

  not_used : (p : PartName) → Named top planes p → After x p → used_by R p ≡ false
  not_used p n a =
      sym (usable_reached top planes there p.plane p.level n.under)
      ∙ not_test _ (λ u. true≢false (sym (usable_there top planes there p n u)
      ∙ absent (λ y. After y x) there p front (λ b. omega (arith, a.downward, b.downward, a.in_plane b.downward, b.in_plane a.downward))))

  not_used' : (p : PartName) → Named top planes p → After x p → used_by R' p ≡ false
  not_used' p n a = sym (same_used p n (λ e f. omega (arith, a.in_plane (omega arith)))) ∙ not_used p n a

  itself_not : used_by R x ≡ false
  itself_not = lt-leb (R x.level) x.plane (reached_above top planes there x front named)

  itself_used : usable top planes (there ++ (x ∷ [])) x ≡ true → used_by R' x ≡ true
  itself_used u = sym (usable_reached top planes (there ++ (x ∷ [])) x.plane x.level named.under) ∙ u

  -- The plane that a level reaches with it, if that is used: as without it, or its own plane where that is the next.
  reached_with : (part : List PartName) → present part x ≡ true → (k : ℕ) → 1 ≤ k → RoundedAt part k (R k) (R' k)
  unfolding reached_now usable_now
  reached_with part p k a = subst (RoundedAt part k (R k)) (sym (reached_now_lem top planes there x front named k a))
      (by (eqb k x.level && usable_now R x) refl)
    where
      by : (b : Bool) → eqb k x.level && usable_now R x ≡ b → RoundedAt part k (R k) (cond b x.plane (R k))
      by false e = at_reached
      by true e =
          let same : k ≡ x.level = eqb-true _ _ (both_left _ _ e) in
          let up : R x.level ≡ suc x.plane = eqb-true _ _ (both_left _ _ (both_right (eqb k x.level) _ e)) in
          at_cut (ap R same ∙ up) (ap (λ (j : ℕ). present part (at x.plane j)) same ∙ p)

-- The planes at which a coefficient is rounded in either of two pyramids, where it is between one rounded at plane r and one at plane r'.
module _ {before a b end : ℤ} where
  unfoldable pub first_plane : Between before a b end → ℕ → ℕ → ℕ
  first_plane (untouched x y) r r' = r
  first_plane (only_further x y) r r' = r
  first_plane (both_drawn x y) r r' = r'

  unfoldable pub second_plane : Between before a b end → ℕ → ℕ → ℕ
  second_plane (untouched x y) r r' = r
  second_plane (only_further x y) r r' = r'
  second_plane (both_drawn x y) r r' = r'

  module _ (P : ℕ → Type 0) (r r' : ℕ) (above : P r) (below : P r') where
    pub first_either : (B : Between before a b end) → P (first_plane B r r')
    unfolding first_plane
    first_either (untouched x y) = above
    first_either (only_further x y) = above
    first_either (both_drawn x y) = below

  pub second_lower : (B : Between before a b end) (r r' : ℕ) → r' ≤ r → second_plane B r r' ≤ first_plane B r r'
  unfolding first_plane second_plane
  second_lower (untouched x y) r r' l = omega arith
  second_lower (only_further x y) r r' l = l
  second_lower (both_drawn x y) r r' l = omega arith

  module _ (val : ℕ → ℤ) (r r' : ℕ) (old : before ≡ val r) (new : end ≡ val r') where
    pub first_value : (B : Between before a b end) → a ≡ val (first_plane B r r')
    unfolding first_plane
    first_value (untouched x y) = x ∙ old
    first_value (only_further x y) = x ∙ old
    first_value (both_drawn x y) = x ∙ new

    pub second_value : (B : Between before a b end) → b ≡ val (second_plane B r r')
    unfolding second_plane
    second_value (untouched x y) = y ∙ old
    second_value (only_further x y) = y ∙ new
    second_value (both_drawn x y) = y ∙ new

module _ (z : Size) (ok : legal_size z ≡ true) (planes : ℕ) (few : planes ≤ most_planes) (pyramid : List ℤ)
    (small : (q : ℕ) → magnitude pyramid q < 2 ^ planes) where
  abbrev h : Header
  h = header_of z planes

  abbrev F : Family
  F = family z

  abbrev mag : ℕ → ℕ
  mag = magnitude pyramid

  abbrev neg : ℕ → Bool
  neg = negative pyramid

  abbrev run : (there : List PartName) → Run z ok planes few pyramid small there
  run there = run_of z ok planes few pyramid small there

  -- The run over the parts that are there, at the turn of one that is cut and would be usable.
  pub record AtTurn (there : List PartName) (q : CodedPart) : Type 0 where
    pub same_bits : q.bits ≡ bits_of (family z) (magnitude pyramid) (negative pyramid) q.name (run_of z ok planes few pyramid small there).lists
    pub with_it : (run_of z ok planes few pyramid small (there ++ (q.name ∷ []))).drawn
        ≡ (followed (family z) (magnitude pyramid) (negative pyramid) q.name (run_of z ok planes few pyramid small there).lists
        (run_of z ok planes few pyramid small there).drawn).side

  turned : (there : List PartName) (q : CodedPart)
      → Turn F mag neg (λ k. reached (levels z) planes there k) (λ k. reached (levels z) planes (there ++ (q.name ∷ [])) k) (part_names (levels z) planes)
      (start z) q (replicate (area z) (pos 0))
      → AtTurn there q
  turned there q T =
      let here : going T.at_turn T.so_far ≡ going (run there).lists (run there).drawn = sym T.runs ∙ (run there).runs in
      let lists : T.at_turn ≡ (run there).lists = cc in
      let drawn : T.so_far ≡ (run there).drawn = cc in
      let on : going (run (there ++ (q.name ∷ []))).lists (run (there ++ (q.name ∷ []))).drawn
      ≡ going (after q.name.level (followed F mag neg q.name T.at_turn T.so_far) T.at_turn)
      (followed F mag neg q.name T.at_turn T.so_far).side
      = sym (run (there ++ (q.name ∷ []))).runs ∙ T.runs_on in
      let side : (run (there ++ (q.name ∷ []))).drawn ≡ (followed F mag neg q.name T.at_turn T.so_far).side = cc in
      record {
        same_bits = T.same_bits ∙ ap (bits_of F mag neg q.name) lists;
        with_it = side ∙ ap₂ (λ s v. (followed F mag neg q.name s v).side) lists drawn;
      }

  module _ (keep : PartName → Bool) (n : ℕ) (c : CutIn n (kept keep (parts_with z planes pyramid))) where
    abbrev ps : List CodedPart
    ps = kept keep (parts_with z planes pyramid)

    abbrev there : List PartName
    there = names (whole_in n (kept keep (parts_with z planes pyramid)))

    abbrev x : PartName
    x = c.q.name

    split_names : names ps ≡ names (whole_in n ps) ++ x ∷ names c.later
    split_names = ap names c.parts ∙ map-append (λ p. p.name) (whole_in n ps) (c.q ∷ c.later)

    front : All (λ p. After p x) there
    front =
        order_front x (names c.later) (before_all planes) (names (whole_in n ps))
        (subst (InOrder (before_all planes)) split_names (legal_order h (before_all planes) ps (kept_legal z ok planes pyramid keep)))

    named : Named (levels z) planes x
    named =
        all_middle (Named (levels z) planes) (names (whole_in n ps)) x (names c.later)
        (subst (All (Named (levels z) planes)) split_names (legal_named h (before_all planes) ps (kept_legal z ok planes pyramid keep)))

    made : MadeAt F mag neg (part_names (levels z) planes) (start z) c.q
    made = made_at F mag neg keep (part_names (levels z) planes) (start z) (whole_in n ps) c.q c.later c.parts

    all_named : All (Named (levels z) planes) made.earlier × All (Named (levels z) planes) made.later
    all_named =
        all_parts (Named (levels z) planes) made.earlier x made.later
        (subst (All (Named (levels z) planes)) made.split (names_named (levels z) planes))

    ordered : InOrder (before_all planes) (made.earlier ++ x ∷ made.later)
    ordered = subst (InOrder (before_all planes)) made.split (names_in_order (levels z) planes (before_all planes) (omega arith))

    earlier : All (λ p. Named (levels z) planes p × After p x) made.earlier
    earlier = all_both _ _ made.earlier all_named.0 (order_front x made.later (before_all planes) made.earlier ordered)

    later : All (λ p. Named (levels z) planes p × After x p) made.later
    later = all_both _ _ made.later all_named.1 (order_behind x made.later (before_all planes) made.earlier ordered)

    abbrev reached_without : ℕ → ℕ
    reached_without k = reached (levels z) planes there k

    abbrev reached_with_it : ℕ → ℕ
    reached_with_it k = reached (levels z) planes (there ++ (x ∷ [])) k

    the_turn : usable (levels z) planes (there ++ (x ∷ [])) x ≡ true
        → Turn F mag neg reached_without reached_with_it (part_names (levels z) planes) (start z) c.q (replicate (area z) (pos 0))
    the_turn u =
        let top : ℕ = levels z in
        turn F mag neg reached_without reached_with_it (reached_falls top planes (there ++ (x ∷ []))) made
        (all_then _ _ made.earlier (λ p a. same_used top planes there x front named p a.0 (λ e f. omega (arith, a.1.in_plane (omega arith)))) earlier)
        (all_then _ _ made.earlier (λ p a. a.1.downward) earlier)
        (itself_not top planes there x front named) (itself_used top planes there x front named u)
        (all_then _ _ made.later (λ p a. not_used top planes there x front named p a.0 a.1) later)
        (all_then _ _ made.later (λ p a. not_used' top planes there x front named p a.0 a.1) later)
        (replicate (area z) (pos 0))

    at_turn : usable (levels z) planes (there ++ (x ∷ [])) x ≡ true → AtTurn there c.q
    at_turn u = turned there c.q (the_turn u)

    -- The part as it is read, and how many of its bits are there.
    abbrev bytes : List ℕ
    bytes = arrived z planes ps n

    abbrev place : ℕ
    place = length (header_bytes z planes) + length (flat part_bytes (whole_in n ps))

    abbrev its_part : Part
    its_part = part_at place c.q

    abbrev bits_in : ℕ
    bits_in = bits_held_in (tail_in n ps) c.q

    module _ (head : length (head_bytes c.q) ≤ tail_in n ps) where
      abbrev d : ℕ
      d = tail_in n ps - length (head_bytes c.q)

      body : body_of bytes its_part ≡ take d (packed c.q.bits)
      body =
          let e : tail_in n ps ≡ length (head_bytes c.q) + d = omega arith in
          cut_body bytes place c.q d
          (cut_stands z planes ps ok few (kept_legal z ok planes pyramid keep) n c ∙ ap (λ (i : ℕ). take i (part_bytes c.q)) e)

      there_bits : bits_there bytes its_part ≡ bits_in
      unfolding bits_there bits_held_in
      there_bits =
          let long : length (body_of bytes its_part) ≡ d
          = ap length body ∙ length-take d (packed c.q.bits) ∙ omega (arith, packed_length c.q.bits, c.short, part_length c.q) in
          let count : its_part.bits ≡ length c.q.bits = unfold part_at headed in refl in
          ap₂ (λ (x y : ℕ). min x (8 * y)) count long

      module _ (u : usable (levels z) planes (there ++ (x ∷ [])) x ≡ true) where
        abbrev s : State
        s = (run there).lists

        abbrev v : List ℤ
        v = (run there).drawn

        its_bit : (i : ℕ) → i < bits_in → bit_at (body_of bytes its_part) i ≡ get_or (bits_of F mag neg x s) i false
        unfolding bits_held_in
        its_bit i l =
            ap (λ b. bit_at b i) body ∙ cut_bit (packed c.q.bits) d i (omega arith) ∙ packed_bit c.q.bits i
            ∙ ap (λ b. get_or b i false) (at_turn u).same_bits

        few_bits : bits_in ≤ length (bits_of F mag neg x s)
        unfolding bits_held_in
        few_bits = omega (arith, ap length (at_turn u).same_bits)

        abbrev course : Course Reader
        course = decoded F x (bit_at (body_of bytes its_part)) bits_in s v

        its_drawn : course.side.pyramid ≡ drawn_to F mag neg x s bits_in v
        its_drawn = cut_drawn F mag neg x s (bit_at (body_of bytes its_part)) bits_in v its_bit few_bits

        leads : tail_onward h bytes there (Ok (part.Cut its_part)) (going s v) ≡ going (after x.level course s) (drawn_to F mag neg x s bits_in v)
        unfolding tail_onward used_cut name_of part_at headed
        leads =
            rw (u, there_bits, le-leb bits_in course.side.taken (cut_fits F mag neg x s (bit_at (body_of bytes its_part)) bits_in v its_bit few_bits))
            (ap (going (after x.level course s)) its_drawn)

  -- What is printed of an arrival: what the whole parts gave, or that with so many bits of the part that is cut.
  abbrev selected : (PartName → Bool) → List CodedPart
  selected keep = kept keep (parts_with z planes pyramid)

  unfoldable pub drawn_by : List PartName → CodedPart → ℕ → List ℤ
  drawn_by there q t =
      drawn_to (family z) (magnitude pyramid) (negative pyramid) q.name (run_of z ok planes few pyramid small there).lists (bits_held_in t q)
      (run_of z ok planes few pyramid small there).drawn

  pub drawn_by_length : (there : List PartName) (q : CodedPart) (t : ℕ) → length (drawn_by there q t) ≡ area z
  unfolding drawn_by
  drawn_by_length there q t = drawn_to_length F mag neg q.name (run there).lists (bits_held_in t q) (run there).drawn ∙ (run there).sized

  pub record CutUsed (there : List PartName) (q : CodedPart) : Type 0 where
    pub front : All (λ p. After p q.name) there
    pub named : Named (levels z) planes q.name
    pub usable_with : usable (levels z) planes (there ++ (q.name ∷ [])) q.name ≡ true
    pub turn : AtTurn there q

  pub data Prints (ps : List CodedPart) (n : ℕ) : List ℤ → Type 0 where
    as_whole : ((q : CodedPart) → cut_in n ps ≡ q ∷ [] → usable (levels z) planes (names (whole_in n ps) ++ (q.name ∷ [])) q.name ≡ true → ⊥)
        → Prints ps n (run_of z ok planes few pyramid small (names (whole_in n ps))).drawn
    with_cut : (q : CodedPart) → cut_in n ps ≡ q ∷ [] → CutUsed (names (whole_in n ps)) q → Prints ps n (drawn_by (names (whole_in n ps)) q (tail_in n ps))

  -- A coefficient is between what the whole parts gave and what they give with the part that is cut.
  module _ (there : List PartName) (x : CodedPart) (k : CutUsed there x) (l m q : ℕ) (i : bits_held_in l x ≤ bits_held_in m x) where
    pub cut_between : Between (get_or (run_of z ok planes few pyramid small there).drawn q (pos 0)) (get_or (drawn_by there x l) q (pos 0))
        (get_or (drawn_by there x m) q (pos 0)) (get_or (run_of z ok planes few pyramid small (there ++ (x.name ∷ []))).drawn q (pos 0))
    unfolding drawn_by
    cut_between =
        subst (λ w. Between (get_or (run there).drawn q (pos 0)) (get_or (drawn_by there x l) q (pos 0)) (get_or (drawn_by there x m) q (pos 0))
        (get_or w q (pos 0)))
        (sym k.turn.with_it)
        (part_between F mag neg x.name (run there).lists (lawful z (legal z ok)) (run there).sound k.named.up_to q (once q) (run there).drawn
        (bits_held_in l x) (bits_held_in m x) i)
      where
        once : (q : ℕ) → sum (is q) (from 0 (area z)) ≤ 1
        once q = rw (from_once q (area z)) (one_most (ltb q (area z)))

  module _ (there : List PartName) (x : CodedPart) (k : CutUsed there x) (t : ℕ) where
    B : (q : ℕ)
        → Between (get_or (run there).drawn q (pos 0)) (get_or (drawn_by there x t) q (pos 0)) (get_or (drawn_by there x t) q (pos 0))
        (get_or (run (there ++ (x.name ∷ []))).drawn q (pos 0))
    B q = cut_between there x k t t q (omega arith)

    cut_rounded : (part : List PartName) → present part x.name ≡ true → RoundedTo z ok planes few pyramid small part there (drawn_by there x t)
    cut_rounded part its =
        record {
          sized = drawn_by_length there x t;
          plane = λ q. first_plane (B q) (reached (levels z) planes there (level_of z q)) (reached (levels z) planes (there ++ (x.name ∷ [])) (level_of z q));
          rounds = λ q l.
              first_either (RoundedAt part (level_of z q) (reached (levels z) planes there (level_of z q))) _ _ at_reached
              (reached_with (levels z) planes there x.name k.front k.named part its (level_of z q) (level_least z (legal z ok) q l)) (B q);
          value = λ q l.
              first_value (λ m. signed (neg q) (toward_zero m (mag q))) _ _ ((run there).value q l) ((run (there ++ (x.name ∷ []))).value q l) (B q);
        }

  itself : (p : PartName) → present (p ∷ []) p ≡ true
  unfolding present any
  itself p = rw (name_same p p refl refl)

  prints_rounded : (ps : List CodedPart) (n : ℕ) (w : List ℤ) → Prints ps n w
      → RoundedTo z ok planes few pyramid small (names (cut_in n ps)) (names (whole_in n ps)) w
  prints_rounded ps n w (as_whole u) = unused_rounded z ok planes few pyramid small (whole_in n ps) (names (cut_in n ps))
  prints_rounded ps n w (with_cut x e k) =
      cut_rounded (names (whole_in n ps)) x k (tail_in n ps) (names (cut_in n ps)) (ap (λ l. present (names l) x.name) e ∙ itself x.name)

  other_usable : (there : List PartName) (p q : CodedPart) → p ∷ [] ≡ q ∷ [] → usable (levels z) planes (there ++ (p.name ∷ [])) p.name ≡ false
      → usable (levels z) planes (there ++ (q.name ∷ [])) q.name ≡ true → ⊥
  other_usable there p q e f u =
      let same : p ≡ q = cc in
      let unlike : usable (levels z) planes (there ++ (q.name ∷ [])) q.name ≡ false
      = subst (λ (y : CodedPart). usable (levels z) planes (there ++ (y.name ∷ [])) y.name ≡ false) same f in
      true≢false (sym u ∙ unlike)

  -- Decoding an arrival comes to such a pyramid.
  module _ (keep : PartName → Bool) (n : ℕ) where
    pub record Comes : Type 0 where
      pub onward : Onward z ok planes few pyramid small (whole_in n (kept keep (parts_with z planes pyramid)))
          (tail_in n (kept keep (parts_with z planes pyramid)))
          (arrived z planes (kept keep (parts_with z planes pyramid)) n)
      pub prints : Prints (kept keep (parts_with z planes pyramid)) n onward.printed

    reads : ReadsAs z planes (whole_in n (selected keep)) (tail_in n (selected keep)) (arrived z planes (selected keep) n)
    reads = arrived_reads z planes (selected keep) ok few (kept_legal z ok planes pyramid keep) n

    abbrev there_whole : List PartName
    there_whole = names (whole_in n (selected keep))

    abbrev its_behind : PartRead
    its_behind = behind h (arrived z planes (selected keep) n) (parts_at (length (header_bytes z planes)) (whole_in n (selected keep)))

    comes_whole : tail_onward h (arrived z planes (selected keep) n) there_whole its_behind (going (run there_whole).lists (run there_whole).drawn)
        ≡ going (run there_whole).lists (run there_whole).drawn
        → ((q : CodedPart) → cut_in n (selected keep) ≡ q ∷ [] → usable (levels z) planes (there_whole ++ (q.name ∷ [])) q.name ≡ true → ⊥) → Comes
    comes_whole on none =
        record {
          onward = record { read = reads; lists = (run there_whole).lists; printed = (run there_whole).drawn; on = on };
          prints = as_whole none;
        }

    comes_all : AllThere n (selected keep) → Comes
    unfolding tail_onward
    comes_all t =
        let e : its_behind ≡ Ok part.Tail
        = none_behind (subst (λ (i : ℕ). ReadsAs z planes (whole_in n (selected keep)) i (arrived z planes (selected keep) n)) t.none reads) ok few
        (subst (LegalParts h (before_all planes)) (sym t.parts) (kept_legal z ok planes pyramid keep)) in
        comes_whole (rw e) (λ q f u. clash (let g : [] ≡ q ∷ [] = sym t.uncut ∙ f in cc))

    module _ (c : CutIn n (selected keep)) where
      is_behind : its_behind ≡ cut_at (place keep n c) (tail_in n (selected keep)) c.q
      is_behind = cut_behind z planes (selected keep) ok few (kept_legal z ok planes pyramid keep) n c

      comes_cut : Comes
      unfolding cut_at tail_onward name_of part_at headed drawn_by
      comes_cut =
          by (leb (length (head_bytes c.q)) (tail_in n (selected keep))) refl
          (usable (levels z) planes (there_whole ++ (c.q.name ∷ [])) c.q.name) refl
        where
          by : (a : Bool) → leb (length (head_bytes c.q)) (tail_in n (selected keep)) ≡ a → (b : Bool)
              → usable (levels z) planes (there_whole ++ (c.q.name ∷ [])) c.q.name ≡ b → Comes
          by false e b f = comes_whole (rw (is_behind, e)) (λ q i u. clash (let g : [] ≡ q ∷ [] = sym (c.cut ∙ rw e) ∙ i in cc))
          by true e false f =
              comes_whole (rw (is_behind, e, f))
              (λ q i u. other_usable there_whole c.q q (sym (c.cut ∙ rw e) ∙ i) f u)
          by true e true f =
              let here : length (head_bytes c.q) ≤ tail_in n (selected keep) = leb-true _ _ e in
              record {
                onward = record {
                  read = reads;
                  lists = after c.q.name.level (course keep n c here f) (run there_whole).lists;
                  printed = drawn_by there_whole c.q (tail_in n (selected keep));
                  on = rw (is_behind, e) (leads keep n c here f);
                };
                prints =
                    with_cut c.q (c.cut ∙ rw e)
                    (record { front = front keep n c; named = named keep n c; usable_with = f; turn = at_turn keep n c f });
              }

    pub comes : Comes
    comes = ⊎_elim comes_all comes_cut (all_or_cut n (selected keep))

    -- Any selection of the parts, and any number of bytes of it.
    pub rounded_arrived : (room work : ℕ) → Stated z room work
        → Rounded z planes pyramid (names (whole_in n (kept keep (parts_with z planes pyramid)))) (names (cut_in n (kept keep (parts_with z planes pyramid))))
        (tail_in n (kept keep (parts_with z planes pyramid))) (decoding (arrived z planes (kept keep (parts_with z planes pyramid)) n) room work)
    rounded_arrived room work sizes =
        let some : (left : PartName → Bool) × (kept left (parts_with z planes pyramid) ≡ whole_in n (selected keep))
        = arrived_selection keep n (before_all planes) (parts_with z planes pyramid)
        (legal_order h (before_all planes) (selected keep) (kept_legal z ok planes pyramid keep)) in
        rounded_by z ok planes few pyramid small some.0 (whole_in n (selected keep)) some.1 comes.onward room work sizes
        (names (cut_in n (selected keep))) (prints_rounded (selected keep) n comes.onward.printed comes.prints)
