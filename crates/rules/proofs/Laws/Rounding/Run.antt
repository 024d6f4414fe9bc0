-- Decoding what arrived of a coder's record, for any number of planes with every magnitude below 2^planes: it is accepted, and what it gives
-- is the recorded pyramid, rounded level by level to the plane that is reported.
use Rattle.std.specs.Prelude.{◌≡◌, Bool, true, false, cond, ltb, eqb, length, replicate, ℤ, pos}
use Rattle.std.proofs.Math.Path.{refl, ap}
use Rattle.std.proofs.Common.{sym, ◌∙◌, subst, true≢false}
use mathlib.Core.List.{List, [], ◌∷◌, map}
use Prim.Native.Nat.{ℕ, zero, suc, ◌+◌, ◌-◌, ◌^◌, ◌≤◌, ◌<◌}
use native.Mathlib.Omega.{arith}
use Rattle.std.proofs.Math.Decide.{ℕ_discrete, dec_lt}
use Rattle.std.proofs.Math.ListN.{get_or, get_or-eq_default}
use Rattle.std.proofs.lemmas.List.{length-replicate, get_or-replicate}
use Rattle.std.proofs.Math.IntN.{nat_abs}
use borrow.Author.Tests.{le-leb, lt-leb, lt-ltb, eq-eqb}
use Rattle.rules.specs.declared.Size.{Size}
use Rattle.rules.specs.declared.Plane.{Plane}
use Rattle.rules.specs.declared.Header.{Header}
use Rattle.rules.specs.Document.Notation.{count}
use Rattle.rules.specs.Document.Pyramid.{legal_size, area, levels, level_of, family, below0, magnitude, negative, most_planes}
use Rattle.rules.specs.Document.Passes.{State, start, from, PartName, part_names, signed}
use Rattle.rules.specs.Document.Layout.{header_bytes, CodedPart, parts_with, name_of, reached}
use Rattle.rules.specs.Document.Numbers.{behind, top_level}
use Rattle.rules.specs.Document.Calls.{Picture, accepted, unless, work_for, on_header, on_ending, Progress, going, unfit, decode_parts, tail_onward}
use Rattle.rules.specs.Document.Calls.{level_places, reached_plane, reached_planes, plane_in, skipped_parts, skipped_counts, count_in}
use Rattle.rules.specs.Document.Calls.{pictured, decoded_parts, decoding}
use Rattle.rules.specs.Laws.Counting.Sums.{sum, one, is, ◌∈◌, All, Every}
use Rattle.rules.proofs.Laws.Counting.Sums.{one_most, all_then, all_every, from_length, from_all, from_once}
use Rattle.rules.proofs.Laws.Family.Sizes.{legal}
use Rattle.rules.specs.Promises.Vocabulary.{Legal, present, header_of, parts_at, selection, Stated, names, kept, toward_zero}
use Rattle.rules.specs.Promises.Vocabulary.{RoundedAt, at_reached, Rounded, ReadsAs, Named}
use Rattle.rules.proofs.Laws.Offspring.Level.{level_most, level_least}
use Rattle.rules.proofs.Laws.Offspring.Lawful.{lawful}
use Rattle.rules.proofs.Laws.Offspring.Start.{start_top, start_else}
use Rattle.rules.proofs.Laws.State.Parts.{part_names_levels, coded_parts_bits}
use Rattle.rules.specs.Laws.State.Sound.{Sound}
use Rattle.rules.proofs.Laws.State.Record.{start_sound}
use Rattle.rules.specs.Laws.Reading.Parts.{InOrder}
use Rattle.rules.proofs.Laws.Reading.Parts.{absent, names_named, names_in_order}
use Rattle.rules.proofs.Laws.Reading.Usable.{usable_there, usable_reached, reached_within, reached_falls}
use Rattle.rules.proofs.Laws.Reading.Skipped.{used_and_skipped_there, skipped_beyond}
use Rattle.rules.specs.Laws.Bytes.RecordBack.{before_all, LegalParts}
use Rattle.rules.proofs.Laws.Bytes.RecordBack.{parts_names, selection_legal, coded_legal}
use Rattle.rules.proofs.Laws.Rounding.TowardZero.{signed_magnitude, signed_sign}
use Rattle.rules.proofs.Laws.Rounding.KnownState.{known_value}
use Rattle.rules.proofs.Laws.Rounding.Rebuilt.{rebuilt, Ended, rebuilt_ends}
use Rattle.rules.proofs.Laws.Rounding.Followed.{Arrives, decodes_rebuilt}
use Rattle.rules.proofs.Laws.Rounding.Arrival.{header_read, parts_stand, none_behind, legal_order, legal_named}

-- The reached planes and the counts, place by place.
pub map_from : {X : Type 0} (f : ℕ → X) (d : X) (a m i : ℕ) → i < m → get_or (map f (from a m)) i d ≡ f (a + i)
unfolding from
map_from f d a zero i l = absurd (omega arith)
map_from f d a (suc m) zero l = let e : a ≡ a + 0 = omega arith in ap f e
map_from f d a (suc m) (suc i) l = let e : suc a + i ≡ a + suc i = omega arith in map_from f d (suc a) m i (omega arith) ∙ ap f e

pub map_length : {X : Type 0} (f : ℕ → X) (a m : ℕ) → length (map f (from a m)) ≡ m
unfolding from
map_length f a zero = refl
map_length f a (suc m) = omega (arith, map_length f (suc a) m)

module _ (h : Header) (there : List PartName) where
  reports_six : length (reached_planes h there) ≡ level_places
  unfolding reached_planes
  reports_six = map_length (reached_plane h there) 1 level_places

  reports_level : (k : ℕ) → 1 ≤ k → k ≤ top_level h → top_level h ≤ level_places
      → plane_in (reached_planes h there) (k - 1) ≡ reached (top_level h) h.planes there k
  unfolding plane_in reached_planes reached_plane
  reports_level k a b c =
      let e : 1 + (k - 1) ≡ k = omega arith in
      ap (λ (x : Plane). x.0) (map_from (reached_plane h there) (record { 0 = 0 }) 1 level_places (k - 1) (omega arith))
      ∙ ap (λ (j : ℕ). (reached_plane h there j).0) e ∙ rw (le-leb k (top_level h) b)

  reports_beyond : (k : ℕ) → top_level h < k → plane_in (reached_planes h there) (k - 1) ≡ 0
  unfolding plane_in reached_planes reached_plane
  reports_beyond k a = by (dec_lt (k - 1) level_places)
    where
      by : Dec (k - 1 < level_places) → (get_or (map (reached_plane h there) (from 1 level_places)) (k - 1) (record { 0 = 0 })).0 ≡ 0
      by (yes l) =
          let e : 1 + (k - 1) ≡ k = omega arith in
          ap (λ (x : Plane). x.0) (map_from (reached_plane h there) (record { 0 = 0 }) 1 level_places (k - 1) l)
          ∙ ap (λ (j : ℕ). (reached_plane h there j).0) e ∙ rw (lt-leb k (top_level h) a)
      by (no l) =
          ap (λ (x : Plane). x.0)
          (get_or-eq_default (map (reached_plane h there) (from 1 level_places)) (record { 0 = 0 }) {n = k - 1}
          (omega (arith, map_length (reached_plane h there) 1 level_places)))

  counts_six : length (skipped_counts h there) ≡ level_places
  unfolding skipped_counts
  counts_six = map_length (skipped_parts h there) 1 level_places

  counts_level : (k : ℕ) → 1 ≤ k → k ≤ level_places → count_in (skipped_counts h there) (k - 1) ≡ skipped_parts h there k
  unfolding count_in skipped_counts
  counts_level k a b =
      let e : 1 + (k - 1) ≡ k = omega arith in
      map_from (skipped_parts h there) 0 1 level_places (k - 1) (omega arith) ∙ ap (skipped_parts h there) e

  counts_all : (before : PartName) → InOrder before there → All (Named (top_level h) h.planes) there → (k : ℕ) → 1 ≤ k → k ≤ top_level h
      → top_level h ≤ level_places
      → count_in (skipped_counts h there) (k - 1) + (h.planes - plane_in (reached_planes h there) (k - 1)) ≡ count (λ x. eqb x.level k) there
  counts_all before order named k a b c =
      rw (counts_level k a (omega arith), reports_level k a b c) (used_and_skipped_there h before there order named k a b)

  counts_beyond : All (Named (top_level h) h.planes) there → (k : ℕ) → top_level h < k → count_in (skipped_counts h there) (k - 1) ≡ 0
  unfolding count_in
  counts_beyond named k a = by (dec_lt (k - 1) level_places)
    where
      by : Dec (k - 1 < level_places) → get_or (skipped_counts h there) (k - 1) 0 ≡ 0
      by (yes l) = counts_level k (omega arith) (omega arith) ∙ skipped_beyond h there named k a
      by (no l) = get_or-eq_default (skipped_counts h there) 0 {n = k - 1} (omega (arith, counts_six))

-- What passed a test is not there if it does not pass.
kept_passes : (keep : PartName → Bool) (ps : List CodedPart) → All (λ p. keep p ≡ true) (names (kept keep ps))
unfolding All selection
kept_passes keep [] = tt
kept_passes keep (p ∷ ps) = by (keep p.name) refl (kept_passes keep ps)
  where
    by : (b : Bool) → keep p.name ≡ b → All (λ p. keep p ≡ true) (names (kept keep ps))
        → All (λ p. keep p ≡ true) (names (cond b (p ∷ kept keep ps) (kept keep ps)))
    by true e r = (e, r)
    by false e r = r

there_kept : (keep : PartName → Bool) (ps : List CodedPart) (p : PartName) → present (names (kept keep ps)) p ≡ true → keep p ≡ true
there_kept keep ps p h = by (keep p) refl
  where
    by : (b : Bool) → keep p ≡ b → keep p ≡ true
    by true e = e
    by false e =
        absurd (true≢false (sym h ∙ absent (λ x. keep x ≡ true) (names (kept keep ps)) p (kept_passes keep ps) (λ t. true≢false (sym t ∙ e))))

pub blank_same : {X : Type 0} (d : X) (n q : ℕ) → get_or (replicate n d) q d ≡ d
blank_same d n q = by (dec_lt q n)
  where
    by : Dec (q < n) → get_or (replicate n d) q d ≡ d
    by (yes l) = get_or-replicate n q d d l
    by (no l) = get_or-eq_default (replicate n d) d {n = q} (omega (arith, length-replicate n d))

start_fresh : (z : Size) (k : ℕ) → (start z k).lsp ≡ []
start_fresh z k = by (ℕ_discrete k (levels z))
  where
    by : Dec (k ≡ levels z) → (start z k).lsp ≡ []
    by (yes e) = rw e (ap (λ l. l.lsp) (start_top z))
    by (no d) = ap (λ l. l.lsp) (start_else z k d)

-- The coder's parts, and any selection of them, may stand in a record.
module _ (z : Size) (ok : legal_size z ≡ true) (planes : ℕ) (pyramid : List ℤ) where
  pub coder_legal : LegalParts (header_of z planes) (before_all planes) (parts_with z planes pyramid)
  coder_legal =
      coded_legal (header_of z planes) (family z) (magnitude pyramid) (negative pyramid) (start z)
      (all_then _ _ (parts_with z planes pyramid) (λ c l. omega (arith, l, from_length 0 (area z)))
      (coded_parts_bits (lawful z (legal z ok)) (magnitude pyramid) (negative pyramid) (part_names (levels z) planes)
      (part_names_levels (levels z) planes) (start z) (start_sound z (legal z ok))))

  pub kept_legal : (keep : PartName → Bool) → LegalParts (header_of z planes) (before_all planes) (kept keep (parts_with z planes pyramid))
  kept_legal keep = selection_legal (header_of z planes) (λ p. keep p.name) (before_all planes) (parts_with z planes pyramid) coder_legal

module _ (z : Size) (ok : legal_size z ≡ true) (planes : ℕ) (few : planes ≤ most_planes) (pyramid : List ℤ)
    (small : (q : ℕ) → magnitude pyramid q < 2 ^ planes) where
  abbrev Z : Legal z
  Z = legal z ok

  abbrev h : Header
  h = header_of z planes

  abbrev all : List ℕ
  all = from 0 (area z)

  abbrev blank : List ℤ
  blank = replicate (area z) (pos 0)

  once : (q : ℕ) → sum (is q) all ≤ 1
  once q = rw (from_once q (area z)) (one_most (ltb q (area z)))

  inside : Every (λ q. q < area z) all
  inside = all_every _ all (all_then _ _ all (λ q i. omega arith) (from_all 0 (area z)))

  counted : (q : ℕ) → q < area z → q ∈ all
  unfolding one
  counted q l = omega (arith, from_once q (area z), ap one (lt-ltb q (area z) l))

  -- The run over the parts, with some of them there: where it comes to, and what then stands in the pyramid.
  module _ (there : List PartName) where
    abbrev reaches : ℕ → ℕ
    reaches k = reached (levels z) planes there k

    abbrev run : Progress
    run = rebuilt (family z) (magnitude pyramid) (negative pyramid) reaches (part_names (levels z) planes) (start z) blank

    pub record Run : Type 0 where
      pub lists : State
      pub drawn : List ℤ
      pub runs : rebuilt (family z) (magnitude pyramid) (negative pyramid) (λ k. reached (levels z) planes there k) (part_names (levels z) planes) (start z)
          (replicate (area z) (pos 0)) ≡ going lists drawn
      pub sound : Sound (family z) (levels z) (from 0 (area z)) lists
      pub sized : length drawn ≡ area z
      pub value : (q : ℕ) → q < area z
          → get_or drawn q (pos 0) ≡ signed (negative pyramid q) (toward_zero (reached (levels z) planes there (level_of z q)) (magnitude pyramid q))

    pub run_of : Run
    unfolding Ended
    run_of =
        by run refl
        (rebuilt_ends (lawful z Z) (magnitude pyramid) (negative pyramid) reaches (levels z) all (area z) once inside planes
        (λ j a b. reached_within (levels z) planes there j) small (start z) (start_sound z Z) (start_fresh z) blank
        (length-replicate (area z) (pos 0)) (blank_same (pos 0) (area z)))
      where
        by : (g : Progress) → run ≡ g → Ended (family z) (magnitude pyramid) (negative pyramid) reaches (levels z) all (area z) g → Run
        by (unfit place) e w = absurd w
        by (going s v) e w =
            record {
              lists = s;
              drawn = v;
              runs = e;
              sound = w.sound;
              sized = w.sized;
              value = λ q l.
                  known_value (magnitude pyramid) (negative pyramid) w.sound reaches (reached_falls (levels z) planes there) w.known q (counted q l)
                  (level_least z Z q l) (level_most z q);
            }

  -- Bytes that read as these parts, and where decoding comes to by what stands behind them.
  pub record Onward (ps : List CodedPart) (cut : ℕ) (bytes : List ℕ) : Type 0 where
    pub read : ReadsAs z planes ps cut bytes
    pub lists : State
    pub printed : List ℤ
    pub on : tail_onward (header_of z planes) bytes (names ps) (behind (header_of z planes) bytes (parts_at (length (header_bytes z planes)) ps))
        (going (run_of (names ps)).lists (run_of (names ps)).drawn) ≡ going lists printed

  -- What then is to be shown of that pyramid.
  pub record RoundedTo (part there : List PartName) (v : List ℤ) : Type 0 where
    pub sized : length v ≡ area z
    pub plane : ℕ → ℕ
    pub rounds : (q : ℕ) → q < area z → RoundedAt part (level_of z q) (reached (levels z) planes there (level_of z q)) (plane q)
    pub value : (q : ℕ) → q < area z → get_or v q (pos 0) ≡ signed (negative pyramid q) (toward_zero (plane q) (magnitude pyramid q))

  abbrev picture_of : List PartName → ℕ → List ℤ → Picture
  picture_of there cut v = record { pyramid = v; tail = cut; reached = reached_planes h there; skipped = skipped_counts h there }

  -- The parts that pass a test, as they are read from some bytes.
  module _ (keep : PartName → Bool) where
    abbrev there : List PartName
    there = names (kept keep (parts_with z planes pyramid))

    abbrev R : ℕ → ℕ
    R k = reached (levels z) planes there k

    abbrev W : Run there
    W = run_of there

    module _ {cut : ℕ} {bytes : List ℕ} (read : ReadsAs z planes (kept keep (parts_with z planes pyramid)) cut bytes) where
      arrive : All (Arrives h bytes there (magnitude pyramid) (negative pyramid) R (reached_falls (levels z) planes there) keep) (part_names (levels z) planes)
      arrive =
          all_then _ _ (part_names (levels z) planes)
          (λ p n. record {
            if_usable = usable_reached (levels z) planes there p.plane p.level n.under;
            then_kept = λ u.
                there_kept keep (parts_with z planes pyramid) p
                (usable_there (levels z) planes there p n (usable_reached (levels z) planes there p.plane p.level n.under ∙ u));
          })
          (names_named (levels z) planes)

      decodes : decode_parts h bytes there (parts_at (length (header_bytes z planes)) (kept keep (parts_with z planes pyramid))) (going (start z) blank)
          ≡ rebuilt (family z) (magnitude pyramid) (negative pyramid) R (part_names (levels z) planes) (start z) blank
      decodes =
          decodes_rebuilt h bytes there (magnitude pyramid) (negative pyramid) R (reached_falls (levels z) planes there) keep (part_names (levels z) planes)
          (before_all planes) (names_in_order (levels z) planes (before_all planes) (omega arith)) arrive
          (start z) (start z) (λ k l. refl) blank (length (header_bytes z planes)) read.rest (parts_stand read)

    -- decoding, where the header and these parts are what is read, and what stands behind them leads on
    module _ {cut : ℕ} {bytes : List ℕ} (o : Onward (kept keep (parts_with z planes pyramid)) cut bytes) (room work : ℕ) (sizes : Stated z room work) where
      accepts_read : decoding bytes room work ≡ accepted (picture_of there cut o.printed)
      unfolding decoding on_header unless decoded_parts pictured on_ending
      accepts_read =
          let same : map name_of (parts_at (length (header_bytes z planes)) (kept keep (parts_with z planes pyramid))) ≡ there
          = parts_names (length (header_bytes z planes)) (kept keep (parts_with z planes pyramid)) in
          rw (
            header_read o.read ok few,
            eq-eqb room (area z) sizes.whole,
            le-leb (work_for z) work sizes.enough,
            o.read.parts_read,
            same,
            decodes o.read,
            W.runs,
            o.on,
          )

      rounded_read_by : (part : List PartName) → RoundedTo part there o.printed → Rounded z planes pyramid there part cut (decoding bytes room work)
      rounded_read_by part r =
          record {
            picture = picture_of there cut o.printed;
            accepts = accepts_read;
            sized = r.sized;
            plane = r.plane;
            rounds = r.rounds;
            values = r.value;
            magnitudes = λ q l. unfold magnitude in ap nat_abs (r.value q l) ∙ signed_magnitude (negative pyramid q) (m q);
            signs = λ q l some.
                unfold magnitude negative in
                ap below0 (r.value q l)
                ∙ signed_sign (negative pyramid q) (m q) (omega (arith, ap nat_abs (r.value q l), signed_magnitude (negative pyramid q) (m q)));
            six = reports_six h there;
            reports = λ k a b. reports_level h there k a b (omega (arith, Z.few));
            beyond = reports_beyond h there;
            six_counts = counts_six h there;
            skips = λ k a b. counts_level h there k a (omega (arith, Z.few));
            used_and_skipped = λ k a b. counts_all h there (before_all planes) in_order all_named k a b (omega (arith, Z.few));
            skips_beyond = counts_beyond h there all_named;
            tail = refl;
          }
        where
          m : ℕ → ℕ
          m q = toward_zero (r.plane q) (magnitude pyramid q)

          all_named : All (Named (levels z) planes) there
          all_named = legal_named h (before_all planes) (kept keep (parts_with z planes pyramid)) (kept_legal z ok planes pyramid keep)

          in_order : InOrder (before_all planes) there
          in_order = legal_order h (before_all planes) (kept keep (parts_with z planes pyramid)) (kept_legal z ok planes pyramid keep)

  -- The same of parts that are such a selection.
  module _ (keep : PartName → Bool) (ps : List CodedPart) (e : kept keep (parts_with z planes pyramid) ≡ ps) {cut : ℕ} {bytes : List ℕ}
      (o : Onward ps cut bytes) (room work : ℕ) (sizes : Stated z room work) where
    pub onward_accepts : decoding bytes room work
        ≡ accepted (record {
          pyramid = o.printed;
          tail = cut;
          reached = reached_planes (header_of z planes) (names ps);
          skipped = skipped_counts (header_of z planes) (names ps);
        })
    onward_accepts =
        subst (λ l. (o : Onward l cut bytes) → decoding bytes room work ≡ accepted (picture_of (names l) cut o.printed)) e
        (λ o. accepts_read keep o room work sizes) o

    pub rounded_by : (part : List PartName) → RoundedTo part (names ps) o.printed
        → Rounded z planes pyramid (names ps) part cut (decoding bytes room work)
    rounded_by part r =
        subst (λ l. (o : Onward l cut bytes) → RoundedTo part (names l) o.printed → Rounded z planes pyramid (names l) part cut (decoding bytes room work)) e
        (λ o. rounded_read_by keep o room work sizes part) o r

  -- Where what stands behind them isn't used, and so where nothing stands there.
  pub unused_rounded : (ps : List CodedPart) (part : List PartName) → RoundedTo part (names ps) (run_of (names ps)).drawn
  unused_rounded ps part =
      let W : Run (names ps) = run_of (names ps) in
      record { sized = W.sized; plane = λ q. reached (levels z) planes (names ps) (level_of z q); rounds = λ q l. at_reached; value = W.value }

  pub rounded_read : (keep : PartName → Bool) {bytes : List ℕ} → ReadsAs z planes (kept keep (parts_with z planes pyramid)) 0 bytes → (room work : ℕ)
      → Stated z room work
      → Rounded z planes pyramid (names (kept keep (parts_with z planes pyramid))) [] 0 (decoding bytes room work)
  unfolding tail_onward
  rounded_read keep read room work sizes =
      let ps : List CodedPart = kept keep (parts_with z planes pyramid) in
      rounded_by keep ps refl
      (record {
        read = read;
        lists = (run_of (names ps)).lists;
        printed = (run_of (names ps)).drawn;
        on = rw (none_behind read ok few (kept_legal z ok planes pyramid keep));
      })
      room work sizes [] (unused_rounded ps [])
