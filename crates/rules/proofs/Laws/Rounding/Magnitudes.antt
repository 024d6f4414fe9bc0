-- How large a decoded coefficient can be: whatever bytes decoding accepts, every magnitude that it writes is below 2^planes, so at most 131,071.
-- The parts come plane by plane downward. Between parts, a coefficient's magnitude and the power of two of the last plane that its level may have
-- come by are at most 2^planes together: a new one has as much as its plane is worth, and a refined one gains at most what the plane gives back.
use Rattle.std.specs.Prelude.{◌≡◌, Bool, ◌≢◌, ℕ, suc, ◌+◌, ◌*◌, ◌^◌, ◌≤◌, ◌<◌, leb, ltb, eqb, length, set, replicate, pos, negsuc, nat_abs, Ok, Err}
use Rattle.std.proofs.Math.Path.{refl, subst}
use Rattle.std.proofs.Common.{ap, sym, ◌∙◌, arith, pow-suc, pow_mono, get_or-set_same, get_or-set_other, le-leb}
use mathlib.Core.List.{List, [], ◌∷◌, ◌++◌, map}
use Rattle.std.proofs.Math.Bool.{true, false, cond}
use Rattle.std.proofs.Math.Decide.{ℕ_discrete, dec_lt, dec_le}
use Rattle.std.proofs.Math.Nat.{mul-le-mul_left}
use Rattle.std.proofs.Math.ListN.{get_or}
use Rattle.std.proofs.Math.Seq.{set_out}
use Rattle.std.proofs.Math.IntN.{ℤ}
use Rattle.std.proofs.lemmas.Bool.{lt-leb}
use Rattle.rules.specs.declared.Size.{Size}
use Rattle.rules.specs.declared.Header.{Header}
use Rattle.rules.specs.declared.Part.{Part}
use Rattle.rules.specs.declared.Piece.TheVariants as part
use Rattle.rules.specs.declared.Refusal.TheVariants as refusal
use Rattle.rules.specs.Document.Pyramid.{Family, family, area, levels, level_of, legal_size, magnitude, most_planes}
use Rattle.rules.specs.Document.Passes.{Entry, Lists, Course, listed, listing, passed, State, after, start, PartName}
use Rattle.rules.specs.Document.Passes.{Reader, signed, grown, written, decoder, decoded}
use Rattle.rules.specs.Document.Layout.{name_of, bit_at, body_of, bits_there, usable}
use Rattle.rules.specs.Document.Numbers.{read_header, follows, Ending, read_part, read_parts, behind_from, PartRead}
use Rattle.rules.specs.Document.Calls.{Result, refused, accepted, Progress, going, unfit, used, onward, decode_parts, Picture, pictured, decoded_parts, Decoded}
use Rattle.rules.specs.Document.Calls.{used_cut, tail_onward, work_for, decoding, decode_out, Decoding, decode_places, AfsDecode}
use Rattle.rules.specs.Promises.Vocabulary.{most_decoded, at, LegalHead}
use Rattle.rules.specs.Laws.Counting.Sums.{sum, is, All}
use Rattle.rules.proofs.Laws.Counting.Sums.{one_most, sum_append, is_same, from_once}
use Rattle.rules.specs.Laws.Family.Lawful.{Lawful}
use Rattle.rules.specs.Laws.Pass.Steps.{sign_noted, bit_noted}
use Rattle.rules.specs.Laws.Pass.Kept.{Kept}
use Rattle.rules.proofs.Laws.Pass.Kept.{kept_pass}
use Rattle.rules.specs.Laws.Pass.Levels.{Placed, level_claims}
use Rattle.rules.proofs.Laws.Pass.Levels.{levels_fates}
use Rattle.rules.specs.Laws.Pass.Lists.{Sorted, set_weight, lists_weight, course_weight}
use Rattle.rules.proofs.Laws.Pass.Lists.{sorted_kept, weight_kept}
use Rattle.rules.proofs.Laws.Calls.Results.{unless_accepted, on_header_accepted, on_ending_accepted, accepted_same}
use Rattle.rules.specs.Laws.Reading.Stands.{HeaderStands}
use Rattle.rules.proofs.Laws.Reading.Stands.{read_header_stands, header_legal, header_planes, read_part_stands}
use Rattle.rules.proofs.Laws.Reading.CutPart.{read_part_cut}
use Rattle.rules.specs.Laws.Reading.WholeParts.{WholeParts}
use Rattle.rules.proofs.Laws.Reading.WholeParts.{read_parts_whole}
use Rattle.rules.proofs.Laws.Rounding.Run.{blank_same}
use Rattle.rules.proofs.Laws.Calls.Exports.{afs_decode_short, afs_decode_decodes}
use Rattle.rules.proofs.Laws.Family.Sizes.{legal}
use Rattle.rules.proofs.Laws.Offspring.Lawful.{lawful}
use Rattle.rules.proofs.Laws.State.Weight.{weight_part}
use Rattle.rules.specs.Laws.State.Parts.{OfLevel}
use Rattle.rules.proofs.Laws.State.Parts.{decoded_sound}
use Rattle.rules.specs.Laws.State.Record.{SoundLists}
use Rattle.rules.proofs.Laws.State.Record.{start_sound}
use Rattle.rules.specs.Laws.Reading.Parts.{After}
use Rattle.rules.proofs.Laws.Reading.Parts.{follows_after}
use Rattle.rules.proofs.Laws.Rounding.TowardZero.{signed_magnitude}

-- A coefficient that is written, if its bits are there, and what is added to one.
set_magnitude : (b : Bool) (v : List ℤ) (p q : ℕ) (y : ℤ) (P : ℕ → Type 0) → (q ≡ p → P (nat_abs y)) → P (magnitude v q)
    → P (magnitude (cond b (set v p y) v) q)
unfolding magnitude
set_magnitude false v p q y P new old = old
set_magnitude true v p q y P new old = by (ℕ_discrete q p) (dec_lt p (length v))
  where
    by : Dec (q ≡ p) → Dec (p < length v) → P (nat_abs (get_or (set v p y) q (pos 0)))
    by (no n) l = rw (get_or-set_other v p q y (pos 0) n) old
    by (yes e) (yes l) = rw (e, get_or-set_same v p y (pos 0) l) (new e)
    by (yes e) (no l) = rw (set_out v p y (omega arith)) old

grown_most : (b : Bool) (a : ℕ) (v : ℤ) → nat_abs (grown b a v) ≤ nat_abs v + a
unfolding grown
grown_most false a v = omega arith
grown_most true a (pos m) = omega arith
grown_most true a (negsuc m) = omega arith

pow_some : (n : ℕ) → 1 ≤ 2 ^ n
pow_some n = pow_mono {i = 0} {j = n} (omega arith)

blank_magnitude : (n q : ℕ) → magnitude (replicate n (pos 0)) q ≡ 0
unfolding magnitude
blank_magnitude n q = ap nat_abs (blank_same (pos 0) n q)

sum_cons : (a q p : ℕ) (ks : List ℕ) → a * sum (is q) (p ∷ ks) ≡ a * is q p + a * sum (is q) ks
unfolding sum
sum_cons a q p ks = omega arith

-- Pass (n, k) of lists l, whatever its bits, over the pyramid v: where it stands with ks still to refine.
module _ {F : Family} (L : Lawful F) (n k most : ℕ) (bit : ℕ → Bool) (there : ℕ) (l : Lists) (v : List ℤ) where
  record Growth (c : Course Reader) (ks : List ℕ) : Type 0 where
    small : (q : ℕ) → F.level q ≡ k → magnitude c.side.pyramid q + 2 ^ n + 2 ^ n * sum (is q) ks ≤ most
    elsewhere : (q : ℕ) → F.level q ≢ k → magnitude c.side.pyramid q ≡ magnitude v q
    among : (q : ℕ) → sum (is q) ks ≤ sum (is q) c.lsp
    placed : All (λ q. F.level q ≡ k) ks

  -- each coefficient is in one place only
  abbrev Once : Course Reader → List ℕ → List Entry → Type 0
  Once c ps es = (q : ℕ) → course_weight F (is q) c + sum (is q) ps + sum (set_weight F (is q)) es ≡ lists_weight F (is q) l

  abbrev Stands : Course Reader → List ℕ → List Entry → List ℕ → Type 0
  Stands c ps es ks = Sorted (level_claims F k) c ps es × Once c ps es × Growth c ks

  module _ (once : (q : ℕ) → lists_weight F (is q) l ≤ 1) (enough : (q : ℕ) → F.level q ≡ k → 2 * 2 ^ n ≤ most) where
    growth_found : (c : Course Reader) (p : ℕ) (ps : List ℕ) (es : List Entry) (ks : List ℕ) (b s : Bool) (t : ℕ) → F.level p ≡ k → Once c (p ∷ ps) es
        → Growth c ks
        → Growth (record {
          lip = c.lip;
          lsp = c.lsp ++ (p ∷ []);
          lis = c.lis;
          moved = c.moved;
          side = record { taken = t; pyramid = cond b (set c.side.pyramid p (signed s (2 ^ n))) c.side.pyramid };
        }) ks
    unfolding sum course_weight lists_weight
    growth_found c p ps es ks b s t here o h =
        let none : sum (is p) ks ≡ 0 = omega (arith, o p, once p, is_same p, h.among p) in
        record {
          small = λ q e.
              set_magnitude b c.side.pyramid p q (signed s (2 ^ n)) (λ x. x + 2 ^ n + 2 ^ n * sum (is q) ks ≤ most)
              (λ i. rw (i, none, signed_magnitude s (2 ^ n)) (omega (arith, enough p here))) (h.small q e);
          elsewhere = λ q d.
              set_magnitude b c.side.pyramid p q (signed s (2 ^ n)) (λ x. x ≡ magnitude v q) (λ i. absurd (d (ap F.level i ∙ here))) (h.elsewhere q d);
          among = λ q. omega (arith, h.among q, sum_append (is q) c.lsp (p ∷ []));
          placed = h.placed;
        }

    growth_refined : (c : Course Reader) (p : ℕ) (ks : List ℕ) (b on : Bool) (t : ℕ) → Growth c (p ∷ ks)
        → Growth (record {
          lip = c.lip;
          lsp = c.lsp;
          lis = c.lis;
          moved = c.moved;
          side = record {
            taken = t;
            pyramid = cond b (set c.side.pyramid p (grown on (2 ^ n) (get_or c.side.pyramid p (pos 0)))) c.side.pyramid;
          };
        }) ks
    unfolding sum All magnitude
    growth_refined c p ks b on t h =
        let x : ℤ = get_or c.side.pyramid p (pos 0) in
        let one : 2 ^ n * is p p ≡ 2 ^ n = rw (is_same p) (omega arith) in
        record {
          small = λ q e.
              set_magnitude b c.side.pyramid p q (grown on (2 ^ n) x) (λ m. m + 2 ^ n + 2 ^ n * sum (is q) ks ≤ most)
              (λ i. rw i (omega (arith, grown_most on (2 ^ n) x, h.small p h.placed.0, sum_cons (2 ^ n) p p ks, one)))
              (omega (arith, h.small q e, sum_cons (2 ^ n) q p ks));
          elsewhere = λ q d.
              set_magnitude b c.side.pyramid p q (grown on (2 ^ n) x) (λ m. m ≡ magnitude v q) (λ i. absurd (d (ap F.level i ∙ h.placed.0)))
              (h.elsewhere q d);
          among = λ q. omega (arith, h.among q);
          placed = h.placed.1;
        }

    under_kept : Kept F k (listing (decoder bit there n)) Stands
    unfolding All listed sign_noted bit_noted written
    under_kept =
        let S : Kept F k (listing (decoder bit there n)) (λ c ps es ks. Sorted (level_claims F k) c ps es)
        = sorted_kept (levels_fates L k (decoder bit there n)) in
        let W : (q : ℕ) → Kept F k (listing (decoder bit there n)) (λ c ps es ks.
        course_weight F (is q) c + sum (is q) ps + sum (set_weight F (is q)) es ≡ lists_weight F (is q) l)
        = λ q. weight_kept L (is q) k (decoder bit there n) (lists_weight F (is q) l) in
        record {
          insignificant = λ c p ps es ks b h. (
            S.insignificant c p ps es ks b h.0,
            (λ q. (W q).insignificant c p ps es ks b (h.1 q)),
            same c _ ks refl (kept_as (leb (suc c.side.taken) there) _) h.2,
          );
          significant = λ c p ps es ks b h. (
            S.significant c p ps es ks b h.0,
            (λ q. (W q).significant c p ps es ks b (h.1 q)),
            growth_found c p ps es ks (leb (suc (suc c.side.taken)) there) _ _ h.0.tests.0 h.1 h.2,
          );
          moving = λ c e es ks i h. (
            S.moving c e es ks i h.0,
            (λ q. (W q).moving c e es ks i (h.1 q)),
            same c _ ks refl (kept_as (leb c.side.taken there) _) h.2,
          );
          staying = λ c e es ks i b h. (
            S.staying c e es ks i b h.0,
            (λ q. (W q).staying c e es ks i b (h.1 q)),
            same c _ ks refl (kept_as (leb (suc c.side.taken) there) _) h.2,
          );
          opening = λ c e es ks i b h. (S.opening c e es ks i b h.0, (λ q. (W q).opening c e es ks i b (h.1 q)), same c _ ks refl refl h.2);
          refining = λ c p ks h. (
            S.refining c p ks h.0,
            (λ q. (W q).refining c p ks (h.1 q)),
            growth_refined c p ks (leb (suc c.side.taken) there) _ _ h.2,
          );
        }
      where
        kept_as : (b : Bool) (w : List ℤ) → w ≡ cond b w w
        kept_as true w = refl
        kept_as false w = refl

        same : (c d : Course Reader) (ks : List ℕ) → c.lsp ≡ d.lsp → c.side.pyramid ≡ d.side.pyramid → Growth c ks → Growth d ks
        same c d ks e f h =
            record { small = rw (← f) h.small; elsewhere = rw (← f) h.elsewhere; among = rw (← e) h.among; placed = h.placed }

  module _ (placed : Placed F k l) (once : (q : ℕ) → lists_weight F (is q) l ≤ 1)
      (before : (q : ℕ) → F.level q ≡ k → magnitude v q + 2 ^ suc n ≤ most) where
    twice : 2 ^ suc n ≡ 2 * 2 ^ n
    twice = pow-suc 2 n ∙ omega arith

    begins : Stands (record { lip = []; lsp = l.lsp; lis = []; moved = []; side = record { taken = 0; pyramid = v } }) l.lip l.lis l.lsp
    unfolding All sum course_weight lists_weight
    begins = (
      record { lips = tt; lsps = placed.lsps; stay = tt; move = tt; tests = placed.lips; visits = placed.sets },
      (λ q. omega arith),
      record {
        small = λ q e. omega (arith, before q e, twice, mul-le-mul_left {m = sum (is q) l.lsp} {n = 1} (2 ^ n) (omega (arith, once q)));
        elsewhere = λ q d. refl;
        among = λ q. omega arith;
        placed = placed.lsps;
      },
    )

    passed_under : Growth (passed F k (decoder bit there n) l (record { taken = 0; pyramid = v })) []
    unfolding passed
    passed_under = (kept_pass (under_kept once (λ q e. omega (arith, before q e, twice))) L l _ begins).2

-- Behind the part b of a record: the plane that a level has come by, or the one above it where its part of that plane is still to come.
abbrev plane_behind : PartName → ℕ → ℕ
plane_behind b j = cond (leb b.level j) b.plane (suc b.plane)

behind_most : (b : PartName) (j : ℕ) → plane_behind b j ≤ suc b.plane
behind_most b j = by (leb b.level j)
  where
    by : (t : Bool) → cond t b.plane (suc b.plane) ≤ suc b.plane
    by true = omega arith
    by false = omega arith

behind_own : (p : PartName) → plane_behind p p.level ≡ p.plane
behind_own p = rw (le-leb p.level p.level (omega arith))

module _ (b p : PartName) (f : follows b p ≡ true) where
  abbrev comes : After b p
  comes = follows_after b p f

  behind_above : suc p.plane ≤ plane_behind b p.level
  behind_above = by (dec_le b.level p.level)
    where
      by : Dec (b.level ≤ p.level) → suc p.plane ≤ plane_behind b p.level
      by (yes l) = rw (le-leb b.level p.level l) (lower (dec_le b.plane p.plane))
        where
          lower : Dec (b.plane ≤ p.plane) → suc p.plane ≤ b.plane
          lower (yes i) = absurd (omega (arith, comes.in_plane i))
          lower (no i) = omega arith
      by (no l) = rw (lt-leb b.level p.level (omega arith)) (omega (arith, comes.downward))

  behind_falls : (j : ℕ) → plane_behind p j ≤ plane_behind b j
  behind_falls j = by (dec_le b.plane p.plane) (dec_le b.level j)
    where
      by : Dec (b.plane ≤ p.plane) → Dec (b.level ≤ j) → plane_behind p j ≤ plane_behind b j
      by (no i) (yes l) = rw (le-leb b.level j l) (omega (arith, behind_most p j))
      by (no i) (no l) = rw (lt-leb b.level j (omega arith)) (omega (arith, behind_most p j))
      by (yes i) (no l) = rw (lt-leb b.level j (omega arith)) (omega (arith, behind_most p j, comes.downward))
      by (yes i) (yes l) =
          rw (le-leb b.level j l, le-leb p.level j (omega (arith, comes.in_plane i))) (omega (arith, comes.downward))

-- before all parts
blank_under : (z : Size) (planes q : ℕ) → magnitude (replicate (area z) (pos 0)) q + 2 ^ plane_behind (at planes 0) (level_of z q) ≤ 2 ^ planes
blank_under z planes q = rw (le-leb 0 (level_of z q) (omega arith), blank_magnitude (area z) q) (omega arith)

-- Decoding, part by part: what holds behind the part b.
module _ (h : Header) (ok : legal_size h.size ≡ true) (bytes : List ℕ) (there : List PartName) where
  abbrev z : Size
  z = h.size

  abbrev most : ℕ
  most = 2 ^ h.planes

  unfoldable Under : PartName → Progress → Type 0
  Under b (going st v) = SoundLists z st × ((q : ℕ) → magnitude v q + 2 ^ plane_behind b (level_of z q) ≤ most)
  Under b (unfit place) = Unit {0}

  -- a part that is walked over, and one that is decoded
  module _ (b : PartName) (p : Part) (f : follows b (name_of p) ≡ true) (o : OfLevel (levels z) (name_of p)) (st : State) (v : List ℤ)
      (i : SoundLists z st × ((q : ℕ) → magnitude v q + 2 ^ plane_behind b (level_of z q) ≤ most)) where
    walked : (q : ℕ) → magnitude v q + 2 ^ plane_behind (name_of p) (level_of z q) ≤ most
    walked q = omega (arith, i.1 q, pow_mono (behind_falls b (name_of p) f (level_of z q)))

    abbrev c : Course Reader
    c = decoded (family z) (name_of p) (bit_at (body_of bytes p)) (bits_there bytes p) st v

    here_before : (q : ℕ) → level_of z q ≡ (name_of p).level → magnitude v q + 2 ^ suc (name_of p).plane ≤ most
    here_before q e = omega (arith, subst (λ (j : ℕ). magnitude v q + 2 ^ plane_behind b j ≤ most) e (i.1 q), pow_mono (behind_above b (name_of p) f))

    once_here : (q : ℕ) → lists_weight (family z) (is q) (st (name_of p).level) ≤ 1
    once_here q =
        omega (
          arith,
          i.0.conserved (is q),
          weight_part (family z) (is q) st (name_of p).level (levels z) o.up_to,
          from_once q (area z),
          one_most (ltb q (area z)),
        )

    decoded_values : (q : ℕ) → magnitude c.side.pyramid q + 2 ^ plane_behind (name_of p) (level_of z q) ≤ most
    unfolding decoded sum
    decoded_values q =
        let g = passed_under (lawful z (legal z ok)) (name_of p).plane (name_of p).level most (bit_at (body_of bytes p)) (bits_there bytes p)
        (st (name_of p).level) v (i.0.placed (name_of p).level) once_here here_before in
        by g (ℕ_discrete (level_of z q) (name_of p).level)
      where
        by : Growth (lawful z (legal z ok)) (name_of p).plane (name_of p).level most (bit_at (body_of bytes p)) (bits_there bytes p)
            (st (name_of p).level) v c []
            → Dec (level_of z q ≡ (name_of p).level) → magnitude c.side.pyramid q + 2 ^ plane_behind (name_of p) (level_of z q) ≤ most
        by g (yes e) = rw (e, behind_own (name_of p)) (omega (arith, g.small q e))
        by g (no d) = omega (arith, g.elsewhere q d, walked q)

    decoded_fits : (t : Bool) → Under (name_of p) (cond t (going (after p.level.0 c st) c.side.pyramid) (unfit p.place))
    unfolding Under
    decoded_fits true = (unfold name_of in decoded_sound (lawful z (legal z ok)) i.0 o (bit_at (body_of bytes p)) (bits_there bytes p) v, decoded_values)
    decoded_fits false = tt

    onward_going : Under (name_of p) (onward h bytes there p (going st v))
    unfolding onward Under
    onward_going = by (usable (levels z) h.planes there (name_of p))
      where
        by : (t : Bool) → Under (name_of p) (cond t (used p st c) (going st v))
        by true = unfold used in decoded_fits (eqb c.side.taken p.bits)
        by false = (i.0, walked)

    cut_going : Under (name_of p) (tail_onward h bytes there (Ok (part.Cut p)) (going st v))
    unfolding tail_onward Under
    cut_going = by (usable (levels z) h.planes (there ++ (name_of p ∷ [])) (name_of p))
      where
        by : (t : Bool) → Under (name_of p) (cond t (used_cut h bytes there p st c) (going st v))
        by true = unfold used_cut in decoded_fits (leb (bits_there bytes p) c.side.taken)
        by false = (i.0, walked)

  tail_under : (b : PartName) (place : ℕ) (g : Progress) → Under b g → (x : PartRead) → read_part h bytes b place ≡ x
      → (last : PartName) × Under last (tail_onward h bytes there x g)
  unfolding tail_onward Under
  tail_under b place g i (Ok (part.Part p)) e = (b, i)
  tail_under b place g i (Ok part.Tail) e = (b, i)
  tail_under b place g i (Err r) e = (b, i)
  tail_under b place (unfit at) i (Ok (part.Cut p)) e = (b, tt)
  tail_under b place (going st v) i (Ok (part.Cut p)) e =
      let l : LegalHead h b (name_of p) p.bits = (read_part_cut h bytes b place p e).legal in
      (name_of p, cut_going b p l.in_order (record { from1 = l.named.from1; up_to = l.named.up_to }) st v i)

  parts_under : (b : PartName) (place : ℕ) (ps : List Part) → WholeParts h bytes b place ps → (g : Progress) → Under b g
      → (last : PartName) × Under last (tail_onward h bytes there (behind_from h bytes b place ps) (decode_parts h bytes there ps g))
  unfolding WholeParts decode_parts behind_from onward Under
  parts_under b place [] w g i = tail_under b place g i (read_part h bytes b place) refl
  parts_under b place (p ∷ ps) w g i =
      let st = read_part_stands h bytes b place p w.0 in
      parts_under (name_of p) p.end ps w.1 (onward h bytes there p g) (next st.legal g i)
    where
      next : LegalHead h b (name_of p) p.bits → (g : Progress) → Under b g → Under (name_of p) (onward h bytes there p g)
      next l (unfit at) i = tt
      next l (going st v) i = onward_going b p l.in_order (record { from1 = l.named.from1; up_to = l.named.up_to }) st v i

-- What decoding accepted came of this.
going_accepted : (h : Header) (there : List PartName) (e : Ending) (g : Progress) (x : Picture) → pictured h there e g ≡ accepted x
    → (st : State) × (g ≡ going st x.pyramid)
unfolding pictured
going_accepted h there e (unfit place) x i = absurd (let n : ◌≡◌ {A = ℕ} 0 1 = cc in omega arith)
going_accepted h there e (going st v) x i =
    let t = on_ending_accepted e _ x i in
    (st, ap (λ (y : Picture). going st y.pyramid) (accepted_same t.2))

module _ (s : List ℕ) (room work : ℕ) (x : Picture) (e : decoding s room work ≡ accepted x) where
  under_planes : (h : Header) × (read_header s ≡ Ok h) × ((q : ℕ) → magnitude x.pyramid q < 2 ^ h.planes)
  unfolding decoding decoded_parts Under
  under_planes =
      let a = on_header_accepted (read_header s) _ x e in
      let h : Header = a.0 in
      let b = unless_accepted (eqb room (area h.size)) refusal.Length _ x a.2 in
      let c = unless_accepted (leb (work_for h.size) work) refusal.Work _ x b.1 in
      let there : List PartName = map name_of (read_parts h s).parts in
      let g = going_accepted h there (read_parts h s).ending _ x c.1 in
      let stands : HeaderStands s h = read_header_stands s h a.1 in
      let ok : legal_size h.size ≡ true = header_legal stands in
      let first : PartName = record { plane = h.planes; level = 0 } in
      let whole : WholeParts h s first h.end (read_parts h s).parts = read_parts_whole h s in
      let u = parts_under h ok s there first h.end (read_parts h s).parts whole
      (going (start h.size) (replicate (area h.size) (pos 0))) (start_sound h.size (legal h.size ok), blank_under h.size h.planes) in
      let v = subst (Under h ok s there u.0) g.1 u.1 in
      (h, a.1, λ q. omega (arith, v.1 q, pow_some (plane_behind u.0 (level_of h.size q))))

-- Whatever bytes decoding accepts, every magnitude is below 2^planes, planes being what the header says, and no more than 131,071.
module _ (s : List ℕ) (room work : ℕ) (x : Picture) (e : decoding s room work ≡ accepted x) where
  pub decoded_under : (h : Header) → read_header s ≡ Ok h → (q : ℕ) → magnitude x.pyramid q < 2 ^ h.planes
  decoded_under h r q =
      let u = under_planes s room work x e in
      let heads : Ok u.0 ≡ Ok h = sym u.1 ∙ r in
      let same : u.0 ≡ h = cc in
      subst (λ (k : Header). magnitude x.pyramid q < 2 ^ k.planes) same (u.2 q)

  pub decoded_most : (q : ℕ) → magnitude x.pyramid q ≤ most_decoded
  decoded_most q =
      let u = under_planes s room work x e in
      omega (arith, u.2 q, pow_mono {i = u.0.planes} {j = most_planes} (header_planes (read_header_stands s u.0 u.1)))

-- So in memory: whatever is given and whatever is answered, no magnitude over 131,071 is left in the output.
out_most : (s : List ℕ) (room work : ℕ) (y : Result Picture) → decoding s room work ≡ y → (q : ℕ) → magnitude (decode_out room y) q ≤ most_decoded
unfolding decode_out
out_most s room work (refused r) e q = omega (arith, blank_magnitude room q)
out_most s room work (accepted x) e q = decoded_most s room work x e q

pub decoding_most : {s : List ℕ} {out : List ℤ} {work : List ℕ} {answer : Decoded} {out' : List ℤ} {work' : List ℕ}
    → Decoding s out work answer out' work' → (q : ℕ) → magnitude out' q ≤ most_decoded
decoding_most {s} {out} {work} d q = rw d.writes (out_most s (length out) (length work) _ refl q)

pub afs_decode_most : {s : List ℕ} {out : List ℤ} {work answer : List ℕ} {number : ℕ} {out' : List ℤ} {work' answer' : List ℕ}
    → AfsDecode s out work answer number out' work' answer' → (q : ℕ) → magnitude out' q ≤ most_decoded
afs_decode_most {out = out} {answer = answer} {out' = out'} d q = by (dec_le decode_places (length answer))
  where
    by : Dec (decode_places ≤ length answer) → magnitude out' q ≤ most_decoded
    by (yes l) = decoding_most (afs_decode_decodes d l).1 q
    by (no l) = rw (afs_decode_short d (omega arith)).1 (omega (arith, blank_magnitude (length out) q))
