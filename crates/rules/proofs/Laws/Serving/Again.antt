-- Served twice, for Promises/Two: the parts that both requests want are those that the larger level and plane want, wherever they stand.
use Rattle.std.specs.Prelude.{◌≡◌, refl, true, ◌&&◌, get_or, Ok}
use Rattle.std.proofs.Math.Path.{ap, ap₂}
use Rattle.std.proofs.Common.{sym, ◌∙◌, subst, arith}
use mathlib.Core.List.{List, ◌++◌}
use Prim.Native.Nat.{ℕ, ◌-◌, ◌≤◌, max}
use Rattle.std.proofs.Math.Decide.{dec_le}
use Rattle.std.proofs.Math.Dec.{leb}
use Rattle.std.proofs.Math.ListN.{length, take}
use Rattle.std.proofs.Math.Seq.{take_at, length-take-le}
use borrow.Author.Tests.{leb-true, le-leb, lt-leb}
use Rattle.rules.specs.declared.Refusal.TheVariants as refusal
use Rattle.rules.specs.declared.Header.{Header}
use Rattle.rules.specs.declared.Part.{Part}
use Rattle.rules.specs.Document.Notation.{flat, zeros}
use Rattle.rules.specs.Document.Pyramid.{levels}
use Rattle.rules.specs.Document.Layout.{whole_of}
use Rattle.rules.specs.Document.Numbers.{verdict_number, read_header, read_parts, Accepted, HeaderRead}
use Rattle.rules.specs.Document.Calls.{Result, refused, accepted, unless, on_header, on_ending, legal_ask, kept_of, served_bytes, Portion, portioned, serving}
use Rattle.rules.specs.Document.Calls.{filled, serve_out, serve_answer, Serving, serve_numbers, serve_places, AfsServe, Served}
use Rattle.rules.specs.Promises.Vocabulary.{Again, Leaves, AgainLent, Told, AgainTold, selection, placed_from, wanted, IsServed}
use Rattle.rules.proofs.Laws.Reading.Stands.{read_header_stands, header_within}
use Rattle.rules.proofs.Laws.Counting.Booleans.{clash, both, both_left, both_right}
use Rattle.rules.proofs.Laws.Serving.Selection.{kept_moved}
use Rattle.rules.proofs.Laws.Reading.WholeParts.{read_parts_whole}
use Rattle.rules.proofs.Laws.Serving.Served.{kept_both, serving_served, served_header, served_parts}
use Rattle.rules.proofs.Laws.Calls.Results.{number_accepts}
use Rattle.rules.proofs.Laws.Calls.Exports.{afs_serve_short, afs_serve_serves}

-- The bytes of what was served for (r1, p1), served for (r2, p2).
module _ (s : List ℕ) (r1 p1 : ℕ) (x : Portion) (v : IsServed s r1 p1 x) (r2 p2 : ℕ) where
  abbrev ps : List Part
  ps = (read_parts v.head s).parts

  bytes_again : served_bytes v.head x.bytes r2 p2 (placed_from v.head.end (selection (wanted r1 p1) ps))
      ≡ served_bytes v.head s (max r1 r2) (max p1 p2) ps
  unfolding served_bytes
  bytes_again =
      let end : ℕ = v.head.end in
      let f : List ℕ = take end s in
      let n : length f ≡ end = length-take-le end s (header_within (read_header_stands s v.head v.read)) in
      let front : take end x.bytes ≡ f
      = ap (take end) v.bytes ∙ take_at f (flat (whole_of s) (selection (wanted r1 p1) ps)) end n in
      ap₂ ◌++◌ front
      (ap₂ (λ (l : List ℕ) (m : ℕ). flat (kept_of l r2 p2) (placed_from m (selection (wanted r1 p1) ps))) v.bytes (sym n)
      ∙ kept_moved v.head s (wanted r1 p1) ps (record { plane = v.head.planes; level = 0 }) end (read_parts_whole v.head s) r2 p2 f
      ∙ kept_both s r1 p1 r2 p2 ps)

  pub serving_again : (room : ℕ)
      → serving x.bytes r2 p2 room
      ≡ unless (legal_ask v.head r2 p2) refusal.Ask (portioned (served_bytes v.head s (max r1 r2) (max p1 p2) ps) 0 room)
  unfolding serving on_header on_ending
  serving_again room = rw (served_header s r1 p1 x v, served_parts s r1 p1 x v, bytes_again)

  -- The request for the larger of both is legal if both are.
  asks_larger : legal_ask v.head r2 p2 ≡ true → legal_ask v.head (max r1 r2) (max p1 p2) ≡ true
  unfolding legal_ask
  asks_larger e =
      let a = v.asked in
      let l1 : r1 ≤ levels v.head.size = leb-true _ _ (both_right (leb 1 r1) _ (both_left _ (leb p1 v.head.planes) a)) in
      let l2 : r2 ≤ levels v.head.size = leb-true _ _ (both_right (leb 1 r2) _ (both_left _ (leb p2 v.head.planes) e)) in
      let f1 : 1 ≤ r1 = leb-true _ _ (both_left _ _ (both_left _ (leb p1 v.head.planes) a)) in
      let q1 : p1 ≤ v.head.planes = leb-true _ _ (both_right (leb 1 r1 && leb r1 (levels v.head.size)) _ a) in
      let q2 : p2 ≤ v.head.planes = leb-true _ _ (both_right (leb 1 r2 && leb r2 (levels v.head.size)) _ e) in
      both _ _
      (both _ _ (le-leb 1 (max r1 r2) (omega (arith, f1))) (le-leb (max r1 r2) (levels v.head.size) (omega (arith, l1, l2))))
      (le-leb (max p1 p2) v.head.planes (omega (arith, q1, q2)))

  pub serving_once : legal_ask v.head r2 p2 ≡ true → (room : ℕ)
      → serving s (max r1 r2) (max p1 p2) room ≡ portioned (served_bytes v.head s (max r1 r2) (max p1 p2) ps) x.tail room
  unfolding serving on_header on_ending unless
  serving_once e room = rw (v.read, asks_larger e, v.ending)

-- Every record that serving accepts, every second request, every room.
pub served_again : (s : List ℕ) (r1 p1 room1 : ℕ) (x : Portion) → serving s r1 p1 room1 ≡ accepted x → (r2 p2 : ℕ) → Again s r1 p1 x r2 p2
unfolding unless
served_again s r1 p1 room1 x e r2 p2 =
    let v = serving_served s r1 p1 room1 x e in
    record {
      head = v.head;
      of_record = v.read;
      of_served = served_header s r1 p1 x v;
      unasked = λ n room. serving_again s r1 p1 x v r2 p2 room ∙ rw n;
      bytes = served_bytes v.head s (max r1 r2) (max p1 p2) (read_parts v.head s).parts;
      twice = λ a room. serving_again s r1 p1 x v r2 p2 room ∙ rw a;
      once = serving_once s r1 p1 x v r2 p2;
    }

-- Proofs for the routine and for the export.
leaves : (bytes : List ℕ) (tail : ℕ) {s : List ℕ} {r p : ℕ} {out : List ℕ} {a : Served} {out' : List ℕ}
    → serving s r p (length out) ≡ portioned bytes tail (length out) → Serving s r p out a out' → Leaves bytes tail (length out) a out'
unfolding portioned unless serve_answer serve_out filled
leaves bytes tail {s} {r} {p} {out} e x =
    record {
      fits = λ l.
          let f : serving s r p (length out) ≡ accepted (record { bytes = bytes; tail = tail }) = e ∙ rw (le-leb (length bytes) (length out) l) refl in
          (x.answers ∙ ap serve_answer f, x.writes ∙ ap (serve_out (length out)) f);
      short = λ l.
          let f : serving s r p (length out) ≡ refused refusal.Room = e ∙ rw (lt-leb (length bytes) (length out) l) refl in
          (x.answers ∙ ap serve_answer f, x.writes ∙ ap (serve_out (length out)) f);
    }

-- An accepted call has served, and what it served stands in the output.
found_served : (s : List ℕ) (r p : ℕ) (out : List ℕ) (y : Result Portion) → serving s r p (length out) ≡ y → (serve_answer y).verdict ≡ Accepted
    → (x : Portion) × (serving s r p (length out) ≡ accepted x) × ((serve_answer y).tail ≡ x.tail)
    × (take (serve_answer y).length (serve_out (length out) y) ≡ x.bytes)
unfolding serve_answer serve_out filled
found_served s r p out (refused q) e a = absurd (clash (cc))
found_served s r p out (accepted x) e a = (x, e, refl, take_at x.bytes _ (length x.bytes) refl)

pub serving_again_lent : {s : List ℕ} {h : Header} {r1 p1 r2 p2 : ℕ} {out : List ℕ} {answer : Served} {out' : List ℕ}
    → Serving s r1 p1 out answer out' → answer.verdict ≡ Accepted → read_header s ≡ Ok h → legal_ask h r2 p2 ≡ true
    → AgainLent s r1 p1 answer out' r2 p2
serving_again_lent {s} {h} {r1} {p1} {r2} {p2} {out} {answer} {out'} x ok read asked =
    let y : Result Portion = serving s r1 p1 (length out) in
    let f = found_served s r1 p1 out y refl (ap (λ a. a.verdict) (sym x.answers) ∙ ok) in
    let g : Again s r1 p1 f.0 r2 p2 = served_again s r1 p1 (length out) f.0 f.1 r2 p2 in
    let legal : legal_ask g.head r2 p2 ≡ true = ap (λ k. legal_ask k r2 p2) (header_same (sym g.of_record ∙ read)) ∙ asked in
    let stands : take answer.length out' ≡ f.0.bytes
    = ap₂ (λ n l. take n l) (ap (λ a. a.length) x.answers) x.writes ∙ f.3 in
    let tail : f.0.tail ≡ answer.tail = sym (ap (λ a. a.tail) x.answers ∙ f.2) in
    record {
      bytes = g.bytes;
      twice = λ {lent} z. leaves g.bytes 0 (ap (λ l. serving l r2 p2 (length lent)) stands ∙ g.twice legal (length lent)) z;
      once = λ {lent} z. leaves g.bytes answer.tail (g.once legal (length lent) ∙ ap (λ t. portioned g.bytes t (length lent)) tail) z;
    }
  where
    header_same : {a b : Header} → ◌≡◌ {A = HeaderRead} (Ok a) (Ok b) → a ≡ b
    header_same e = cc

tells : (bytes : List ℕ) (tail : ℕ) {s : List ℕ} {r p : ℕ} {out answer : List ℕ} {number : ℕ} {out' answer' : List ℕ}
    → ((a : Served) → Serving s r p out a out' → Leaves bytes tail (length out) a out')
    → serve_places ≤ length answer → AfsServe s r p out answer number out' answer' → Told bytes tail out answer number out' answer'
unfolding serve_numbers
tells bytes tail {out = out} {answer} {number} {out'} {answer'} l e x =
    let y = afs_serve_serves x e in
    let left : Leaves bytes tail (length out) y.0 out' = l y.0 y.1 in
    let returns : (a : Served) → y.0 ≡ a → number ≡ verdict_number a.verdict = λ a f. y.2 ∙ ap (λ b. verdict_number b.verdict) f in
    let reports : (a : Served) → y.0 ≡ a → answer' ≡ serve_numbers a ++ zeros (length answer - serve_places)
    = λ a f. y.3 ∙ ap (λ b. serve_numbers b ++ zeros (length answer - serve_places)) f in
    record {
      fits = λ f. let g = left.fits f in (returns _ g.0, reports _ g.0, g.1);
      short = λ f. let g = left.short f in (returns _ g.0, reports _ g.0, g.1);
    }

pub serving_again_told : {s : List ℕ} {h : Header} {r1 p1 r2 p2 : ℕ} {out answer out' answer' : List ℕ}
    → AfsServe s r1 p1 out answer 0 out' answer' → read_header s ≡ Ok h → legal_ask h r2 p2 ≡ true
    → AgainTold s r1 p1 out' answer' r2 p2
unfolding serve_numbers
serving_again_told {s} {h} {r1} {p1} {r2} {p2} {out} {answer} {out'} {answer'} x read asked = by (dec_le serve_places (length answer))
  where
    by : Dec (serve_places ≤ length answer) → AgainTold s r1 p1 out' answer' r2 p2
    by (no l) = absurd (omega (arith, (afs_serve_short x (omega arith)).0))
    by (yes l) =
        let y = afs_serve_serves x l in
        let g : AgainLent s r1 p1 y.0 out' r2 p2 = serving_again_lent y.1 (number_accepts y.0.verdict (sym y.2)) read asked in
        let long : y.0.length ≡ get_or answer' 2 0 = sym (ap (λ a. get_or a 2 0) y.3) in
        let tail : y.0.tail ≡ get_or answer' 3 0 = sym (ap (λ a. get_or a 3 0) y.3) in
        record {
          bytes = g.bytes;
          twice = λ {lent} {lent' = lent'} e z.
              tells g.bytes 0 (λ a w. g.twice (subst (λ n. Serving (take n out') r2 p2 lent a lent') (sym long) w)) e z;
          once = λ {lent} {lent' = lent'} e z.
              tells g.bytes (get_or answer' 3 0) (λ a w. subst (λ t. Leaves g.bytes t (length lent) a lent') tail (g.once w)) e z;
        }
