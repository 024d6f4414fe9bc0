-- "It checks as serving with r = 1, p = 0 does": what serving a record whole answers, in any room, is told by its survey.
use Rattle.std.specs.Prelude.{◌≡◌, refl, List, ℕ, ◌-◌, ◌≤◌, ◌<◌, length, take, Ok, Err}
use Rattle.std.proofs.Common.{sym, ◌∙◌, arith, length-take, le-leb}
use Rattle.std.proofs.lemmas.Bool.{lt-leb}
use Rattle.rules.specs.declared.Refusal.{Refusal}
use Rattle.rules.specs.declared.Refusal.TheVariants as refusal
use Rattle.rules.specs.Document.Numbers.{Accepted}
use Rattle.rules.specs.Document.Calls.{Served}
use Rattle.rules.specs.declared.Header.{Header}
use Rattle.rules.specs.Document.Numbers.{HeaderRead}
use Rattle.rules.specs.declared.Part.{Part}
use Rattle.rules.specs.Document.Numbers.{PartRead}
use Rattle.rules.specs.declared.Piece.TheVariants as part
use Rattle.rules.specs.Document.Numbers.{Ending, tail, fault, read_header, read_parts}
use Rattle.rules.specs.Document.Calls.{unless, on_header, on_ending, portioned, serving, serve_answer, Serving}
use Rattle.rules.proofs.Laws.Serving.Served.{asks_all, serving_all}
use Rattle.record.specs.declared.walk.Cursor.{Cursor}
use Rattle.record.specs.Walk.{past_of, next_falls}
use Rattle.survey.specs.Surveyed.{Survey}
use Rattle.survey.specs.Surveyed.{refused_with, ended_with, headed_with, survey_of, longest, listed_of, part_behind, part_at}
use Rattle.survey.specs.AsServing.{whole_by, Alike}

-- Each way in which a survey ends.
pub survey_of_case : (P : Survey → Type 0) (s : List ℕ) → ((r : Refusal) → read_header s ≡ Err r → P (refused_with r))
    → ((h : Header) (r : Refusal) → read_header s ≡ Ok h → (read_parts h s).ending ≡ fault r → P (refused_with r))
    → ((h : Header) (t : ℕ) → read_header s ≡ Ok h → (read_parts h s).ending ≡ tail t
    → P (record { verdict = Accepted; header = h; parts = length (read_parts h s).parts; tail = t }))
    → P (survey_of s)
unfolding survey_of
survey_of_case P s headless faulty whole = headed (read_header s) refl
  where
    ended : (h : Header) → read_header s ≡ Ok h → (e : Ending) → (read_parts h s).ending ≡ e
        → P (ended_with h (length (read_parts h s).parts) e)
    ended h f (tail t) g = whole h t f g
    ended h f (fault r) g = faulty h r f g

    headed : (x : HeaderRead) → read_header s ≡ x → P (headed_with s x)
    headed (Ok h) f = ended h f (read_parts h s).ending refl
    headed (Err r) f = headless r f

pub serving_surveyed : (s : List ℕ) (room : ℕ) → serving s 1 0 room ≡ whole_by s (survey_of s).tail room (survey_of s).verdict
unfolding whole_by serving on_header on_ending unless
serving_surveyed s room =
    survey_of_case (λ a. serving s 1 0 room ≡ whole_by s a.tail room a.verdict) s (λ r f. rw f) (λ h r f g. rw (f, asks_all h, g))
    (λ h t f g. serving_all s h t room f g)

-- With room for the record a survey says what serving it whole says.
pub survey_as_serving : {s out out' : List ℕ} {answer : Served} → Serving s 1 0 out answer out' → length s ≤ length out → Alike (survey_of s) answer
unfolding whole_by portioned unless serve_answer
survey_as_serving {s = s} {out = out} v l =
    rw (v.answers, serving_surveyed s (length out))
    (survey_of_case (λ a. Alike a (serve_answer (whole_by s a.tail (length out) a.verdict))) s (λ r f. alike) (λ h r f g. alike)
    (λ h t f g.
    let m : length (take (length s - t) s) ≤ length out = rw (length-take (length s - t) s) (omega arith) in
    rw (le-leb _ _ m) alike))
  where
    alike : {a : Survey} {n : ℕ} → Alike a (record { verdict = a.verdict; length = n; tail = a.tail })
    alike = record { verdict = refl; tail = refl }

-- For input that partlist takes; longer input is refused with 5 at 0.
pub listed_short : (s : List ℕ) → length s ≤ longest → listed_of s ≡ survey_of s
unfolding listed_of
listed_short s l = rw (le-leb (length s) longest l)

pub listed_long : (s : List ℕ) → longest < length s → listed_of s ≡ refused_with refusal.Room
unfolding listed_of
listed_long s l = rw (lt-leb (length s) longest l)

pub listed_as_serving : {s out out' : List ℕ} {answer : Served} → Serving s 1 0 out answer out' → length s ≤ length out → length s ≤ longest
    → Alike (listed_of s) answer
listed_as_serving {s = s} v l m = rw (listed_short s m) (survey_as_serving v l)

-- What is surveyed or listed as accepted has the record's own header.
HasHeader : List ℕ → Survey → Type 0
HasHeader s a = a.verdict ≡ Accepted → read_header s ≡ Ok a.header

refusal_has : (s : List ℕ) (r : Refusal) → HasHeader s (refused_with r)
unfolding HasHeader
refusal_has s r e = absurd (let z : ◌≡◌ {A = ℕ} 0 1 = cc in omega arith)

pub survey_header : (s : List ℕ) → (survey_of s).verdict ≡ Accepted → read_header s ≡ Ok (survey_of s).header
unfolding HasHeader
survey_header s = survey_of_case (HasHeader s) s (λ r f. refusal_has s r) (λ h r f g. refusal_has s r) (λ h t f g e. f)

-- A part that stands at a cursor ends behind it, within the record.
pub part_ends : (s : List ℕ) (c : Cursor) (found : PartRead) (p : Part) (d : Cursor) → found ≡ part_at s c → found ≡ Ok (part.Part p) → d ≡ past_of p
    → length s - d.place < length s - c.place
unfolding part_at
part_ends s c found p d e f over = by (read_header s) (sym e ∙ f)
  where
    by : (x : HeaderRead) → part_behind s c x ≡ Ok (part.Part p) → length s - d.place < length s - c.place
    by (Ok h) g = next_falls h s c (Ok (part.Part p)) (sym g) p d refl over
    by (Err r) g = absurd (let z : ◌≡◌ {A = ℕ} 0 1 = cc in omega arith)
